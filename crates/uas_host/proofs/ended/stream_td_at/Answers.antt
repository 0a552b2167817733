use Rattle.std.proofs.Common.{sym}
use Rattle.uas_host.proofs.Ends.{ended-place}
use Rattle.uas_host.proofs.ended.stream_td_at.Goals as goal

pub returns-clause-known : goal.returns-clause-known
returns-clause-known c =
    ended-place c.args.pipe c.args.lines.now c.args.stream c.args.at.pointer c.args.at.place c.in_ok-trb.trb c.requires.streams c.requires.ring c.requires.at
    (sym c.in_ok-trb.ensures.consumed)
