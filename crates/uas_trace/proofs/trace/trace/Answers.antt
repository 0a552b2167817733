use Rattle.std.proofs.Common.{ℕ, List, subst}
use Rattle.uas_replay.specs.Told.{zeroed_units}
use Rattle.uas_replay.specs.Walks.{Shows}
use Rattle.uas_replay.specs.Moments.{whole_moments}
use Rattle.uas_trace.specs.Texts.{step_text}
use Rattle.uas_trace.specs.Traced.{with_waiting}
use Rattle.uas_trace.proofs.Whole.{traces_all}
use Rattle.uas_trace.proofs.trace.trace.Goals as goal

pub returns-clause-text : goal.returns-clause-text
returns-clause-text g c =
    let old = c.in-Ok.run' in
    let new = c.whole-ended.new.self in
    let first = g.O.Sink.written c.args.writer.now in
    let between = g.O.Sink.written c.whole-ended.new.writer in
    let waiting = c.whole-ended.new.watcher.waiting.items in
    traces_all c.args.disks.tags (zeroed_units c.args.disks.clients c.args.disks.blocks c.args.disks.bad) c.args.lines.now old new first between
    (g.O.Sink.written c.write_waiting.new.writer) waiting c.in-Ok.ensures.walk c.in_ok-ended.ensures.run
    (subst (λ (t : List ℕ). Shows step_text (whole_moments old.telling c.args.lines.now) old new (with_waiting first t) (with_waiting between waiting)) c.new-tracer.ensures
    c.in_ok-ended.ensures.shown) c.in_ok-write_waiting.ensures.written
