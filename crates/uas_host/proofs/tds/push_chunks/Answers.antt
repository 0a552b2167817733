use Rattle.std.proofs.Common.{◌≡◌, arith}
use Rattle.uas_host.specs.Tds.{data_trb_count}
use Rattle.uas_host.proofs.Chains.{data_td-good}
use Rattle.uas_host.proofs.tds.push_chunks.Goals as goal

pub push_td-requires-clause-td : goal.push_td-requires-clause-td
push_td-requires-clause-td c =
    let size : c.div_ceil-count.result ≡ data_trb_count c.args.bytes = grind arith in
    rw (size, c.data_trbs_of-trbs.ensures) (data_td-good c.args.tag c.args.bytes c.requires.last_tag c.requires.some c.requires.most).td

pub push_td-requires-clause-texts : goal.push_td-requires-clause-texts
push_td-requires-clause-texts c =
    let size : c.div_ceil-count.result ≡ data_trb_count c.args.bytes = grind arith in
    rw (size, c.data_trbs_of-trbs.ensures) (data_td-good c.args.tag c.args.bytes c.requires.last_tag c.requires.some c.requires.most).texts
