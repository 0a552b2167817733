use Rattle.std.proofs.Common.{◌∙◌, arith, length-set}
use Rattle.uas_host.proofs.Chains.{next_trb}
use Rattle.uas_host.specs.Tds.{data_td}
use Rattle.uas_host.proofs.tds.data_trbs_of.Goals as goal

pub loop-k-preserved : goal.loop-k-preserved
loop-k-preserved c = record {
  places = length-set c.loop-k.trbs c.loop-k.k c.data_trb_at.result ∙ c.loop-k.invariant.places;
  td = next_trb c.loop-k.trbs (data_td c.args.tag c.args.bytes) c.data_trb_at.result c.loop-k.k c.div_ceil-count.result
      c.window_of-window.result c.args.bytes
      (omega (arith, c.loop-k.invariant.places)) c.loop-k-test.true c.data_trb_at.ensures c.loop-k.invariant.td;
}
