use Rattle.std.proofs.Common.{arith, ap, ◌∙◌, map, take_all}
use Rattle.std.proofs.Math.Dec.{eqb}
use Rattle.std.specs.List.{list_any}
use Rattle.uas_profile.specs.Doors.{stream_in}
use Rattle.shared_machine.proofs.StreamDoors.{marked-next, resumed-back, stream-below}
use Rattle.shared_machine.proofs.doorbells.Doorbells.resumed.Goals as goal

pub set-requires : goal.set-requires
set-requires c = omega (arith, stream-below c.args.pipe c.args.values.now c.loop-value.value-index c.requires.rung c.loop-value-test.true)

pub loop-value-preserved : goal.loop-value-preserved
loop-value-preserved c = λ stream. marked-next c.loop-value.streams c.set.new.self c.args.values.now c.loop-value.value-index stream c.loop-value-test.true
    c.set.ensures.here c.set.ensures.others (c.loop-value.invariant stream)

pub returns : goal.returns
returns c =
    resumed-back c.args.pipe c.loop-value.streams c.args.values.now c.requires.rung
    (λ stream. c.loop-value.invariant stream
    ∙ ap (λ values. list_any (eqb stream) (map stream_in values)) (take_all c.loop-value.value-index c.args.values.now c.loop-value-test.false))
