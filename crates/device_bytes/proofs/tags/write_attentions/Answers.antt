use Rattle.std.proofs.Common.{◌<◌, length, arith, sym, ap, ◌∙◌, ◌+◌, drop}
use Rattle.std.proofs.lemmas.List.{length-map}
use Rattle.machine_bytes.specs.Sparse.{places_write}
use Rattle.device_bytes.specs.Devices.{attentions_of, unit_place}
use Rattle.device_bytes.proofs.Places.{attention_read, has_more, places_have, places_more}
use Rattle.device_bytes.proofs.tags.write_attentions.Goals as goal

pub loop-number-preserved : goal.loop-number-preserved
loop-number-preserved c =
    let units = c.args.tasks.now.units in
    let xs = attentions_of units in
    let at = c.loop-number.number in
    let x = c.unit_attention.result in
    let within : at < length xs = omega (arith, c.loop-number-test.true, c.unit_count-number-end.ensures.count, length-map units (λ unit. unit.attention)) in
    let is = c.unit_attention.ensures ∙ attention_read units at x within in
    record {
      wrote = ap (λ w. places_write unit_place w (at + 1) (drop (at + 1) xs)) c.write_unit-place.ensures.cells
          ∙ sym (places_more unit_place (c.loop-number.cells, c.loop-number.place) xs at x within is) ∙ c.loop-number.invariant.wrote;
      has = has_more unit_place xs at x c.loop-number.invariant.has within is c.write_unit-place.ensures.has;
    }

pub returns-clause-has : goal.returns-clause-has
returns-clause-has c =
    let units = c.args.tasks.now.units in
    let many = length-map units (λ unit. unit.attention) in (
      many,
      places_have unit_place (attentions_of units)
          (λ k d less. c.loop-number.invariant.has k d (omega (arith, less, many, c.loop-number-test.false, c.unit_count-number-end.ensures.count))),
    )
