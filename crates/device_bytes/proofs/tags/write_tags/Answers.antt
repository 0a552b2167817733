use Rattle.std.proofs.Common.{◌≡◌, ◌+◌, ◌<◌, ◌≤◌, length, drop, map, arith, sym, ap, ◌∙◌}
use Rattle.std.proofs.lemmas.List.{length-map}
use Rattle.uas_tasks.specs.Machine.{slot_under}
use Rattle.machine_bytes.specs.Sparse.{places_write}
use Rattle.device_bytes.specs.Devices.{SavedTag, is_fresh_tag, is_sound_tag, saved_tag, tag_form, tag_place}
use Rattle.device_bytes.proofs.Places.{checked_write, has_more, places_more, plain_place, tag_read, tags_have}
use Rattle.device_bytes.proofs.tags.write_tags.Goals as goal

pub loop-at-preserved : goal.loop-at-preserved
loop-at-preserved c =
    let slots = c.args.tasks.now.slots in
    let xs = map saved_tag slots in
    let at = c.loop-at.at in
    let x : SavedTag = (c.tag_state-state.result, c.kept_bytes.result.now) in
    let within : at < length xs = omega (arith, c.loop-at-test.true, c.requires.slots, length-map slots saved_tag) in
    let same : x ≡ saved_tag (slot_under slots (at + 1)) = cc (c.tag_state-state.ensures, c.kept_bytes.ensures) in
    let is = same ∙ tag_read slots at x within in
    record {
      wrote = λ chunk.
          let p = tag_place c.args.tasks.now.units chunk in
          let wrote = c.write_tag-place.ensures.cells
          ∙ checked_write (is_sound_tag c.args.tasks.now.units chunk) tag_form (is_fresh_tag x) (c.loop-at.cells, c.loop-at.place) at x in
          ap (λ w. places_write p w (at + 1) (drop (at + 1) xs)) wrote
          ∙ sym (places_more p (c.loop-at.cells, c.loop-at.place) xs at x within is) ∙ c.loop-at.invariant.wrote chunk;
      has = has_more plain_place xs at x c.loop-at.invariant.has within is c.write_tag-place.ensures.has;
    }

pub returns-clause-has : goal.returns-clause-has
returns-clause-has c = λ chunk chunks.
    let machine = c.args.tasks.now in
    let all : length (map saved_tag machine.slots) ≤ c.loop-at.at = omega (arith, c.requires.slots, length-map machine.slots saved_tag, c.loop-at-test.false) in
    tags_have machine.units machine.set machine.slots chunk c.requires chunks c.loop-at.at all c.loop-at.invariant.has
