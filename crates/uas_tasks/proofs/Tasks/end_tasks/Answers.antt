use Rattle.std.proofs.Common.{length, map, refl, arith, ap, ◌∙◌}
use Rattle.std.proofs.lemmas.List.{length-map}
use Rattle.uas_tasks.specs.Machine.{without_its_task}
use Rattle.uas_tasks.specs.Soundness.{shapes_of}
use Rattle.uas_tasks.proofs.Keeping.{without-within}
use Rattle.uas_tasks.proofs.Places.{IsSoundMachine-map, within-map, written_over}
use Rattle.uas_tasks.proofs.Tasks.end_tasks.Goals as goal

pub count_anew-requires : goal.count_anew-requires
count_anew-requires c =
    let slots = c.self.inside.slots.items in
    let f = without_its_task in
    let slots_now = rw c.deref_mut.ensures.value at c.end_all.ensures in
    let over = written_over c.self.inside.slots.len slots (map f slots) c.self.inside.slots.ok.0 (length-map slots f) in
    let all = (rw slots_now at c.deref.ensures.value) ∙ over in
    rw (all, c.deref_mut-2.ensures.value)
    (record {
      few = omega (arith, length-map slots f, c.self.invariant.places);
      within = within-map c.self.inside.units.items c.self.inside.stale.items slots f c.self.invariant (without-within (shapes_of c.self.inside.units.items));
    })

pub invariant_of-self : goal.invariant_of-self
invariant_of-self c =
    let units = c.self.inside.units.items in
    let stale = c.self.inside.stale.items in
    let slots = c.self.inside.slots.items in
    let f = without_its_task in
    let slots_now = rw c.deref_mut.ensures.value at c.end_all.ensures in
    let over = written_over c.self.inside.slots.len slots (map f slots) c.self.inside.slots.ok.0 (length-map slots f) in
    let all = (rw slots_now at c.deref.ensures.value) ∙ over in
    let many = c.count_anew.auto.stale ∙ ap length c.deref_mut-2.ensures.value in
    rw (slots_now, over, written_over c.self.inside.stale.len stale c.count_anew.new.stale c.self.inside.stale.ok.0 many)
    (IsSoundMachine-map units stale c.count_anew.new.stale slots f c.self.invariant (λ slot. refl) (λ slot. refl)
    (without-within (shapes_of c.self.inside.units.items)) many (rw all at c.count_anew.ensures.counts))
