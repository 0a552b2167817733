use Rattle.std.proofs.Common.{◌≡◌, Some, refl, ap, sym, ◌∙◌}
use Rattle.std.specs.Prelude.{slice_get}
use Rattle.std.proofs.lemmas.Option.{slice_get-get_or}
use Rattle.uas_tasks.proofs.Places.{IsSoundMachine-units, shapes_of-set}
use Rattle.uas_tasks.proofs.Tasks.restore_attention.Goals as goal

pub invariant_of-self : goal.invariant_of-self
invariant_of-self c =
    let units = c.self.inside.units.items in
    IsSoundMachine-units units _ _ _ c.self.invariant (shapes_of-set units c.args.number c.index-unit.result.now _ c.index-unit.ensures refl)

pub returns-then-number-len : goal.returns-then-number-len
returns-then-number-len c =
    let units = c.self.inside.units.items in
    let unit = c.index-unit.result.now in
    let within = rw (c.len.ensures, c.self.inside.units.ok.0) at c.if-number-len.true in
    let got : slice_get units c.args.number ≡ Some unit = slice_get-get_or units c.args.number unit within ∙ ap Some (sym c.index-unit.ensures) in
    rw (← c.self.view_is) (rw got refl)
