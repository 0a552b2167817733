use Rattle.std.proofs.Common.{◌≡◌, ℕ, ◌-◌, List, length, None, Err, refl, sym, ap, subst, ◌∙◌}
use Rattle.uas_tasks.specs.Machine.{Machine as Tasks}
use Rattle.xhci_machine.specs.declared.loaded.LoadFault.TheVariants.{Value}
use Rattle.xhci_machine.specs.Loaded.{body_read, load_of}
use Rattle.xhci_machine.proofs.Bodies.{value_of}
use Rattle.xhci_machine.proofs.Machine.load.Goals as goal

pub returns-in-Err-Value-clause-refused : goal.returns-in-Err-Value-clause-refused
returns-in-Err-Value-clause-refused c =
    let fresh : Tasks = c.in-Ok-new.fresh in
    let left : List ℕ = c.load_body.new.reader in
    let P : List ℕ → Type 0 = λ text. body_read fresh text ≡ (None, left) in
    let none = subst P c.new-reader.ensures (c.in-Err-Value.ensures.refused (rw c.in-Err-Value.field-0-is refl)) in
    let at = c.value_place.ensures ∙ ap (λ (text : List ℕ). length c.args.bytes.now - 4 - length text) c.left.ensures in
    let Q : Tasks → Type 0 = λ tasks. load_of tasks c.args.bytes.now ≡ Err (Value c.value_place.result) in
    subst Q c.in-Ok-new.ensures
    (value_of fresh c.args.bytes.now c.in-Ok.text.now c.in-Some.body.now left c.value_place.result c.in-Ok.ensures.body (sym c.in-Some.ensures) none at)
