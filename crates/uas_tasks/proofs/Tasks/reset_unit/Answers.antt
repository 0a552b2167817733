use Rattle.std.proofs.Common.{refl, ap, ◌∙◌}
use Rattle.std.specs.Prelude.{slice_set}
use Rattle.std.specs.List.{list_any}
use Rattle.uas_tasks.specs.Machine.{Machine, reset_over}
use Rattle.uas_tasks.specs.Slots.{has_command}
use Rattle.uas_tasks.proofs.Machines.{reset_there}
use Rattle.uas_tasks.proofs.Places.{IsSoundMachine-units, shapes_of-set}
use Rattle.uas_tasks.proofs.Tasks.reset_unit.Goals as goal

pub invariant_of-self : goal.invariant_of-self
invariant_of-self c =
    let units = c.self-2.inside.units.items in
    IsSoundMachine-units units _ c.self-2.inside.stale.items c.self-2.inside.slots.items c.self-2.invariant
    (shapes_of-set units c.in-Some.number c.index-unit.result.now _ c.index-unit.ensures refl)

pub returns : goal.returns
returns c =
    let number = c.in-Some.number in
    let unit = c.index-unit.result.now in
    let same = c.self-2.view_is ∙ c.end_commands.ensures in
    let here = ap (λ (machine : Machine). machine.units) same in
    let found = rw (c.deref.ensures.value, ap (λ (machine : Machine). machine.units) c.self.view_is) at c.in-Some.ensures.some in
    let any = c.has_command_of-ended.ensures ∙ ap (λ slots. list_any (has_command number) slots) (c.deref-2.ensures.value ∙ ap (λ (machine : Machine). machine.slots) c.self.view_is) in
    let after = ap (λ attention. record {
      units = slice_set c.self-2.inside.units.items number (record unit { attention = attention });
      set = c.self-2.inside.set;
      slots = c.self-2.inside.slots.items;
    }) c.reset_over-attention.ensures
    ∙ ap (λ (machine : Machine). record machine { units = slice_set machine.units number (record unit { attention = reset_over unit.attention }) }) same in
    reset_there c.args.self.now number c.args.lun.now unit found (rw here at c.index-unit.ensures) _ after c.has_command_of-ended.result any c.completed.result
    c.completed.ensures
