use Rattle.std.proofs.Common.{rules, refl}
use Rattle.guest_memory.specs.notes.Laws.{same_noted}
use Rattle.uas_xhci_c.proofs.asking.ask_over.Goals as goal

pub returns-clause-noted : goal.returns-clause-noted
returns-clause-noted c = record {
  with_room = λ more. same_noted _ _ _ _ _ _ _ _ c.ask_noting.ensures.noted refl (search rules) refl refl;
  without = λ none. search rules;
}
