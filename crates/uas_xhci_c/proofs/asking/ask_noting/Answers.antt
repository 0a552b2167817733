use Rattle.std.proofs.Common.{rules, false, [], length, sym, subst, arith}
use Rattle.guest_memory.specs.Bytes.{Memory}
use Rattle.guest_memory.specs.notes.Laws.{none_noted, same_first, same_noted, same_second}
use Rattle.guest_memory.specs.notes.Notes.{AreNoted}
use Rattle.uas_xhci_c.proofs.asking.ask_noting.Goals as goal

pub invariant_of-noting : goal.invariant_of-noting
invariant_of-noting g c =
    let contents = g.M.GuestMemory.contents c.args.memory.now in
    let room = length c.args.written.now in
    record {
      noted = subst (λ (began : Memory). AreNoted began contents room ([], false)) c.requires (none_noted contents room);
      within = omega arith;
    }

pub returns-clause-noted : goal.returns-clause-noted
returns-clause-noted g c =
    same_noted _ _ _ _ _ _ _ _ c.work_asking-named.new.memory.noted (sym c.requires) (search (rules, same_first, same_second))
    (search (rules, same_first, same_second)) (search (rules, same_first, same_second))
