use Rattle.std.proofs.Common.{rules, ◌≡◌, ◌<◌, None, true, false, ◌∙◌, ap, arith}
use Rattle.xhci_machine.specs.declared.Machine.{Machine}
use Rattle.xhci_machine.specs.Wanted.{wanted}
use Rattle.xhci_machine.proofs.Asked.{one_more}
use Rattle.xhci_machine.proofs.Machine.work_asking.Goals as goal

pub loop-taken-preserved : goal.loop-taken-preserved
loop-taken-preserved g c =
    let it = c.loop-taken.invariant in
    let wants : wanted (g.M.GuestMemory.contents c.loop-taken.memory) c.loop-taken.self ≡ None = search rules in
    let more : c.work.result.more ≡ true = search rules in
    let less : c.loop-taken.taken < c.args.budget = search rules in (
      one_more c.loop-taken.taken (g.M.GuestMemory.contents c.args.memory.now, c.args.self.now)
          (g.M.GuestMemory.contents c.loop-taken.memory, c.loop-taken.self) (g.M.GuestMemory.contents c.work.new.memory, c.work.new.self)
          it.0 (wants, c.work.result, c.work.ensures.worked, more),
      c.work.ensures.same_loan ∙ it.1,
      (λ stopped.
          let before = it.2 stopped in
          let still : c.loop-taken.self.registers.runs ≡ false = ap (λ (m : Machine). m.registers.runs) before.0 ∙ stopped in
          let stands = c.work.ensures.stands still in
          (stands.0 ∙ before.0, stands.1 ∙ before.1)),
      omega (arith, less),
    )
