use Rattle.std.proofs.Common.{rules, ◌≡◌, true, Ok, Some, ap}
use Rattle.xhci_machine.specs.declared.interrupts.Interrupts.{Interrupts}
use Rattle.xhci_machine.specs.Interrupter.{taken}
use Rattle.xhci_machine.specs.Turns.{World}
use Rattle.xhci_machine.proofs.Working.{worked_on}
use Rattle.xhci_machine.proofs.Machine.work.Goals as goal

pub returns-in-Ok-Some-clause-worked : goal.returns-in-Ok-Some-clause-worked
returns-in-Ok-Some-clause-worked g c =
    let runs : c.args.self.now.registers.runs ≡ true = search rules in
    let after : World = record {
      memory = g.M.GuestMemory.contents c.rounds-worked.new.memory;
      events = c.rounds-worked.new.events;
      machine = c.rounds-worked.new.self;
    } in
    let is : (Ok (Some c.in-Ok-Some.events), (c.take.new.self, c.take.new.registers))
    ≡ taken (g.M.GuestMemory.contents c.args.memory.now) c.args.self.now.interrupts c.args.self.now.registers = search rules in
    worked_on c.args.budget (g.M.GuestMemory.contents c.args.memory.now) c.args.self.now c.in-Ok-Some.events
    (c.take.new.self, c.take.new.registers) after _ c.rounds-worked.result runs is c.rounds-worked.ensures.worked
    (ap (λ (interrupts : Interrupts). record c.rounds-worked.new.self { interrupts = interrupts }) c.keep.ensures)
