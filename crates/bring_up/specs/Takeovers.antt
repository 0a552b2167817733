-- Rows 3, 4, 5 and 7: the controller is taken from firmware, halted, reset and run (xHCI 1.2, 4.2, 5.4.1, 5.4.2 and 7.1). Limits are in ms;
-- a register is read each ms.
use Rattle.std.specs.Prelude.{ℕ, ◌+◌, not, if◌then◌else◌, is_some, bit_and, bit_or}
use Rattle.bring_up.specs.declared.access.Access.{Access}
use Rattle.bring_up.specs.declared.access.Access.TheVariants.{Rest}
use Rattle.bring_up.specs.declared.controller.Controller.{Controller}
use Rattle.bring_up.specs.declared.ports.Ports.TheVariants.{Power}
use Rattle.bring_up.specs.declared.program.Program.TheVariants.{Zero}
use Rattle.bring_up.specs.declared.step.Ended.TheVariants.{Dead, Refused}
use Rattle.bring_up.specs.declared.step.Step.{Step}
use Rattle.bring_up.specs.declared.step.Step.TheVariants as step
use Rattle.bring_up.specs.declared.takeover.Halt.{Halt}
use Rattle.bring_up.specs.declared.takeover.Halt.TheVariants as halt
use Rattle.bring_up.specs.declared.takeover.Handoff.{Handoff}
use Rattle.bring_up.specs.declared.takeover.Handoff.TheVariants as handoff
use Rattle.bring_up.specs.declared.takeover.Reset.{Reset}
use Rattle.bring_up.specs.declared.takeover.Reset.TheVariants as reset
use Rattle.bring_up.specs.declared.takeover.Run.{Run}
use Rattle.bring_up.specs.declared.takeover.Run.TheVariants as run
use Rattle.bring_up.specs.declared.waits.Wait.{Wait}
use Rattle.bring_up.specs.declared.waits.Waited.{Waited}
use Rattle.bring_up.specs.declared.waits.Waited.TheVariants.{So, Late, On}
use Rattle.bring_up.specs.declared.why.Why.TheVariants.{StillRuns}
use Rattle.bring_up.specs.Accesses.{later, read_at, write_at}
use Rattle.bring_up.specs.Registers.{command_register, first_place, is_set, legacy_register, status_register}
use Rattle.bring_up.specs.Waits.{begun, wait_access, waited}

abbrev pub first_step : Controller → ℕ → Step
first_step c now = if is_some c.legacy then step.Handoff handoff.Owner else step.Halt (halt.Ready (begun now 5000))

-- 3, HANDOFF (7.1): USBLEGSUP with HC OS Owned Semaphore, bit 24, until HC BIOS Owned Semaphore, bit 16, is 0; behind 1,000 ms bit 16 is cleared.
-- In USBLEGCTLSTS the SMI enables are cleared, and the events in bits 31:29 by a 1.

abbrev pub handoff_access : Handoff → Controller → Access
handoff_access handoff.Owner c = read_at (legacy_register c)
handoff_access (handoff.Claim value) c = write_at (legacy_register c) (bit_or value 0x1000000)
handoff_access (handoff.Wait wait) c = wait_access wait (legacy_register c)
handoff_access (handoff.Force value) c = write_at (legacy_register c) (bit_and value 0xfffeffff)
handoff_access handoff.Control c = read_at (legacy_register c + 4)
handoff_access (handoff.Quiet value) c = write_at (legacy_register c + 4) (bit_or (bit_and value 0x000e1fee) 0xe0000000)

abbrev pub handoff_waited : Waited → ℕ → Step
handoff_waited So value = step.Handoff handoff.Control
handoff_waited Late value = step.Handoff (handoff.Force value)
handoff_waited (On wait) value = step.Handoff (handoff.Wait wait)

abbrev pub handoff_after : Handoff → ℕ → ℕ → Step
handoff_after handoff.Owner now value = step.Handoff (handoff.Claim value)
handoff_after (handoff.Claim old) now value = step.Handoff (handoff.Wait (begun now 1000))
handoff_after (handoff.Wait wait) now value = handoff_waited (waited wait now 1 (not (is_set value 16))) value
handoff_after (handoff.Force old) now value = step.Handoff handoff.Control
handoff_after handoff.Control now value = step.Handoff (handoff.Quiet value)
handoff_after (handoff.Quiet old) now value = step.Halt (halt.Ready (begun now 5000))

-- 4, HALT: Controller Not Ready, bit 11 of USBSTS, is 0, or 5,000 ms are over; USBCMD without R/S, INTE, HSEE and EWE; HCHalted, bit 0, is 1
-- within 100 ms.

abbrev pub halt_access : Halt → Controller → Access
halt_access (halt.Ready wait) c = wait_access wait (status_register c)
halt_access halt.Command c = read_at (command_register c)
halt_access (halt.Stop value) c = write_at (command_register c) (bit_and value 0xfffffbf2)
halt_access (halt.Halted wait) c = wait_access wait (status_register c)

abbrev pub ready_waited : Waited → Step
ready_waited So = step.Halt halt.Command
ready_waited Late = step.Halt halt.Command
ready_waited (On wait) = step.Halt (halt.Ready wait)

abbrev pub halted_waited : Waited → Step
halted_waited So = step.Reset reset.Command
halted_waited Late = step.Ended (Refused StillRuns)
halted_waited (On wait) = step.Halt (halt.Halted wait)

abbrev pub halt_after : Halt → ℕ → ℕ → Step
halt_after (halt.Ready wait) now value = ready_waited (waited wait now 1 (not (is_set value 11)))
halt_after halt.Command now value = step.Halt (halt.Stop value)
halt_after (halt.Stop old) now value = step.Halt (halt.Halted (begun now 100))
halt_after (halt.Halted wait) now value = halted_waited (waited wait now 1 (is_set value 0))

-- 5, RESET (5.4.1): USBCMD with HCRST, bit 1; no access for 1 ms; HCRST and Controller Not Ready are 0 within 10,000 ms.

abbrev pub reset_access : Reset → Controller → Access
reset_access reset.Command c = read_at (command_register c)
reset_access (reset.Start value) c = write_at (command_register c) (bit_or value 2)
reset_access (reset.Pause until) c = Rest until
reset_access (reset.Done wait) c = wait_access wait (command_register c)
reset_access (reset.Ready wait) c = wait_access wait (status_register c)

abbrev pub reset_waited : Wait → Waited → Step
reset_waited wait So = step.Reset (reset.Ready wait)
reset_waited wait Late = step.Ended Dead
reset_waited wait (On next) = step.Reset (reset.Done next)

abbrev pub done_waited : Waited → Step
done_waited So = step.Program (Zero 0)
done_waited Late = step.Ended Dead
done_waited (On wait) = step.Reset (reset.Ready wait)

abbrev pub reset_after : Reset → ℕ → ℕ → Step
reset_after reset.Command now value = step.Reset (reset.Start value)
reset_after (reset.Start old) now value = step.Reset (reset.Pause (later now 2))
reset_after (reset.Pause until) now value = step.Reset (reset.Done (begun now 10000))
reset_after (reset.Done wait) now value = reset_waited wait (waited wait now 1 (not (is_set value 1)))
reset_after (reset.Ready wait) now value = done_waited (waited wait now 1 (not (is_set value 11)))

-- 7, RUN: USBCMD with R/S and INTE, bits 0 and 2; HCHalted is 0 within 100 ms.

abbrev pub run_access : Run → Controller → Access
run_access run.Command c = read_at (command_register c)
run_access (run.Start value) c = write_at (command_register c) (bit_or value 5)
run_access (run.Started wait) c = wait_access wait (status_register c)

abbrev pub run_waited : Waited → Step
run_waited So = step.Ports (Power first_place)
run_waited Late = step.Ended Dead
run_waited (On wait) = step.Run (run.Started wait)

abbrev pub run_after : Run → ℕ → ℕ → Step
run_after run.Command now value = step.Run (run.Start value)
run_after (run.Start old) now value = step.Run (run.Started (begun now 100))
run_after (run.Started wait) now value = run_waited (waited wait now 1 (not (is_set value 0)))
