-- What a call of `work` makes of memory and the whole controller: rounds of turns, each round an equation. A tag has its turn where it is active
-- when the round comes to it.
use Rattle.std.specs.Prelude.{◌≡◌, ℕ, zero, suc, ◌-◌, ◌<◌, ◌≤◌, ◌==◌, Bool, true, false, ◌||◌, if◌then◌else◌, Option, Some, None, Result, Ok, Err, ◌⊎◌}
use Rattle.guest_memory.specs.Bytes.{Memory}
use Rattle.guest_memory.specs.rings.Events.{EventEnd}
use Rattle.guest_tags.specs.DataIn.{has_chunk}
use Rattle.guest_tasks.specs.Active.{is_absent, rested}
use Rattle.guest_tasks.specs.Tasks.{tasks_kind}
use Rattle.guest_transfers.specs.Orders.{has_work, left_dropped}
use Rattle.guest_transfers.specs.State.{slot_of}
use Rattle.marks.specs.Marks.{is_marked}
use Rattle.uas_tasks.specs.Machine.{wanted}
use Rattle.xhci_registers.specs.declared.Registers.{Registers}
use Rattle.xhci_registers.specs.Signals.{failed}
use Rattle.xhci_machine.specs.declared.Machine.{Machine}
use Rattle.xhci_machine.specs.declared.interrupts.Interrupts.{Interrupts}
use Rattle.xhci_machine.specs.declared.interrupts.RingFault.{RingFault}
use Rattle.xhci_machine.specs.declared.work.Worked.{Worked}
use Rattle.xhci_machine.specs.Effects.{idle_ring}
use Rattle.xhci_machine.specs.Interrupter.{taken}
use Rattle.xhci_machine.specs.Rounds.{Turning, data_of, front_turned, status_of, turned}
use Rattle.xhci_machine.specs.Turns.{World}

-- A TAG'S TURN

-- a tag has no task
abbrev pub is_gone : Machine → ℕ → Bool
is_gone m tag = is_absent (wanted m.device.tasks tag)

-- it has something to do: of a request that is at the backend a part of a chunk may be left
abbrev pub is_busy : Machine → ℕ → Bool
is_busy m tag = has_chunk (slot_of m.transfers tag).tag || has_work m.transfers tag (tasks_kind.phase m.device tag)

-- what a task that is gone has left of its chunk is dropped
unfoldable pub gone_dropped : Machine → ℕ → Machine
gone_dropped m tag = if is_gone m tag then record m { transfers = left_dropped m.transfers tag } else m

abbrev pub dropped_at : World → ℕ → World
dropped_at w tag = record w { machine = gone_dropped w.machine tag }

-- a tag without a task isn't active any more
abbrev pub rested_at : World → ℕ → World
rested_at w tag = record w { machine = record w.machine { device = rested w.machine.device tag } }

abbrev pub then_status : ℕ → Turning → Turning
then_status tag (at, false) = (at, false)
then_status tag (at, true) = turned at.1 at.0 (status_of at.0 tag)

-- data before status
unfoldable pub busy_turned : ℕ → ℕ → World → Turning
busy_turned left tag w = then_status tag (turned left w (data_of w tag))

-- a tag that has nothing to do rests
abbrev pub tag_by : Bool → ℕ → ℕ → World → Turning
tag_by true left tag w = busy_turned left tag w
tag_by false left tag w = ((rested_at w tag, left), true)

unfoldable pub tag_turned : ℕ → ℕ → World → Turning
tag_turned left tag w =
    if left == 0 then ((w, 0), true) else tag_by (is_busy (dropped_at w tag).machine tag) left tag (dropped_at w tag)

-- THE TAGS' TURNS

-- a tag that is active has its turn
abbrev pub turned_if : Bool → ℕ → World × ℕ → Turning
turned_if false tag at = (at, true)
turned_if true tag at = tag_turned at.1 tag at.0

abbrev pub then_tag : ℕ → Turning → Turning
then_tag tag (at, false) = (at, false)
then_tag tag (at, true) = turned_if (is_marked at.0.machine.device.active tag) tag at

-- the tags below one have theirs, in their order
unfoldable pub tags_turned : ℕ → Turning → Turning
tags_turned zero before = before
tags_turned (suc tag) before = then_tag tag (tags_turned tag before)

-- ROUNDS

-- the turns before the tags', and then these
abbrev pub round_turned : World × ℕ → Turning
round_turned at = tags_turned 241 (front_turned at.1 at.0)

-- so many rounds, each of which took a step
abbrev pub RoundsTurned : ℕ → World × ℕ → World × ℕ → Type 0
RoundsTurned zero at after = after ≡ at
RoundsTurned (suc n) at after =
    (before : World × ℕ) × RoundsTurned n at before × ((after, true) ≡ round_turned before) × (after.1 < before.1)

-- a host system error: the controller halts, and drops what is owed of the command ring
abbrev pub with_failure : Machine → Machine
with_failure m = record m { registers = failed m.registers; commands = idle_ring }

-- the budget is used up, or the last round took no step, or memory wasn't there in it
abbrev pub IsOver : World × ℕ → World → Bool → Type 0
IsOver at after true = (at.1 ≡ 0) × (after ≡ at.0)
IsOver at after false =
    (0 < at.1)
    × (((left : ℕ) × (at.1 ≤ left) × (((after, left), true) ≡ round_turned at))
    ⊎ ((last : World × ℕ) × ((last, false) ≡ round_turned at) × (after ≡ record last.0 { machine = with_failure last.0.machine })))

-- Rounds until that: so many steps were taken as are gone of the budget, and there may be more to do at once where that is used up.
pub record RoundsWorked (budget : ℕ) (w after : World) (worked : Worked) : Type 0 where
  pub rounds : ℕ
  pub at : World × ℕ
  pub turned : RoundsTurned rounds (w, budget) at
  pub over : IsOver at after worked.more
  pub steps : worked.steps ≡ budget - at.1

-- A CALL

abbrev pub nothing_worked : Worked
nothing_worked = record { steps = 0; more = false }

abbrev pub with_kept : Machine → Interrupts × Registers → Machine
with_kept m kept = record m { interrupts = kept.0; registers = kept.1 }

-- the event ring comes back
abbrev pub ring_kept : World → Machine
ring_kept w = record w.machine { interrupts = record w.machine.interrupts { ring = Some w.events } }

-- by the event ring that was taken: none, and then a host system error where its table has a fault, or one, and rounds with it
abbrev pub WorkedOn : ℕ → Memory → Machine → Result (Option EventEnd) RingFault × (Interrupts × Registers) → Memory → Machine → Worked → Type 0
WorkedOn budget memory m (Err fault, kept) memory_new m_new worked =
    (memory_new ≡ memory) × (m_new ≡ with_failure (with_kept m kept)) × (worked ≡ nothing_worked)
WorkedOn budget memory m (Ok None, kept) memory_new m_new worked =
    (memory_new ≡ memory) × (m_new ≡ with_kept m kept) × (worked ≡ nothing_worked)
WorkedOn budget memory m (Ok (Some ring), kept) memory_new m_new worked =
    (after : World) × RoundsWorked budget (record { memory = memory; events = ring; machine = with_kept m kept }) after worked
    × (memory_new ≡ after.memory) × (m_new ≡ ring_kept after)

-- nothing is stepped while R/S is 0
abbrev pub WorkedIf : Bool → ℕ → Memory → Machine → Memory → Machine → Worked → Type 0
WorkedIf true budget memory m memory_new m_new worked =
    WorkedOn budget memory m (taken memory m.interrupts m.registers) memory_new m_new worked
WorkedIf false budget memory m memory_new m_new worked = (memory_new ≡ memory) × (m_new ≡ m) × (worked ≡ nothing_worked)

abbrev pub IsWorked : ℕ → Memory → Machine → Memory → Machine → Worked → Type 0
IsWorked budget memory m memory_new m_new worked = WorkedIf m.registers.runs budget memory m memory_new m_new worked
