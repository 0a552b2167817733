-- What a turn of the controller makes of the device: at most one call on it, of those that the turn may make.
use Rattle.std.specs.Prelude.{◌≡◌, ℕ, zero, suc, true, false, List, [], ◌∷◌, ◌++◌, Option, Some, Ok, ◌⊎◌}
use Rattle.bulk_only.specs.declared.command.Cbw.{Cbw}
use Rattle.bulk_only.specs.Command.{cbw_in}
use Rattle.guest_bulk.specs.Commands.{BulkWorld, cbw_count, unit_of}
use Rattle.guest_pipes.specs.declared.acted.Acted.{Acted}
use Rattle.guest_tags.specs.declared.buffer.Buffer.{Buffer}
use Rattle.guest_out.specs.Command.{command_count}
use Rattle.guest_out.specs.Immediate.{bytes_out}
use Rattle.guest_out.specs.Worlds.{OutWorld}
use Rattle.guest_tasks.specs.declared.GuestTasks.{GuestTasks}
use Rattle.guest_tasks.specs.Tasks.{tasks_kind}
use Rattle.guest_transfers.specs.declared.control.StreamPipe.{StreamPipe}
use Rattle.guest_transfers.specs.declared.control.StreamPipe.TheVariants.{Status, DataOut, DataIn}
use Rattle.guest_transfers.specs.Steps.{command_world}
use Rattle.uas_tasks.specs.Machine.{Machine}
use Rattle.units_apart.specs.Calls.{Call, Receive, Give, Take, Send, EndTasks, PowerOn, called}
use Rattle.units_apart.specs.Runs.{after}
use Rattle.xhci_machine.specs.Bulk.{bulk_world}
use Rattle.xhci_machine.specs.Bus.{is_bulk}
use Rattle.xhci_machine.specs.Rounds.{Turning, stray_stepped, transfers_world}
use Rattle.xhci_machine.specs.Turns.{World}

abbrev pub tasks_of : World → Machine
tasks_of w = w.machine.device.tasks

-- WHICH CALLS

-- of a tag's data: a chunk is given, or bytes are taken, on this tag
abbrev pub IsDataOn : ℕ → Call → Type 0
IsDataOn tag (Give on count) = on ≡ tag
IsDataOn tag (Take on bytes) = on ≡ tag
IsDataOn tag call = ⊥

-- of its status: its answer is sent
abbrev pub IsAnswerOn : ℕ → Call → Type 0
IsAnswerOn tag (Send on) = on ≡ tag
IsAnswerOn tag call = ⊥

-- The bytes that the command pipe may receive: those that it has gathered, or these and behind them what the TRB in front has, which
-- stands in memory or in the TRB.
abbrev pub IsGathered : OutWorld GuestTasks → List ℕ → Type 0
IsGathered w bytes =
    (bytes ≡ w.taken)
    ⊎ ((buffer : Buffer) × (new : List ℕ) × (bytes_out w.ring.memory buffer 0 (command_count tasks_kind w buffer) ≡ Some new) × (bytes ≡ w.taken ++ new))

-- of the command pipe: they are received
abbrev pub IsUnitIn : World → Call → Type 0
IsUnitIn w (Receive bytes) = IsGathered (command_world tasks_kind (transfers_world w)) bytes
IsUnitIn w call = ⊥

-- of endpoint 0, where it configures the disk or resets Bulk-Only's transport: every task ends
abbrev pub IsEnd : Call → Type 0
IsEnd EndTasks = Unit {0}
IsEnd call = ⊥

-- What Bulk-Out may have gathered of a command block wrapper: what it had before, or that and what the TRB in front has.
abbrev pub IsWrapped : BulkWorld GuestTasks → List ℕ → Type 0
IsWrapped w text =
    (text ≡ w.bulk.taken)
    ⊎ ((buffer : Buffer) × (new : List ℕ) × (bytes_out w.ring.memory buffer 0 (cbw_count tasks_kind w buffer) ≡ Some new) × (text ≡ w.bulk.taken ++ new))

-- of Bulk-Out: such a wrapper is received as a Command of tag 1, or bytes of its data are taken
abbrev pub IsOut : BulkWorld GuestTasks → Call → Type 0
IsOut w (Receive bytes) = (text : List ℕ) × (cbw : Cbw) × IsWrapped w text × (cbw_in text ≡ Ok cbw) × (bytes ≡ unit_of cbw)
IsOut w (Take on bytes) = on ≡ 1
IsOut w call = ⊥

-- of Bulk-In: a chunk is given, or the answer sent
abbrev pub IsIn : Call → Type 0
IsIn (Give on count) = on ≡ 1
IsIn (Send on) = on ≡ 1
IsIn call = ⊥

abbrev pub IsBulkCall : World → StreamPipe → Call → Type 0
IsBulkCall w Status call = ⊥
IsBulkCall w DataOut call = IsOut (bulk_world w.memory w.events w.machine DataOut) call
IsBulkCall w DataIn call = IsIn call

-- in Bulk-Only's alternate setting alone
abbrev pub IsBulk : World → StreamPipe → Call → Type 0
IsBulk w name call = (is_bulk w.machine ≡ true) × IsBulkCall w name call

abbrev pub IsBulkEnd : World → Call → Type 0
IsBulkEnd w call = (is_bulk w.machine ≡ true) × IsEnd call

-- of a call from outside, where it resets the disk
abbrev pub IsPowerOn : Call → Type 0
IsPowerOn PowerOn = Unit {0}
IsPowerOn call = ⊥

-- A TURN

abbrev pub AtMostOne : (Call → Type 0) → List Call → Type 0
AtMostOne May [] = Unit {0}
AtMostOne May (call ∷ []) = May call
AtMostOne May (call ∷ (another ∷ more)) = ⊥

-- at most one call, and it is all that becomes of the device
pub record Makes (May : Call → Type 0) (before now : Machine) (calls : List Call) : Type 0 where
  pub one : AtMostOne May calls
  pub is : now ≡ after called before calls

-- a step of a turn, where memory was there up to it and steps are left; else there is none, and no call
abbrev pub TurnMakes : (World → Call → Type 0) → (World → World × Option Acted) → Turning → List Call → Type 0
TurnMakes May step (at, false) calls = calls ≡ []
TurnMakes May step ((w, zero), true) calls = calls ≡ []
TurnMakes May step ((w, suc left), true) calls = Makes (May w) (tasks_of w) (tasks_of (step w).0) calls

-- of Bulk-Out or Bulk-In: such a call, and behind it every task ends where host and device don't mean the same transfer
abbrev pub AreBulk : World → StreamPipe → List Call → Type 0
AreBulk w name calls =
    (first : List Call) × (rest : List Call) × AtMostOne (IsBulk w name) first × AtMostOne (IsBulkEnd w) rest × (calls ≡ first ++ rest)

abbrev pub StrayMakes : StreamPipe → Turning → List Call → Type 0
StrayMakes name (at, false) calls = calls ≡ []
StrayMakes name ((w, zero), true) calls = calls ≡ []
StrayMakes name ((w, suc left), true) calls = AreBulk w name calls × (tasks_of (stray_stepped w name).0 ≡ after called (tasks_of w) calls)
