-- One command alone on a bus of its own.
use Rattle.std.specs.Prelude.{◌≡◌, ℕ, ◌+◌, List, [], ◌∷◌, length, All, Some}
use Rattle.arrayvec.specs.ArrayVec.{ArrayVec}
use Rattle.block_unit.specs.BlockMaps.{BlockMaps}
use Rattle.block_unit.specs.Laws.{IsSized}
use Rattle.scsi_cmd.specs.declared.Command.{Command}
use Rattle.scsi_cmd.specs.declared.Reply.TheVariants.{Status as StatusReply}
use Rattle.scsi_cmd.specs.declared.TheConstants.{GOOD}
use Rattle.shared_machine.specs.declared.Step.{Step}
use Rattle.shared_machine.specs.declared.Step.TheVariants.{Submit, Task, CommandPipe, Data, Status, Engine, Event, Retire, Take}
use Rattle.shared_machine.specs.declared.Outcome.{Outcome}
use Rattle.shared_machine.specs.Shared.{Shared, opening, shared_step}
use Rattle.shared_machine.specs.Drain.{drained}
use Rattle.shared_machine.specs.Laws.{LeadsTo}
use Rattle.shared_machine.specs.Replay.{replayed}
use Rattle.isolation.specs.Isolation.{IsIsolated, own_state}
use Rattle.whole_commands.specs.Reads.{AreItsBlocks}
use Rattle.whole_commands.specs.Writes.{HasItsBytes}

-- a step of the bus's own, which no client asks for
abbrev pub IsBusStep : Step → Type 0
IsBusStep (Submit client tag ticket command) = ⊥
IsBusStep (Task client ticket task) = ⊥
IsBusStep CommandPipe = Unit {0}
IsBusStep (Data tag) = Unit {0}
IsBusStep (Status tag) = Unit {0}
IsBusStep Engine = Unit {0}
IsBusStep Event = Unit {0}
IsBusStep (Retire pipe tag) = Unit {0}
IsBusStep (Take client) = ⊥

-- What a drain takes: steps of the bus's own that act, so many as it took of those that it may. To each client they are its own machine's.
pub record TakesBusSteps (old : Shared) (limit : ℕ) : Type 0 where
  pub steps : List Step
  pub run : LeadsTo old steps (drained old limit).state
  pub spent : length steps + (drained old limit).left ≡ limit
  pub own : All IsBusStep steps
  pub isolated : (client : ℕ) → IsIsolated old steps (replayed old steps).1 (drained old limit).state client

abbrev pub DrainTakesBusSteps : Type 0
DrainTakesBusSteps = (state : Shared) (limit : ℕ) → TakesBusSteps state limit

-- A command on a bus of this unit alone, with so many tags: client 0 submits it, the bus is drained by so many steps at most, and the client takes the
-- reply, where one is ready.
abbrev pub alone : ℕ → BlockMaps → ℕ → ℕ → Command → ℕ → Shared × Outcome
alone tags unit tag ticket command limit =
    shared_step (drained (shared_step (opening tags (unit ∷ [])) (Submit 0 tag ticket command)).0 limit).state (Take 0)

-- A READ that ends with GOOD brings its blocks, as they stand in the unit.
abbrev pub OneReadAlone : Type 0
OneReadAlone =
    (tags : ℕ) (unit : BlockMaps) (tag ticket : ℕ) (command : Command) (limit : ℕ) (on at : ℕ) (sense : ArrayVec ℕ) (buffer : List ℕ) → IsSized unit
    → (alone tags unit tag ticket command limit).1.reply ≡ Some (StatusReply on at GOOD sense buffer) → AreItsBlocks unit command.op buffer

-- A WRITE that ends with GOOD leaves its bytes in its blocks, and all else as it was.
abbrev pub OneWriteAlone : Type 0
OneWriteAlone =
    (tags : ℕ) (unit : BlockMaps) (tag ticket : ℕ) (command : Command) (limit : ℕ) (on at : ℕ) (sense : ArrayVec ℕ) (buffer : List ℕ) → IsSized unit
    → (alone tags unit tag ticket command limit).1.reply ≡ Some (StatusReply on at GOOD sense buffer)
    → HasItsBytes unit command.op command.buffer (own_state (alone tags unit tag ticket command limit).0 0).unit
