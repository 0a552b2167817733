-- What holds of every command: which bytes move between its CBW and its CSW, which TDs are CBWs, and what an endpoint does that isn't served.
use Rattle.std.specs.Prelude.{◌≡◌, ℕ, ◌+◌, ◌-◌, false, true, [], Some, None}
use Rattle.guest_memory.specs.declared.rings.context.Front.{Front}
use Rattle.guest_memory.specs.declared.rings.context.Home.{Home}
use Rattle.guest_memory.specs.declared.rings.trb.Flags.{Flags}
use Rattle.guest_memory.specs.declared.rings.trb.PipeTrb.{PipeTrb}
use Rattle.guest_memory.specs.declared.rings.trb.PipeTrb.TheVariants.{NoOp, EventData}
use Rattle.guest_pipes.specs.declared.acted.Acted.TheVariants.{Worked}
use Rattle.guest_pipes.specs.Gate.{took_other}
use Rattle.guest_pipes.specs.Progress.{runs}
use Rattle.guest_pipes.specs.Unserved.{stuck}
use Rattle.guest_tags.specs.declared.buffer.Buffer.{Buffer}
use Rattle.guest_tags.specs.Devices.{Kind}
use Rattle.guest_bulk.specs.declared.bulk.BulkCommand.{BulkCommand}
use Rattle.guest_bulk.specs.declared.bulk.BulkStage.{BulkStage}
use Rattle.guest_bulk.specs.declared.bulk.BulkStage.TheVariants.{Awaits, Faulty, Moves, Tells}
use Rattle.guest_bulk.specs.declared.bulk.Halting.{Halting}
use Rattle.guest_bulk.specs.declared.bulk.Halting.TheVariants.{Nothing, BulkIn, BulkOut, Both}
use Rattle.guest_bulk.specs.Commands.{BulkWorld, at_stage, with_moved, with_ring}
use Rattle.guest_bulk.specs.Incoming.{in_beside, in_broken, in_count, in_ran, in_staged}
use Rattle.guest_bulk.specs.Outgoing.{ends_cbw, out_beside, out_broken, out_count, out_last, out_ran, out_staged, worked}
use Rattle.guest_bulk.specs.Steps.{in_bytes, in_stepped, in_took, out_bytes, out_stepped, out_took}

abbrev pub IsNoHalt : Halting → Type 0
IsNoHalt Nothing = Unit {0}
IsNoHalt BulkIn = ⊥
IsNoHalt BulkOut = ⊥
IsNoHalt Both = ⊥

-- the data of a command still move
abbrev pub IsMoving : BulkStage → Type 0
IsMoving Awaits = ⊥
IsMoving Faulty = ⊥
IsMoving (Moves command) = Unit {0}
IsMoving (Tells csw sent) = ⊥

module _ {D : Type 0} (kind : Kind D) where
  -- a step counts the bytes that it moves, and moves no more than are left of H
  abbrev pub InIsCounted : Type 0
  InIsCounted =
      (w : BulkWorld D) (command : BulkCommand) (coming : ℕ) (buffer : Buffer)
      → (with_moved command (in_count kind w command coming buffer)).left + in_count kind w command coming buffer ≡ command.left

  abbrev pub OutIsCounted : Type 0
  OutIsCounted =
      (w : BulkWorld D) (command : BulkCommand) (count : ℕ) (buffer : Buffer)
      → (with_moved command (out_count kind w command count buffer)).left + out_count kind w command count buffer ≡ command.left

  -- where nothing is left of H, and so where H is 0 (cases 1, 2 and 3), no data move on either pipe
  abbrev pub NothingMoves : Type 0
  NothingMoves =
      (w : BulkWorld D) (command : BulkCommand) (front : Front) (buffer : Buffer) → command.left ≡ 0
      → (in_staged kind (Moves command) w front buffer ≡ in_beside kind w command front buffer)
      × (out_staged kind (Moves command) w front buffer ≡ out_beside kind w front buffer)

  -- in the cases 8 and 10 no byte moves, and no event is posted
  abbrev pub InsteadMovesNothing : Type 0
  InsteadMovesNothing =
      (w : BulkWorld D) (command : BulkCommand) (count : ℕ)
      → ((in_broken kind w command count).0.ring ≡ w.ring) × ((out_broken kind w command count).0.ring ≡ w.ring)

  -- while bytes are left of H, a step tells no CSW, but in the cases 8 and 10, which halt the endpoint
  abbrev pub InStillMoves : Type 0
  InStillMoves =
      (w : BulkWorld D) (command : BulkCommand) (front : Front) (buffer : Buffer) → w.bulk.stage ≡ Moves command
      → IsNoHalt (in_ran kind w command front buffer).1.halts → IsMoving (in_ran kind w command front buffer).0.bulk.stage

  abbrev pub OutStillMoves : Type 0
  OutStillMoves =
      (w : BulkWorld D) (command : BulkCommand) (front : Front) (buffer : Buffer) → w.bulk.stage ≡ Moves command
      → IsNoHalt (out_ran kind w command front buffer).1.halts → IsMoving (out_ran kind w command front buffer).0.bulk.stage

  -- CBWS

  -- a TD of a Normal TRB of 0 bytes that a No Op or an Event Data TRB ends is a CBW of 0 bytes, which is too short: both endpoints halt until
  -- the reset (BOT 6.6.1)
  abbrev pub EmptyIsFaulty : Type 0
  EmptyIsFaulty =
      (w : BulkWorld D) (front : Front) (trb : PipeTrb) (flags : Flags) → ends_cbw kind w flags ≡ true → w.bulk.taken ≡ []
      → out_last kind w front trb flags
      ≡ (record (with_ring w (took_other w.ring front trb)) { bulk = at_stage w.bulk Faulty }, record { acted = Worked; halts = Both; ends = false })

  -- a TD without a Normal TRB is no CBW
  abbrev pub OthersAreNone : Type 0
  OthersAreNone =
      (w : BulkWorld D) (front : Front) (trb : PipeTrb) (flags : Flags) → w.bulk.gathers ≡ false
      → out_last kind w front trb flags ≡ (with_ring w (took_other w.ring front trb), worked)

  -- AN ENDPOINT THAT ISN'T SERVED

  -- what is left of a TD that has ended is taken as ever: skipped, and it tells its end
  abbrev pub EndedIsTaken : Type 0
  EndedIsTaken =
      (w : BulkWorld D) (home : Home) (code : ℕ) → runs w.ring.consumer.progress.ending ≡ false
      → (in_stepped kind (Some code) w home ≡ in_stepped kind None w home) × (out_stepped kind (Some code) w home ≡ out_stepped kind None w home)

  -- so is a No Op or an Event Data TRB, which may end a CBW or a CSW
  abbrev pub LastIsTaken : Type 0
  LastIsTaken =
      (w : BulkWorld D) (front : Front) (code parameter : ℕ) (flags : Flags)
      → (in_took kind (Some code) w front (NoOp flags) ≡ in_took kind None w front (NoOp flags))
      × (out_took kind (Some code) w front (NoOp flags) ≡ out_took kind None w front (NoOp flags))
      × (in_took kind (Some code) w front (EventData parameter flags) ≡ in_took kind None w front (EventData parameter flags))
      × (out_took kind (Some code) w front (EventData parameter flags) ≡ out_took kind None w front (EventData parameter flags))

  -- a Normal TRB of a TD whose bytes move is told with the code and what is left of it, and none of them moves
  abbrev pub RunningIsStuck : Type 0
  RunningIsStuck =
      (w : BulkWorld D) (front : Front) (buffer : Buffer) (code : ℕ) → runs w.ring.consumer.progress.ending ≡ true
      → (in_bytes kind (Some code) w front buffer ≡ (with_ring w (stuck w.ring front (buffer.length - w.ring.consumer.progress.moved) code), worked))
      × (out_bytes kind (Some code) w front buffer ≡ (with_ring w (stuck w.ring front (buffer.length - w.ring.consumer.progress.moved) code), worked))
