-- What a pump books of a client, and what becomes of the slip.
use Rattle.std.specs.Prelude.{◌≡◌, ℕ, zero, suc, ◌-◌, ◌⊎◌, Bool, true, false, List, [], Option, Some, None, slice_index_or, slice_set}
use Rattle.std.specs.Option.{option_map_or}
use Rattle.shared_machine.specs.declared.Refusal.{Refusal}
use Rattle.shared_machine.specs.declared.Step.{Step}
use Rattle.shared_machine.specs.declared.Step.TheVariants.{Submit, Task, CommandPipe, Data, Status, Engine, Event, Retire, Take}
use Rattle.tag_desk.specs.declared.Slip.{Slip}
use Rattle.tag_desk.specs.declared.Slip.TheVariants.{Ask, AskTask, Answer, Refused, Unserved}
use Rattle.tag_desk.specs.Slips.{IsAsk}
use Rattle.tag_desk.specs.Seats.{MadeDesk, Server, HeldClaim, IsAway, IsServed, IsTagOf, finishing, missing}
use Rattle.uas_profile.specs.Tags.{slot_of, tag_of}
use Rattle.shared_machine.specs.Shared.{due}
use Rattle.uas_work.specs.Booked.{BookedState, booked_step, turns_in}
use Rattle.uas_work.specs.Control.{IsLeft}
use Rattle.uas_work.specs.Held.{Pump, AreNone, AreUnserved}

-- the step that a client's slip on a tag asks for; the end of a submission asks for none, and no client posts one
abbrev pub asked : ℕ → ℕ → Slip → Step
asked client tag (Ask ticket command) = Submit client tag ticket command
asked client tag (AskTask ticket task) = Task client ticket task
asked client tag (Answer reply) = Take client
asked client tag (Refused ticket fault buffer) = Take client
asked client tag (Unserved ticket buffer) = Take client

-- a client posts such a slip, with this ticket
abbrev pub Submits : ℕ → Slip → Type 0
Submits ticket (Ask n command) = n ≡ ticket
Submits ticket (AskTask n task) = n ≡ ticket
Submits ticket (Answer reply) = ⊥
Submits ticket (Refused n fault buffer) = ⊥
Submits ticket (Unserved n buffer) = ⊥

-- the buffer that a submission brought
abbrev pub brought : Step → List ℕ
brought (Submit client tag ticket command) = command.buffer
brought (Task client ticket task) = []
brought CommandPipe = []
brought (Data tag) = []
brought (Status tag) = []
brought Engine = []
brought Event = []
brought (Retire pipe tag) = []
brought (Take client) = []

-- the buffer that a refusal hands back
abbrev pub handed_back : Refusal → List ℕ
handed_back refusal = option_map_or (λ command. command.buffer) refusal.command []

-- the claim of a ticket on a tag, whose slip was taken out
abbrev pub emptied : MadeDesk → ℕ → ℕ → HeldClaim
emptied desk tag ticket = record { table = desk.table; tag = tag; ticket = ticket; slip = None }

-- the pump once a tag's line is out with a claim
abbrev pub claiming : ℕ → Pump → Pump
claiming tag old = record old { seat = record old.seat { lines = slice_set old.seat.lines (tag - 1) None } }

-- the seat once it looked on a tag for a ticket, which wasn't posted there; a tag of which a claim is held isn't looked at
abbrev pub passed_at : ℕ → ℕ → Option HeldClaim → Server → Server
passed_at tag ticket None seat = missing seat tag ticket
passed_at tag ticket (Some claim) seat = seat

-- and once it did so on the first so many of a client's tags, by rising index
abbrev pub passed : MadeDesk → ℕ → ℕ → ℕ → Pump → Server
passed desk client ticket zero old = old.seat
passed desk client ticket (suc slot) old =
    passed_at (tag_of desk.tags (record { client = client; slot = slot })) ticket
    (slice_index_or old.held (tag_of desk.tags (record { client = client; slot = slot }) - 1) None) (passed desk client ticket slot old)

abbrev pub passing : MadeDesk → ℕ → ℕ → ℕ → Pump → Pump
passing desk client ticket slots old = record old { seat = passed desk client ticket slots old }

-- the pump once a claim's slip is booked: the claim is held, or finished as refused with the fault and the buffer
abbrev pub submitted : Option Refusal → HeldClaim → Pump → Pump
submitted None claim old = record old { held = slice_set old.held (claim.tag - 1) (Some claim) }
submitted (Some refusal) claim old =
    record old { seat = finishing old.seat claim (Refused claim.ticket refusal.fault (handed_back refusal)) }

-- the pump once a claim's slip wasn't booked: the claim is given back unserved with its buffer, and so is every claim that was held
pub record GaveUpWith (claim : HeldClaim) (buffer : List ℕ) (old new : Pump) : Type 0 where
  pub ends : AreUnserved (finishing old.seat claim (Unserved claim.ticket buffer)) old.held new.seat
  pub none : AreNone new.held

-- a slip with this ticket can be claimed on a tag: of so many tags of each client it is this client's, and no claim of it is held
pub record Asks (tags client ticket tag : ℕ) (slip : Slip) (old : Pump) : Type 0 where
  pub own : IsTagOf tags client tag
  pub free : slice_index_or old.held (tag - 1) None ≡ None
  pub ask : IsAsk tags tag ticket slip

-- the claim of a client's ticket was given, and its slip taken out
pub record Given (desk : MadeDesk) (client ticket : ℕ) (claim : HeldClaim) (slip : Slip) (old : Pump) (new : Server) : Type 0 where
  pub is : claim ≡ emptied desk claim.tag ticket
  pub asks : Asks desk.tags client ticket claim.tag slip old
  pub served : IsServed desk old.seat claim.tag
  pub away : IsAway new claim.tag
  pub seat : new ≡ (claiming claim.tag old).seat

-- one slip of the client with this ticket was claimed, behind the tags below it, where it wasn't posted, and its step is booked
pub record TookIn (desk : MadeDesk) (client ticket : ℕ) (before after : BookedState) (old new : Pump) : Type 0 where
  pub tag : ℕ
  pub slip : Slip
  pub asks : Asks desk.tags client ticket tag slip old
  pub booked : after ≡ (booked_step before (asked client tag slip)).0
  pub pump : new ≡ submitted (booked_step before (asked client tag slip)).1.refused (emptied desk tag ticket)
      (claiming tag (passing desk client ticket (slot_of desk.tags tag) old))

-- one slip was booked; or nothing, as none of the client's tags had the ticket posted when it was looked at
abbrev pub TookInOrLeft : MadeDesk → ℕ → ℕ → BookedState → BookedState → Pump → Pump → Bool → Type 0
TookInOrLeft desk client ticket before after old new true = TookIn desk client ticket before after old new
TookInOrLeft desk client ticket before after old new false = (after ≡ before) × (new ≡ passing desk client ticket desk.tags old)

-- one slip of the client with this ticket was claimed, but couldn't be booked
pub record GaveUpIn (desk : MadeDesk) (client ticket : ℕ) (old new : Pump) : Type 0 where
  pub tag : ℕ
  pub slip : Slip
  pub asks : Asks desk.tags client ticket tag slip old
  pub ends : GaveUpWith (emptied desk tag ticket) (brought (asked client tag slip))
      (claiming tag (passing desk client ticket (slot_of desk.tags tag) old)) new

-- WHAT A PUMP BOOKS OF A CLIENT UNDER A GATE

-- a submission that the client, one of so many tags, posted with its next ticket is booked
pub record Entered (tags client : ℕ) (before after : BookedState) : Type 0 where
  pub tag : ℕ
  pub slip : Slip
  pub ask : IsAsk tags tag (turns_in client before.log.steps) slip
  pub booked : after ≡ (booked_step before (asked client tag slip)).0

abbrev pub EnteredOrLeft : ℕ → ℕ → BookedState → BookedState → Type 0
EnteredOrLeft tags client before after = (after ≡ before) ⊎ Entered tags client before after

-- the client's Take is booked, which was due and allowed; or nothing is, as it wasn't due or wasn't allowed
abbrev pub TakenOrLeft : (Step → Bool → Type 0) → ℕ → BookedState → BookedState → Bool → Type 0
TakenOrLeft says client before after true =
    (due before.bus (Take client) ≡ true) × says (Take client) true × (after ≡ (booked_step before (Take client)).0)
TakenOrLeft says client before after false = IsLeft says before.bus (Take client) × (after ≡ before)

-- what the client posted is booked, or nothing, and then its Take, where that is due and allowed
pub record Served (says : Step → Bool → Type 0) (tags client : ℕ) (before after : BookedState) : Type 0 where
  pub between : BookedState
  pub entered : EnteredOrLeft tags client before between
  pub took : Bool
  pub taken : TakenOrLeft says client between after took
