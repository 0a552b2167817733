-- What one place has, what the four places of a tag have, and what becomes of them.
use Rattle.std.specs.Prelude.{ℕ, ◌+◌, ◌-◌, min, nat_le, ◌==◌, Bool, true, false, ◌&&◌, if◌then◌else◌, List, [], ◌++◌, length, drop, Option, None, Some}
use Rattle.std.specs.Option.{option_map_or}
use Rattle.std.specs.Str.{bytes_eq}
use Rattle.uas_profile.specs.declared.Pipe.{Pipe}
use Rattle.uas_profile.specs.declared.Pipe.TheVariants.{Command, Status, DataIn, DataOut}
use Rattle.usbredir.specs.declared.kinds.Status as answer
use Rattle.usbredir.specs.declared.kinds.Status.TheVariants.{Success}
use Rattle.usb_places.specs.declared.Transfer.{Transfer}
use Rattle.usb_places.specs.declared.Kept.{Kept}
use Rattle.usb_places.specs.declared.PlaceState.{PlaceState}
use Rattle.usb_places.specs.declared.PlaceState.TheVariants.{Empty, Holds, Keeps}
use Rattle.usb_places.specs.declared.TheConstants.{MOST_COMMAND_BYTES, MOST_TRANSFER_BYTES}

-- ONE PLACE

-- the transfer that it holds
abbrev pub transfer_in : PlaceState → Option Transfer
transfer_in Empty = None
transfer_in (Holds transfer) = Some transfer
transfer_in (Keeps kept) = None

-- the answer that it keeps
abbrev pub kept_in : PlaceState → Option Kept
kept_in Empty = None
kept_in (Holds transfer) = None
kept_in (Keeps kept) = Some kept

-- an answer that isn't lost
abbrev pub new_kept : Transfer → answer.Status → ℕ → Kept
new_kept transfer status moved = record { transfer = transfer; status = status; moved = moved; lost = false }

-- the transfer that it holds is answered
abbrev pub answered_state : answer.Status → ℕ → PlaceState → PlaceState
answered_state status moved Empty = Empty
answered_state status moved (Holds transfer) = Keeps (new_kept transfer status moved)
answered_state status moved (Keeps kept) = Keeps kept

-- it keeps no answer
abbrev pub forgotten_state : PlaceState → PlaceState
forgotten_state Empty = Empty
forgotten_state (Holds transfer) = Holds transfer
forgotten_state (Keeps kept) = Empty

-- its answer isn't lost
abbrev pub told_state : PlaceState → PlaceState
told_state Empty = Empty
told_state (Holds transfer) = Holds transfer
told_state (Keeps kept) = Keeps (record kept { lost = false })

-- its answer is lost where it is one under this id
abbrev pub lost_state : ℕ → PlaceState → PlaceState
lost_state id Empty = Empty
lost_state id (Holds transfer) = Holds transfer
lost_state id (Keeps kept) = Keeps (if kept.transfer.id == id then record kept { lost = true } else kept)

-- it holds a transfer of this id
abbrev pub holds : ℕ → PlaceState → Bool
holds id Empty = false
holds id (Holds transfer) = transfer.id == id
holds id (Keeps kept) = false

abbrev pub same_transfer : Transfer → Transfer → Bool
same_transfer one other = (one.id == other.id) && (one.length == other.length)

-- an answer that is lost, if it answers just this transfer
abbrev pub lost_kept : Transfer → Kept → Option Kept
lost_kept transfer kept = if kept.lost && same_transfer kept.transfer transfer then Some kept else None

abbrev pub lost_in : Transfer → PlaceState → Option Kept
lost_in transfer Empty = None
lost_in transfer (Holds held) = None
lost_in transfer (Keeps kept) = lost_kept transfer kept

-- THE PLACES OF A TAG

-- The four places, and their bytes: the unit whose answer the command place keeps, the unit that the kept status told, the bytes given so
-- far into the held data-in or with the kept one, and the bytes that came with the held data-out, of which the device used so many. Both
-- together are at most 524,288.
pub record TagState : Type 0 where
  pub command : PlaceState
  pub command_unit : List ℕ
  pub status : PlaceState
  pub unit : List ℕ
  pub data_in : PlaceState
  pub given : List ℕ
  pub data_out : PlaceState
  pub out : List ℕ
  pub used : ℕ

-- nothing held, nothing kept
abbrev pub fresh_tag : TagState
fresh_tag = record {
  command = Empty;
  command_unit = [];
  status = Empty;
  unit = [];
  data_in = Empty;
  given = [];
  data_out = Empty;
  out = [];
  used = 0;
}

abbrev pub state_at : Pipe → TagState → PlaceState
state_at Command tag = tag.command
state_at Status tag = tag.status
state_at DataIn tag = tag.data_in
state_at DataOut tag = tag.data_out

abbrev pub with_state : Pipe → PlaceState → TagState → TagState
with_state Command state tag = record tag { command = state }
with_state Status state tag = record tag { status = state }
with_state DataIn state tag = record tag { data_in = state }
with_state DataOut state tag = record tag { data_out = state }

-- the transfer held there; the command pipe holds none
abbrev pub held_in : Pipe → TagState → Option Transfer
held_in Command tag = None
held_in Status tag = transfer_in tag.status
held_in DataIn tag = transfer_in tag.data_in
held_in DataOut tag = transfer_in tag.data_out

-- a transfer is held there now, and what was kept there is forgotten; a data-in has no bytes yet, and of a data-out's none are used. A
-- data-out takes the room of a data-in that is kept, which is forgotten.
abbrev pub holding_tag : Pipe → Transfer → List ℕ → TagState → TagState
holding_tag Command transfer bytes tag = tag
holding_tag Status transfer bytes tag = record tag { status = Holds transfer }
holding_tag DataIn transfer bytes tag = record tag { data_in = Holds transfer; given = [] }
holding_tag DataOut transfer bytes tag = record tag {
  data_in = forgotten_state tag.data_in;
  given = [];
  data_out = Holds transfer;
  out = bytes;
  used = 0;
}

-- The transfer held there is answered. A status is kept with the unit that it told; the bytes of a data-out are gone.
abbrev pub unit_after : PlaceState → List ℕ → List ℕ → List ℕ
unit_after Empty was unit = was
unit_after (Holds transfer) was unit = unit
unit_after (Keeps kept) was unit = was

abbrev pub ended_tag : Pipe → answer.Status → ℕ → List ℕ → TagState → TagState
ended_tag Command status moved unit tag = tag
ended_tag Status status moved unit tag =
    record tag { status = answered_state status moved tag.status; unit = unit_after tag.status tag.unit unit }
ended_tag DataIn status moved unit tag = record tag { data_in = answered_state status moved tag.data_in }
ended_tag DataOut status moved unit tag = record tag { data_out = answered_state status moved tag.data_out; out = []; used = 0 }

-- no answer is kept there
abbrev pub come_tag : Pipe → TagState → TagState
come_tag pipe tag = with_state pipe (forgotten_state (state_at pipe tag)) tag

-- the answer kept there isn't lost
abbrev pub told_tag : Pipe → TagState → TagState
told_tag pipe tag = with_state pipe (told_state (state_at pipe tag)) tag

-- of the command pipe this answer is kept, if the unit isn't too long, else none
abbrev pub command_kept_tag : Transfer → ℕ → List ℕ → TagState → TagState
command_kept_tag transfer moved bytes tag =
    if nat_le (length bytes) MOST_COMMAND_BYTES
    then record tag { command = Keeps (new_kept transfer Success moved); command_unit = bytes }
    else record tag { command = Empty; command_unit = [] }

-- the command place's answer, if it is lost and answers just this transfer and these bytes
abbrev pub lost_command_in : Transfer → List ℕ → TagState → Option Kept
lost_command_in transfer bytes tag = if bytes_eq tag.command_unit bytes then lost_in transfer tag.command else None

-- no answer is kept of the tag
abbrev pub forgotten_tag : TagState → TagState
forgotten_tag tag = record tag {
  command = forgotten_state tag.command;
  status = forgotten_state tag.status;
  data_in = forgotten_state tag.data_in;
  data_out = forgotten_state tag.data_out;
}

-- each answer kept under this id is lost
abbrev pub lost_tag : ℕ → TagState → TagState
lost_tag id tag = record tag {
  command = lost_state id tag.command;
  status = lost_state id tag.status;
  data_in = lost_state id tag.data_in;
  data_out = lost_state id tag.data_out;
}

-- how many bytes the held data-in still takes: those of a held data-out leave it the less room
abbrev pub room_in : TagState → ℕ
room_in tag = option_map_or (λ transfer. min transfer.length (MOST_TRANSFER_BYTES - length tag.out) - length tag.given) (transfer_in tag.data_in) 0

-- it has all its bytes
abbrev pub is_full_in : TagState → Bool
is_full_in tag = option_map_or (λ transfer. nat_le (min transfer.length MOST_TRANSFER_BYTES) (length tag.given)) (transfer_in tag.data_in) false

-- these bytes more are given into it
abbrev pub appended_tag : List ℕ → TagState → TagState
appended_tag bytes tag = record tag { given = tag.given ++ bytes }

-- the bytes of the data-out that the device hasn't used
abbrev pub left_in : TagState → List ℕ
left_in tag = drop tag.used tag.out

-- so many more are used
abbrev pub used_up_tag : ℕ → TagState → TagState
used_up_tag count tag = record tag { used = tag.used + count }

-- the first place that holds a transfer of this id: status, then data-in, then data-out
abbrev pub holder_in : ℕ → TagState → Option Pipe
holder_in id tag =
    if holds id tag.status then Some Status
    else (if holds id tag.data_in then Some DataIn
    else (if holds id tag.data_out then Some DataOut else None))

-- nothing is held or kept there
abbrev pub emptied_tag : Pipe → TagState → TagState
emptied_tag Command tag = record tag { command = Empty }
emptied_tag Status tag = record tag { status = Empty }
emptied_tag DataIn tag = record tag { data_in = Empty }
emptied_tag DataOut tag = record tag { data_out = Empty; out = []; used = 0 }
