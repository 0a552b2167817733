-- Which TRBs a step carries out. Any other is foreign: it is stepped over, with an event of TRB Error.
use Rattle.std.specs.Prelude.{◌≡◌, ℕ, ◌/◌, ◌%◌, ◌<◌, ◌≤◌, List, length as list_length, Option, Some, None, IfSome}
use Rattle.xhci_trb.specs.declared.Trb.{Trb}
use Rattle.xhci_trb.specs.declared.Trb.TheVariants.{Normal, Link, StopEndpoint, SetDequeue, TransferEvent, CommandEvent}
use Rattle.uas_profile.specs.declared.TheConstants.{COMMAND_RING_PLACES}
use Rattle.uas_profile.specs.declared.Pipe.{Pipe}
use Rattle.uas_profile.specs.declared.Pipe.TheVariants.{Status, DataIn, DataOut}
use Rattle.stream_array.specs.Map.{HasRing, places_of}
use Rattle.stream_array.specs.Rings.{LinesState, ring_of}
use Rattle.frame_store.specs.declared.Place.{Place}
use Rattle.frame_store.specs.declared.TagBuffers.{TagBuffers}
use Rattle.frame_store.specs.Buffers.{Begins, IsNamed, start_of}
use Rattle.uas_iu.specs.declared.Iu.{Iu}
use Rattle.uas_iu.specs.Units.{unit_text}
use Rattle.uas_target.specs.declared.Phase.{Phase}
use Rattle.uas_target.specs.declared.Phase.TheVariants.{Absent, Gives, Takes, Ends}
use Rattle.uas_profile.specs.declared.TheConstants.{COMMAND_BYTES, MOST_EVENTS}
use Rattle.xhci_ctl.specs.declared.steps.OwnFront.{OwnFront}
use Rattle.xhci_ctl.specs.Pipes.{ControllerState}
use Rattle.xhci_ctl.specs.Steps.{armed_front, front_at}

-- Normal, without Evaluate Next TRB (ENT) and without Immediate Data (IDT), and all its bytes are bytes of one buffer. Foreign bytes are
-- no TRB.
abbrev pub IsOwn : List TagBuffers → Option Trb → Type 0
IsOwn frames (Some (Normal pointer length td_size flags)) =
    (flags.0 % 2 ≡ 0) × (flags.0 / 32 % 2 ≡ 0) × IsNamed frames pointer length
IsOwn frames (Some (Link pointer toggle chain ioc)) = ⊥
IsOwn frames (Some (StopEndpoint endpoint slot)) = ⊥
IsOwn frames (Some (SetDequeue pointer cycle stream endpoint slot)) = ⊥
IsOwn frames (Some (TransferEvent pointer residual code endpoint slot)) = ⊥
IsOwn frames (Some (CommandEvent pointer code slot)) = ⊥
IsOwn frames None = ⊥

-- the bytes of a TRB begin at this place, and all are bytes of its buffer
abbrev pub StartsAt : List TagBuffers → Option Trb → Place → Type 0
StartsAt frames (Some (Normal pointer length td_size flags)) start = (start ≡ start_of pointer length) × Begins frames start length
StartsAt frames (Some (Link pointer toggle chain ioc)) start = ⊥
StartsAt frames (Some (StopEndpoint endpoint slot)) start = ⊥
StartsAt frames (Some (SetDequeue pointer cycle stream endpoint slot)) start = ⊥
StartsAt frames (Some (TransferEvent pointer residual code endpoint slot)) start = ⊥
StartsAt frames (Some (CommandEvent pointer code slot)) start = ⊥
StartsAt frames None start = ⊥

-- how many bytes a TRB names
abbrev pub length_of : Option Trb → ℕ
length_of (Some (Normal pointer length td_size flags)) = length
length_of (Some (Link pointer toggle chain ioc)) = 0
length_of (Some (StopEndpoint endpoint slot)) = 0
length_of (Some (SetDequeue pointer cycle stream endpoint slot)) = 0
length_of (Some (TransferEvent pointer residual code endpoint slot)) = 0
length_of (Some (CommandEvent pointer code slot)) = 0
length_of None = 0

-- of the command pipe: at most a Command unit
abbrev pub IsOwnCommand : List TagBuffers → Option Trb → Type 0
IsOwnCommand frames trb = IsOwn frames trb × (length_of trb ≤ COMMAND_BYTES)

-- of a data stream: as many bytes as the device's next chunk
abbrev pub IsOwnData : List TagBuffers → ℕ → Option Trb → Type 0
IsOwnData frames size trb = IsOwn frames trb × (length_of trb ≡ size)

-- of a status stream: at least the bytes of the device's unit
abbrev pub IsOwnStatus : List TagBuffers → Iu → Option Trb → Type 0
IsOwnStatus frames unit trb = IsOwn frames trb × (list_length (unit_text unit) ≤ length_of trb)

-- Of a data-in stream: as many bytes as the device's next chunk, while it gives one.
abbrev pub IsOwnIn : List TagBuffers → Phase → Option Trb → Type 0
IsOwnIn frames Absent trb = IsOwn frames trb
IsOwnIn frames (Gives size) trb = IsOwnData frames size trb
IsOwnIn frames (Takes size) trb = IsOwn frames trb
IsOwnIn frames Ends trb = IsOwn frames trb

-- Of a data-out stream: as many bytes as the device's next chunk, while it takes one.
abbrev pub IsOwnOut : List TagBuffers → Phase → Option Trb → Type 0
IsOwnOut frames Absent trb = IsOwn frames trb
IsOwnOut frames (Gives size) trb = IsOwn frames trb
IsOwnOut frames (Takes size) trb = IsOwnData frames size trb
IsOwnOut frames Ends trb = IsOwn frames trb

-- Of a status stream: at least the bytes of the device's unit, while it has one to send.
abbrev pub IsOwnAnswer : List TagBuffers → Phase → Option Iu → Option Trb → Type 0
IsOwnAnswer frames Absent answer trb = IsOwn frames trb
IsOwnAnswer frames (Gives size) answer trb = IsOwn frames trb
IsOwnAnswer frames (Takes size) answer trb = IsOwn frames trb
IsOwnAnswer frames Ends None trb = IsOwn frames trb
IsOwnAnswer frames Ends (Some unit) trb = IsOwnStatus frames unit trb

-- the TRB in front of the command pipe's ring, if there is one
abbrev pub IsOwnCommandFront : LinesState → List TagBuffers → Type 0
IsOwnCommandFront lines frames = IfSome (front_at COMMAND_RING_PLACES lines.command) (λ front. IsOwnCommand frames front.1)

-- the TRBs in front of a tag's data streams that a step may take, by what the device does next on the tag
pub record IsOwnDataFront (controller : ControllerState) (lines : LinesState) (frames : List TagBuffers) (tag : ℕ) (phase : Phase) : Type 0 where
  pub data_in : IfSome (armed_front controller lines DataIn tag) (λ front. IsOwnIn frames phase front.1)
  pub data_out : IfSome (armed_front controller lines DataOut tag) (λ front. IsOwnOut frames phase front.1)

-- the TRB in front of a tag's status stream that a step may take, by what the device does next on the tag and its unit
abbrev pub IsOwnStatusFront : ControllerState → LinesState → List TagBuffers → ℕ → Phase → Option Iu → Type 0
IsOwnStatusFront controller lines frames tag phase answer =
    IfSome (armed_front controller lines Status tag) (λ front. IsOwnAnswer frames phase answer front.1)

-- this item stands in front of a ring that is there, and the event ring has room
pub record IsTakeable (lines : LinesState) (pipe : Pipe) (stream : ℕ) (at : ℕ × Option Trb) : Type 0 where
  pub ring : HasRing pipe stream
  pub front : front_at (places_of pipe) (ring_of lines pipe stream) ≡ Some at
  pub pending : (ring_of lines pipe stream).got < list_length (ring_of lines pipe stream).put
  pub room : list_length lines.events.pending < MOST_EVENTS

-- what is in front of a ring, of a TRB that is carried out
abbrev pub front_of : OwnFront → ℕ × Option Trb
front_of own = (own.address, own.trb)
