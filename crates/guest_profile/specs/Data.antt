-- Steps of both controllers at a data TRB: a chunk moves between device and buffer.
use Rattle.std.specs.Prelude.{◌≡◌, ℕ, ◌≤◌, ◌<◌, true, false, not, List, [], length as list_length, Some, slice_get}
use Rattle.uas_profile.specs.declared.Pipe.TheVariants.{DataIn, DataOut}
use Rattle.uas_profile.specs.declared.TheConstants.{DATA_IN_ENDPOINT, DATA_OUT_ENDPOINT, STREAMS, STREAM_RING_PLACES}
use Rattle.xhci_trb.specs.declared.Trb.TheVariants.{Normal}
use Rattle.xhci_trb.specs.declared.TrbFlags.{TrbFlags}
use Rattle.cycle_ring.specs.Items.{ItemRing, known}
use Rattle.stream_array.specs.Rings.{stream_ring}
use Rattle.uas_target.specs.declared.Phase.TheVariants.{Gives, Takes}
use Rattle.uas_target.specs.Device.{Device, fits, given, wanted}
use Rattle.xhci_ctl.specs.Own.{IsOwnData}
use Rattle.xhci_ctl.specs.Pipes.{ControllerState, is_armed}
use Rattle.xhci_ctl.specs.Steps.{Sides, moved}
use Rattle.guest_pipes.specs.declared.acted.Acted.TheVariants.{Worked}
use Rattle.guest_pipes.specs.declared.consumer.EndpointState.TheVariants.{Running}
use Rattle.guest_pipes.specs.declared.progress.Ending.TheVariants.{Runs}
use Rattle.guest_pipes.specs.Pipe.{PipeState, progress_on, rung_on}
use Rattle.guest_profile.specs.target.Targets.{target_kind}
use Rattle.guest_transfers.specs.State.{TransfersState, TransfersWorld, slot_of}
use Rattle.guest_transfers.specs.Orders.{data_stepped}
use Rattle.guest_profile.specs.Rings.{flags_of}
use Rattle.guest_profile.specs.Layout.{IsAtItem, IsAtLink, IsLayout, Layout, kept_at}
use Rattle.guest_profile.specs.Ready.{HasRoom}
use Rattle.guest_profile.specs.Steps.{Mirrors}

-- A stream of a data pipe between two TRBs: its endpoint runs, its doorbell is rung, nothing was moved of the TRB in front, and the bytes
-- of its TD move.
pub record IsBetween (p : PipeState) (array endpoint tag : ℕ) : Type 0 where
  pub array_is : p.array ≡ array
  pub endpoint_is : p.endpoint ≡ endpoint
  pub state : p.state ≡ Running
  pub rung : rung_on p tag ≡ true
  pub moved : (progress_on p tag).moved ≡ 0
  pub ending : (progress_on p tag).ending ≡ Runs
  pub kept : tag < list_length p.progress

-- A data TRB of the host's stands in front: the last one of its TD asks for its event, and no other one does.
-- Worked: flags 8, CH, and of the last one 16, IOC.
pub record IsDataInFront (ring : ItemRing) (pointer length td_size : ℕ) (flags : TrbFlags) : Type 0 where
  pub front : slice_get ring.put ring.got ≡ Some (known (Normal pointer length td_size flags))
  pub told : (flags_of flags).ioc ≡ not (flags_of flags).chain

-- DATA-IN

-- nothing is left of a chunk, and none is dropped
pub record IsInReady (layout : Layout) (t : TransfersState) (tag : ℕ) : Type 0 where
  pub pipe : IsBetween t.data_in layout.data_in DATA_IN_ENDPOINT tag
  pub chunk : (slot_of t tag).tag.chunk ≡ []
  pub drops : (slot_of t tag).tag.drops ≡ false
  pub kept : tag < list_length t.tags

-- The device gives a chunk of so many bytes, and a TRB of as many stands in front of an armed stream.
-- Worked: READ (10) of block 0 of unit 0 under tag 1 began, and wants Gives 512. Tag 1's window of 512 bytes is lent, at 100010000h. At
-- 43001000h is 00 00 01 00 01 00 00 00, 00 02 00 00, 21 04 00 00, and at 3010h, stream 1 of an array at 3000h, 03 10 00 43 and twelve
-- zeros. Data-in runs and its doorbell 1 is rung on both sides.
pub record HasChunkIn (layout : Layout) (controller : ControllerState) (sides : Sides) (w : TransfersWorld Device) (tag size pointer td_size : ℕ) (flags : TrbFlags) : Type 0 where
  pub mirrors : Mirrors layout sides w
  pub ready : IsInReady layout w.transfers tag
  pub first_tag : 0 < tag
  pub last_tag : tag ≤ STREAMS
  pub item : IsAtItem STREAM_RING_PLACES (stream_ring sides.lines.data_in tag) (kept_at layout DataIn tag) w.memory
  pub room : HasRoom sides.lines
  pub td : IsDataInFront (stream_ring sides.lines.data_in tag) pointer size td_size flags
  pub armed : is_armed controller sides.lines DataIn tag ≡ true
  pub gives : wanted sides.device tag ≡ Gives size
  pub some : 0 < size
  pub whole : (bytes : List ℕ) → given sides.device tag ≡ Some bytes → list_length bytes ≡ size
  pub own : IsOwnData sides.frames size (Some (Normal pointer size td_size flags))

-- the chunk goes into the TRB's buffer, or the device meets a bad block; both do the same, and the stream is ready again
pub record MovesIn (layout : Layout) (controller : ControllerState) (sides : Sides) (w : TransfersWorld Device) (tag : ℕ) : Type 0 where
  pub mirrors : Mirrors layout (moved controller sides tag).0 (data_stepped target_kind w tag).0
  pub acted : (data_stepped target_kind w tag).1 ≡ Some Worked
  pub ready : IsInReady layout (data_stepped target_kind w tag).0.transfers tag

abbrev pub ChunksAreGiven : Type 0
ChunksAreGiven =
    (layout : Layout) (controller : ControllerState) (sides : Sides) (w : TransfersWorld Device) (tag size pointer td_size : ℕ) (flags : TrbFlags) → IsLayout layout
    → HasChunkIn layout controller sides w tag size pointer td_size flags → MovesIn layout controller sides w tag

-- DATA-OUT

-- nothing is gathered for a chunk, and the tag's data-in stream isn't rung
pub record IsOutReady (layout : Layout) (t : TransfersState) (tag : ℕ) : Type 0 where
  pub pipe : IsBetween t.data_out layout.data_out DATA_OUT_ENDPOINT tag
  pub taken : (slot_of t tag).taken ≡ []
  pub kept : tag < list_length t.tags
  pub other : rung_on t.data_in tag ≡ false

-- The device takes a chunk of so many bytes, and a TRB of as many stands in front of an armed stream.
-- Worked: WRITE (10) of one block under tag 1 began, and wants Takes 512: the same TRB at 44001000h, and at 4010h 03 10 00 44 and twelve
-- zeros. Data-out runs and its doorbell 1 is rung; doorbell 1 of data-in isn't.
pub record HasChunkOut (layout : Layout) (controller : ControllerState) (sides : Sides) (w : TransfersWorld Device) (tag size pointer td_size : ℕ) (flags : TrbFlags) : Type 0 where
  pub mirrors : Mirrors layout sides w
  pub ready : IsOutReady layout w.transfers tag
  pub first_tag : 0 < tag
  pub last_tag : tag ≤ STREAMS
  pub item : IsAtItem STREAM_RING_PLACES (stream_ring sides.lines.data_out tag) (kept_at layout DataOut tag) w.memory
  pub room : HasRoom sides.lines
  pub td : IsDataInFront (stream_ring sides.lines.data_out tag) pointer size td_size flags
  pub armed : is_armed controller sides.lines DataOut tag ≡ true
  pub takes : wanted sides.device tag ≡ Takes size
  pub some : 0 < size
  pub own : IsOwnData sides.frames size (Some (Normal pointer size td_size flags))

-- the chunk goes from the TRB's buffer to the device, which may meet a bad block; where it takes the chunk the stream is ready again
pub record MovesOut (layout : Layout) (controller : ControllerState) (sides : Sides) (w : TransfersWorld Device) (tag : ℕ) : Type 0 where
  pub mirrors : Mirrors layout (moved controller sides tag).0 (data_stepped target_kind w tag).0
  pub acted : (data_stepped target_kind w tag).1 ≡ Some Worked
  pub ready : fits sides.device tag ≡ true → IsOutReady layout (data_stepped target_kind w tag).0.transfers tag

abbrev pub ChunksAreTaken : Type 0
ChunksAreTaken =
    (layout : Layout) (controller : ControllerState) (sides : Sides) (w : TransfersWorld Device) (tag size pointer td_size : ℕ) (flags : TrbFlags) → IsLayout layout
    → HasChunkOut layout controller sides w tag size pointer td_size flags → MovesOut layout controller sides w tag

-- LINKS AND DOORBELLS

-- A step at the Link before the item, for a tag whose data-in stream is rung: the same rings, and the end at the item. The profile's
-- rings, buffers and device stay.
pub record FollowsInLink (layout : Layout) (sides : Sides) (w : TransfersWorld Device) (tag : ℕ) : Type 0 where
  pub mirrors : Mirrors layout sides (data_stepped target_kind w tag).0
  pub acted : (data_stepped target_kind w tag).1 ≡ Some Worked
  pub item : IsAtItem STREAM_RING_PLACES (stream_ring sides.lines.data_in tag) (kept_at layout DataIn tag) (data_stepped target_kind w tag).0.memory
  pub pipes : (data_stepped target_kind w tag).0.transfers ≡ w.transfers

abbrev pub InLinksAreFollowed : Type 0
InLinksAreFollowed =
    (layout : Layout) (sides : Sides) (w : TransfersWorld Device) (tag : ℕ) → IsLayout layout → Mirrors layout sides w → IsInReady layout w.transfers tag
    → 0 < tag → tag ≤ STREAMS → IsAtLink STREAM_RING_PLACES (stream_ring sides.lines.data_in tag) (kept_at layout DataIn tag) w.memory → HasRoom sides.lines
    → FollowsInLink layout sides w tag

-- the same of data-out
pub record FollowsOutLink (layout : Layout) (sides : Sides) (w : TransfersWorld Device) (tag : ℕ) : Type 0 where
  pub mirrors : Mirrors layout sides (data_stepped target_kind w tag).0
  pub acted : (data_stepped target_kind w tag).1 ≡ Some Worked
  pub item : IsAtItem STREAM_RING_PLACES (stream_ring sides.lines.data_out tag) (kept_at layout DataOut tag) (data_stepped target_kind w tag).0.memory
  pub pipes : (data_stepped target_kind w tag).0.transfers ≡ w.transfers

abbrev pub OutLinksAreFollowed : Type 0
OutLinksAreFollowed =
    (layout : Layout) (sides : Sides) (w : TransfersWorld Device) (tag : ℕ) → IsLayout layout → Mirrors layout sides w → IsOutReady layout w.transfers tag
    → (slot_of w.transfers tag).tag.drops ≡ false → 0 < tag → tag ≤ STREAMS
    → IsAtLink STREAM_RING_PLACES (stream_ring sides.lines.data_out tag) (kept_at layout DataOut tag) w.memory → HasRoom sides.lines
    → FollowsOutLink layout sides w tag
