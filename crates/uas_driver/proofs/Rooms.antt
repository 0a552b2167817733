-- The room that the driver tests is the room that the host asks for.
use Rattle.std.proofs.Common.{◌≡◌, ℕ, ◌+◌, ◌*◌, ◌-◌, ◌≤◌, ◌==◌, ◌&&◌, Bool, true, false, not, nat_lt, nat_le, List, length, Option, Some, None, is_none, is_some, refl, arith, inl, inr, sym}
use Rattle.std.specs.Prelude.{if◌then◌else◌}
use Rattle.std.proofs.lemmas.Bool.{and_from, and_parts, cases_Bool, le-leb, leb-true, lt-ltb, ltb-false}
use Rattle.std.proofs.lemmas.Option.{none-some, option_and_then_some}
use Rattle.frame_store.specs.declared.TagBuffers.{TagBuffers}
use Rattle.frame_store.specs.Buffers.{held_for}
use Rattle.scsi_cmd.specs.declared.Command.{Command}
use Rattle.scsi_cmd.specs.declared.Op.{Op}
use Rattle.scsi_cmd.specs.declared.Op.TheVariants.{TestUnitReady, Inquiry, ReadCapacity, Read, Write, Sync, Read16, Write16, ReadCapacity16}
use Rattle.scsi_cmd.specs.declared.SubmitFault.TheVariants.{NotYours, InUse, BadLength, TooLong, OutOfTurn}
use Rattle.scsi_cmd.specs.declared.Task.{Task}
use Rattle.scsi_cmd.specs.Held.{held_at}
use Rattle.scsi_cmd.specs.Op.{direction_of, moved_bytes}
use Rattle.scsi_cmd.specs.Submission.{is_too_long}
use Rattle.stream_array.specs.Contexts.{has_stream}
use Rattle.stream_array.specs.Map.{places_of}
use Rattle.stream_array.specs.Rings.{LinesState, ring_of}
use Rattle.uas_profile.specs.declared.Direction.{Direction}
use Rattle.uas_profile.specs.declared.Direction.TheVariants.{Nothing, ToHost, ToDevice}
use Rattle.uas_profile.specs.declared.Pipe.{Pipe}
use Rattle.uas_profile.specs.declared.Pipe.TheVariants.{Command as CommandPipe, Status, DataIn, DataOut}
use Rattle.uas_profile.specs.declared.TheConstants.{MOST_DATA_TRBS, STREAMS, WINDOW_BYTES}
use Rattle.uas_profile.specs.Tags.{command_slot, own_slot, place_of}
use Rattle.uas_profile.proofs.TagLaws.{named-is_place, tags-within}
use Rattle.uas_host.specs.declared.HostClient.{HostClient}
use Rattle.uas_host.specs.State.{HostState, IsHost, client_of}
use Rattle.uas_host.specs.Submit.{HasRoomFor, fault_at, host_fault}
use Rattle.uas_host.specs.Tasks.{task_fault, task_tag}
use Rattle.uas_host.specs.Tds.{HasDataRoom, HasRoom, HasTaskRoom, data_trb_count}
use Rattle.uas_driver.specs.Room.{has_data_room, has_room, has_task_room, lacks_room, lacks_task_room, ring_has}

-- TESTS

ring_has-is : (lines : LinesState) (pipe : Pipe) (stream count : ℕ) → ring_has lines pipe stream count ≡ true → HasRoom lines pipe stream count
ring_has-is lines pipe stream count is = leb-true (length (ring_of lines pipe stream).put + count) (places_of pipe - 2) is

has_task_room-is : (lines : LinesState) (tag : ℕ) → has_task_room lines tag ≡ true → HasTaskRoom lines tag
has_task_room-is lines tag is =
    let parts = and_parts (ring_has lines Status tag 1) (ring_has lines CommandPipe 0 1) is in
    record { on_status = ring_has-is lines Status tag 1 parts.0; on_command = ring_has-is lines CommandPipe 0 1 parts.1 }

-- 65,536 bytes take 16 TRBs
few-trbs : (bytes : ℕ) → bytes ≤ WINDOW_BYTES → data_trb_count bytes ≤ MOST_DATA_TRBS
few-trbs bytes most = omega (arith, most)

has_data_room-is : (lines : LinesState) (way : Direction) (tag bytes : ℕ) → bytes ≤ WINDOW_BYTES → has_data_room lines tag ≡ true
    → HasDataRoom lines way tag bytes
has_data_room-is lines Nothing tag bytes most is = tt
has_data_room-is lines ToHost tag bytes most is =
    let parts = and_parts (ring_has lines DataIn tag MOST_DATA_TRBS) (ring_has lines DataOut tag MOST_DATA_TRBS) is in
    omega (arith, ring_has-is lines DataIn tag MOST_DATA_TRBS parts.0, few-trbs bytes most)
has_data_room-is lines ToDevice tag bytes most is =
    let parts = and_parts (ring_has lines DataIn tag MOST_DATA_TRBS) (ring_has lines DataOut tag MOST_DATA_TRBS) is in
    omega (arith, ring_has-is lines DataOut tag MOST_DATA_TRBS parts.1, few-trbs bytes most)

none-is : {A : Type 0} (option : Option A) → is_none option ≡ true → option ≡ None
none-is None is = refl
none-is (Some value) is = absurd (cc)

-- where something that is there doesn't lack, it has
has-not_lacks : (there has : Bool) → (there && not has) ≡ false → there ≡ true → has ≡ true
has-not_lacks true true lacks is = refl
has-not_lacks true false lacks is = absurd (cc)
has-not_lacks false has lacks is = absurd (cc)

has_room-is : (lines : LinesState) (frames : List TagBuffers) (tag : ℕ) (op : Op) → moved_bytes op ≤ WINDOW_BYTES
    → has_room lines frames tag ≡ true → HasRoomFor lines frames tag op
has_room-is lines frames tag op most is =
    let outer = and_parts (has_task_room lines tag) (has_data_room lines tag && is_none (held_for frames tag).lent) is in
    let inner = and_parts (has_data_room lines tag) (is_none (held_for frames tag).lent) outer.1 in
    let small = has_task_room-is lines tag outer.0 in
    record {
      tds = record {
        on_data = has_data_room-is lines (direction_of op) tag (moved_bytes op) most inner.0;
        on_status = small.on_status;
        on_command = small.on_command;
      };
      window = none-is (held_for frames tag).lent inner.1;
    }

-- A SUBMISSION WITHOUT A FAULT

-- what isn't too long moves at most 128 blocks
short : (op : Op) → is_too_long op ≡ false → moved_bytes op ≤ WINDOW_BYTES
short TestUnitReady is = omega arith
short (Inquiry allocation) is = omega arith
short ReadCapacity is = omega arith
short (Read lba count fua) is = omega (arith, ltb-false _ _ is)
short (Write lba count fua) is = omega (arith, ltb-false _ _ is)
short (Sync lba count) is = omega arith
short (Read16 lba count fua) is = omega (arith, ltb-false _ _ is)
short (Write16 lba count fua) is = omega (arith, ltb-false _ _ is)
short (ReadCapacity16 allocation) is = omega arith

-- one that is has a fault
not_long : (in_use misfits long late : Bool) (least : ℕ)
    → (if in_use then Some InUse else (if misfits then Some BadLength else (if long then Some TooLong else (if late then Some (OutOfTurn least) else None)))) ≡ None
    → long ≡ false
not_long true misfits long late least none = absurd (none-some InUse (sym none))
not_long false true long late least none = absurd (none-some BadLength (sym none))
not_long false false true late least none = absurd (none-some TooLong (sym none))
not_long false false false late least none = refl

-- a submission has a tag of a client that is there, which has rings, and moves at most 65,536 bytes
pub record IsFaultless (tag : ℕ) (op : Op) : Type 0 where
  pub stream : has_stream tag ≡ true
  pub most : moved_bytes op ≤ WINDOW_BYTES

own-stream : (host : HostState) (client tag slot : ℕ) → IsHost host → command_slot host.tags (length host.clients) client tag ≡ Some slot →
    has_stream tag ≡ true
own-stream host client tag slot sound is =
    option_and_then_some (own_slot host.tags client) (place_of host.tags (length host.clients) tag) slot is (λ place at own_at.
    let named = named-is_place host.tags (length host.clients) tag place (omega (arith, sound.number.least)) at in
    let within = tags-within host.tags (length host.clients) place named.client named.slot in
    let turned : host.tags * length host.clients ≡ length host.clients * host.tags = omega arith in
    and_from (nat_lt 0 tag) (nat_le tag STREAMS) (lt-ltb 0 tag (omega (arith, named.is)))
    (le-leb tag STREAMS (omega (arith, named.is, within.1, turned, sound.streams))))

slot-faultless : (host : HostState) (held : HostClient) (client tag ticket : ℕ) (command : Command) (slot : Option ℕ) → IsHost host
    → command_slot host.tags (length host.clients) client tag ≡ slot → fault_at held ticket command slot ≡ None → IsFaultless tag command.op
slot-faultless host held client tag ticket command None sound is none = absurd (none-some NotYours (sym none))
slot-faultless host held client tag ticket command (Some slot) sound is none = record {
  stream = own-stream host client tag slot sound is;
  most = short command.op (not_long (is_some (held_at held.entries slot)) (not (length command.buffer == moved_bytes command.op))
      (is_too_long command.op) (nat_lt ticket held.least_ticket) held.least_ticket none);
}

-- the room that the host asks for where it finds no fault
pub room-for : (host : HostState) (lines : LinesState) (frames : List TagBuffers) (client tag ticket : ℕ) (command : Command) → IsHost host
    → lacks_room lines frames tag ≡ false → host_fault host client tag ticket command ≡ None → HasRoomFor lines frames tag command.op
room-for host lines frames client tag ticket command sound lacks none =
    let faultless = slot-faultless host (client_of host client) client tag ticket command
    (command_slot host.tags (length host.clients) client tag) sound refl none in
    has_room-is lines frames tag command.op faultless.most
    (has-not_lacks (has_stream tag) (has_room lines frames tag) lacks faultless.stream)

pub task-room-for : (host : HostState) (lines : LinesState) (client ticket : ℕ) (task : Task) → lacks_task_room host lines client ≡ false
    → task_fault host client ticket task ≡ None → HasTaskRoom lines (task_tag host.tags client)
task-room-for host lines client ticket task lacks none =
    elim (cases_Bool (nat_lt client (length host.clients))) as (λ _. HasTaskRoom lines (task_tag host.tags client)) [
      | inl there ↦
          has_task_room-is lines (task_tag host.tags client)
          (has-not_lacks (nat_lt client (length host.clients)) (has_task_room lines (task_tag host.tags client)) lacks there)
      | inr other ↦ absurd (none-some NotYours (sym (rw other at none)))
    ]
