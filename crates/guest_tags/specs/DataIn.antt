-- A step of the data-in pipe for a tag: one equation over memory, event ring, consumer, tag and device.
use Rattle.std.specs.Prelude.{ℕ, ◌+◌, ◌-◌, min, ◌==◌, nat_le, Bool, true, false, not, ◌&&◌, ◌||◌, if◌then◌else◌, [], length as list_length, take, drop, Option, option_map, unwrap_or}
use Rattle.guest_memory.specs.Bytes.{is_there}
use Rattle.guest_memory.specs.declared.rings.context.Home.{Home}
use Rattle.guest_memory.specs.declared.rings.context.Front.{Front}
use Rattle.guest_memory.specs.declared.rings.context.Found.{Found}
use Rattle.guest_memory.specs.declared.rings.context.Found.TheVariants.{WrongKind, NotYet, Item}
use Rattle.guest_memory.specs.declared.rings.trb.PipeTrb.{PipeTrb}
use Rattle.guest_memory.specs.declared.rings.trb.PipeTrb.TheVariants.{Normal, Link, NoOp, EventData, Foreign}
use Rattle.guest_memory.specs.rings.Ends.{looked}
use Rattle.guest_pipes.specs.declared.acted.Acted.{Acted}
use Rattle.guest_pipes.specs.declared.acted.Acted.TheVariants.{Emptied, Waits, Worked}
use Rattle.guest_pipes.specs.declared.progress.Ending.{Ending}
use Rattle.guest_pipes.specs.declared.progress.Ending.TheVariants.{Runs, Told, Owed}
use Rattle.guest_pipes.specs.Step.{World, failed, filled, filled_if, poured, refused, shortened, skipped, used_up}
use Rattle.guest_pipes.specs.Gate.{gate, through, took_other}
use Rattle.guest_tags.specs.declared.device.End.{End}
use Rattle.guest_tags.specs.declared.device.End.TheVariants.{Good, Check, Response}
use Rattle.guest_tags.specs.declared.device.Phase.{Phase}
use Rattle.guest_tags.specs.declared.device.Phase.TheVariants.{Absent, Gives, Takes, Ended}
use Rattle.guest_tags.specs.declared.buffer.Buffer.{Buffer}
use Rattle.guest_tags.specs.declared.tag.Tag.{Tag}
use Rattle.guest_tags.specs.Devices.{Kind}
use Rattle.guest_tags.specs.Tags.{TagWorld}

-- a status ended the task, and no response code
abbrev pub is_status : End → Bool
is_status Good = true
is_status Check = true
is_status Response = false

-- a task ends one TD: the one that has its last byte, or, where it gave none, the one in front
abbrev pub ends_td : Tag → Bool → Bool
ends_td tag fed = not tag.gave || fed

-- something of a chunk is left
abbrev pub has_chunk : Tag → Bool
has_chunk tag = not (list_length tag.chunk == 0)

module _ {D : Type 0} (kind : Kind D) where
  abbrev pub with_ring : TagWorld D → World → TagWorld D
  with_ring w ring = record w { ring = ring }

  -- so many bytes of the chunk go to an address
  unfoldable pub given_to : TagWorld D → ℕ → ℕ → TagWorld D
  given_to w to count = record w {
    ring = poured w.ring to (take count w.tag.chunk);
    tag = record w.tag { chunk = drop count w.tag.chunk; gave = true };
  }

  -- the buffer isn't there: what the task still gives is dropped
  unfoldable pub lost : TagWorld D → Front → Buffer → TagWorld D
  lost w front buffer = record w {
    ring = failed w.ring front buffer.length buffer.flags;
    tag = record w.tag { chunk = []; gave = true; drops = true };
  }

  -- the TD in front ends as a short packet
  unfoldable pub closed : TagWorld D → Front → Buffer → TagWorld D
  closed w front buffer = record w {
    ring = shortened w.ring front (buffer.length - w.ring.consumer.progress.moved) buffer.flags;
    tag = record w.tag { gave = true };
  }

  -- how many bytes a step moves: the lesser of what is left of the chunk and of the TRB
  abbrev pub moved_count : TagWorld D → Buffer → ℕ
  moved_count w buffer = min (list_length w.tag.chunk) (buffer.length - w.ring.consumer.progress.moved)

  abbrev pub filled_ring : Bool → TagWorld D → Front → Buffer → TagWorld D
  filled_ring full w front buffer = with_ring w (filled_if full w.ring front buffer.flags)

  unfoldable pub moved_in : TagWorld D → Front → Buffer → TagWorld D
  moved_in w front buffer =
      let count = moved_count w buffer in
      let to = buffer.pointer + w.ring.consumer.progress.moved in
      if is_there w.ring.memory to count
      then filled_ring (w.ring.consumer.progress.moved + count == buffer.length) (given_to w to count) front buffer
      else lost w front buffer

  abbrev pub moved_if : Bool → TagWorld D → Front → Buffer → TagWorld D
  moved_if true w front buffer = moved_in w front buffer
  moved_if false w front buffer = w

  -- the device gives its next chunk into the tag's buffer; at a bad block that stays empty
  unfoldable pub refilled : TagWorld D → ℕ → TagWorld D
  refilled w number = record w {
    tag = record w.tag { chunk = unwrap_or (kind.given w.device number) [] };
    device = kind.gave w.device number;
  }

  -- a TRB of a TD whose bytes move, where nothing of a chunk is left, by what the device does next
  abbrev pub closed_if : Bool → TagWorld D → Front → Buffer → TagWorld D × Acted
  closed_if true w front buffer = (closed w front buffer, Worked)
  closed_if false w front buffer = (w, Waits)

  abbrev pub gave_by : Phase → TagWorld D → ℕ → Front → Buffer → TagWorld D × Acted
  gave_by Absent w number front buffer = (w, Waits)
  gave_by (Gives count) w number front buffer = (moved_if (has_chunk (refilled w number).tag) (refilled w number) front buffer, Worked)
  gave_by (Takes count) w number front buffer = (w, Waits)
  gave_by (Ended end) w number front buffer = closed_if (is_status end && ends_td w.tag w.ring.consumer.progress.fed) w front buffer

  -- a Normal TRB of a TD whose bytes move
  unfoldable pub ran : TagWorld D → ℕ → Front → Buffer → TagWorld D × Acted
  ran w number front buffer =
      if nat_le buffer.length w.ring.consumer.progress.moved then (with_ring w (filled w.ring front buffer.flags), Worked)
      else if has_chunk w.tag then (moved_in w front buffer, Worked)
      else gave_by (kind.phase w.device number) w number front buffer

  abbrev pub normal : Ending → TagWorld D → ℕ → Front → Buffer → TagWorld D × Acted
  normal Runs w number front buffer = ran w number front buffer
  normal (Told code) w number front buffer = (with_ring w (skipped w.ring front buffer.length buffer.flags), Worked)
  normal Owed w number front buffer = (with_ring w (skipped w.ring front buffer.length buffer.flags), Worked)

  abbrev pub took : TagWorld D → ℕ → Front → PipeTrb → TagWorld D × Acted
  took w number front (Normal pointer length flags) =
      normal w.ring.consumer.progress.ending w number front (record { pointer = pointer; length = length; flags = flags })
  took w number front (Link pointer toggle flags) = (with_ring w (took_other w.ring front (Link pointer toggle flags)), Worked)
  took w number front (NoOp flags) = (with_ring w (took_other w.ring front (NoOp flags)), Worked)
  took w number front (EventData parameter flags) = (with_ring w (took_other w.ring front (EventData parameter flags)), Worked)
  took w number front Foreign = (with_ring w (took_other w.ring front Foreign), Worked)

  abbrev pub acted : TagWorld D → ℕ → Front → Found → TagWorld D × Acted
  acted w number front WrongKind = (with_ring w (refused w.ring 10), Worked)
  acted w number front NotYet = (with_ring w (used_up w.ring), Emptied)
  acted w number front (Item trb) = took w number front trb

  abbrev pub acted_at : TagWorld D → ℕ → Front → TagWorld D × Acted
  acted_at w number front = acted w number front front.found

  -- a step for a tag, whose stream's end is kept there; None where a byte of the controller's own structures isn't there
  abbrev pub stepped_in : TagWorld D → ℕ → Home → Option (TagWorld D × Acted)
  stepped_in w number home =
      through w (gate w.ring.memory w.ring.events w.ring.consumer) (option_map (acted_at w number) (looked w.ring.memory home))
