-- A step of the status pipe for a tag: one equation over memory, event ring, consumer, tag and device.
use Rattle.std.specs.Prelude.{ℕ, ◌+◌, ◌-◌, min, ◌==◌, nat_le, nat_lt, Bool, true, false, not, ◌&&◌, if◌then◌else◌, List, [], length as list_length, take, drop, Option, option_map}
use Rattle.guest_memory.specs.Bytes.{is_there}
use Rattle.guest_memory.specs.declared.rings.context.Home.{Home}
use Rattle.guest_memory.specs.declared.rings.context.Front.{Front}
use Rattle.guest_memory.specs.declared.rings.context.Found.{Found}
use Rattle.guest_memory.specs.declared.rings.context.Found.TheVariants.{WrongKind, NotYet, Item}
use Rattle.guest_memory.specs.declared.rings.trb.Flags.{Flags}
use Rattle.guest_memory.specs.declared.rings.trb.PipeTrb.{PipeTrb}
use Rattle.guest_memory.specs.declared.rings.trb.PipeTrb.TheVariants.{Normal, Link, NoOp, EventData, Foreign}
use Rattle.guest_memory.specs.rings.Ends.{looked}
use Rattle.guest_pipes.specs.declared.acted.Acted.{Acted}
use Rattle.guest_pipes.specs.declared.acted.Acted.TheVariants.{Emptied, Waits, Worked}
use Rattle.guest_pipes.specs.declared.progress.Ending.{Ending}
use Rattle.guest_pipes.specs.declared.progress.Ending.TheVariants.{Runs, Told, Owed}
use Rattle.guest_pipes.specs.Step.{World, babbled, failed, filled, poured, refused, shortened, skipped, used_up}
use Rattle.guest_pipes.specs.Gate.{gate, through, took_other}
use Rattle.uas_iu.specs.declared.Iu.TheVariants.{Response}
use Rattle.uas_iu.specs.Units.{unit_text}
use Rattle.guest_tags.specs.declared.buffer.Buffer.{Buffer}
use Rattle.guest_tags.specs.declared.tag.Tag.{Tag}
use Rattle.guest_tags.specs.Devices.{Kind}
use Rattle.guest_tags.specs.Tags.{TagWorld}
use Rattle.guest_tags.specs.Units.{Outgoing, whole}

-- the answer to an information unit whose tag has a task: a Response with 0Ah, OVERLAPPED TAG ATTEMPTED
abbrev pub overlap_text : ℕ → List ℕ
overlap_text number = unit_text (Response number 10)

-- what of the unit isn't in a TD yet
abbrev pub left_of : Outgoing → List ℕ
left_of unit = drop unit.sent unit.text

abbrev pub has_unit : Tag → Bool
has_unit tag = not (list_length tag.unit.text == 0)

-- the TD in front has bytes of the unit
abbrev pub has_begun : Tag → Bool
has_begun tag = not (tag.unit.sent == 0)

-- nothing of the unit is left
abbrev pub is_out : Tag → Bool
is_out tag = list_length (left_of tag.unit) == 0

abbrev pub nothing : Outgoing
nothing = whole []

abbrev pub with_unit : Tag → Outgoing → Tag
with_unit tag unit = record tag { unit = unit }

-- the unit goes from its start again
abbrev pub rewound : Tag → Tag
rewound tag = with_unit tag (whole tag.unit.text)

module _ {D : Type 0} (kind : Kind D) where
  abbrev pub status_with : TagWorld D → World → Tag → TagWorld D
  status_with w ring tag = record w { ring = ring; tag = tag }

  -- an overlap is answered first
  unfoldable pub overlap_taken : TagWorld D → ℕ → TagWorld D
  overlap_taken w number = record w { tag = record w.tag { unit = whole (overlap_text number); overlaps = w.tag.overlaps - 1 } }

  -- the answer of the task is taken from the device
  unfoldable pub answer_taken : TagWorld D → ℕ → TagWorld D
  answer_taken w number = record w {
    tag = with_unit w.tag (whole (kind.status w.device number));
    device = kind.sent w.device number;
  }

  -- the next unit, where one is due
  abbrev pub unit_taken : TagWorld D → ℕ → Bool → TagWorld D
  unit_taken w number due =
      if not (w.tag.overlaps == 0) then overlap_taken w number
      else if due then answer_taken w number
      else w

  abbrev pub unit_ready : TagWorld D → ℕ → Bool → TagWorld D
  unit_ready w number due = if has_unit w.tag then w else unit_taken w number due

  -- so many bytes of the unit go to an address
  unfoldable pub sent_to : TagWorld D → ℕ → ℕ → TagWorld D
  sent_to w to count = status_with w (poured w.ring to (take count (left_of w.tag.unit)))
      (with_unit w.tag (record w.tag.unit { sent = w.tag.unit.sent + count }))

  -- the buffer isn't there: the unit goes into the next TD
  unfoldable pub unit_lost : TagWorld D → Front → Buffer → TagWorld D
  unit_lost w front buffer = status_with w (failed w.ring front buffer.length buffer.flags) (rewound w.tag)

  -- the TD ends with the unit: as a short packet, or full
  unfoldable pub unit_short : TagWorld D → Front → Buffer → TagWorld D
  unit_short w front buffer =
      status_with w (shortened w.ring front (buffer.length - w.ring.consumer.progress.moved) buffer.flags) (with_unit w.tag nothing)

  unfoldable pub unit_full : TagWorld D → Front → Flags → TagWorld D
  unit_full w front flags = status_with w (filled w.ring front flags) (with_unit w.tag nothing)

  -- the TD is shorter than the unit, which goes into the next one
  unfoldable pub unit_babbled : TagWorld D → Front → Flags → TagWorld D
  unit_babbled w front flags = status_with w (babbled w.ring front flags) (rewound w.tag)

  -- a TRB that is full, with what is left of the unit
  abbrev pub unit_on : Bool → Bool → TagWorld D → Front → Flags → TagWorld D
  unit_on true out w front flags = status_with w (filled w.ring front flags) w.tag
  unit_on false true w front flags = unit_full w front flags
  unit_on false false w front flags = unit_babbled w front flags

  abbrev pub unit_moved : TagWorld D → Front → Buffer → TagWorld D
  unit_moved w front buffer =
      if nat_lt w.ring.consumer.progress.moved buffer.length then unit_short w front buffer
      else unit_on buffer.flags.chain (is_out w.tag) w front buffer.flags

  abbrev pub unit_count : TagWorld D → Buffer → ℕ
  unit_count w buffer = min (list_length (left_of w.tag.unit)) (buffer.length - w.ring.consumer.progress.moved)

  -- a Normal TRB takes so many bytes of the unit
  unfoldable pub unit_some : TagWorld D → ℕ → Front → Buffer → TagWorld D
  unit_some w count front buffer =
      let to = buffer.pointer + w.ring.consumer.progress.moved in
      if is_there w.ring.memory to count then unit_moved (sent_to w to count) front buffer
      else unit_lost w front buffer

  -- a Normal TRB takes what there is of the unit
  unfoldable pub unit_went : TagWorld D → Front → Buffer → TagWorld D
  unit_went w front buffer =
      if unit_count w buffer == 0 then unit_moved w front buffer else unit_some w (unit_count w buffer) front buffer

  -- a Normal TRB once the next unit is ready, or where none is due
  unfoldable pub unit_ran : TagWorld D → Front → Buffer → TagWorld D × Acted
  unit_ran w front buffer =
      if has_unit w.tag then (unit_went w front buffer, Worked)
      else if nat_le buffer.length w.ring.consumer.progress.moved then (status_with w (filled w.ring front buffer.flags) w.tag, Worked)
      else (w, Waits)

  abbrev pub status_normal : Ending → TagWorld D → ℕ → Bool → Front → Buffer → TagWorld D × Acted
  status_normal Runs w number due front buffer = unit_ran (unit_ready w number due) front buffer
  status_normal (Told code) w number due front buffer = (status_with w (skipped w.ring front buffer.length buffer.flags) w.tag, Worked)
  status_normal Owed w number due front buffer = (status_with w (skipped w.ring front buffer.length buffer.flags) w.tag, Worked)

  -- another TRB: where the TD that has bytes of the unit ends with it, so does the unit, or the TD is shorter
  abbrev pub status_other : TagWorld D → Front → PipeTrb → TagWorld D
  status_other w front trb = status_with w (took_other w.ring front trb) w.tag

  abbrev pub unit_over : Bool → TagWorld D → Front → PipeTrb → Flags → TagWorld D
  unit_over true w front trb flags = status_with w (took_other w.ring front trb) (with_unit w.tag nothing)
  unit_over false w front trb flags = unit_babbled w front flags

  abbrev pub status_ending : TagWorld D → Front → PipeTrb → Flags → TagWorld D
  status_ending w front trb flags =
      if has_begun w.tag && not flags.chain then unit_over (is_out w.tag) w front trb flags
      else status_other w front trb

  abbrev pub status_took : TagWorld D → ℕ → Bool → Front → PipeTrb → TagWorld D × Acted
  status_took w number due front (Normal pointer length flags) =
      status_normal w.ring.consumer.progress.ending w number due front (record { pointer = pointer; length = length; flags = flags })
  status_took w number due front (Link pointer toggle flags) = (status_other w front (Link pointer toggle flags), Worked)
  status_took w number due front (NoOp flags) = (status_ending w front (NoOp flags) flags, Worked)
  status_took w number due front (EventData parameter flags) = (status_ending w front (EventData parameter flags) flags, Worked)
  status_took w number due front Foreign = (status_other w front Foreign, Worked)

  abbrev pub status_acted : TagWorld D → ℕ → Bool → Front → Found → TagWorld D × Acted
  status_acted w number due front WrongKind = (status_with w (refused w.ring 10) w.tag, Worked)
  status_acted w number due front NotYet = (status_with w (used_up w.ring) w.tag, Emptied)
  status_acted w number due front (Item trb) = status_took w number due front trb

  abbrev pub status_at : TagWorld D → ℕ → Bool → Front → TagWorld D × Acted
  status_at w number due front = status_acted w number due front front.found

  -- a step for a tag whose stream's end is kept there, where its task's answer is due or not; None where a byte of the controller's
  -- own structures isn't there
  abbrev pub stepped_status : TagWorld D → ℕ → Bool → Home → Option (TagWorld D × Acted)
  stepped_status w number due home =
      through w (gate w.ring.memory w.ring.events w.ring.consumer) (option_map (status_at w number due) (looked w.ring.memory home))
