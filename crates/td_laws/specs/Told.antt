-- WHAT IS TOLD of the TRBs of a data-in TD: an event each, whose residual adds up with what was moved.
use Rattle.std.specs.Prelude.{◌≡◌, ℕ, ◌+◌, ◌%◌, ◌^◌, ◌<◌, ◌≤◌, Bool, true, false, not, ◌&&◌, ◌||◌, [], length as list_length, Some, None}
use Rattle.guest_memory.specs.Bytes.{bytes_from}
use Rattle.guest_memory.specs.declared.rings.context.Home.{Home}
use Rattle.guest_memory.specs.declared.rings.context.Front.{Front}
use Rattle.guest_memory.specs.declared.rings.context.Found.TheVariants.{Item, NotYet}
use Rattle.guest_memory.specs.declared.rings.event.Event.{Event}
use Rattle.guest_memory.specs.declared.rings.event.Event.TheVariants.{Transfer}
use Rattle.guest_memory.specs.declared.rings.wanting.Range.{Range}
use Rattle.guest_memory.specs.declared.rings.trb.PipeTrb.{PipeTrb}
use Rattle.guest_memory.specs.declared.rings.trb.PipeTrb.TheVariants.{Normal, Link, NoOp, EventData, Foreign}
use Rattle.guest_memory.specs.rings.Events.{EventEnd, enqueue_pointer, enqueued, event_bytes}
use Rattle.guest_memory.specs.rings.Wanted.{home_range}
use Rattle.guest_pipes.specs.declared.consumer.Consumer.{Consumer}
use Rattle.guest_pipes.specs.declared.progress.Progress.{Progress}
use Rattle.guest_pipes.specs.Progress.{code_of, owes, runs}
use Rattle.guest_pipes.specs.Step.{World, about, used_up}
use Rattle.guest_tags.specs.declared.buffer.Buffer.{Buffer}
use Rattle.guest_tags.specs.Devices.{IsEnded, Kind}
use Rattle.guest_tags.specs.Tags.{TagWorld}
use Rattle.guest_tags.specs.Wanted.{moving}
use Rattle.td_laws.specs.Places.{AreApart, IsMissing, IsOutside, coming, event_range, front_of}
use Rattle.td_laws.specs.Runs.{part_filled, stepped}

-- one event was posted: its bytes stand at the place that was the next
pub record HasTold (ring : EventEnd) (new : World) (event : Event) (quiet : Bool) : Type 0 where
  pub once : new.events ≡ enqueued ring quiet
  pub stands : bytes_from new.memory (enqueue_pointer ring) 16 ≡ Some (event_bytes event ring.cycle)

-- an event where this holds, else none
abbrev pub Tells : Bool → EventEnd → World → Event → Bool → Type 0
Tells true ring new event quiet = HasTold ring new event quiet
Tells false ring new event quiet = new.events ≡ ring

-- what EDTLA is behind a TRB: as it was, or 0 where its TD ends with it
abbrev pub edtla_behind : Bool → ℕ → ℕ
edtla_behind true edtla = edtla
edtla_behind false edtla = 0

-- so many bytes have moved of the TRB in front, and so many since EDTLA began
pub record Counts (progress : Progress) (moved edtla : ℕ) : Type 0 where
  pub in_trb : progress.moved ≡ moved
  pub since : progress.edtla % 2 ^ 24 ≡ edtla % 2 ^ 24

-- the TRB stays in front: the part alone is written, and the TD goes on
pub record Stays (old new : World) (part : Range) : Type 0 where
  pub others : (a : ℕ) → IsOutside a part → new.memory a ≡ old.memory a
  pub events : new.events ≡ old.events
  pub ending : new.consumer.progress.ending ≡ old.consumer.progress.ending

-- how many bytes have moved with a part, of the TRB in front, and since EDTLA began
abbrev pub moved_with : World → Range → ℕ
moved_with w part = w.consumer.progress.moved + part.count

abbrev pub edtla_with : World → Range → ℕ
edtla_with w part = w.consumer.progress.edtla + part.count

-- what a step told of the Normal TRB in front, of whose buffer it filled a part
pub data IsTold (old new : World) (place : ℕ) (buffer : Buffer) (part : Range) (Over Missing : Type 0) : Type 0 where
  -- it has room left: nothing, and the TRB stays in front
  Goes : moved_with old part < buffer.length → Stays old new part → Counts new.consumer.progress (moved_with old part) (edtla_with old part)
      → IsTold old new place buffer part Over Missing
  -- it is full: with IOC, code 1 and no residual
  Fills : moved_with old part ≡ buffer.length → Tells buffer.flags.ioc old.events new (about old.consumer place 0 1) buffer.flags.bei
      → Counts new.consumer.progress 0 (edtla_behind buffer.flags.chain (edtla_with old part)) → IsTold old new place buffer part Over Missing
  -- the TD ends in it as a short packet, since the task gives no more: with ISP or IOC, code 13 and what is left
  Ends : (residual : ℕ) → moved_with old part + residual ≡ buffer.length → 1 ≤ residual → Over
      → Tells (buffer.flags.isp || buffer.flags.ioc) old.events new (about old.consumer place residual 13) buffer.flags.bei
      → Counts new.consumer.progress 0 (edtla_behind buffer.flags.chain (edtla_with old part)) → IsTold old new place buffer part Over Missing
  -- its buffer isn't there: code 2 and its length
  Fails : HasTold old.events new (about old.consumer place buffer.length 2) buffer.flags.bei → Missing
      → IsTold old new place buffer part Over Missing

-- what a step told of another TRB, or of a Normal one in a TD whose rest is skipped
abbrev pub IsToldOf : PipeTrb → Consumer → EventEnd → World → ℕ → Type 0
IsToldOf (Normal pointer length flags) consumer ring new place =
    Tells (owes consumer.progress.ending && (not flags.chain && flags.ioc)) ring new (about consumer place length 13) flags.bei
IsToldOf (Link pointer toggle flags) consumer ring new place = Tells flags.ioc ring new (about consumer place 0 1) flags.bei
IsToldOf (NoOp flags) consumer ring new place = Tells (runs consumer.progress.ending && flags.ioc) ring new (about consumer place 0 1) flags.bei
IsToldOf (EventData parameter flags) consumer ring new place =
    Tells flags.ioc ring new (Transfer parameter consumer.progress.edtla (code_of consumer.progress.ending) consumer.endpoint true) flags.bei
IsToldOf Foreign consumer ring new place = HasTold ring new (about consumer place 0 5) false

-- what EDTLA is behind such a TRB
abbrev pub edtla_past : PipeTrb → ℕ → ℕ
edtla_past (Normal pointer length flags) edtla = edtla_behind flags.chain edtla
edtla_past (Link pointer toggle flags) edtla = edtla
edtla_past (NoOp flags) edtla = edtla_behind flags.chain edtla
edtla_past (EventData parameter flags) edtla = 0
edtla_past Foreign edtla = edtla

module _ {D : Type 0} (kind : Kind D) where
  -- a task has ended, and nothing is left of its chunk
  abbrev pub IsOver : TagWorld D → ℕ → Type 0
  IsOver w number = (w.tag.chunk ≡ []) × IsEnded (kind.phase w.device number)

  -- a byte of the buffer isn't there, and what a task still gives is dropped
  abbrev pub IsDropped : TagWorld D → ℕ → Buffer → TagWorld D → Type 0
  IsDropped w coming buffer new = IsMissing w.ring coming buffer × (new.tag.chunk ≡ []) × (new.tag.drops ≡ true)

  -- THE LAW, where no more than the TRB's length has moved of it before: a step tells once of a TRB, and what it tells adds up
  abbrev pub ResidualsAddUp : Type 0
  ResidualsAddUp =
      (w : TagWorld D) (number : ℕ) (home : Home) (front : Front) (buffer : Buffer) → front_of w.ring home ≡ Some front
      → moving w.ring.consumer front ≡ Some buffer → w.ring.consumer.progress.moved ≤ buffer.length
      → AreApart (event_range w.ring.events) (home_range home)
      → IsTold w.ring (stepped kind number home w).ring front.cursor.place buffer (part_filled kind number home w)
      (IsOver (stepped kind number home w) number) (IsDropped w (list_length (coming kind w number)) buffer (stepped kind number home w))

  -- AN EVENT EACH, of all TRBs beside
  abbrev pub AnEventEach : Type 0
  AnEventEach =
      (w : TagWorld D) (number : ℕ) (home : Home) (front : Front) (trb : PipeTrb) → front_of w.ring home ≡ Some front
      → front.found ≡ Item trb → moving w.ring.consumer front ≡ None → AreApart (event_range w.ring.events) (home_range home)
      → IsToldOf trb w.ring.consumer w.ring.events (stepped kind number home w).ring front.cursor.place
      × ((stepped kind number home w).ring.consumer.progress.edtla ≡ edtla_past trb w.ring.consumer.progress.edtla)

  -- and none without a TRB: a step that is held back does nothing, and where no TRB is there yet, it uses up the doorbell
  abbrev pub NoneWithoutATrb : Type 0
  NoneWithoutATrb =
      (w : TagWorld D) (number : ℕ) (home : Home)
      → (front_of w.ring home ≡ None → stepped kind number home w ≡ w)
      × ((front : Front) → front_of w.ring home ≡ Some front → front.found ≡ NotYet → (stepped kind number home w).ring ≡ used_up w.ring)
