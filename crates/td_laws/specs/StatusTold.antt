-- WHAT IS TOLD of the TRBs of the status pipe.
use Rattle.std.specs.Prelude.{◌≡◌, ℕ, ◌+◌, ◌<◌, ◌≤◌, ◌⊎◌, Bool, false, ◌||◌, Some, None}
use Rattle.guest_memory.specs.declared.rings.context.Home.{Home}
use Rattle.guest_memory.specs.declared.rings.context.Front.{Front}
use Rattle.guest_memory.specs.declared.rings.context.Found.TheVariants.{Item}
use Rattle.guest_memory.specs.declared.rings.event.Event.TheVariants.{Transfer}
use Rattle.guest_memory.specs.declared.rings.trb.PipeTrb.{PipeTrb}
use Rattle.guest_memory.specs.rings.Events.{EventEnd}
use Rattle.guest_memory.specs.rings.Wanted.{home_range}
use Rattle.guest_pipes.specs.declared.consumer.EndpointState.TheVariants.{Halted}
use Rattle.guest_pipes.specs.Gate.{after}
use Rattle.guest_pipes.specs.Step.{World, about}
use Rattle.guest_tags.specs.declared.buffer.Buffer.{Buffer}
use Rattle.guest_tags.specs.Devices.{Kind}
use Rattle.guest_tags.specs.Status.{stepped_status}
use Rattle.guest_tags.specs.Tags.{TagWorld}
use Rattle.guest_tags.specs.Wanted.{coming_status, moving}
use Rattle.td_laws.specs.Places.{AreApart, IsMissing, event_range, front_of, part_status}
use Rattle.td_laws.specs.Told.{Counts, HasTold, IsToldOf, Tells, edtla_behind, edtla_past, edtla_with, moved_with}

-- what a step told of the Normal TRB in front, of which so many bytes have moved with it, and so many since EDTLA began
pub data IsToldOfUnit (endpoint : ℕ) (ring : EventEnd) (new : World) (place : ℕ) (buffer : Buffer) (moved edtla : ℕ) (Missing : Type 0) : Type 0 where
  -- no information unit is due: nothing, and the TRB stays in front
  Awaits : moved < buffer.length → new.events ≡ ring → Counts new.consumer.progress moved edtla
      → IsToldOfUnit endpoint ring new place buffer moved edtla Missing
  -- it is full: with IOC, code 1 and no residual
  FillsUp : moved ≡ buffer.length → Tells buffer.flags.ioc ring new (Transfer place 0 1 endpoint false) buffer.flags.bei
      → Counts new.consumer.progress 0 (edtla_behind buffer.flags.chain edtla) → IsToldOfUnit endpoint ring new place buffer moved edtla Missing
  -- the unit ends in it: with ISP or IOC, code 13 and what is left
  EndsShort : (residual : ℕ) → moved + residual ≡ buffer.length → 1 ≤ residual
      → Tells (buffer.flags.isp || buffer.flags.ioc) ring new (Transfer place residual 13 endpoint false) buffer.flags.bei
      → Counts new.consumer.progress 0 (edtla_behind buffer.flags.chain edtla) → IsToldOfUnit endpoint ring new place buffer moved edtla Missing
  -- the TD ends with it and is shorter than the unit: code 3, and the endpoint halts
  Babbles : moved ≡ buffer.length → buffer.flags.chain ≡ false → HasTold ring new (Transfer place 0 3 endpoint false) buffer.flags.bei
      → new.consumer.state ≡ Halted → IsToldOfUnit endpoint ring new place buffer moved edtla Missing
  -- its buffer isn't there: code 2 and its length
  IsLost : HasTold ring new (Transfer place buffer.length 2 endpoint false) buffer.flags.bei → Missing
      → IsToldOfUnit endpoint ring new place buffer moved edtla Missing

module _ {D : Type 0} (kind : Kind D) where
  abbrev pub status_step : ℕ → Bool → Home → TagWorld D → TagWorld D
  status_step number due home w = (after w (stepped_status kind w number due home)).0

  abbrev pub StatusResidualsAddUp : Type 0
  StatusResidualsAddUp =
      (w : TagWorld D) (number : ℕ) (due : Bool) (home : Home) (front : Front) (buffer : Buffer) → front_of w.ring home ≡ Some front
      → moving w.ring.consumer front ≡ Some buffer → w.ring.consumer.progress.moved ≤ buffer.length
      → AreApart (event_range w.ring.events) (home_range home)
      → IsToldOfUnit w.ring.consumer.endpoint w.ring.events (status_step number due home w).ring front.cursor.place buffer
      (moved_with w.ring (part_status kind w number due home)) (edtla_with w.ring (part_status kind w number due home))
      (IsMissing w.ring (coming_status kind w number due) buffer)

  -- of another TRB what is told elsewhere, or code 3 where the TD ends with it and is shorter than the unit
  abbrev pub StatusEventEach : Type 0
  StatusEventEach =
      (w : TagWorld D) (number : ℕ) (due : Bool) (home : Home) (front : Front) (trb : PipeTrb) → front_of w.ring home ≡ Some front
      → front.found ≡ Item trb → moving w.ring.consumer front ≡ None → AreApart (event_range w.ring.events) (home_range home)
      → (IsToldOf trb w.ring.consumer w.ring.events (status_step number due home w).ring front.cursor.place
      × ((status_step number due home w).ring.consumer.progress.edtla ≡ edtla_past trb w.ring.consumer.progress.edtla))
      ⊎ ((quiet : Bool) × HasTold w.ring.events (status_step number due home w).ring (about w.ring.consumer front.cursor.place 0 3) quiet)
