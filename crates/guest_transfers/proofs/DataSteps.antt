-- A step for a tag's data that lacks nothing isn't refused, and is the same with another memory beside this one; what it lacks isn't there.
use Rattle.std.proofs.Common.{◌≡◌, ℕ, Bool, true, false, Option, Some, None, refl, sym, ap, ◌∙◌, arith}
use Rattle.std.specs.Prelude.{is_some, not, if◌then◌else◌}
use Rattle.std.proofs.lemmas.Bool.{false≢true}
use Rattle.std.proofs.lemmas.Option.{none-some}
use Rattle.guest_memory.specs.Bytes.{Memory, IsWithinAddresses}
use Rattle.guest_memory.specs.declared.rings.wanting.Range.{Range}
use Rattle.guest_memory.specs.rings.Events.{EventEnd, enqueue_pointer, has_room}
use Rattle.guest_memory.specs.rings.Wanted.{LacksIt}
use Rattle.guest_pipes.specs.declared.acted.Acted.{Acted}
use Rattle.guest_pipes.specs.declared.acted.Acted.TheVariants.{Off, Idle, Full, Emptied, Waits, Worked}
use Rattle.guest_pipes.specs.Gate.{after, room_gate, through}
use Rattle.guest_pipes.specs.Step.{has_place}
use Rattle.guest_pipes.specs.Wanted.{wanted_through}
use Rattle.guest_tags.specs.Devices.{Kind}
use Rattle.guest_transfers.specs.State.{TransfersWorld, slot_of}
use Rattle.guest_transfers.specs.Steps.{in_stepped}
use Rattle.guest_transfers.specs.Orders.{chunk_dropped, data_by, data_stepped, drops_now, or_out}
use Rattle.guest_transfers.specs.Wanted.{data_wanted, data_wanted_by, either_wanted, in_wanted, is_idle, out_wanted}
use Rattle.guest_transfers.specs.Beside.{GivesAtMost, beside, step_beside, world_beside}
use Rattle.guest_transfers.proofs.Lacking.{in_lacks, in_there, out_lacks, out_there}
use Rattle.guest_transfers.proofs.Idle.{out_wanted-idle}
use Rattle.guest_transfers.proofs.BesideRing.{there-beside}
use Rattle.guest_transfers.proofs.BesideSteps.{in-beside, out-beside}

pub room_lacks : (memory : Memory) (events : EventEnd) → room_gate memory events ≡ None → has_place memory events ≡ false
unfolding room_gate
room_lacks memory events shut = by_tests (has_room events) (has_place memory events) refl shut
  where
    by_tests : (room place : Bool) → has_place memory events ≡ place
        → (if not room then Some (Some Full) else if place then Some None else None) ≡ None → has_place memory events ≡ false
    by_tests false place is shut = absurd (none-some _ (sym shut))
    by_tests true true is shut = absurd (none-some _ (sym shut))
    by_tests true false is shut = is

pub room_gate-beside : (memory rest : Memory) (events : EventEnd) → is_some (room_gate memory events) ≡ true → room_gate (beside memory rest) events ≡ room_gate memory events
unfolding room_gate
room_gate-beside memory rest events some = by_tests (has_room events) (has_place memory events) refl some
  where
    by_tests : (room place : Bool) → has_place memory events ≡ place
        → is_some (if not room then Some (Some Full) else if place then Some None else None) ≡ true
        → (if not room then Some (Some Full) else if has_place (beside memory rest) events then Some None else None)
        ≡ (if not room then Some (Some Full) else if place then Some None else None)
    by_tests false place is some = refl
    by_tests true true is some = rw (there-beside memory rest (enqueue_pointer events) 16 is) refl
    by_tests true false is some = absurd (false≢true some)

-- data-out lacks nothing where it is looked at
either_out : (idle : Bool) (out : Option Range) → either_wanted None idle out ≡ None → idle ≡ true → out ≡ None
either_out true out none is = none
either_out false out none is = absurd (false≢true is)

either_in : (wanted : Option Range) (idle : Bool) (out : Option Range) → either_wanted wanted idle out ≡ None → wanted ≡ None
either_in None idle out none = refl
either_in (Some range) idle out none = none

either_lacks : (memory : Memory) (wanted : Option Range) (idle : Bool) (out : Option Range) → LacksIt memory wanted → LacksIt memory out
    → LacksIt memory (either_wanted wanted idle out)
either_lacks memory (Some range) idle out first second = first
either_lacks memory None true out first second = second
either_lacks memory None false out first second = tt

module _ {D : Type 0} (kind : Kind D) where
  -- what data-out lacks behind a step of data-in that did nothing
  out_none : (w : TransfersWorld D) (tag : ℕ) → data_wanted_by kind false w tag ≡ None → is_idle (in_stepped kind w tag).1 ≡ true
      → out_wanted kind (in_stepped kind w tag).0 tag ≡ None
  out_none w tag none idle =
      let first : in_wanted kind w tag ≡ None = either_in (in_wanted kind w tag) (is_idle (in_stepped kind w tag).1) (out_wanted kind w tag) none in
      let next : Option Range → Option Range = λ wanted. either_wanted wanted (is_idle (in_stepped kind w tag).1) (out_wanted kind w tag) in
      out_wanted-idle kind w tag idle
      ∙ either_out (is_idle (in_stepped kind w tag).1) (out_wanted kind w tag) (sym (ap next first) ∙ none) idle

  in_none : (w : TransfersWorld D) (tag : ℕ) → data_wanted_by kind false w tag ≡ None → in_wanted kind w tag ≡ None
  in_none w tag none = either_in (in_wanted kind w tag) (is_idle (in_stepped kind w tag).1) (out_wanted kind w tag) none

  pub data_there : (w : TransfersWorld D) (tag : ℕ) → data_wanted kind w tag ≡ None → is_some (data_stepped kind w tag).1 ≡ true
  data_there w tag none = by_drops (drops_now (slot_of w.transfers tag).tag.drops (kind.phase w.device tag)) none
    where
      by_room : (opens : Option (Option Acted)) → wanted_through opens w.events None ≡ None
          → is_some (after w (through w opens (Some (chunk_dropped kind w tag, Worked)))).1 ≡ true
      by_room None none = absurd (none-some _ (sym none))
      by_room (Some None) none = refl
      by_room (Some (Some acted)) none = refl

      by_acted : (u : TransfersWorld D) (acted : Option Acted) → is_some acted ≡ true → (is_idle acted ≡ true → out_wanted kind u tag ≡ None)
          → is_some (or_out kind (u, acted) tag).1 ≡ true
      by_acted u None some out = absurd (false≢true some)
      by_acted u (Some Off) some out = out_there kind u tag (out refl)
      by_acted u (Some Idle) some out = out_there kind u tag (out refl)
      by_acted u (Some Full) some out = out_there kind u tag (out refl)
      by_acted u (Some Emptied) some out = refl
      by_acted u (Some Waits) some out = out_there kind u tag (out refl)
      by_acted u (Some Worked) some out = refl

      by_drops : (drops : Bool) → data_wanted_by kind drops w tag ≡ None → is_some (data_by kind drops w tag).1 ≡ true
      by_drops true none = by_room (room_gate w.memory w.events) none
      by_drops false none =
          by_acted (in_stepped kind w tag).0 (in_stepped kind w tag).1 (in_there kind w tag (in_none w tag none)) (out_none w tag none)

  pub data_lacks : (w : TransfersWorld D) (tag : ℕ) → IsWithinAddresses w.memory → LacksIt w.memory (data_wanted kind w tag)
  data_lacks w tag ends = by_drops (drops_now (slot_of w.transfers tag).tag.drops (kind.phase w.device tag))
    where
      by_room : (opens : Option (Option Acted)) → room_gate w.memory w.events ≡ opens → LacksIt w.memory (wanted_through opens w.events None)
      by_room None is = (omega arith, room_lacks w.memory w.events is)
      by_room (Some None) is = tt
      by_room (Some (Some acted)) is = tt

      by_drops : (drops : Bool) → LacksIt w.memory (data_wanted_by kind drops w tag)
      by_drops true = by_room (room_gate w.memory w.events) refl
      by_drops false =
          either_lacks w.memory (in_wanted kind w tag) (is_idle (in_stepped kind w tag).1) (out_wanted kind w tag) (in_lacks kind w tag ends) (out_lacks kind w tag ends)

  pub data-beside : (w : TransfersWorld D) (rest : Memory) (tag : ℕ) → GivesAtMost kind w.device tag → data_wanted kind w tag ≡ None
      → data_stepped kind (world_beside w rest) tag ≡ step_beside (data_stepped kind w tag) rest
  unfolding chunk_dropped
  data-beside w rest tag whole none = by_drops (drops_now (slot_of w.transfers tag).tag.drops (kind.phase w.device tag)) none
    where
      by_room : (opens both : Option (Option Acted)) → (is_some opens ≡ true → both ≡ opens) → wanted_through opens w.events None ≡ None
          → after (world_beside w rest) (through (world_beside w rest) both (Some (chunk_dropped kind (world_beside w rest) tag, Worked)))
          ≡ step_beside (after w (through w opens (Some (chunk_dropped kind w tag, Worked)))) rest
      by_room None both same none = absurd (none-some _ (sym none))
      by_room (Some None) both same none = let e : both ≡ Some None = same refl in rw e refl
      by_room (Some (Some acted)) both same none = let e : both ≡ Some (Some acted) = same refl in rw e refl

      by_acted : (u : TransfersWorld D) (acted : Option Acted) → (is_idle acted ≡ true → out_wanted kind u tag ≡ None)
          → or_out kind (step_beside (u, acted) rest) tag ≡ step_beside (or_out kind (u, acted) tag) rest
      by_acted u None out = refl
      by_acted u (Some Off) out = out-beside kind u rest tag (out refl)
      by_acted u (Some Idle) out = out-beside kind u rest tag (out refl)
      by_acted u (Some Full) out = out-beside kind u rest tag (out refl)
      by_acted u (Some Emptied) out = refl
      by_acted u (Some Waits) out = out-beside kind u rest tag (out refl)
      by_acted u (Some Worked) out = refl

      by_drops : (drops : Bool) → data_wanted_by kind drops w tag ≡ None → data_by kind drops (world_beside w rest) tag ≡ step_beside (data_by kind drops w tag) rest
      by_drops true none =
          by_room (room_gate w.memory w.events) (room_gate (beside w.memory rest) w.events) (room_gate-beside w.memory rest w.events) none
      by_drops false none =
          let next : TransfersWorld D × Option Acted → TransfersWorld D × Option Acted = λ done. or_out kind done tag in
          ap next (in-beside kind w rest tag whole (in_none w tag none))
          ∙ by_acted (in_stepped kind w tag).0 (in_stepped kind w tag).1 (out_none w tag none)
