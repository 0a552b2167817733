-- A step of data-in that did nothing left all that a step of data-out looks at.
use Rattle.std.proofs.Common.{◌≡◌, ℕ, zero, suc, Bool, true, false, List, [], ◌∷◌, get_or, set, Option, Some, None, refl, sym, ap, ◌∙◌, ◌&&◌, inl, inr}
use Rattle.std.specs.Prelude.{not, nat_le, if◌then◌else◌, option_map}
use Rattle.std.proofs.lemmas.Bool.{cases_lt, false≢true, le-leb, le-ltb, lt-leb, lt-ltb}
use Rattle.guest_memory.specs.declared.rings.context.Home.{Home}
use Rattle.guest_memory.specs.declared.rings.context.Front.{Front}
use Rattle.guest_memory.specs.declared.rings.context.Found.{Found}
use Rattle.guest_memory.specs.declared.rings.context.Found.TheVariants.{WrongKind, NotYet, Item}
use Rattle.guest_memory.specs.declared.rings.trb.PipeTrb.TheVariants.{Normal, Link, NoOp, EventData, Foreign}
use Rattle.guest_memory.specs.declared.rings.wanting.Range.{Range}
use Rattle.guest_memory.specs.rings.Ends.{looked}
use Rattle.guest_pipes.specs.declared.acted.Acted.{Acted}
use Rattle.guest_pipes.specs.declared.acted.Acted.TheVariants.{Worked}
use Rattle.guest_pipes.specs.declared.progress.Ending.{Ending}
use Rattle.guest_pipes.specs.declared.progress.Ending.TheVariants.{Runs, Told, Owed}
use Rattle.guest_pipes.specs.Gate.{after, gate, through}
use Rattle.guest_pipes.specs.Pipe.{home_of, loaded}
use Rattle.guest_pipes.specs.Progress.{runs}
use Rattle.guest_pipes.specs.Step.{filled}
use Rattle.guest_tags.specs.declared.buffer.Buffer.{Buffer}
use Rattle.guest_tags.specs.declared.device.Phase.{Phase}
use Rattle.guest_tags.specs.declared.device.Phase.TheVariants.{Absent, Gives, Takes, Ended}
use Rattle.guest_tags.specs.Devices.{Kind}
use Rattle.guest_tags.specs.Tags.{TagWorld}
use Rattle.guest_tags.specs.DataIn.{acted, acted_at, closed_if, ends_td, gave_by, has_chunk, is_status, moved_in, normal, ran, stepped_in, with_ring}
use Rattle.guest_tags.specs.Wanted.{buffer_of, moving}
use Rattle.guest_out.specs.Wanted.{wanted_out}
use Rattle.guest_transfers.specs.declared.slot.Slot.{Slot}
use Rattle.guest_transfers.specs.State.{TransfersWorld, empty_slot, slot_of}
use Rattle.guest_transfers.specs.Steps.{in_kept, in_stepped, in_world, out_world}
use Rattle.guest_transfers.specs.Wanted.{idles_by, is_idle, out_wanted, waits_at, waits_by}

-- a TD that isn't to be ended waits
pub closed_if-idle : {D : Type 0} (kind : Kind D) (closes : Bool) (w : TagWorld D) (front : Front) (buffer : Buffer)
    → is_idle (Some (closed_if kind closes w front buffer).1) ≡ not closes
closed_if-idle kind true w front buffer = refl
closed_if-idle kind false w front buffer = refl

slot_kept : (slots : List Slot) (i : ℕ) (slot : Slot) → get_or (set slots i (get_or slots i slot)) i slot ≡ get_or slots i slot
slot_kept [] i slot = refl
slot_kept (first ∷ slots) zero slot = refl
slot_kept (first ∷ slots) (suc i) slot = slot_kept slots i slot

module _ {D : Type 0} (kind : Kind D) where
  idle_by : (phase : Phase) (w : TagWorld D) (number : ℕ) (front : Front) (buffer : Buffer)
      → is_idle (Some (gave_by kind phase w number front buffer).1) ≡ true → (gave_by kind phase w number front buffer).0 ≡ w
  idle_by Absent w number front buffer idle = refl
  idle_by (Gives count) w number front buffer idle = absurd (false≢true idle)
  idle_by (Takes count) w number front buffer idle = refl
  idle_by (Ended end) w number front buffer idle = by_end (is_status end && ends_td w.tag w.ring.consumer.progress.fed) idle
    where
      by_end : (closes : Bool) → is_idle (Some (closed_if kind closes w front buffer).1) ≡ true → (closed_if kind closes w front buffer).0 ≡ w
      by_end true idle = absurd (false≢true idle)
      by_end false idle = refl

  idle_ran : (w : TagWorld D) (number : ℕ) (front : Front) (buffer : Buffer)
      → is_idle (Some (ran kind w number front buffer).1) ≡ true → (ran kind w number front buffer).0 ≡ w
  unfolding ran
  idle_ran w number front buffer idle = by_tests (nat_le buffer.length w.ring.consumer.progress.moved) (has_chunk w.tag) idle
    where
      by_tests : (full some : Bool)
          → is_idle (Some (if full then (with_ring kind w (filled w.ring front buffer.flags), Worked)
          else if some then (moved_in kind w front buffer, Worked) else gave_by kind (kind.phase w.device number) w number front buffer).1) ≡ true
          → (if full then (with_ring kind w (filled w.ring front buffer.flags), Worked)
          else if some then (moved_in kind w front buffer, Worked) else gave_by kind (kind.phase w.device number) w number front buffer).0 ≡ w
      by_tests true some idle = absurd (false≢true idle)
      by_tests false true idle = absurd (false≢true idle)
      by_tests false false idle = idle_by (kind.phase w.device number) w number front buffer idle

  idle_normal : (ending : Ending) (w : TagWorld D) (number : ℕ) (front : Front) (buffer : Buffer)
      → is_idle (Some (normal kind ending w number front buffer).1) ≡ true → (normal kind ending w number front buffer).0 ≡ w
  idle_normal Runs w number front buffer idle = idle_ran w number front buffer idle
  idle_normal (Told code) w number front buffer idle = absurd (false≢true idle)
  idle_normal Owed w number front buffer idle = absurd (false≢true idle)

  idle_acted : (found : Found) (w : TagWorld D) (number : ℕ) (front : Front)
      → is_idle (Some (acted kind w number front found).1) ≡ true → (acted kind w number front found).0 ≡ w
  idle_acted WrongKind w number front idle = absurd (false≢true idle)
  idle_acted NotYet w number front idle = absurd (false≢true idle)
  idle_acted (Item (Normal pointer length flags)) w number front idle =
      idle_normal w.ring.consumer.progress.ending w number front (record { pointer = pointer; length = length; flags = flags }) idle
  idle_acted (Item (Link pointer toggle flags)) w number front idle = absurd (false≢true idle)
  idle_acted (Item (NoOp flags)) w number front idle = absurd (false≢true idle)
  idle_acted (Item (EventData parameter flags)) w number front idle = absurd (false≢true idle)
  idle_acted (Item Foreign) w number front idle = absurd (false≢true idle)

  idle_step : (w : TagWorld D) (number : ℕ) (home : Home) → is_idle (after w (stepped_in kind w number home)).1 ≡ true
      → (after w (stepped_in kind w number home)).0 ≡ w
  idle_step w number home idle = by_gate (gate w.ring.memory w.ring.events w.ring.consumer) (looked w.ring.memory home) idle
    where
      by_gate : (opens : Option (Option Acted)) (found : Option Front)
          → is_idle (after w (through w opens (option_map (acted_at kind w number) found))).1 ≡ true
          → (after w (through w opens (option_map (acted_at kind w number) found))).0 ≡ w
      by_gate None found idle = refl
      by_gate (Some (Some acted)) found idle = refl
      by_gate (Some None) None idle = refl
      by_gate (Some None) (Some front) idle = idle_acted front.found w number front idle

  -- what data-out lacks is the same behind it
  pub out_wanted-idle : (w : TransfersWorld D) (tag : ℕ) → is_idle (in_stepped kind w tag).1 ≡ true
      → out_wanted kind (in_stepped kind w tag).0 tag ≡ out_wanted kind w tag
  out_wanted-idle w tag idle =
      let v = in_world kind w tag in
      let behind : TagWorld D → Option Range = λ u. out_wanted kind (in_kept kind w tag (u, None)).0 tag in
      let by_slot : Slot → Option Range = λ slot. wanted_out kind (record (out_world kind w tag) { taken = slot.taken }) tag w.transfers.data_out in
      ap behind (idle_step v tag (home_of w.transfers.data_in tag) idle) ∙ ap by_slot (slot_kept w.transfers.tags tag empty_slot)

  -- nothing waits where no buffer is in front
  never : (w : TagWorld D) (number : ℕ) (moves : Bool) → waits_at kind w.ring.consumer w.tag w.device number (if moves then None else None) ≡ false
  never w number true = refl
  never w number false = refl

  -- whether a step would do nothing, by what it would find
  waits_ran : (w : TagWorld D) (number : ℕ) (front : Front) (buffer : Buffer)
      → is_idle (Some (ran kind w number front buffer).1) ≡ waits_at kind w.ring.consumer w.tag w.device number (Some buffer)
  unfolding ran
  waits_ran w number front buffer = elim (cases_lt w.ring.consumer.progress.moved buffer.length) [
    | inl room ↦ rw (lt-leb buffer.length w.ring.consumer.progress.moved room, lt-ltb w.ring.consumer.progress.moved buffer.length room) (by_chunk (has_chunk w.tag))
    | inr full ↦ rw (le-leb buffer.length w.ring.consumer.progress.moved full, le-ltb w.ring.consumer.progress.moved buffer.length full) refl
  ]
    where
      by_phase : (phase : Phase) → is_idle (Some (gave_by kind phase w number front buffer).1) ≡ waits_by phase w.tag w.ring.consumer.progress.fed
      by_phase Absent = refl
      by_phase (Gives count) = refl
      by_phase (Takes count) = refl
      by_phase (Ended end) = closed_if-idle kind (is_status end && ends_td w.tag w.ring.consumer.progress.fed) w front buffer

      by_chunk : (some : Bool) → is_idle (Some (if some then (moved_in kind w front buffer, Worked) else gave_by kind (kind.phase w.device number) w number front buffer).1)
          ≡ (true && (not some && waits_by (kind.phase w.device number) w.tag w.ring.consumer.progress.fed))
      by_chunk true = refl
      by_chunk false = by_phase (kind.phase w.device number)

  waits_normal : (ending : Ending) (w : TagWorld D) (number : ℕ) (front : Front) (buffer : Buffer)
      → is_idle (Some (normal kind ending w number front buffer).1) ≡ waits_at kind w.ring.consumer w.tag w.device number (if runs ending then Some buffer else None)
  waits_normal Runs w number front buffer = waits_ran w number front buffer
  waits_normal (Told code) w number front buffer = refl
  waits_normal Owed w number front buffer = refl

  waits_acted : (found : Found) (w : TagWorld D) (number : ℕ) (front : Front)
      → is_idle (Some (acted kind w number front found).1)
      ≡ waits_at kind w.ring.consumer w.tag w.device number (if runs w.ring.consumer.progress.ending then buffer_of found else None)
  waits_acted WrongKind w number front = sym (never w number (runs w.ring.consumer.progress.ending))
  waits_acted NotYet w number front = sym (never w number (runs w.ring.consumer.progress.ending))
  waits_acted (Item (Normal pointer length flags)) w number front =
      waits_normal w.ring.consumer.progress.ending w number front (record { pointer = pointer; length = length; flags = flags })
  waits_acted (Item (Link pointer toggle flags)) w number front = sym (never w number (runs w.ring.consumer.progress.ending))
  waits_acted (Item (NoOp flags)) w number front = sym (never w number (runs w.ring.consumer.progress.ending))
  waits_acted (Item (EventData parameter flags)) w number front = sym (never w number (runs w.ring.consumer.progress.ending))
  waits_acted (Item Foreign) w number front = sym (never w number (runs w.ring.consumer.progress.ending))

  pub idles : (w : TransfersWorld D) (tag : ℕ) → is_idle (in_stepped kind w tag).1
      ≡ idles_by (gate w.memory w.events (loaded w.transfers.data_in tag)) (looked w.memory (home_of w.transfers.data_in tag))
      (λ front. waits_at kind (loaded w.transfers.data_in tag) (slot_of w.transfers tag).tag w.device tag (moving (loaded w.transfers.data_in tag) front))
  idles w tag = by_gate (gate w.memory w.events (loaded w.transfers.data_in tag)) (looked w.memory (home_of w.transfers.data_in tag))
    where
      by_gate : (opens : Option (Option Acted)) (found : Option Front)
          → is_idle (after (in_world kind w tag) (through (in_world kind w tag) opens (option_map (acted_at kind (in_world kind w tag) tag) found))).1
          ≡ idles_by opens found (λ front. waits_at kind (loaded w.transfers.data_in tag) (slot_of w.transfers tag).tag w.device tag (moving (loaded w.transfers.data_in tag) front))
      by_gate None found = refl
      by_gate (Some (Some acted)) found = refl
      by_gate (Some None) None = refl
      by_gate (Some None) (Some front) = waits_acted front.found (in_world kind w tag) tag front
