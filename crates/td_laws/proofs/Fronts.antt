-- What a step finds in front, and what holds where it is let through.
use Rattle.std.proofs.Common.{◌≡◌, Bool, true, false, List, ℕ, Option, Some, None, refl, sym, ap, subst}
use Rattle.std.specs.Prelude.{not, if◌then◌else◌, option_map}
use Rattle.std.proofs.lemmas.Option.{none-some, same_Some}
use Rattle.byteorder.specs.Endian.{little_number}
use Rattle.guest_memory.specs.Bytes.{Memory, bytes_from, ◌>>=◌}
use Rattle.guest_memory.specs.declared.rings.context.Home.{Home}
use Rattle.guest_memory.specs.declared.rings.context.Front.{Front}
use Rattle.guest_memory.specs.declared.rings.context.Found.{Found}
use Rattle.guest_memory.specs.rings.Ends.{found_at, front_of as front_by, home_at, home_size, looked}
use Rattle.guest_memory.specs.rings.Events.{EventEnd, has_room}
use Rattle.guest_pipes.specs.declared.acted.Acted.{Acted}
use Rattle.guest_pipes.specs.declared.acted.Acted.TheVariants.{Full, Idle, Off}
use Rattle.guest_pipes.specs.declared.consumer.Consumer.{Consumer}
use Rattle.guest_pipes.specs.Gate.{after, gate, is_running, room_gate, through}
use Rattle.guest_pipes.specs.Step.{World, has_place}
use Rattle.td_laws.specs.Places.{front_of, let_through}

-- a front is of the place that was looked at
pub looked_home : (memory : Memory) (home : Home) (front : Front) → looked memory home ≡ Some front → front.home ≡ home
unfolding looked
looked_home memory home front is = by_bytes (bytes_from memory (home_at home) (home_size home)) is
  where
    by_found : (bytes : List ℕ) (found : Option Found) → (found >>= (λ f. Some (front_by home (little_number 8 bytes) f))) ≡ Some front → front.home ≡ home
    by_found bytes None is = absurd (none-some front is)
    by_found bytes (Some f) is =
        let e : front_by home (little_number 8 bytes) f ≡ front = same_Some (front_by home (little_number 8 bytes) f) front is in
        let out : Front → Home = λ x. x.home in
        sym (ap out e)

    by_bytes : (bytes : Option (List ℕ)) → (bytes >>= (λ bs. found_at memory home (little_number 8 bs) >>= (λ f. Some (front_by home (little_number 8 bs) f)))) ≡ Some front
        → front.home ≡ home
    by_bytes None is = absurd (none-some front is)
    by_bytes (Some bytes) is = by_found bytes (found_at memory home (little_number 8 bytes)) is

-- a step that is let through has two free places of the event ring
pub gate_room : (memory : Memory) (events : EventEnd) (consumer : Consumer) → gate memory events consumer ≡ Some None → has_room events ≡ true
unfolding gate room_gate
gate_room memory events consumer opens = by_tests (is_running consumer.state) consumer.rung (has_room events) (has_place memory events) opens
  where
    by_tests : (runs rung room place : Bool)
        → (if not runs then Some (Some Off) else if not rung then Some (Some Idle) else if not room then Some (Some Full) else if place then Some None else None) ≡ Some None
        → room ≡ true
    by_tests runs rung true place opens = refl
    by_tests false rung false place opens = absurd (none-some Off (sym (same_Some (Some Off) None opens)))
    by_tests true false false place opens = absurd (none-some Idle (sym (same_Some (Some Idle) None opens)))
    by_tests true true false place opens = absurd (none-some Full (sym (same_Some (Some Full) None opens)))

-- a step of a pipe: by what stands in front, where nothing holds it back
module _ {S : Type 0} (s : S) (w : World) (home : Home) (act : Front → S × Acted) (P : S → Option Front → Type 0) where
  pub by_front : P s None → ((front : Front) → front.home ≡ home → has_room w.events ≡ true → P (act front).0 (Some front))
      → P (after s (through s (gate w.memory w.events w.consumer) (option_map act (looked w.memory home)))).0 (front_of w home)
  by_front none taken =
      by_gate (gate w.memory w.events w.consumer) (looked w.memory home) (gate_room w.memory w.events w.consumer) (looked_home w.memory home)
    where
      by_gate : (opens : Option (Option Acted)) (finds : Option Front) → (opens ≡ Some None → has_room w.events ≡ true) → ((front : Front) → finds ≡ Some front → front.home ≡ home)
          → P (after s (through s opens (option_map act finds))).0 (let_through opens finds)
      by_gate None finds room homes = none
      by_gate (Some None) None room homes = none
      by_gate (Some None) (Some front) room homes = taken front (homes front refl) (room refl)
      by_gate (Some (Some acted)) finds room homes = none

-- and where this stands in front
pub on_front : {S : Type 0} (s : S) (w : World) (home : Home) (act : Front → S × Acted) (P : S → Option Front → Type 0) (front : Front) → front_of w home ≡ Some front
    → (front.home ≡ home → P (act front).0 (Some front))
    → P (after s (through s (gate w.memory w.events w.consumer) (option_map act (looked w.memory home)))).0 (front_of w home)
on_front {S} s w home act P front found holds =
    by_front s w home act (λ (v : S) (f : Option Front). f ≡ Some front → P v f) (λ is. absurd (none-some front is))
    (λ other there room is.
    let same : other ≡ front = same_Some other front is in
    subst (λ (g : Front). P (act g).0 (Some g)) (sym same) (holds (subst (λ (g : Front). g.home ≡ home) same there)))
    found

-- what stands in front is what a look finds
pub front_looked : (w : World) (home : Home) (front : Front) → front_of w home ≡ Some front → looked w.memory home ≡ Some front
front_looked w home front found = by_gate (gate w.memory w.events w.consumer) (looked w.memory home) found
  where
    by_gate : (opens : Option (Option Acted)) (finds : Option Front) → let_through opens finds ≡ Some front → finds ≡ Some front
    by_gate None finds is = absurd (none-some front is)
    by_gate (Some None) finds is = is
    by_gate (Some (Some acted)) finds is = absurd (none-some front is)
