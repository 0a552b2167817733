-- What a step finds is the same with another memory beside this one.
use Rattle.std.proofs.Common.{◌≡◌, ℕ, Bool, true, false, List, Option, Some, None, refl, sym, ap, ◌∙◌}
use Rattle.std.specs.Prelude.{is_some, not, if◌then◌else◌, option_map}
use Rattle.std.proofs.lemmas.Bool.{false≢true}
use Rattle.std.proofs.lemmas.Option.{none-some}
use Rattle.byteorder.specs.Endian.{little_number}
use Rattle.guest_memory.specs.Bytes.{Memory, bytes_from, is_there, ◌>>=◌}
use Rattle.guest_memory.specs.declared.rings.context.Home.{Home}
use Rattle.guest_memory.specs.declared.rings.context.Front.{Front}
use Rattle.guest_memory.specs.declared.rings.context.Found.{Found}
use Rattle.guest_memory.specs.declared.rings.context.Found.TheVariants.{WrongKind}
use Rattle.guest_memory.specs.declared.rings.wanting.Range.{Range}
use Rattle.guest_memory.specs.rings.Ends.{cursor_in, fetched, found_at, found_of, front_of, home_at, home_size, is_ring, looked, owned}
use Rattle.guest_memory.specs.rings.Events.{EventEnd, enqueue_pointer, has_room}
use Rattle.guest_memory.specs.rings.WantedLaws.{map_some}
use Rattle.guest_pipes.specs.declared.acted.Acted.{Acted}
use Rattle.guest_pipes.specs.declared.acted.Acted.TheVariants.{Full, Idle, Off}
use Rattle.guest_pipes.specs.declared.consumer.Consumer.{Consumer}
use Rattle.guest_pipes.specs.Gate.{after, gate, is_running, room_gate, through}
use Rattle.guest_pipes.specs.Pipe.{PipeState, home_of}
use Rattle.guest_pipes.specs.Step.{World, has_place}
use Rattle.guest_pipes.specs.Wanted.{front_wanted, step_wanted, wanted_of, wanted_through}
use Rattle.guest_pipes.specs.WantedLaws.{front_there}
use Rattle.guest_transfers.specs.Beside.{beside}
use Rattle.guest_transfers.proofs.BesideRing.{bytes-beside, there-beside}

found_at-beside : (memory rest : Memory) (home : Home) (number : ℕ) → is_some (found_at memory home number) ≡ true → found_at (beside memory rest) home number ≡ found_at memory home number
unfolding found_at fetched
found_at-beside memory rest home number some = by_kind (is_ring home number) some
  where
    by_kind : (ring : Bool) → is_some (if ring then option_map found_of (option_map (owned (cursor_in number).cycle) (bytes_from memory (cursor_in number).place 16)) else Some WrongKind) ≡ true
        → (if ring then option_map found_of (option_map (owned (cursor_in number).cycle) (bytes_from (beside memory rest) (cursor_in number).place 16)) else Some WrongKind)
        ≡ (if ring then option_map found_of (option_map (owned (cursor_in number).cycle) (bytes_from memory (cursor_in number).place 16)) else Some WrongKind)
    by_kind true some =
        let words = option_map (owned (cursor_in number).cycle) (bytes_from memory (cursor_in number).place 16) in
        let there : is_there memory (cursor_in number).place 16 ≡ true =
        sym (map_some (owned (cursor_in number).cycle) (bytes_from memory (cursor_in number).place 16)) ∙ sym (map_some found_of words) ∙ some in
        let out : Option (List ℕ) → Option Found = λ bytes. option_map found_of (option_map (owned (cursor_in number).cycle) bytes) in
        ap out (bytes-beside memory rest (cursor_in number).place 16 there)
    by_kind false some = refl

bound_some : {A B : Type 0} (o : Option A) (f : A → B) → is_some (o >>= (λ x. Some (f x))) ≡ true → is_some o ≡ true
bound_some None f some = some
bound_some (Some x) f some = refl

pub looked-beside : (memory rest : Memory) (home : Home) → is_some (looked memory home) ≡ true → looked (beside memory rest) home ≡ looked memory home
unfolding looked
looked-beside memory rest home some =
    by_bytes (bytes_from memory (home_at home) (home_size home)) (bytes_from (beside memory rest) (home_at home) (home_size home))
    (bytes-beside memory rest (home_at home) (home_size home)) some
  where
    by_bytes : (mine both : Option (List ℕ)) → (is_some mine ≡ true → both ≡ mine)
        → is_some (mine >>= (λ bytes. found_at memory home (little_number 8 bytes) >>= (λ found. Some (front_of home (little_number 8 bytes) found)))) ≡ true
        → (both >>= (λ bytes. found_at (beside memory rest) home (little_number 8 bytes) >>= (λ found. Some (front_of home (little_number 8 bytes) found))))
        ≡ (mine >>= (λ bytes. found_at memory home (little_number 8 bytes) >>= (λ found. Some (front_of home (little_number 8 bytes) found))))
    by_bytes None both same some = absurd (false≢true some)
    by_bytes (Some bytes) both same some =
        let e : both ≡ Some bytes = same refl in
        let number = little_number 8 bytes in
        let found_some : is_some (found_at memory home number) ≡ true = bound_some (found_at memory home number) (front_of home number) some in
        let out : Option Found → Option Front = λ o. o >>= (λ found. Some (front_of home number found)) in
        rw e (ap out (found_at-beside memory rest home number found_some))

pub gate-beside : (memory rest : Memory) (events : EventEnd) (consumer : Consumer) → is_some (gate memory events consumer) ≡ true
    → gate (beside memory rest) events consumer ≡ gate memory events consumer
unfolding gate room_gate
gate-beside memory rest events consumer some =
    by_tests (is_running consumer.state) consumer.rung (has_room events) (has_place memory events) refl some
  where
    by_tests : (runs rung room place : Bool) → has_place memory events ≡ place
        → is_some (if not runs then Some (Some Off) else if not rung then Some (Some Idle) else if not room then Some (Some Full) else if place then Some None else None) ≡ true
        → (if not runs then Some (Some Off) else if not rung then Some (Some Idle) else if not room then Some (Some Full) else if has_place (beside memory rest) events then Some None else None)
        ≡ (if not runs then Some (Some Off) else if not rung then Some (Some Idle) else if not room then Some (Some Full) else if place then Some None else None)
    by_tests false rung room place is some = refl
    by_tests true false room place is some = refl
    by_tests true true false place is some = refl
    by_tests true true true true is some = rw (there-beside memory rest (enqueue_pointer events) 16 is) refl
    by_tests true true true false is some = absurd (false≢true some)

-- a step that lacks nothing, where what it does with what it found is the same
pub through-beside : {S : Type 0} (out : S → S) (s : S) (w : World) (rest : Memory) (p : PipeState) (stream : ℕ) (part : Front → Option Range) (act next : Front → S × Acted)
    → ((front : Front) → part front ≡ None → (out (act front).0, (act front).1) ≡ next front)
    → step_wanted w p stream part ≡ None
    → through (out s) (gate (beside w.memory rest) w.events w.consumer) (option_map next (looked (beside w.memory rest) (home_of p stream)))
    ≡ option_map (λ done. (out done.0, done.1)) (through s (gate w.memory w.events w.consumer) (option_map act (looked w.memory (home_of p stream))))
through-beside {S} out s w rest p stream part act next acts none =
    by_gate (gate w.memory w.events w.consumer) (gate (beside w.memory rest) w.events w.consumer)
    (looked w.memory (home_of p stream)) (looked (beside w.memory rest) (home_of p stream))
    (gate-beside w.memory rest w.events w.consumer) (front_there w.memory p stream) (looked-beside w.memory rest (home_of p stream)) none
  where
    by_gate : (opens both : Option (Option Acted)) (found finds : Option Front) → (is_some opens ≡ true → both ≡ opens)
        → (front_wanted w.memory p stream ≡ None → is_some found ≡ true) → (is_some found ≡ true → finds ≡ found)
        → wanted_through opens w.events (wanted_of found (front_wanted w.memory p stream) part) ≡ None
        → through (out s) both (option_map next finds) ≡ option_map (λ (done : S × Acted). (out done.0, done.1)) (through s opens (option_map act found))
    by_gate None both found finds same_gate there same_front none = absurd (none-some _ (sym none))
    by_gate (Some None) both None finds same_gate there same_front none = absurd (false≢true (there none))
    by_gate (Some None) both (Some front) finds same_gate there same_front none =
        let e : both ≡ Some None = same_gate refl in
        let f : finds ≡ Some front = same_front refl in
        rw (e, f) (ap Some (sym (acts front none)))
    by_gate (Some (Some acted)) both found finds same_gate there same_front none =
        let e : both ≡ Some (Some acted) = same_gate refl in
        rw e refl

pub after-beside : {S : Type 0} (out : S → S) (s : S) (step : Option (S × Acted))
    → after (out s) (option_map (λ done. (out done.0, done.1)) step) ≡ (out (after s step).0, (after s step).1)
after-beside out s None = refl
after-beside out s (Some done) = refl
