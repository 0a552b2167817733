-- The address map and its inverse.
use Rattle.std.proofs.Common.{◌≡◌, ℕ, ◌+◌, ◌-◌, ◌*◌, ◌/◌, ◌%◌, ◌<◌, ◌≤◌, ◌==◌, ◌&&◌, true, Option, Some, None, nat_lt, nat_le}
use Rattle.std.proofs.Common.{option_and_then, if◌then◌else◌, refl, ◌∙◌, arith, inl, inr}
use Rattle.std.proofs.lemmas.Bool.{lt-ltb, le-ltb, le-leb, ltb-true, ltb-false, leb-true, eqb-true, and_parts, cases_Bool}
use Rattle.uas_profile.specs.declared.Pipe.{Pipe}
use Rattle.uas_profile.specs.declared.Pipe.TheVariants.{Command, Status, DataIn, DataOut}
use Rattle.uas_profile.specs.Pipes.{number_of}
use Rattle.stream_array.specs.Map.{HasRing, IsPlace, has_ring, pipe_numbered, place_address, places_of, spot_in, spot_at}
use Rattle.stream_array.specs.Map.{PlacesAreFound, FoundAreOfPlaces}
use Rattle.uas_profile.specs.declared.TheConstants.{COMMAND_RING_PLACES, PIPE_SPAN, RINGS, STREAMS, STREAM_SPAN}

-- FROM A PLACE TO ITS ADDRESS AND BACK

pipe_numbered-number_of : (pipe : Pipe) → pipe_numbered (number_of pipe) ≡ Some pipe
pipe_numbered-number_of Command = refl
pipe_numbered-number_of Status = refl
pipe_numbered-number_of DataIn = refl
pipe_numbered-number_of DataOut = refl

-- the bounds of a place
record InSpan (pipe : Pipe) (stream place : ℕ) : Type 0 where
  test : has_ring pipe stream ≡ true
  streams : stream ≤ STREAMS
  places : place < COMMAND_RING_PLACES

in_span : (pipe : Pipe) (stream place : ℕ) → IsPlace pipe stream place → InSpan pipe stream place
in_span Command stream place h = record { test = rw h.0 refl; streams = omega arith; places = h.1 }
in_span Status stream place h = record { test = rw (lt-ltb 0 stream h.0.0, le-leb stream STREAMS h.0.1) refl; streams = h.0.1; places = omega arith }
in_span DataIn stream place h = record { test = rw (lt-ltb 0 stream h.0.0, le-leb stream STREAMS h.0.1) refl; streams = h.0.1; places = omega arith }
in_span DataOut stream place h = record { test = rw (lt-ltb 0 stream h.0.0, le-leb stream STREAMS h.0.1) refl; streams = h.0.1; places = omega arith }

spot_in-place : (pipe : Pipe) (stream place inside : ℕ) → IsPlace pipe stream place → inside ≡ STREAM_SPAN * stream + 16 * place
    → spot_in pipe inside ≡ Some (pipe, stream, place)
spot_in-place pipe stream place inside h e =
    let span = in_span pipe stream place h in
    let low = span.places in
    let of_stream : inside / STREAM_SPAN ≡ stream = omega arith in
    let of_place : inside % STREAM_SPAN / 16 ≡ place = omega arith in
    let whole : inside % 16 ≡ 0 = omega arith in
    rw (of_stream, of_place, whole, span.test, lt-ltb place (places_of pipe) h.1) refl

number-bounds : (pipe : Pipe) → (1 ≤ number_of pipe) × (number_of pipe ≤ 4)
number-bounds Command = (omega arith, omega arith)
number-bounds Status = (omega arith, omega arith)
number-bounds DataIn = (omega arith, omega arith)
number-bounds DataOut = (omega arith, omega arith)

pub spot_at-address : (pointer : ℕ) (pipe : Pipe) (stream place : ℕ) → IsPlace pipe stream place → pointer ≡ place_address pipe stream place
    → spot_at pointer ≡ Some (pipe, stream, place)
spot_at-address pointer pipe stream place h e =
    let span = in_span pipe stream place h in
    let streams = span.streams in
    let low = span.places in
    let numbers = number-bounds pipe in
    let number : (pointer - RINGS) / PIPE_SPAN ≡ number_of pipe = omega arith in
    let inside : (pointer - RINGS) % PIPE_SPAN ≡ STREAM_SPAN * stream + 16 * place = omega arith in
    rw (le-ltb pointer RINGS (omega arith), number, pipe_numbered-number_of pipe)
    (spot_in-place pipe stream place ((pointer - RINGS) % PIPE_SPAN) h inside)

pub spot_at-place_address : PlacesAreFound
spot_at-place_address pipe stream place h = spot_at-address (place_address pipe stream place) pipe stream place h refl

-- FROM AN ADDRESS TO A PLACE

has_ring-true : (pipe : Pipe) (stream : ℕ) → has_ring pipe stream ≡ true → HasRing pipe stream
has_ring-true Command stream e = eqb-true stream 0 e
has_ring-true Status stream e = let parts = and_parts (nat_lt 0 stream) (nat_le stream STREAMS) e in (ltb-true 0 stream parts.0, leb-true stream STREAMS parts.1)
has_ring-true DataIn stream e = let parts = and_parts (nat_lt 0 stream) (nat_le stream STREAMS) e in (ltb-true 0 stream parts.0, leb-true stream STREAMS parts.1)
has_ring-true DataOut stream e = let parts = and_parts (nat_lt 0 stream) (nat_le stream STREAMS) e in (ltb-true 0 stream parts.0, leb-true stream STREAMS parts.1)

-- what is found in a pipe's span
spot_in-is : (pipe : Pipe) (inside : ℕ) (at : Pipe × ℕ × ℕ) → spot_in pipe inside ≡ Some at
    → (at.0 ≡ pipe) × IsPlace pipe at.1 at.2 × (inside ≡ STREAM_SPAN * at.1 + 16 * at.2)
spot_in-is pipe inside at found =
    let stream = inside / STREAM_SPAN in
    let place = inside % STREAM_SPAN / 16 in
    let rest = nat_lt place (places_of pipe) && (inside % 16 == 0) in
    elim (cases_Bool (has_ring pipe stream && rest)) as (λ _. (at.0 ≡ pipe) × IsPlace pipe at.1 at.2 × (inside ≡ STREAM_SPAN * at.1 + 16 * at.2)) [
      | inl passes ↦
          let some : Some (pipe, stream, place) ≡ Some at = rw passes at found in
          let same : (pipe, stream, place) ≡ at = cc in
          let outer = and_parts (has_ring pipe stream) rest passes in
          let inner = and_parts (nat_lt place (places_of pipe)) (inside % 16 == 0) outer.1 in
          let whole = eqb-true (inside % 16) 0 inner.1 in
          rw (← same) (refl, (has_ring-true pipe stream outer.0, ltb-true place (places_of pipe) inner.0), omega arith)
      | inr fails ↦ let none : None ≡ Some at = rw fails at found in absurd (cc)
    ]

same_number : (found pipe : Pipe) (number : ℕ) → Some found ≡ Some pipe → number ≡ number_of found → number ≡ number_of pipe
same_number found pipe number some is = let same : found ≡ pipe = cc in rw (← same) is

-- one number tried, and then the others
number_tried : (number this : ℕ) (named pipe : Pipe) (others : Option Pipe) → this ≡ number_of named → (others ≡ Some pipe → number ≡ number_of pipe)
    → (if number == this then Some named else others) ≡ Some pipe → number ≡ number_of pipe
number_tried number this named pipe others numbered else_so found =
    elim (cases_Bool (number == this)) as (λ _. number ≡ number_of pipe) [
      | inl same ↦ same_number named pipe number (rw same at found) (eqb-true number this same ∙ numbered)
      | inr not_this ↦ else_so (rw not_this at found)
    ]

pipe_numbered-is : (number : ℕ) (pipe : Pipe) → pipe_numbered number ≡ Some pipe → number ≡ number_of pipe
pipe_numbered-is number pipe found =
    number_tried number 1 Command pipe _ refl
    (number_tried number 2 Status pipe _ refl (number_tried number 3 DataIn pipe _ refl (number_tried number 4 DataOut pipe None refl (λ none. absurd (cc)))))
    found

spot_of : (pointer : ℕ) (pipe : Option Pipe) (at : Pipe × ℕ × ℕ) → pipe_numbered ((pointer - RINGS) / PIPE_SPAN) ≡ pipe
    → RINGS ≤ pointer
    → option_and_then (λ pipe. spot_in pipe ((pointer - RINGS) % PIPE_SPAN)) pipe ≡ Some at
    → IsPlace at.0 at.1 at.2 × (pointer ≡ place_address at.0 at.1 at.2)
spot_of pointer None at numbered reach found = absurd (cc)
spot_of pointer (Some pipe) at numbered reach found =
    let is = spot_in-is pipe ((pointer - RINGS) % PIPE_SPAN) at found in
    let number = pipe_numbered-is ((pointer - RINGS) / PIPE_SPAN) pipe numbered in
    rw is.0 (is.1, omega (arith, is.2))

pub spot_at-is : FoundAreOfPlaces
spot_at-is pointer at found =
    elim (cases_Bool (nat_lt pointer RINGS)) as (λ _. IsPlace at.0 at.1 at.2 × (pointer ≡ place_address at.0 at.1 at.2)) [
      | inl below ↦ let none : None ≡ Some at = rw below at found in absurd (cc)
      | inr above ↦ spot_of pointer (pipe_numbered ((pointer - RINGS) / PIPE_SPAN)) at refl (ltb-false pointer RINGS above) (rw above at found)
    ]

pub ruleset spots = (spot_at-place_address, spot_at-is, spot_at-address)
