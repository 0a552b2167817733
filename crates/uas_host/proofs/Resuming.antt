-- The doorbells of a pipe's streams, one after another.
use Rattle.std.proofs.Common.{◌≡◌, ℕ, zero, suc, ◌+◌, ◌-◌, ◌≤◌, true, false, List, [], ◌∷◌, ◌++◌, map, refl, arith, sym, ap, ap₂, ◌∙◌, append-nil, append_assoc}
use Rattle.std.specs.Prelude.{filter, cond, if◌then◌else◌}
use Rattle.std.specs.List.{range_with_len}
use Rattle.std.proofs.lemmas.Bool.{le-ltb, lt-ltb}
use Rattle.std.proofs.lemmas.List.{map-append}
use Rattle.std.proofs.lemmas.List.Elements.{filter-append}
use Rattle.uas_profile.specs.declared.Pipe.{Pipe}
use Rattle.uas_profile.specs.declared.Pipe.TheVariants.{Command, Status, DataIn, DataOut}
use Rattle.uas_profile.specs.declared.TheConstants.{STREAMS}
use Rattle.uas_profile.specs.Pipes.{HasStreams}
use Rattle.stream_array.specs.Map.{HasRing}
use Rattle.stream_array.specs.Rings.{HasPending, LinesState, NonePendingOn, ring_of}
use Rattle.uas_profile.specs.Doors.{door}
use Rattle.uas_profile.specs.Pipes.{target_of}
use Rattle.uas_host.specs.Retirement.{has_pending, resumed_doors}

-- a pipe with streams has a ring for each of them
streams-ring : (pipe : Pipe) (stream : ℕ) → HasStreams pipe → 1 ≤ stream → stream ≤ STREAMS → HasRing pipe stream
streams-ring Command stream has first last = absurd has
streams-ring Status stream has first last = (omega arith, omega arith)
streams-ring DataIn stream has first last = (omega arith, omega arith)
streams-ring DataOut stream has first last = (omega arith, omega arith)

-- and its rings are theirs
pub ring-last : (pipe : Pipe) (stream : ℕ) → HasStreams pipe → HasRing pipe stream → stream ≤ STREAMS
ring-last Command stream has ring = absurd has
ring-last Status stream has ring = ring.1
ring-last DataIn stream has ring = ring.1
ring-last DataOut stream has ring = ring.1

-- the doorbell of a stream of a pipe, where it has a pending TRB
abbrev pending_door : LinesState → Pipe → ℕ → List ℕ
pending_door lines pipe stream = if has_pending (ring_of lines pipe stream) then door (target_of pipe) stream ∷ [] else []

-- the doorbells of the first streams
unfoldable pub doors_below : LinesState → Pipe → ℕ → List ℕ
doors_below lines pipe count = map (door (target_of pipe)) (filter (λ stream. has_pending (ring_of lines pipe stream)) (range_with_len 1 count))

range-more : (first count : ℕ) → range_with_len first (suc count) ≡ range_with_len first count ++ (first + count) ∷ []
range-more first zero = let same : first + 0 ≡ first = omega arith in rw same refl
range-more first (suc count) =
    let same : first + suc count ≡ first + 1 + count = omega arith in
    rw same (ap (λ rest. first ∷ rest) (range-more (first + 1) count))

door_of : (lines : LinesState) (pipe : Pipe) (stream : ℕ) →
    map (door (target_of pipe)) (filter (λ stream. has_pending (ring_of lines pipe stream)) (stream ∷ [])) ≡ pending_door lines pipe stream
door_of lines pipe stream =
    elim (has_pending (ring_of lines pipe stream)) as
    (λ b. map (door (target_of pipe)) (cond b (stream ∷ []) []) ≡ cond b (door (target_of pipe) stream ∷ []) []) [
      | true ↦ refl
      | false ↦ refl
    ]

doors_below-more : (lines : LinesState) (pipe : Pipe) (count : ℕ) →
    doors_below lines pipe (suc count) ≡ doors_below lines pipe count ++ pending_door lines pipe (1 + count)
unfolding doors_below
doors_below-more lines pipe count =
    let test = λ (stream : ℕ). has_pending (ring_of lines pipe stream) in
    ap (λ list. map (door (target_of pipe)) (filter test list)) (range-more 1 count)
    ∙ (ap (map (door (target_of pipe))) (filter-append test (range_with_len 1 count) ((1 + count) ∷ []))
    ∙ (map-append (door (target_of pipe)) (filter test (range_with_len 1 count)) (filter test ((1 + count) ∷ []))
    ∙ ap (λ doors. map (door (target_of pipe)) (filter test (range_with_len 1 count)) ++ doors) (door_of lines pipe (1 + count))))

-- a stream with nothing pending has no doorbell
door-none : (lines : LinesState) (pipe : Pipe) (stream : ℕ) → (HasPending (ring_of lines pipe stream) → ⊥) → pending_door lines pipe stream ≡ []
door-none lines pipe stream none =
    let idle : has_pending (ring_of lines pipe stream) ≡ false = le-ltb _ _ (omega (arith, none)) in
    rw idle refl

door-one : (lines : LinesState) (pipe : Pipe) (stream : ℕ) → HasPending (ring_of lines pipe stream)
    → pending_door lines pipe stream ≡ door (target_of pipe) stream ∷ []
door-one lines pipe stream some =
    let due : has_pending (ring_of lines pipe stream) ≡ true = lt-ltb _ _ some in
    rw due refl

-- streams with nothing pending add none
doors_below-skip : (lines : LinesState) (pipe : Pipe) (count more : ℕ) → HasStreams pipe → count + more ≤ STREAMS
    → NonePendingOn lines pipe (count + 1) (count + more + 1) → doors_below lines pipe (count + more) ≡ doors_below lines pipe count
doors_below-skip lines pipe count zero has last none = ap (doors_below lines pipe) (omega arith)
doors_below-skip lines pipe count (suc more) has last none =
    let next : count + suc more ≡ suc (count + more) = omega arith in
    let here = none (1 + (count + more)) (streams-ring pipe (1 + (count + more)) has (omega arith) (omega arith)) (omega arith) (omega arith) in
    let before : NonePendingOn lines pipe (count + 1) (count + more + 1) = λ stream ring low high. none stream ring low (omega arith) in
    ap (doors_below lines pipe) next
    ∙ (doors_below-more lines pipe (count + more)
    ∙ (ap (λ doors. doors_below lines pipe (count + more) ++ doors) (door-none lines pipe (1 + (count + more)) here)
    ∙ (append-nil (doors_below lines pipe (count + more))
    ∙ doors_below-skip lines pipe count more has (omega arith) before)))

-- the doorbell of the next stream that has something pending is added
pub doors_below-next : (lines : LinesState) (pipe : Pipe) (from stream : ℕ) (first before after : List ℕ) → HasStreams pipe → 1 ≤ from
    → from ≤ stream → stream ≤ STREAMS → NonePendingOn lines pipe from stream → HasPending (ring_of lines pipe stream)
    → before ≡ first ++ doors_below lines pipe (from - 1) → after ≡ before ++ door (target_of pipe) stream ∷ []
    → after ≡ first ++ doors_below lines pipe (stream + 1 - 1)
doors_below-next lines pipe from stream first before after has one up last none due so_far rung =
    let more = stream - from in
    let next : stream + 1 - 1 ≡ suc (from - 1 + more) = omega arith in
    let at : stream ≡ 1 + (from - 1 + more) = omega arith in
    let low : from ≡ from - 1 + 1 = omega arith in
    let passed : NonePendingOn lines pipe (from - 1 + 1) (from - 1 + more + 1) = λ other ring above below. none other ring (omega arith) (omega arith) in
    let skipped = doors_below-skip lines pipe (from - 1) more has (omega arith) passed in
    let here : pending_door lines pipe (1 + (from - 1 + more)) ≡ door (target_of pipe) stream ∷ [] =
    ap (pending_door lines pipe) (sym at) ∙ door-one lines pipe stream due in
    rw next
    (rung ∙ (ap (λ doors. doors ++ door (target_of pipe) stream ∷ []) so_far
    ∙ (append_assoc first (doors_below lines pipe (from - 1)) (door (target_of pipe) stream ∷ [])
    ∙ ap (λ doors. first ++ doors) (sym (doors_below-more lines pipe (from - 1 + more) ∙ ap₂ (λ doors one. doors ++ one) skipped here)))))

pub doors_below-all : (lines : LinesState) (pipe : Pipe) → doors_below lines pipe STREAMS ≡ resumed_doors lines pipe
unfolding doors_below resumed_doors
doors_below-all lines pipe = refl

-- no further stream has something pending
pub doors_below-last : (lines : LinesState) (pipe : Pipe) (from : ℕ) (first doors : List ℕ) → HasStreams pipe → 1 ≤ from → from ≤ STREAMS + 1
    → NonePendingOn lines pipe from (STREAMS + 1) → doors ≡ first ++ doors_below lines pipe (from - 1) → doors ≡ first ++ resumed_doors lines pipe
doors_below-last lines pipe from first doors has one up none so_far =
    let more = STREAMS + 1 - from in
    let all : from - 1 + more ≡ STREAMS = omega arith in
    let passed : NonePendingOn lines pipe (from - 1 + 1) (from - 1 + more + 1) = λ other ring above below. none other ring (omega arith) (omega arith) in
    so_far
    ∙ ap (λ doors. first ++ doors) (sym (doors_below-skip lines pipe (from - 1) more has (omega arith) passed)
    ∙ (ap (doors_below lines pipe) all ∙ doors_below-all lines pipe))

pub doors_below-none : (lines : LinesState) (pipe : Pipe) → doors_below lines pipe 0 ≡ []
unfolding doors_below
doors_below-none lines pipe = refl
