-- The doorbells of a pipe's streams, kept as a mark of each stream: what a mark that is set changes, and that the marks of the
-- streams whose doorbells were given bring those doorbells back. Cited by the functions of src/doorbells.rt and by their callers.
use Rattle.std.proofs.Common.{◌≡◌, ℕ, zero, suc, ◌+◌, ◌-◌, ◌*◌, ◌^◌, ◌<◌, ◌≤◌, ◌==◌, ◌||◌, Bool, true, false, cond}
use Rattle.std.proofs.Common.{List, [], ◌∷◌, ◌++◌, length, map, take, get_or, refl, arith, append-nil, sym, ap, subst, ◌∙◌}
use Rattle.std.specs.List.{All, filter, list_any, range_with_len}
use Rattle.std.proofs.Math.Dec.{eqb, ltb}
use Rattle.std.proofs.lemmas.Bool.{eq-eqb, lt-ltb, ne_eqb}
use Rattle.std.proofs.lemmas.List.{map-append}
use Rattle.std.proofs.lemmas.List.Elements.{All-filter, All-from_get_or, All-get_or, All-map, filter-append, filter_agree}
use Rattle.std.proofs.lemmas.List.FromFn.{get_or-range_with_len, length-range_with_len}
use mathlib.Core.Logic.{dite}
use native.Mathlib.Decide.{ℕ_discrete}
use Rattle.uas_profile.specs.declared.Pipe.{Pipe}
use Rattle.uas_profile.specs.declared.Pipe.TheVariants.{Command, Status, DataIn, DataOut}
use Rattle.uas_profile.specs.declared.TheConstants.{STREAMS}
use Rattle.block_unit.proofs.Rising.{RisesFrom, RisesFrom-weaker, filter-rising}
use Rattle.uas_profile.specs.Doors.{door}
use Rattle.uas_profile.specs.Pipes.{target_of}
use Rattle.uas_profile.specs.Doors.{stream_in}
use Rattle.marks.specs.Marks.{is_marked}
use Rattle.shared_machine.specs.Doorbells.{IsResumed, doors_among, resumed_by}

-- ONE MARK

-- a stream is marked, and no other mark changes
marked-is : (words after : List ℕ) (stream other : ℕ) → is_marked after stream ≡ true
    → ((other : ℕ) → (other ≡ stream → ⊥) → is_marked after other ≡ is_marked words other)
    → is_marked after other ≡ (other == stream || is_marked words other)
marked-is words after stream other here others =
    dite (ℕ_discrete other stream)
    (λ (same : other ≡ stream). ap (is_marked after) same ∙ (here ∙ sym (ap (λ b. b || is_marked words other) (eq-eqb other stream same))))
    (λ (apart : other ≡ stream → ⊥). others other apart ∙ sym (ap (λ b. b || is_marked words other) (ne_eqb other stream apart)))

or-swap : (a b c : Bool) → (a || (b || c)) ≡ (b || (a || c))
or-swap true true c = refl
or-swap true false c = refl
or-swap false b c = refl

any-taken : (stream : ℕ) (values : List ℕ) (k : ℕ) → k < length values → list_any (eqb stream) (map stream_in (take (suc k) values))
    ≡ (stream == stream_in (get_or values k 0) || list_any (eqb stream) (map stream_in (take k values)))
any-taken stream [] k within = absurd (omega arith)
any-taken stream (value ∷ rest) zero within = refl
any-taken stream (value ∷ rest) (suc k) within =
    ap (λ b. stream == stream_in value || b) (any-taken stream rest k (omega (arith, within)))
    ∙ or-swap (stream == stream_in value) (stream == stream_in (get_or rest k 0)) (list_any (eqb stream) (map stream_in (take k rest)))

-- the stream of one value more is marked
pub marked-next : (words after values : List ℕ) (k other : ℕ) → k < length values → is_marked after (stream_in (get_or values k 0)) ≡ true
    → ((other : ℕ) → (other ≡ stream_in (get_or values k 0) → ⊥) → is_marked after other ≡ is_marked words other)
    → is_marked words other ≡ list_any (eqb other) (map stream_in (take k values))
    → is_marked after other ≡ list_any (eqb other) (map stream_in (take (k + 1) values))
marked-next words after values k other within here others so_far =
    let next : suc k ≡ k + 1 = omega arith in
    marked-is words after (stream_in (get_or values k 0)) other here others
    ∙ (ap (λ b. other == stream_in (get_or values k 0) || b) so_far
    ∙ (sym (any-taken other values k within) ∙ ap (λ n. list_any (eqb other) (map stream_in (take n values))) next))

-- STREAMS THAT PASS A TEST

rises-range : (test : ℕ → Bool) (from many : ℕ) → RisesFrom from (filter test (range_with_len from many))
rises-range test from zero = tt
rises-range test from (suc many) =
    let more : List ℕ = filter test (range_with_len (from + 1) many) in
    let rest : RisesFrom (suc from) more = RisesFrom-weaker (suc from) (from + 1) more (omega arith) (rises-range test (from + 1) many) in
    elim (test from) as (λ passes. RisesFrom from (cond passes (from ∷ more) more)) [
      | true ↦ (omega arith, rest)
      | false ↦ RisesFrom-weaker from (suc from) more (omega arith) rest
    ]

all-below : (test : ℕ → Bool) (from many limit : ℕ) → from + many ≤ limit
    → filter (λ x. ltb x limit) (filter test (range_with_len from many)) ≡ filter test (range_with_len from many)
all-below test from zero limit ends = refl
all-below test from (suc many) limit ends =
    let more : List ℕ = filter test (range_with_len (from + 1) many) in
    let rest : filter (λ x. ltb x limit) more ≡ more = all-below test (from + 1) many limit (omega (arith, ends)) in
    elim (test from) as (λ passes. filter (λ x. ltb x limit) (cond passes (from ∷ more) more) ≡ cond passes (from ∷ more) more) [
      | true ↦ ap (λ low. cond low (from ∷ filter (λ x. ltb x limit) more) (filter (λ x. ltb x limit) more)) (lt-ltb from limit (omega (arith, ends)))
          ∙ ap (λ list. from ∷ list) rest
      | false ↦ rest
    ]

-- the numbers of a range that pass a test are those that are contained in the list of them
passing-contained : (test : ℕ → Bool) (from many : ℕ)
    → filter (λ k. list_any (eqb k) (filter test (range_with_len from many))) (range_with_len from many) ≡ filter test (range_with_len from many)
passing-contained test from many =
    sym (filter-rising from many (from + many) (filter test (range_with_len from many)) refl (rises-range test from many))
    ∙ all-below test from many (from + many) (omega arith)

-- STREAMS AND DOORBELLS

small-target : (pipe : Pipe) → target_of pipe < 65536
small-target Command = omega arith
small-target Status = omega arith
small-target DataIn = omega arith
small-target DataOut = omega arith

stream-of-door : (target stream : ℕ) → target < 65536 → stream_in (door target stream) ≡ stream
stream-of-door target stream small = omega (arith, small)

streams-back : (target : ℕ) (streams : List ℕ) → target < 65536 → map stream_in (map (door target) streams) ≡ streams
streams-back target [] small = refl
streams-back target (stream ∷ rest) small = λ i. stream-of-door target stream small i ∷ streams-back target rest small i

doors-back : (count : ℕ) (pipe : Pipe) (words values : List ℕ) (test : ℕ → Bool) → values ≡ doors_among count pipe test
    → ((stream : ℕ) → is_marked words stream ≡ list_any (eqb stream) (map stream_in values)) → doors_among count pipe (is_marked words) ≡ values
doors-back count pipe words values test is marked =
    let streams : List ℕ = filter test (range_with_len 1 count) in
    let they : map stream_in values ≡ streams = ap (map stream_in) is ∙ streams-back (target_of pipe) streams (small-target pipe) in
    ap (map (door (target_of pipe)))
    (filter_agree (is_marked words) (λ k. list_any (eqb k) streams) (λ k. marked k ∙ ap (list_any (eqb k)) they) (range_with_len 1 count)
    ∙ passing-contained test 1 count)
    ∙ sym is

-- marks of exactly the streams of these doorbells bring the doorbells back
pub resumed-back : (pipe : Pipe) (words values : List ℕ) → IsResumed pipe values
    → ((stream : ℕ) → is_marked words stream ≡ list_any (eqb stream) (map stream_in values)) → resumed_by pipe (is_marked words) ≡ values
unfolding resumed_by
resumed-back pipe words values rung marked = doors-back STREAMS pipe words values rung.0 rung.1 marked

streams-below : (count : ℕ) (pipe : Pipe) (test : ℕ → Bool) → All (λ value. stream_in value ≤ count) (doors_among count pipe test)
streams-below count pipe test =
    All-map (λ value. stream_in value ≤ count) (door (target_of pipe)) (filter test (range_with_len 1 count))
    (All-filter test (λ stream. stream_in (door (target_of pipe) stream) ≤ count) (range_with_len 1 count)
    (All-from_get_or (λ stream. stream_in (door (target_of pipe) stream) ≤ count) (range_with_len 1 count) 0
    (λ k within.
    let is = get_or-range_with_len 1 count k 0 (omega (arith, within, length-range_with_len 1 count)) in
    omega (
      arith,
      within,
      length-range_with_len 1 count,
      is,
      stream-of-door (target_of pipe) (get_or (range_with_len 1 count) k 0) (small-target pipe),
    ))))

all-streams-below : (pipe : Pipe) (values : List ℕ) → IsResumed pipe values → All (λ value. stream_in value ≤ STREAMS) values
unfolding resumed_by
all-streams-below pipe values rung = subst (All (λ value. stream_in value ≤ STREAMS)) (sym rung.1) (streams-below STREAMS pipe rung.0)

-- each of them is of a stream that has a bit
pub stream-below : (pipe : Pipe) (values : List ℕ) (at : ℕ) → IsResumed pipe values → at < length values → stream_in (get_or values at 0) ≤ STREAMS
stream-below pipe values at rung within = All-get_or (λ value. stream_in value ≤ STREAMS) values at 0 within (all-streams-below pipe values rung)

-- ONE AFTER ANOTHER

range-more : (from many : ℕ) → range_with_len from (suc many) ≡ range_with_len from many ++ (from + many) ∷ []
range-more from zero = let same : from + 0 ≡ from = omega arith in rw same refl
range-more from (suc many) =
    let same : from + suc many ≡ from + 1 + many = omega arith in
    rw same (ap (λ rest. from ∷ rest) (range-more (from + 1) many))

one-more : (pipe : Pipe) (test : ℕ → Bool) (stream : ℕ)
    → map (door (target_of pipe)) (filter test (stream ∷ [])) ≡ cond (test stream) (door (target_of pipe) stream ∷ []) []
one-more pipe test stream =
    elim (test stream) as (λ b. map (door (target_of pipe)) (cond b (stream ∷ []) []) ≡ cond b (door (target_of pipe) stream ∷ []) []) [
      | true ↦ refl
      | false ↦ refl
    ]

doors-more : (count : ℕ) (pipe : Pipe) (test : ℕ → Bool)
    → doors_among (suc count) pipe test ≡ doors_among count pipe test ++ cond (test (1 + count)) (door (target_of pipe) (1 + count) ∷ []) []
doors-more count pipe test =
    ap (λ list. map (door (target_of pipe)) (filter test list)) (range-more 1 count)
    ∙ ap (map (door (target_of pipe))) (filter-append test (range_with_len 1 count) ((1 + count) ∷ []))
    ∙ map-append (door (target_of pipe)) (filter test (range_with_len 1 count)) (filter test ((1 + count) ∷ []))
    ∙ ap (λ doors. doors_among count pipe test ++ doors) (one-more pipe test (1 + count))

doors-next : (stream : ℕ) (pipe : Pipe) (test : ℕ → Bool) → 1 ≤ stream
    → doors_among (stream + 1 - 1) pipe test ≡ doors_among (stream - 1) pipe test ++ cond (test stream) (door (target_of pipe) stream ∷ []) []
doors-next stream pipe test some =
    let next : stream + 1 - 1 ≡ suc (stream - 1) = omega (arith, some) in
    let here : 1 + (stream - 1) ≡ stream = omega (arith, some) in
    ap (λ count. doors_among count pipe test) next ∙ doors-more (stream - 1) pipe test
    ∙ ap (λ s. doors_among (stream - 1) pipe test ++ cond (test s) (door (target_of pipe) s ∷ []) []) here

-- where the next stream passes, its doorbell comes last
pub doors-rung : (stream : ℕ) (pipe : Pipe) (test : ℕ → Bool) (before after : List ℕ) (target value : ℕ) → 1 ≤ stream
    → before ≡ doors_among (stream - 1) pipe test → test stream ≡ true → target ≡ target_of pipe → value ≡ target + 2 ^ 16 * stream
    → after ≡ before ++ value ∷ [] → after ≡ doors_among (stream + 1 - 1) pipe test
doors-rung stream pipe test before after target value some so_far passes aims is then =
    then
    ∙ (λ i. so_far i ++ (is ∙ ap (λ t. t + 2 ^ 16 * stream) aims) i ∷ [])
    ∙ ap (λ b. doors_among (stream - 1) pipe test ++ cond b (door (target_of pipe) stream ∷ []) []) (sym passes)
    ∙ sym (doors-next stream pipe test some)

-- where it doesn't, none is added
pub doors-kept : (stream : ℕ) (pipe : Pipe) (test : ℕ → Bool) (before : List ℕ) → 1 ≤ stream → before ≡ doors_among (stream - 1) pipe test
    → test stream ≡ false → before ≡ doors_among (stream + 1 - 1) pipe test
doors-kept stream pipe test before some so_far fails =
    so_far
    ∙ sym (append-nil (doors_among (stream - 1) pipe test))
    ∙ ap (λ b. doors_among (stream - 1) pipe test ++ cond b (door (target_of pipe) stream ∷ []) []) (sym fails)
    ∙ sym (doors-next stream pipe test some)

pub doors-all : (pipe : Pipe) (test : ℕ → Bool) → doors_among STREAMS pipe test ≡ resumed_by pipe test
unfolding resumed_by
doors-all pipe test = refl
