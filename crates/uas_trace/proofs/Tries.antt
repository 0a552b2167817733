-- The moments of a drain, one try after another.
use Rattle.std.proofs.Common.{◌≡◌, ◌∙◌, ℕ, zero, suc, ◌+◌, ◌-◌, ◌<◌, ◌≤◌, Bool, true, false, cond, List, [], ◌∷◌, ◌++◌, map, refl, arith, inl, inr, ap, sym, subst}
use Rattle.std.proofs.Common.{append-nil, append_assoc}
use Rattle.std.specs.Prelude.{◌==◌, ◌⊎◌}
use Rattle.std.specs.List.{range_with_len}
use Rattle.std.proofs.lemmas.Bool.{eq-eqb, ne_eqb}
use Rattle.uas_profile.specs.declared.Pipe.TheVariants.{Status, DataIn, DataOut}
use Rattle.shared_machine.specs.declared.Step.{Step}
use Rattle.shared_machine.specs.declared.Step.TheVariants.{CommandPipe, Data, Status as StatusStep, Engine, Event, Retire}
use Rattle.shared_machine.specs.Shared.{Shared, due, greatest_tag}
use Rattle.shared_machine.specs.Drain.{all_tags, round, tried, tried_one}
use Rattle.shared_machine.proofs.Drains.{tried-greatest}
use Rattle.shared_machine.proofs.Rounds.{tried-append, tried-skip}
use Rattle.uas_replay.specs.Walks.{Moment, tries as tries_step}
use Rattle.uas_replay.specs.Told.{is_due}
use Rattle.uas_replay.specs.Moments.{round_moments, rounds_moments, tried_moments, try_moments}

tried_moments-append : (now : Shared × ℕ) (steps more : List Step)
    → tried_moments now (steps ++ more) ≡ tried_moments now steps ++ tried_moments (tried now steps) more
tried_moments-append now [] more = refl
tried_moments-append now (step ∷ steps) more =
    ap (λ (m : List Moment). try_moments now step ++ m) (tried_moments-append (tried_one now step) steps more)
    ∙ sym (append_assoc (try_moments now step) (tried_moments (tried_one now step) steps) (tried_moments (tried (tried_one now step) steps) more))

-- TAGS

-- one more try of a kind
tried_moments-suc : (kind : ℕ → Step) (now : Shared × ℕ) (count first : ℕ) →
    tried_moments now (map kind (range_with_len first (suc count)))
    ≡ tried_moments now (map kind (range_with_len first count)) ++ try_moments (tried now (map kind (range_with_len first count))) (kind (first + count))
tried_moments-suc kind now zero first =
    let e : first ≡ first + 0 = omega arith in append-nil (try_moments now (kind first)) ∙ ap (λ (n : ℕ). try_moments now (kind n)) e
tried_moments-suc kind now (suc count) first =
    let e : first + 1 + count ≡ first + suc count = omega arith in
    let rest : List Step = map kind (range_with_len (first + 1) count) in
    let after : Shared × ℕ = tried_one now (kind first) in
    ap (λ (m : List Moment). try_moments now (kind first) ++ m) (tried_moments-suc kind after count (first + 1))
    ∙ ap (λ (n : ℕ). try_moments now (kind first) ++ (tried_moments after rest ++ try_moments (tried after rest) (kind n))) e
    ∙ sym (append_assoc (try_moments now (kind first)) (tried_moments after rest) (try_moments (tried after rest) (kind (first + suc count))))

-- a try that isn't due is no moment
try_moments-quiet : (now : Shared × ℕ) (step : Step) → due now.0 step ≡ false → try_moments now step ≡ []
try_moments-quiet now step rests = go (now.1 == 0) (due now.0 step) rests
  where
    go : (full is : Bool) → is ≡ false → cond full [] (cond is (tries_step step ∷ []) []) ≡ []
    go true is rests = refl
    go false is rests = ap (λ (b : Bool). cond b (tries_step step ∷ []) []) rests

-- nor is one for which none may act
try_moments-none : (now : Shared × ℕ) (step : Step) → now.1 ≡ 0 → try_moments now step ≡ []
try_moments-none now step none =
    let none_is : (now.1 == 0) ≡ true = ap (λ (n : ℕ). n == 0) none in
    rw none_is refl

-- a try that acts
pub try_moments-acts : (now : Shared × ℕ) (step : Step) → (now.1 ≡ 0 → ⊥) → is_due now.0 step ≡ true → try_moments now step ≡ tries_step step ∷ []
unfolding is_due
try_moments-acts now step some due =
    let some_is : (now.1 == 0) ≡ false = ne_eqb _ 0 some in
    rw (some_is, due) refl

-- a try that is not made
pub try_moments-rests : (now : Shared × ℕ) (step : Step) → (now.1 ≡ 0) ⊎ (is_due now.0 step ≡ false) → try_moments now step ≡ []
unfolding is_due
try_moments-rests now step rests = elim rests [
  | inl none ↦ try_moments-none now step none
  | inr quiet ↦ try_moments-quiet now step quiet
]

-- tags that aren't due give none
moments-skip : (kind : ℕ → Step) (now : Shared × ℕ) (count more : ℕ) (at : Shared × ℕ) → at ≡ tried now (map kind (range_with_len 1 count))
    → ((other : ℕ) → count < other → other < suc (count + more) → due at.0 (kind other) ≡ false)
    → tried_moments now (map kind (range_with_len 1 (count + more))) ≡ tried_moments now (map kind (range_with_len 1 count))
moments-skip kind now count zero at is quiet =
    let same : count + 0 ≡ count = omega arith in ap (λ (n : ℕ). tried_moments now (map kind (range_with_len 1 n))) same
moments-skip kind now count (suc more) at is quiet =
    let before : at ≡ tried now (map kind (range_with_len 1 (count + more))) =
    tried-skip kind now count more at is (λ other above below. quiet other above (omega (arith, below))) in
    let so_far = moments-skip kind now count more at is (λ other above below. quiet other above (omega (arith, below))) in
    let same : count + suc more ≡ suc (count + more) = omega arith in
    let rests : due at.0 (kind (1 + (count + more))) ≡ false = quiet (1 + (count + more)) (omega arith) (omega arith) in
    let passed : List Moment = tried_moments now (map kind (range_with_len 1 (count + more))) in
    ap (λ (n : ℕ). tried_moments now (map kind (range_with_len 1 n))) same
    ∙ tried_moments-suc kind now (count + more) 1
    ∙ ap (λ (s : Shared × ℕ). passed ++ try_moments s (kind (1 + (count + more)))) (sym before)
    ∙ ap (λ (m : List Moment). passed ++ m) (try_moments-quiet at (kind (1 + (count + more))) rests)
    ∙ append-nil passed
    ∙ so_far

-- the next tag that is tried, and those before it that aren't due
pub moments-on : (kind : ℕ → Step) (now : Shared × ℕ) (count next : ℕ) (at : Shared × ℕ)
    → at ≡ tried now (map kind (range_with_len 1 count)) → count < next
    → ((other : ℕ) → count < other → other < next → due at.0 (kind other) ≡ false)
    → tried_moments now (map kind (range_with_len 1 count)) ++ try_moments at (kind next) ≡ tried_moments now (map kind (range_with_len 1 next))
moments-on kind now count next at is above quiet =
    let more : ℕ = next - 1 - count in
    let before : suc (count + more) ≡ next = omega arith in
    let first : 1 + (count + more) ≡ next = omega arith in
    let stands : at ≡ tried now (map kind (range_with_len 1 (count + more))) =
    tried-skip kind now count more at is (λ other low high. quiet other low (omega (arith, high, before))) in
    let skipped = moments-skip kind now count more at is (λ other low high. quiet other low (omega (arith, high, before))) in
    let passed : List Moment = tried_moments now (map kind (range_with_len 1 (count + more))) in
    ap (λ (m : List Moment). m ++ try_moments at (kind next)) (sym skipped)
    ∙ ap (λ (s : Shared × ℕ). passed ++ try_moments s (kind next)) stands
    ∙ ap (λ (n : ℕ). passed ++ try_moments (tried now (map kind (range_with_len 1 (count + more)))) (kind n)) (sym first)
    ∙ sym (tried_moments-suc kind now (count + more) 1)
    ∙ ap (λ (n : ℕ). tried_moments now (map kind (range_with_len 1 n))) before

-- no further tag is due
pub moments-off : (kind : ℕ → Step) (now : Shared × ℕ) (count all : ℕ) (at : Shared × ℕ) → at ≡ tried now (map kind (range_with_len 1 count)) → count ≤ all
    → ((other : ℕ) → count < other → other < suc all → due at.0 (kind other) ≡ false)
    → tried_moments now (map kind (range_with_len 1 count)) ≡ tried_moments now (map kind (range_with_len 1 all))
moments-off kind now count all at is within quiet =
    let whole : count + (all - count) ≡ all = omega arith in
    sym (moments-skip kind now count (all - count) at is (λ other low high. quiet other low (omega (arith, high, whole))))
    ∙ ap (λ (n : ℕ). tried_moments now (map kind (range_with_len 1 n))) whole

-- A ROUND

-- a part of a round was tried
record Reached (now at : Shared × ℕ) (steps : List Step) (moments : List Moment) : Type 0 where
  pub state : at ≡ tried now steps
  pub are : moments ≡ tried_moments now steps
  pub greatest : greatest_tag at.0 ≡ greatest_tag now.0

reached-nothing : (now : Shared × ℕ) → Reached now now [] []
reached-nothing now = record { state = refl; are = refl; greatest = refl }

-- one more part
reached-on : (now at after : Shared × ℕ) (steps more : List Step) (moments : List Moment) → Reached now at steps moments → after ≡ tried at more
    → Reached now after (steps ++ more) (moments ++ tried_moments at more)
reached-on now at after steps more moments reached is = record {
  state = is ∙ ap (λ (s : Shared × ℕ). tried s more) reached.state ∙ sym (tried-append now steps more);
  are =
      ap (λ (m : List Moment). m ++ tried_moments at more) reached.are
      ∙ ap (λ (s : Shared × ℕ). tried_moments now steps ++ tried_moments s more) reached.state
      ∙ sym (tried_moments-append now steps more);
  greatest = ap (λ (s : Shared × ℕ). greatest_tag s.0) is ∙ tried-greatest at more ∙ reached.greatest;
}

reached-step : (now at after : Shared × ℕ) (steps : List Step) (step : Step) (moments : List Moment) → Reached now at steps moments
    → after ≡ tried_one at step → Reached now after (steps ++ step ∷ []) (moments ++ try_moments at step)
reached-step now at after steps step moments reached is =
    subst (λ (m : List Moment). Reached now after (steps ++ step ∷ []) (moments ++ m)) (append-nil (try_moments at step))
    (reached-on now at after steps (step ∷ []) moments reached is)

reached-tags : (now at after : Shared × ℕ) (steps : List Step) (kind : ℕ → Step) (moments : List Moment) → Reached now at steps moments
    → after ≡ tried at (map kind (all_tags (greatest_tag at.0)))
    → Reached now after (steps ++ map kind (all_tags (greatest_tag now.0))) (moments ++ tried_moments at (map kind (all_tags (greatest_tag at.0))))
reached-tags now at after steps kind moments reached is =
    subst (λ (n : ℕ). Reached now after (steps ++ map kind (all_tags n)) (moments ++ tried_moments at (map kind (all_tags (greatest_tag at.0)))))
    reached.greatest (reached-on now at after steps (map kind (all_tags (greatest_tag at.0))) moments reached is)

abbrev tag_moments : Shared × ℕ → (ℕ → Step) → List Moment
tag_moments now kind = tried_moments now (map kind (all_tags (greatest_tag now.0)))

-- a round's moments by its eight parts, each of which knows its own number of tags
pub round_moments-by : (now one two three four five six seven : Shared × ℕ) →
    one ≡ tried_one now CommandPipe → two ≡ tried_one one Engine → three ≡ tried_one two Event
    → four ≡ tried three (map Data (all_tags (greatest_tag three.0))) → five ≡ tried four (map StatusStep (all_tags (greatest_tag four.0)))
    → six ≡ tried five (map (Retire Status) (all_tags (greatest_tag five.0))) → seven ≡ tried six (map (Retire DataIn) (all_tags (greatest_tag six.0)))
    → try_moments now CommandPipe ++ try_moments one Engine ++ try_moments two Event ++ tag_moments three Data ++ tag_moments four StatusStep
    ++ tag_moments five (Retire Status) ++ tag_moments six (Retire DataIn) ++ tag_moments seven (Retire DataOut)
    ≡ round_moments now
unfolding round_moments
round_moments-by now one two three four five six seven command engine event data_tries statuses on_status on_data_in =
    let first = reached-step now now one [] CommandPipe [] (reached-nothing now) command in
    let second = reached-step now one two _ Engine _ first engine in
    let third = reached-step now two three _ Event _ second event in
    let fourth = reached-tags now three four _ Data _ third data_tries in
    let fifth = reached-tags now four five _ StatusStep _ fourth statuses in
    let sixth = reached-tags now five six _ (Retire Status) _ fifth on_status in
    let seventh = reached-tags now six seven _ (Retire DataIn) _ sixth on_data_in in
    let eighth = reached-tags now seven _ _ (Retire DataOut) _ seventh refl in
    eighth.are

-- ROUNDS

-- a round that isn't the last
pub rounds_moments-next : (more : ℕ) (now after : Shared × ℕ) → after ≡ round now → (after.1 ≡ 0 → ⊥) → (after.1 ≡ now.1 → ⊥) → (more ≡ 0 → ⊥)
    → rounds_moments (suc more) now ≡ round_moments now ++ rounds_moments (suc (more - 1)) after
unfolding rounds_moments
rounds_moments-next zero now after is some fewer again = absurd (again refl)
rounds_moments-next (suc more) now after is some fewer again =
    let e : suc more - 1 ≡ more = omega arith in
    let some_is : (after.1 == 0) ≡ false = ne_eqb _ 0 some in
    let fewer_is : (after.1 == now.1) ≡ false = ne_eqb _ _ fewer in
    rw (e, sym is, some_is, fewer_is) refl

-- nothing follows a round that is the last
none_follows : (none same : Bool) (rest : List Moment) → (none ≡ true) ⊎ ((same ≡ true) ⊎ (rest ≡ [])) → cond none [] (cond same [] rest) ≡ []
none_follows true same rest last = refl
none_follows false true rest last = refl
none_follows false false rest (inl is) = cc
none_follows false false rest (inr (inl is)) = cc
none_follows false false rest (inr (inr is)) = is

pub rounds_moments-last : (more : ℕ) (now after : Shared × ℕ) → after ≡ round now → (after.1 ≡ 0) ⊎ ((after.1 ≡ now.1) ⊎ (more ≡ 0))
    → rounds_moments (suc more) now ≡ round_moments now
unfolding rounds_moments
rounds_moments-last more now after is last =
    let rest : List Moment = rounds_moments more after in
    let ends : (after.1 == 0 ≡ true) ⊎ ((after.1 == now.1 ≡ true) ⊎ (rest ≡ [])) = elim last [
      | inl none ↦ inl (eq-eqb after.1 0 none)
      | inr (inl same) ↦ inr (inl (eq-eqb after.1 now.1 same))
      | inr (inr zero_left) ↦ inr (inr (ap (λ (n : ℕ). rounds_moments n after) zero_left))
    ] in
    ap (λ (s : Shared × ℕ). round_moments now ++ cond (s.1 == 0) [] (cond (s.1 == now.1) [] (rounds_moments more s))) (sym is)
    ∙ ap (λ (m : List Moment). round_moments now ++ m) (none_follows (after.1 == 0) (after.1 == now.1) rest ends)
    ∙ append-nil (round_moments now)
