-- A round, one try after another.
use Rattle.std.proofs.Common.{◌≡◌, ℕ, zero, suc, ◌+◌, ◌-◌, ◌<◌, ◌≤◌, false, List, [], ◌∷◌, ◌++◌, map, add-one, refl, arith, ap, sym, subst, length, ◌∙◌, rules}
use Rattle.std.specs.Prelude.{◌==◌}
use Rattle.std.specs.List.{range_with_len}
use Rattle.shared_machine.specs.declared.Step.{Step}
use Rattle.uas_profile.specs.declared.Pipe.{Pipe}
use Rattle.uas_profile.specs.declared.Pipe.TheVariants.{Status, DataIn, DataOut}
use Rattle.shared_machine.specs.declared.Step.TheVariants.{CommandPipe, Data, Status as StatusStep, Engine, Event}
use Rattle.shared_machine.specs.Shared.{Shared, due, greatest_tag}
use Rattle.shared_machine.specs.Drain.{all_tags, retirements, tried, tried_one, tries, round, rounds}
use Rattle.shared_machine.proofs.Drains.{tried-left, tried-greatest}
use Rattle.std.proofs.lemmas.Bool.{ne_eqb}

pub tried-append : (now : Shared × ℕ) (steps more : List Step) → tried now (steps ++ more) ≡ tried (tried now steps) more
tried-append now [] more = refl
tried-append now (step ∷ steps) more = tried-append (tried_one now step) steps more

-- one more try of a kind
pub tried-suc : (kind : ℕ → Step) (now : Shared × ℕ) (count first : ℕ) →
    tried now (map kind (range_with_len first (suc count)))
    ≡ tried_one (tried now (map kind (range_with_len first count))) (kind (first + count))
tried-suc kind now zero first = let e : first ≡ first + 0 = omega arith in ap (λ n. tried_one now (kind n)) e
tried-suc kind now (suc count) first =
    let e : first + 1 + count ≡ first + suc count = omega arith in
    tried-suc kind (tried_one now (kind first)) count (first + 1)
    ∙ ap (λ n. tried_one (tried (tried_one now (kind first)) (map kind (range_with_len (first + 1) count))) (kind n)) e

-- what a kind of tries leaves, each part of a round knowing its own number of tags
abbrev LeadsOn : ℕ → (ℕ → List Step) → Shared × ℕ → Shared × ℕ → Type 0
LeadsOn greatest steps before after = (after ≡ tried before (steps greatest)) × (greatest_tag after.0 ≡ greatest)

led : (greatest : ℕ) (steps : ℕ → List Step) (before after : Shared × ℕ) → greatest_tag before.0 ≡ greatest → after ≡ tried before (steps (greatest_tag before.0))
    → LeadsOn greatest steps before after
led greatest steps before after here is =
    (is ∙ ap (λ k. tried before (steps k)) here, ap (λ (s : Shared × ℕ). greatest_tag s.0) is ∙ tried-greatest before (steps (greatest_tag before.0)) ∙ here)

abbrev one_step : Step → ℕ → List Step
one_step step greatest = step ∷ []

abbrev of_tags : (ℕ → Step) → ℕ → List Step
of_tags kind greatest = map kind (all_tags greatest)

abbrev of_pipe : Pipe → ℕ → List Step
of_pipe pipe greatest = retirements greatest pipe

-- one more part
joined : (now before after : Shared × ℕ) (steps more : List Step) → before ≡ tried now steps → after ≡ tried before more → after ≡ tried now (steps ++ more)
joined now before after steps more is on = on ∙ ap (λ s. tried s more) is ∙ sym (tried-append now steps more)

-- a round by its eight parts, each of which knows its own number of tags
pub round-by : (now one two three four five six seven eight : Shared × ℕ) →
    one ≡ tried_one now CommandPipe → two ≡ tried_one one Engine → three ≡ tried_one two Event
    → four ≡ tried three (map Data (all_tags (greatest_tag three.0))) → five ≡ tried four (map StatusStep (all_tags (greatest_tag four.0)))
    → six ≡ tried five (retirements (greatest_tag five.0) Status) → seven ≡ tried six (retirements (greatest_tag six.0) DataIn)
    → eight ≡ tried seven (retirements (greatest_tag seven.0) DataOut) → eight ≡ round now
round-by now one two three four five six seven eight command engine event data_tries statuses on_status on_data_in on_data_out =
    let greatest : ℕ = greatest_tag now.0 in
    let first = led greatest (one_step CommandPipe) now one refl command in
    let second = led greatest (one_step Engine) one two first.1 engine in
    let third = led greatest (one_step Event) two three second.1 event in
    let fourth = led greatest (of_tags Data) three four third.1 data_tries in
    let fifth = led greatest (of_tags StatusStep) four five fourth.1 statuses in
    let sixth = led greatest (of_pipe Status) five six fifth.1 on_status in
    let seventh = led greatest (of_pipe DataIn) six seven sixth.1 on_data_in in
    let eighth = led greatest (of_pipe DataOut) seven eight seventh.1 on_data_out in
    let steps : List Step = map Data (all_tags greatest) in
    joined now seven eight
    (CommandPipe ∷ Engine ∷ Event ∷ steps ++ map StatusStep (all_tags greatest) ++ retirements greatest Status ++ retirements greatest DataIn)
    (retirements greatest DataOut)
    (joined now six seven (CommandPipe ∷ Engine ∷ Event ∷ steps ++ map StatusStep (all_tags greatest) ++ retirements greatest Status) (retirements greatest DataIn)
    (joined now five six (CommandPipe ∷ Engine ∷ Event ∷ steps ++ map StatusStep (all_tags greatest)) (retirements greatest Status)
    (joined now four five (CommandPipe ∷ Engine ∷ Event ∷ steps) (map StatusStep (all_tags greatest))
    (joined now three four (CommandPipe ∷ Engine ∷ Event ∷ []) steps
    (joined now two three (CommandPipe ∷ Engine ∷ []) (Event ∷ []) (joined now one two (CommandPipe ∷ []) (Engine ∷ []) first.0 second.0) third.0)
    fourth.0) fifth.0) sixth.0) seventh.0) eighth.0

pub round-left : (now after : Shared × ℕ) → after ≡ round now → after.1 ≤ now.1
round-left now after is = subst (λ (s : Shared × ℕ). s.1 ≤ now.1) (sym is) (tried-left now (tries (greatest_tag now.0)))

-- one more tag was tried
pub tried-next : (kind : ℕ → Step) (now : Shared × ℕ) (count : ℕ) (at after : Shared × ℕ) →
    at ≡ tried now (map kind (range_with_len 1 count)) → after ≡ tried_one at (kind (count + 1)) → after ≡ tried now (map kind (range_with_len 1 (count + 1)))
tried-next kind now count at after at-is after-is =
    let e : 1 + count ≡ count + 1 = omega arith in
    rw add-one (after-is ∙ ap (λ n. tried_one n (kind (count + 1))) at-is
    ∙ ap (λ n. tried_one (tried now (map kind (range_with_len 1 count))) (kind n)) (sym e)
    ∙ sym (tried-suc kind now count 1))

-- a try that isn't due leaves all as it is
pub tried_one-quiet : (now : Shared × ℕ) (step : Step) → due now.0 step ≡ false → tried_one now step ≡ now
tried_one-quiet now step rests = search (rules, rests)

-- so do those of tags that aren't due
pub tried-skip : (kind : ℕ → Step) (now : Shared × ℕ) (count more : ℕ) (at : Shared × ℕ) → at ≡ tried now (map kind (range_with_len 1 count))
    → ((other : ℕ) → count < other → other < suc (count + more) → due at.0 (kind other) ≡ false) → at ≡ tried now (map kind (range_with_len 1 (count + more)))
tried-skip kind now count zero at is quiet = let same : count ≡ count + 0 = omega arith in is ∙ ap (λ n. tried now (map kind (range_with_len 1 n))) same
tried-skip kind now count (suc more) at is quiet =
    let so_far = tried-skip kind now count more at is (λ other above below. quiet other above (omega arith)) in
    let same : count + more + 1 ≡ count + suc more = omega arith in
    tried-next kind now (count + more) at at so_far (sym (tried_one-quiet at (kind (count + more + 1)) (quiet (count + more + 1) (omega arith) (omega arith))))
    ∙ ap (λ n. tried now (map kind (range_with_len 1 n))) same

-- the next tag that is tried, and those before it that aren't due
pub tried-on : (kind : ℕ → Step) (now : Shared × ℕ) (count next : ℕ) (at after : Shared × ℕ)
    → at ≡ tried now (map kind (range_with_len 1 count)) → count < next
    → ((other : ℕ) → count < other → other < next → due at.0 (kind other) ≡ false)
    → after ≡ tried_one at (kind next) → after ≡ tried now (map kind (range_with_len 1 next))
tried-on kind now count next at after is above quiet after-is =
    let more : ℕ = next - 1 - count in
    let before : suc (count + more) ≡ next = omega arith in
    let last : count + more + 1 ≡ next = omega arith in
    let so_far = tried-skip kind now count more at is (λ other low high. quiet other low (omega (arith, high, before))) in
    tried-next kind now (count + more) at after so_far (after-is ∙ ap (λ n. tried_one at (kind n)) (sym last))
    ∙ ap (λ n. tried now (map kind (range_with_len 1 n))) last

-- no further tag is due
pub tried-off : (kind : ℕ → Step) (now : Shared × ℕ) (count all : ℕ) (at : Shared × ℕ) → at ≡ tried now (map kind (range_with_len 1 count)) → count ≤ all
    → ((other : ℕ) → count < other → other < suc all → due at.0 (kind other) ≡ false) → at ≡ tried now (map kind (range_with_len 1 all))
tried-off kind now count all at is within quiet =
    let whole : count + (all - count) ≡ all = omega arith in
    tried-skip kind now count (all - count) at is (λ other low high. quiet other low (omega (arith, high, whole)))
    ∙ ap (λ n. tried now (map kind (range_with_len 1 n))) whole

-- a round that isn't the last
pub rounds-on : (more : ℕ) (now : Shared × ℕ) → ((round now).1 == 0) ≡ false → ((round now).1 == now.1) ≡ false
    → rounds (suc (suc more)) now ≡ rounds (suc more) (round now)
unfolding rounds
rounds-on more now some fewer = rw (some, fewer) refl

pub rounds-next : (more : ℕ) (now after : Shared × ℕ) → after ≡ round now → (after.1 ≡ 0 → ⊥) → (after.1 ≡ now.1 → ⊥) → (more ≡ 0 → ⊥) →
    rounds (suc (more - 1)) after ≡ rounds (suc more) now
rounds-next zero now after after-is some fewer again = absurd (again refl)
rounds-next (suc more) now after after-is some fewer again =
    let e : suc more - 1 ≡ more = omega arith in
    let some-is : ((round now).1 == 0) ≡ false = ne_eqb _ 0 (λ h. some (ap (λ (s : Shared × ℕ). s.1) after-is ∙ h)) in
    let fewer-is : ((round now).1 == now.1) ≡ false = ne_eqb _ _ (λ h. fewer (ap (λ (s : Shared × ℕ). s.1) after-is ∙ h)) in
    rw (e, after-is) (sym (rounds-on more now some-is fewer-is))
