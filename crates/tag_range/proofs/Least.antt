-- The least free command tag, over what contracts see.
use Rattle.std.proofs.Common.{◌≡◌, ℕ, ◌+◌, ◌-◌, ◌*◌, ◌<◌, ◌≤◌, ◌&&◌, Bool, true, false, not, cond, nat_lt, List, [], ◌∷◌, length, count_by}
use Rattle.std.proofs.Common.{get_or, Some, Ok, position, refl, ap, ◌∙◌, inl, inr, arith}
use Rattle.std.proofs.Math.ListN.{set}
use Rattle.std.specs.List.{position_or_len}
use Rattle.std.proofs.lemmas.List.Sums.{sum_by-cons, count_by-le-length}
use Rattle.std.proofs.lemmas.List.Quantifiers.{position-Some}
use Rattle.std.proofs.lemmas.Bool.{ne_eqb, lt-ltb, ltb-true, not-true, not-false, and_parts, and_right, both_ways, cases_lt}
use Rattle.std.proofs.lemmas.List.{get_or_past}
use Rattle.tag_range.specs.Tags.{ClientTags, is_issued, tag_at, task_tag, entry_of, IsLeastFree, tickets, issue, issue_entry, free}

-- all flags are set exactly where none that isn't set is found
pub count_by-all : (xs : List Bool) → position_or_len not xs ≡ length xs → count_by (λ (b : Bool). b) xs ≡ length xs
count_by-all [] e = refl
count_by-all (true ∷ xs) e = rw (sum_by-cons (λ b. cond b 1 0) true xs) (omega (arith, count_by-all xs (omega arith)))
count_by-all (false ∷ xs) e = absurd (omega arith)

pub count_by-some : (xs : List Bool) → position_or_len not xs < length xs → count_by (λ (b : Bool). b) xs < length xs
count_by-some [] e = absurd (omega arith)
count_by-some (true ∷ xs) e = rw (sum_by-cons (λ b. cond b 1 0) true xs) (omega (arith, count_by-some xs (omega arith)))
count_by-some (false ∷ xs) e =
    rw (sum_by-cons (λ b. cond b 1 0) false xs) (omega (arith, count_by-le-length (λ (b : Bool). b) xs))

true_and : (b : Bool) → (true && b) ≡ b
true_and true = refl
true_and false = refl

pub is_issued-command : (per : ℕ) (tags : ClientTags) (tag : ℕ) → per * tags.client < tag → tag < task_tag per tags.client
    → is_issued per tags tag ≡ get_or tags.out (entry_of per tags tag) false
is_issued-command per tags tag above below =
    let other : tag ≡ task_tag per tags.client → ⊥ = λ e. omega arith in
    rw (ne_eqb tag (task_tag per tags.client) other, lt-ltb (per * tags.client) tag above) (true_and _)

pub least-free : (per : ℕ) (tags : ClientTags) (entry : ℕ) → length tags.out ≡ per - 1 → position not tags.out ≡ Some entry
    → IsLeastFree per tags (tag_at per tags.client (entry + 1))
least-free per tags entry len found =
    let least = position-Some not tags.out entry false found in
    let above : per * tags.client < per * tags.client + (entry + 1) = omega arith in
    let below : per * tags.client + (entry + 1) < per * tags.client + per = omega (arith, least.0) in
    let here : per * tags.client + (entry + 1) - per * tags.client - 1 ≡ entry = omega arith in
    record {
      above = above;
      below = below;
      free = is_issued-command per tags _ above below ∙ rw here (not-true _ least.1);
      least = λ other over under.
          let inside : other - per * tags.client - 1 < entry = omega arith in
          let lower : other < per * tags.client + per = omega arith in
          is_issued-command per tags other over lower ∙ not-false _ (least.2 (other - per * tags.client - 1) inside);
    }

-- a command tag that is out has an entry
pub entry_of-issued : (per : ℕ) (tags : ClientTags) (tag : ℕ) → is_issued per tags tag ≡ true → (tag ≡ task_tag per tags.client → ⊥)
    → (per * tags.client < tag) × (entry_of per tags tag < length tags.out)
entry_of-issued per tags tag out other =
    let parts = and_parts (nat_lt (per * tags.client) tag) (get_or tags.out (entry_of per tags tag) false)
    (rw (ne_eqb tag (task_tag per tags.client) other) at out) in (
      ltb-true (per * tags.client) tag parts.0,
      elim (cases_lt (entry_of per tags tag) (length tags.out)) as (λ _. entry_of per tags tag < length tags.out) [
        | inl inside ↦ inside
        | inr past ↦ absurd (both_ways (get_or tags.out (entry_of per tags tag) false) (get_or_past tags.out (entry_of per tags tag) false past) parts.1)
      ],
    )

-- a command that finds an entry and a ticket
pub issue-entry : (per : ℕ) (tags : ClientTags) (entry : ℕ) → position not tags.out ≡ Some entry → tags.next < tickets
    → issue per tags ≡ (record tags { next = tags.next + 1; out = set tags.out entry true }, Ok (tag_at per tags.client (entry + 1), tags.next))
issue-entry per tags entry found fresh =
    ap (issue_entry per tags) found ∙ (rw (ne_eqb tags.next tickets (λ e. omega arith)) refl)

-- a tag that isn't the task management tag is freed at its entry
pub free-command : (per : ℕ) (tags : ClientTags) (tag : ℕ) → (tag ≡ task_tag per tags.client → ⊥)
    → free per tags tag ≡ record tags { out = set tags.out (entry_of per tags tag) false }
free-command per tags tag other = rw (ne_eqb tag (task_tag per tags.client) other) refl

-- a tag above the client's is not out
pub is_issued-past : (per : ℕ) (tags : ClientTags) (tag : ℕ) → length tags.out ≡ per - 1 → task_tag per tags.client < tag → is_issued per tags tag ≡ false
is_issued-past per tags tag len past =
    let other : tag ≡ task_tag per tags.client → ⊥ = λ e. omega arith in
    let beyond : length tags.out ≤ tag - per * tags.client - 1 = omega arith in
    rw (ne_eqb tag (task_tag per tags.client) other, get_or_past tags.out (tag - per * tags.client - 1) false beyond)
    (and_right (nat_lt (per * tags.client) tag) false refl)
