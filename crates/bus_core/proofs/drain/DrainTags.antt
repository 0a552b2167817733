-- Tries of one kind, tag by tag as far as the bus finds a tag to try. Cited by the loops of a round.
use Rattle.std.proofs.Common.{◌≡◌, ℕ, suc, ◌*◌, ◌<◌, ◌≤◌, false, map, length, arith, ap, ◌∙◌}
use Rattle.std.specs.List.{range_with_len}
use Rattle.shared_machine.specs.declared.Step.{Step}
use Rattle.shared_machine.specs.Drain.{all_tags, tried, tried_one}
use Rattle.shared_machine.specs.Shared.{Shared, due, greatest_tag}
use Rattle.shared_machine.proofs.Drains.{tried_one-parts, tried_one-tags}
use Rattle.shared_machine.proofs.Rounds.{tried-on, tried-off}

tried_one-greatest : (now : Shared × ℕ) (step : Step) → greatest_tag (tried_one now step).0 ≡ greatest_tag now.0
tried_one-greatest now step =
    ap (λ n. n * (tried_one now step).0.tags) (tried_one-parts now step) ∙ ap (λ t. length now.0.parts * t) (tried_one-tags now step)

-- the tags up to the last that was tried
pub record HasTried (kind : ℕ → Step) (start at : Shared × ℕ) (tag : ℕ) : Type 0 where
  pub so_far : at ≡ tried start (map kind (range_with_len 1 tag))
  pub greatest : greatest_tag at.0 ≡ greatest_tag start.0
  pub within : tag ≤ greatest_tag start.0

-- the next tag that the bus finds, where none between is due
pub tried-further : {kind : ℕ → Step} {start at after : Shared × ℕ} {tag next : ℕ} {Rests : ℕ → Type 0} → HasTried kind start at tag
    → (tag < next) × (next ≤ greatest_tag at.0) × ((other : ℕ) → tag < other → other < next → Rests other)
    → ((other : ℕ) → Rests other → due at.0 (kind other) ≡ false) → after ≡ tried_one at (kind next) → HasTried kind start after next
tried-further {kind} {start} {at} {after} {tag} {next} so found rests is = record {
  so_far = tried-on kind start tag next at after so.so_far found.0 (λ other above below. rests other (found.2 other above below)) is;
  greatest = ap (λ (now : Shared × ℕ). greatest_tag now.0) is ∙ tried_one-greatest at (kind next) ∙ so.greatest;
  within = omega (arith, found.1, so.greatest);
}

-- where it finds none, all tags were tried
pub tried-whole : {kind : ℕ → Step} {start at : Shared × ℕ} {tag : ℕ} {Rests : ℕ → Type 0} → HasTried kind start at tag
    → ((other : ℕ) → tag < other → other < suc (greatest_tag at.0) → Rests other)
    → ((other : ℕ) → Rests other → due at.0 (kind other) ≡ false) → at ≡ tried start (map kind (all_tags (greatest_tag start.0)))
tried-whole {kind} {start} {at} {tag} so none rests =
    tried-off kind start tag (greatest_tag start.0) at so.so_far so.within
    (λ other above below. rests other (none other above (omega (arith, below, so.greatest))))
