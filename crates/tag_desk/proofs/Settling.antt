-- What stands at a tag that is settled, and the lists of it. Cited by `settle`, `settle_client` and `settle_all`.
use Rattle.std.proofs.Common.{◌≡◌, ◌≢◌, ℕ, ◌+◌, ◌*◌, ◌≤◌, eq-eqb, ne_eqb, List, ◌++◌, refl, add-one, Bool, if◌then◌else◌, sym, ap, ◌∙◌, ⊎_elim, arith}
use Rattle.tag_desk.specs.declared.Slip.{Slip}
use Rattle.tag_desk.specs.declared.rule.ClientView.TheVariants.{Open}
use Rattle.tag_desk.specs.declared.rule.WorkView.{WorkView}
use Rattle.tag_desk.specs.declared.rule.WorkView.TheVariants.{Idle, Claimed, Finished}
use Rattle.tag_desk.specs.declared.remains.Left.{Left}
use Rattle.tag_desk.specs.declared.remains.Lists.{Lists}
use Rattle.tag_desk.specs.declared.remains.Standing.{Standing}
use Rattle.tag_desk.specs.declared.remains.Standing.TheVariants.{Posted, Done}
use Rattle.tag_desk.specs.Rule.{IsSettled}
use Rattle.tag_desk.specs.Left.{unclaimed, joined, posted_at, done_at, held_at, left_below, adding, HasRoom}

-- the slip that came out is the client's, where the word was posted
pub found_posted : (n looks found : ℕ) (x z : Slip) (w : WorkView) → IsSettled (Open n x looks) w found z → found ≡ 4 * n + 1 → Posted z ≡ unclaimed n x w
found_posted n looks found x z (Idle missed) is word = ap Posted is.1
found_posted n looks found x z (Claimed m) is word = absurd is
found_posted n looks found x z (Finished m y missed) is word =
    ⊎_elim
    (λ h. ap Posted h.2 ∙ sym (ap (λ (b : Bool). if b then Done y else Posted x) (ne_eqb m n (λ e. let low = h.1 in absurd (omega arith)))))
    (λ h. let done = h.0 in absurd (omega arith))
    is

-- and else the pump's
pub found_done : (n looks found : ℕ) (x z : Slip) (w : WorkView) → IsSettled (Open n x looks) w found z → found ≢ 4 * n + 1 → Done z ≡ unclaimed n x w
found_done n looks found x z (Idle missed) is word = absurd (word is.0)
found_done n looks found x z (Claimed m) is word = absurd is
found_done n looks found x z (Finished m y missed) is word =
    ⊎_elim
    (λ h. absurd (word h.0))
    (λ h. ap Done h.2 ∙ sym (ap (λ (b : Bool). if b then Done y else Posted x) (eq-eqb m n h.1)))
    is

pub less_room : (m n : ℕ) (lists : Lists) → n ≤ m → HasRoom m lists → HasRoom n lists
less_room m n lists less room = record {
  posted = let a = room.posted in omega arith;
  done = let b = room.done in omega arith;
  held = let e =
      room.held in omega arith;
}

joined_more : {A : Type 0} (f : ℕ → List A) (n : ℕ) → joined f (n + 1) ≡ joined f n ++ f n
unfolding joined
joined_more f n = rw add-one refl

-- a tag's standing that is put at the ends
pub grown : (at : ℕ → Standing) (n : ℕ) (old new : Left) (s : Standing) → old ≡ left_below at n → s ≡ at n → new ≡ adding old (n + 1) s
    → new ≡ left_below at (n + 1)
grown at n old new s same is added =
    added ∙ (λ i. adding (same i) (n + 1) (is i))
    ∙ (λ i. record {
      posted = sym (joined_more (λ t. posted_at (t + 1) (at t)) n) i;
      done = sym (joined_more (λ t. done_at (t + 1) (at t)) n) i;
      held = sym (joined_more (λ t. held_at (t + 1) (at t)) n) i;
    })
