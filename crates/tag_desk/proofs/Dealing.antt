-- A tag's seats are dealt, cut and united, and the rule is kept.
use Rattle.std.proofs.Common.{◌≡◌, ◌≢◌, ℕ, zero, suc, ◌+◌, ◌<◌, List, [], ◌∷◌, ◌++◌, length, map, set, get_or, slice_index, sym, refl, ap, subst}
use Rattle.std.proofs.Common.{◌∙◌, ◌⊎◌, inl, inr, ⊎_elim, arith, Option, None}
use mathlib.Core.Option.{some, some-injective, some-ne-none}
use lib.ListN.{get_elem?}
use lib.ListN.{replicate}
use Rattle.std.proofs.Math.ListN.{length-set, length-replicate}
use Rattle.atomic_table.specs.Table.{State, Splits, Joins, opening}
use Rattle.atomic_table.proofs.Lists.{at_set, set_else}
use Rattle.tag_desk.specs.declared.Slip.{Slip}
use Rattle.tag_desk.specs.declared.rule.ClientView.{ClientView}
use Rattle.tag_desk.specs.declared.rule.ClientView.TheVariants.{Waiting}
use Rattle.tag_desk.specs.declared.rule.WorkView.{WorkView}
use Rattle.tag_desk.specs.declared.rule.WorkView.TheVariants.{Idle}
use Rattle.tag_desk.specs.declared.rule.View.{View}
use Rattle.tag_desk.specs.declared.rule.View.TheVariants.{Dealer, Client, Work, Both, Spent}
use Rattle.tag_desk.specs.declared.rule.TagCounts.{TagCounts}
use Rattle.tag_desk.specs.Rule.{undealt, Books, Knows, WorkKnows, IsDesk}
use Rattle.tag_desk.proofs.Moves.{updated, updated_here, updated_else}

at_snoc : (l : List View) (a b : View) (k : ℕ) → get_elem? (l ++ a ∷ []) k ≡ some b → (get_elem? l k ≡ some b) ⊎ ((k ≡ length l) × (a ≡ b))
at_snoc [] a b zero e = inr (refl, some-injective a b e)
at_snoc [] a b (suc k) e = absurd (some-ne-none b (sym e))
at_snoc (x ∷ xs) a b zero e = inl e
at_snoc (x ∷ xs) a b (suc k) e = ⊎_elim (λ h. inl h) (λ h. inr (ap suc h.0, h.1)) (at_snoc xs a b k e)

-- each seat knows enough, where one view is changed
seats_set : (F : ℕ → View → Type 0) (views : List View) (id : ℕ) (w : View) → F id w
    → ((k : ℕ) (v : View) → k ≢ id → get_elem? views k ≡ some v → F k v) → (k : ℕ) (v : View) → get_elem? (set views id w) k ≡ some v → F k v
seats_set F views id w mine others k v at =
    ⊎_elim (λ (h : (k ≡ id) × (w ≡ v)). subst (λ (p : ℕ × View). F p.0 p.1) (λ i. (sym h.0 i, h.1 i)) mine)
    (λ (h : (k ≢ id) × (get_elem? views k ≡ some v)). others k v h.0 h.1) (at_set views id k w v at)

-- and where one more is added
seats_added : (F : ℕ → View → Type 0) (views : List View) (id : ℕ) (w new : View) → F id w → F (length views) new
    → ((k : ℕ) (v : View) → k ≢ id → get_elem? views k ≡ some v → F k v) → (k : ℕ) (v : View) → get_elem? (set views id w ++ new ∷ []) k ≡ some v → F k v
seats_added F views id w new mine last others k v at =
    ⊎_elim
    (λ (h : get_elem? (set views id w) k ≡ some v). seats_set F views id w mine others k v h)
    (λ (h : (k ≡ length (set views id w)) × (new ≡ v)). subst (λ (p : ℕ × View). F p.0 p.1) (λ i. (sym (h.0 ∙ length-set views id w) i, h.1 i)) last)
    (at_snoc (set views id w) new v k at)

-- a seat of a tag that was dealt before
dealt_else : (b : Books) (from new k : ℕ) (v : View) → b.dealt ≡ from → (b.dealer ≢ k) → Knows b k v
    → Knows record { stage = b.stage; client = updated b.client from new; work = updated b.work from new; dealer = b.dealer; dealt = from + 1 } k v
dealt_else b from new k (Dealer later) e other h = absurd (other h.0)
dealt_else b from new k (Client t v) e other h = (omega (arith, h.0), updated_else b.client from t new (λ i. absurd (omega (arith, h.0))) ∙ h.1, h.2)
dealt_else b from new k (Work t w) e other h = (omega (arith, h.0), updated_else b.work from t new (λ i. absurd (omega (arith, h.0))) ∙ h.1, h.2)
dealt_else b from new k (Both t v w) e other h = (
  omega (arith, h.0),
  updated_else b.client from t new (λ i. absurd (omega (arith, h.0))) ∙ h.1,
  updated_else b.work from t new (λ i. absurd (omega (arith, h.0))) ∙ h.2,
  h.3,
  h.4,
)
dealt_else b from new k Spent e other h = tt

-- the dealer deals its next tag whole
pub deal_allowed : (counts : TagCounts) (id from : ℕ) → Splits (IsDesk counts) id (Dealer from) (Dealer (from + 1)) (Both from Waiting (Idle []))
deal_allowed counts id from s held at =
    let b : Books = held.books in
    let know = held.each_seat id (Dealer from) at in
    let new : ℕ = length s.views in
    let c : Books = record { stage = b.stage; client = updated b.client from new; work = updated b.work from new; dealer = b.dealer; dealt = from + 1 } in
    let unseen = held.fresh from (omega arith) in
    record {
      books = c;
      width = held.width;
      depth = held.depth;
      fresh = λ t late. held.fresh t (let e = know.1 in omega arith);
      each_tag = held.each_tag;
      each_seat =
          seats_added (Knows c) s.views id (Dealer (from + 1)) (Both from Waiting (Idle []))
          (know.0, refl)
          (omega arith, updated_here b.client from from new refl, updated_here b.work from from new refl, unseen, subst (WorkKnows (Idle [])) (sym unseen) tt)
          (λ k v other there. dealt_else b from new k v know.1 (λ same. other (sym same ∙ know.0)) (held.each_seat k v there));
    }

abbrev reworked : Books → ℕ → ℕ → Books
reworked b t k = record { stage = b.stage; client = b.client; work = updated b.work t k; dealer = b.dealer; dealt = b.dealt }

-- another seat's knowledge does not speak of the pump's seat of this tag
reworked_else : (b : Books) (t owner k : ℕ) (v : View) → (b.work t ≢ k) → Knows b k v → Knows (reworked b t owner) k v
reworked_else b t owner k (Dealer from) other h = h
reworked_else b t owner k (Client j v) other h = h
reworked_else b t owner k (Work j w) other h = (h.0, updated_else b.work t j owner (λ e. other (ap b.work (sym e) ∙ h.1)) ∙ h.1, h.2)
reworked_else b t owner k (Both j v w) other h = (h.0, h.1, updated_else b.work t j owner (λ e. other (ap b.work (sym e) ∙ h.2)) ∙ h.2, h.3, h.4)
reworked_else b t owner k Spent other h = tt

-- the rule is kept where no more than the seats change, and one is the pump's of a tag
reseated : (counts : TagCounts) (t owner : ℕ) (s : State (Option Slip) View) (views : List View) (held : IsDesk counts s)
    → ((k : ℕ) (v : View) → get_elem? views k ≡ some v → Knows (reworked held.books t owner) k v)
    → IsDesk counts record { words = s.words; homes = s.homes; views = views }
reseated counts t owner s views held knows = record {
  books = reworked held.books t owner;
  width = held.width;
  depth = held.depth;
  fresh = held.fresh;
  each_tag = held.each_tag;
  each_seat = knows;
}

-- a tag's seat is cut into its client's and its pump's
pub part_allowed : (counts : TagCounts) (id t : ℕ) (v : ClientView) (w : WorkView) → Splits (IsDesk counts) id (Both t v w) (Client t v) (Work t w)
part_allowed counts id t v w s held at =
    let b : Books = held.books in
    let know = held.each_seat id (Both t v w) at in
    let new : ℕ = length s.views in
    reseated counts t new s (set s.views id (Client t v) ++ Work t w ∷ []) held
    (seats_added (Knows (reworked b t new)) s.views id (Client t v) (Work t w)
    (know.0, know.1, know.3)
    (know.0, updated_here b.work t t new refl, know.4)
    (λ k u other there. reworked_else b t new k u (λ same. other (sym same ∙ know.2)) (held.each_seat k u there)))

-- a tag's two seats are united
pub unite_allowed : (counts : TagCounts) (id other t : ℕ) (v : ClientView) (w : WorkView) → Joins (IsDesk counts) id (Client t v) other (Work t w) (Both t v w) Spent
unite_allowed counts id other t v w s held at apart there =
    let b : Books = held.books in
    let mine = held.each_seat id (Client t v) at in
    let its = held.each_seat other (Work t w) (sym (set_else s.views id other (Both t v w) apart) ∙ there) in
    reseated counts t id s (set (set s.views id (Both t v w)) other Spent) held
    (seats_set (Knows (reworked b t id)) (set s.views id (Both t v w)) other Spent tt
    (λ k u far at'.
    seats_set (λ j x. j ≢ other → Knows (reworked b t id) j x) s.views id (Both t v w)
    (λ _. (mine.0, mine.1, updated_here b.work t t id refl, mine.2, its.2))
    (λ j x near at'' far'. reworked_else b t id j x (λ same. far' (sym same ∙ its.1)) (held.each_seat j x at''))
    k u at' far))

zero_at : (n t : ℕ) → get_or (replicate {A = ℕ} n 0) t 0 ≡ 0
zero_at zero t = refl
zero_at (suc n) zero = refl
zero_at (suc n) (suc t) = zero_at n t

vacant_at : (n t : ℕ) → t < n → get_elem? (map some (replicate {A = Option Slip} n None)) t ≡ some (some None)
vacant_at zero t within = absurd (omega arith)
vacant_at (suc n) zero within = refl
vacant_at (suc n) (suc t) within = vacant_at n t (omega arith)

length_vacant : (n : ℕ) → length (map some (replicate {A = Option Slip} n None)) ≡ n
length_vacant zero = refl
length_vacant (suc n) = ap suc (length_vacant n)

first_seat : (b : Books) → b.dealer ≡ 0 → b.dealt ≡ 0 → (k : ℕ) (v : View) → get_elem? (Dealer 0 ∷ []) k ≡ some v → Knows b k v
first_seat b dealer none zero v at = subst (Knows b 0) (some-injective (Dealer 0) v at) (dealer, none)
first_seat b dealer none (suc k) v at = absurd (some-ne-none v (sym at))

-- a table of zeros and empty slots, of which no tag is dealt
pub opening_desk : (counts : TagCounts) (words : List ℕ) → words ≡ replicate {A = ℕ} counts.all 0
    → IsDesk counts (opening words (replicate counts.all None) (Dealer 0))
opening_desk counts words zeros =
    let b : Books = record { stage = λ _. undealt; client = λ _. 0; work = λ _. 0; dealer = 0; dealt = 0 } in
    record {
      books = b;
      width = ap length zeros ∙ length-replicate counts.all 0;
      depth = length_vacant counts.all;
      fresh = λ t late. refl;
      each_tag = λ t below. (ap (λ (l : List ℕ). slice_index l t) zeros ∙ zero_at counts.all t, vacant_at counts.all t below);
      each_seat = first_seat b refl refl;
    }
