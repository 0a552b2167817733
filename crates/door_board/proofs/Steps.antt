-- Each step keeps the rule.
use Rattle.std.proofs.Common.{◌≡◌, ◌≢◌, ℕ, zero, suc, ◌+◌, cond, ◌*◌, ◌^◌, ◌<◌, List, [], ◌∷◌, ◌++◌, ◌==◌, length, set, slice_index, sym}
use Rattle.std.proofs.Common.{refl, ap, subst, ◌∙◌, sum_by, ⊎_elim, arith}
use mathlib.Core.Option.{none, some, some-injective, some-ne-none}
use lib.ListN.{get_elem?}
use Rattle.std.specs.Int.{bit_at}
use Rattle.std.specs.Int.RustNames.{bit_or}
use Rattle.atomic_table.specs.Table.{State, Me, step, Allows, Splits, Joins, keeps}
use Rattle.atomic_table.proofs.Lists.{at_set, at_snoc}
use Rattle.std.proofs.Math.ListN.{length-set}
use Rattle.std.proofs.lemmas.List.Sums.{sum_by-cons, sum_by_push, sum_by-append}
use Rattle.door_board.specs.declared.Past.{Past}
use Rattle.door_board.specs.Counts.{rung_too, merged_too, taken_at, times_rung, times_taken}
use Rattle.door_board.specs.Rule.{IsCounted, Rings, Collects, rung_of, taken_of, shares_of, past, one_share_less, one_share, both, spent, standing}
use Rattle.door_board.proofs.Totals.{total_set, part_of_total, rung_counts, taken_counts}
use Rattle.door_board.specs.declared.TheConstants.{PLACES}

-- a view with no share has done nothing
abbrev Unused : Past → Type 0
Unused v = v.shares ≡ 0 → (v.fresh ≡ []) × (v.hauls ≡ [])

abbrev Idle : List Past → Type 0
Idle views = (k : ℕ) (v : Past) → get_elem? views k ≡ some v → Unused v

idle_set : (views : List Past) (id : ℕ) (w : Past) → Idle views → Unused w → Idle (set views id w)
idle_set views id w idle mine k v at =
    ⊎_elim (λ (here : (k ≡ id) × (w ≡ v)). subst Unused here.1 mine) (λ (else : (k ≢ id)
    × (get_elem? views k ≡ some v)). idle k v else.1) (at_set views id k w v at)

pub ring_allowed : (seats slots id word k : ℕ) (me : Me (Unit {0}) Past) → me.0.shares ≡ 1 → word < 8 → k < 64
    → Allows (IsCounted seats) slots id me word (λ n. bit_or n (2 ^ k)) (Rings (step slots word (2 ^ k) 0 none) me)
ring_allowed seats slots id word k me one within low s held homes at fits =
    let n : ℕ = slice_index s.words word in
    let wide : word < length s.words = let e = held.width in omega arith in
    let w : Past = record {
      shares = me.0.shares;
      fresh = rung_too me.0.fresh (64 * word + k) (bit_at n k == 0);
      merged = merged_too me.0.merged (64 * word + k) (bit_at n k == 0);
      hauls = me.0.hauls;
    } in (
      w,
      keeps,
      tt,
      record {
        width = length-set s.words word (bit_or n (2 ^ k)) ∙ held.width;
        shares = (let t = total_set shares_of s.views id me.0 w at in let e = held.shares in omega arith);
        counts =
            λ place below.
            let rung = total_set (rung_of place) s.views id me.0 w at in
            let taken = total_set (taken_of place) s.views id me.0 w at in
            let moved = rung_counts s.words me.0.fresh word k place wide low in
            let before = held.counts place below in
            omega arith;
        idle = idle_set s.views id w held.idle (λ none. absurd (omega arith));
      },
      (k, low, refl, refl),
    )

pub collect_allowed : (seats slots id word : ℕ) (me : Me (Unit {0}) Past) → me.0.shares ≡ 1 → word < 8
    → Allows (IsCounted seats) slots id me word (λ n. 0) (Collects (step slots word 0 0 none) me)
collect_allowed seats slots id word me one within s held homes at fits =
    let n : ℕ = slice_index s.words word in
    let wide : word < length s.words = let e = held.width in omega arith in
    let w : Past = record { shares = me.0.shares; fresh = me.0.fresh; merged = me.0.merged; hauls = me.0.hauls ++ record { word = word; bits = n } ∷ [] } in (
      w,
      keeps,
      tt,
      record {
        width = length-set s.words word 0 ∙ held.width;
        shares = (let t = total_set shares_of s.views id me.0 w at in let e = held.shares in omega arith);
        counts =
            λ place below.
            let rung = total_set (rung_of place) s.views id me.0 w at in
            let taken = total_set (taken_of place) s.views id me.0 w at in
            let moved = taken_counts s.words me.0.hauls word place wide in
            let before = held.counts place below in
            omega arith;
        idle = idle_set s.views id w held.idle (λ none. absurd (omega arith));
      },
      refl,
    )

idle_more : (views : List Past) (w : Past) → Idle views → Unused w → Idle (views ++ w ∷ [])
idle_more views w idle mine k v at =
    ⊎_elim (λ (there : get_elem? views k ≡ some v). idle k v there) (λ (last : w ≡ v). subst Unused last mine) (at_snoc views w v k at)

-- a share goes to a new seat, which has done nothing
pub deal_allowed : (seats id : ℕ) (v : Past) → 1 < v.shares → Splits (IsCounted seats) id v (one_share_less v) (one_share v)
deal_allowed seats id v more s held at =
    let left : Past = one_share_less v in
    let right : Past = past 1 in
    record {
      width = held.width;
      shares = (let t = total_set shares_of s.views id v left at in let e = held.shares in omega (arith, sum_by_push shares_of (set s.views id left) right));
      counts =
          λ place below.
          let rung = total_set (rung_of place) s.views id v left at in
          let taken = total_set (taken_of place) s.views id v left at in
          let before = held.counts place below in
          omega (arith, sum_by_push (rung_of place) (set s.views id left) right, sum_by_push (taken_of place) (set s.views id left) right);
      idle = idle_more (set s.views id left) right (idle_set s.views id left held.idle (λ none. absurd (omega arith))) (λ none. (refl, refl));
    }

-- one seat takes over the share and the past of another
pub gather_allowed : (seats id other : ℕ) (v w : Past) → 0 < v.shares → Joins (IsCounted seats) id v other w (both v w) spent
gather_allowed seats id other v w some_share s held at apart there =
    let all : Past = both v w in
    let first : List Past = set s.views id all in
    record {
      width = held.width;
      shares = (let t = total_set shares_of s.views id v all at in let u = total_set shares_of first other w spent there in let e = held.shares in omega arith);
      counts =
          λ place below.
          let rung = total_set (rung_of place) s.views id v all at in
          let rung' = total_set (rung_of place) first other w spent there in
          let taken = total_set (taken_of place) s.views id v all at in
          let taken' = total_set (taken_of place) first other w spent there in
          let before = held.counts place below in
          omega (arith, sum_by-append (λ (rung : ℕ). cond (rung == place) 1 0) v.fresh w.fresh, sum_by-append (taken_at place) v.hauls w.hauls);
      idle = idle_set first other spent (idle_set s.views id all held.idle (λ none. absurd (omega arith))) (λ none. (refl, refl));
    }

zero_but_one : (f : Past → ℕ) (views : List Past) → ((k : ℕ) (u : Past) → get_elem? views k ≡ some u → u.shares ≡ 0 → f u ≡ 0) → sum_by shares_of views ≡ 0
    → sum_by f views ≡ 0
zero_but_one f [] idle all = refl
zero_but_one f (x ∷ xs) idle all =
    let shares = sum_by-cons shares_of x xs in
    let first : f x ≡ 0 = idle 0 x refl (omega arith) in
    omega (arith, sum_by-cons f x xs, zero_but_one f xs (λ k u at. idle (suc k) u at) (omega arith))

-- where one seat has every share, what it did is all that was done
pub alone : (f : Past → ℕ) (views : List Past) (id : ℕ) (v : Past) → ((k : ℕ) (u : Past) → get_elem? views k ≡ some u → u.shares ≡ 0 → f u ≡ 0)
    → get_elem? views id ≡ some v → sum_by shares_of views ≡ v.shares → sum_by f views ≡ f v
alone f [] id v idle at all = absurd (some-ne-none v (sym at))
alone f (x ∷ xs) zero v idle at all =
    let is : x ≡ v = some-injective x v at in
    let same : f x ≡ f v = ap f is in
    let whole : x.shares ≡ v.shares = ap shares_of is in
    let shares = sum_by-cons shares_of x xs in
    omega (arith, sum_by-cons f x xs, zero_but_one f xs (λ k u there. idle (suc k) u there) (omega arith))
alone f (x ∷ xs) (suc id) v idle at all =
    let part = part_of_total shares_of xs id v at in
    let shares = sum_by-cons shares_of x xs in
    let first : f x ≡ 0 = idle 0 x refl (omega arith) in
    omega (arith, sum_by-cons f x xs, alone f xs id v (λ k u there. idle (suc k) u there) at (omega arith))

-- where one seat has every share, its own counts are the totals
pub counts_alone : (seats id : ℕ) (v : Past) (s : State (Unit {0}) Past) → IsCounted seats s → get_elem? s.views id ≡ some v → v.shares ≡ seats
    → (place : ℕ) → place < PLACES → times_rung place v.fresh ≡ times_taken place v.hauls + standing s.words place
counts_alone seats id v s held at every place below =
    let all : sum_by shares_of s.views ≡ v.shares = held.shares ∙ sym every in
    let rung = alone (rung_of place) s.views id v (λ k u there idle. ap (times_rung place) (held.idle k u there idle).0) at all in
    let taken = alone (taken_of place) s.views id v (λ k u there idle. ap (times_taken place) (held.idle k u there idle).1) at all in
    let before = held.counts place below in
    omega arith

-- eight words are those that were read one by one
pub eight_words : (l : List ℕ) (a b c d e f g h : ℕ) → length l ≡ 8
    → get_elem? l 0 ≡ some a → get_elem? l 1 ≡ some b → get_elem? l 2 ≡ some c → get_elem? l 3 ≡ some d
    → get_elem? l 4 ≡ some e → get_elem? l 5 ≡ some f → get_elem? l 6 ≡ some g → get_elem? l 7 ≡ some h
    → l ≡ a ∷ b ∷ c ∷ d ∷ e ∷ f ∷ g ∷ h ∷ []
eight_words [] a b c d e f g h n = absurd (omega arith)
eight_words (s ∷ []) a b c d e f g h n = absurd (omega arith)
eight_words (s ∷ t ∷ []) a b c d e f g h n = absurd (omega arith)
eight_words (s ∷ t ∷ u ∷ []) a b c d e f g h n = absurd (omega arith)
eight_words (s ∷ t ∷ u ∷ v ∷ []) a b c d e f g h n = absurd (omega arith)
eight_words (s ∷ t ∷ u ∷ v ∷ w ∷ []) a b c d e f g h n = absurd (omega arith)
eight_words (s ∷ t ∷ u ∷ v ∷ w ∷ x ∷ []) a b c d e f g h n = absurd (omega arith)
eight_words (s ∷ t ∷ u ∷ v ∷ w ∷ x ∷ y ∷ []) a b c d e f g h n = absurd (omega arith)
eight_words (s ∷ t ∷ u ∷ v ∷ w ∷ x ∷ y ∷ z ∷ []) a b c d e f g h n = λ is0 is1 is2 is3 is4 is5 is6 is7 i.
    some-injective s a is0 i ∷ some-injective t b is1 i ∷ some-injective u c is2 i ∷ some-injective v d is3 i
    ∷ some-injective w e is4 i ∷ some-injective x f is5 i ∷ some-injective y g is6 i ∷ some-injective z h is7 i ∷ []
eight_words (s ∷ t ∷ u ∷ v ∷ w ∷ x ∷ y ∷ z ∷ one ∷ more) a b c d e f g h n = absurd (omega arith)
