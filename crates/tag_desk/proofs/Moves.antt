-- A tag that moves from one stage to another, and what that leaves of the rule.
use Rattle.std.proofs.Common.{◌≡◌, ◌≢◌, ℕ, zero, suc, ◌<◌, ◌==◌, if◌then◌else◌, eq-eqb, ne_eqb, List, [], ◌∷◌, length, set, get_or, slice_index}
use Rattle.std.proofs.Common.{slice_set, sym, refl, ap, subst, ◌∙◌, ⊎_elim, arith, Option}
use mathlib.Core.Option.{some, some-injective, some-ne-none}
use mathlib.Core.Option as maybe
use mathlib.Core.Logic.{dite}
use native.Mathlib.Decide.{ℕ_discrete}
use lib.ListN.{get_elem?}
use Rattle.std.proofs.Math.ListN.{length-set}
use Rattle.std.proofs.lemmas.List.{get_or-set_same, get_or-set_other}
use Rattle.atomic_table.specs.Table.{State}
use Rattle.atomic_table.proofs.Lists.{at_set, set_here, set_else}
use Rattle.tag_desk.specs.declared.Slip.{Slip}
use Rattle.tag_desk.specs.declared.rule.ClientView.{ClientView}
use Rattle.tag_desk.specs.declared.rule.WorkView.{WorkView}
use Rattle.tag_desk.specs.declared.rule.View.{View}
use Rattle.tag_desk.specs.declared.rule.View.TheVariants.{Dealer, Client, Work, Both, Spent}
use Rattle.tag_desk.specs.declared.rule.TagCounts.{TagCounts}
use Rattle.tag_desk.specs.Rule.{Stage, Books, Knows, ClientKnows, WorkKnows, IsAt, IsDesk, Place}

-- a function with one value changed
abbrev pub updated : {A : Type 0} → (ℕ → A) → ℕ → A → ℕ → A
updated f t x k = if k == t then x else f k

pub updated_here : {A : Type 0} (f : ℕ → A) (t k : ℕ) (x : A) → k ≡ t → updated f t x k ≡ x
updated_here f t k x e = ap (λ b. if b then x else f k) (eq-eqb k t e)

pub updated_else : {A : Type 0} (f : ℕ → A) (t k : ℕ) (x : A) → k ≢ t → updated f t x k ≡ f k
updated_else f t k x e = ap (λ b. if b then x else f k) (ne_eqb k t e)

abbrev pub restaged : Books → ℕ → Stage → Books
restaged b t x = record { stage = updated b.stage t x; client = b.client; work = b.work; dealer = b.dealer; dealt = b.dealt }

-- what was known of a stage is known after a change, if the change keeps it at the tag that moved
still : (P : Stage → Type 0) (f : ℕ → Stage) (t k : ℕ) (x : Stage) → (k ≡ t → P x) → P (f k) → P (updated f t x k)
still P f t k x moved known =
    dite (ℕ_discrete k t)
    (λ (e : k ≡ t). subst P (sym (updated_here f t k x e)) (moved e))
    (λ (e : k ≢ t). subst P (sym (updated_else f t k x e)) known)

-- what a seat knows stays true, if the change keeps what the clients and the pumps that it may be know of the tag
pub knows_moved : (b : Books) (t k : ℕ) (x : Stage) → ((v : ClientView) → b.client t ≡ k → ClientKnows v (b.stage t) → ClientKnows v x)
    → ((w : WorkView) → b.work t ≡ k → WorkKnows w (b.stage t) → WorkKnows w x) → (u : View) → Knows b k u → Knows (restaged b t x) k u
knows_moved b t k x clients works (Dealer from) h = h
knows_moved b t k x clients works (Client j v) h = (
  h.0,
  h.1,
  still (ClientKnows v) b.stage t j x (λ e. clients v (ap b.client (sym e) ∙ h.1) (subst (λ i. ClientKnows v (b.stage i)) e h.2)) h.2,
)
knows_moved b t k x clients works (Work j w) h = (
  h.0,
  h.1,
  still (WorkKnows w) b.stage t j x (λ e. works w (ap b.work (sym e) ∙ h.1) (subst (λ i. WorkKnows w (b.stage i)) e h.2)) h.2,
)
knows_moved b t k x clients works (Both j v w) h = (
  h.0,
  h.1,
  h.2,
  still (ClientKnows v) b.stage t j x (λ e. clients v (ap b.client (sym e) ∙ h.1) (subst (λ i. ClientKnows v (b.stage i)) e h.3)) h.3,
  still (WorkKnows w) b.stage t j x (λ e. works w (ap b.work (sym e) ∙ h.2) (subst (λ i. WorkKnows w (b.stage i)) e h.4)) h.4,
)
knows_moved b t k x clients works Spent h = h

at_moved : (tags k t m n : ℕ) (home slot : Place) (y x : Stage) → k ≡ t → m ≡ n → home ≡ slot → y ≡ x → IsAt tags t n slot x → IsAt tags k m home y
at_moved tags k t m n home slot y x a b c d h =
    subst (λ (p : ℕ × (ℕ × (Place × Stage))). IsAt tags p.0 p.1.0 p.1.1.0 p.1.1.1) (λ i. (sym a i, (sym b i, (sym c i, sym d i)))) h

-- one tag moves: its word, its slot, its stage, and what one seat knows of it
pub moved : (counts : TagCounts) (s : State (Option Slip) View) (held : IsDesk counts s) (t id n : ℕ) (slot : maybe.Option (Option Slip)) (x : Stage) (w : View)
    → t < counts.all → t < held.books.dealt → IsAt counts.each t n (some slot) x → Knows (restaged held.books t x) id w
    → ((k : ℕ) → k ≢ id → (v : ClientView) → held.books.client t ≡ k → ClientKnows v (held.books.stage t) → ClientKnows v x)
    → ((k : ℕ) → k ≢ id → (v : WorkView) → held.books.work t ≡ k → WorkKnows v (held.books.stage t) → WorkKnows v x)
    → IsDesk counts record { words = slice_set s.words t n; homes = slice_set s.homes t slot; views = slice_set s.views id w }
moved counts s held t id n slot x w within dealt at knows clients works =
    let b : Books = held.books in
    let wide : t < length s.words = let e = held.width in omega arith in
    let deep : t < length s.homes = let e = held.depth in omega arith in
    record {
      books = restaged b t x;
      width = length-set s.words t n ∙ held.width;
      depth = length-set s.homes t slot ∙ held.depth;
      fresh = λ k late. updated_else b.stage t k x (λ (e : k ≡ t). absurd (omega arith)) ∙ held.fresh k late;
      each_tag =
          λ k below.
          dite (ℕ_discrete k t)
          (λ (e : k ≡ t).
          let word : get_or (set s.words t n) k 0 ≡ n = ap (λ i. get_or (set s.words t n) i 0) e ∙ get_or-set_same s.words t n 0 wide in
          let home : get_elem? (set s.homes t slot) k ≡ some slot = ap (get_elem? (set s.homes t slot)) e ∙ set_here s.homes t slot deep in
          at_moved counts.each k t _ n _ (some slot) _ x e word home (updated_here b.stage t k x e) at)
          (λ (e : k ≢ t).
          at_moved counts.each k k _ _ _ _ _ _ refl (get_or-set_other s.words t k n 0 e) (set_else s.homes t k slot e) (updated_else b.stage t k x e)
          (held.each_tag k below));
      each_seat =
          λ k v there.
          ⊎_elim (λ (h : (k ≡ id) × (w ≡ v)). subst (λ (p : ℕ × View). Knows (restaged b t x) p.0 p.1) (λ i. (sym h.0 i, h.1 i)) knows)
          (λ (h : (k ≢ id) × (get_elem? s.views k ≡ some v)). knows_moved b t k x (clients k h.0) (works k h.0) v (held.each_seat k v h.1))
          (at_set s.views id k w v there);
    }

set_found : (l : List ℕ) (i : ℕ) → set l i (get_or l i 0) ≡ l
set_found [] i = refl
set_found (x ∷ xs) zero = refl
set_found (x ∷ xs) (suc i) = ap (λ l. x ∷ l) (set_found xs i)

-- a step that changed nothing but what its seat notes, which is true
pub noted_only : (counts : TagCounts) (s : State (Option Slip) View) (t id : ℕ) (w : View) (held : IsDesk counts s) → Knows held.books id w
    → IsDesk counts record { words = slice_set s.words t (slice_index s.words t); homes = s.homes; views = slice_set s.views id w }
noted_only counts s t id w held knows =
    let words = set_found s.words t in
    subst (λ (l : List ℕ). IsDesk counts record { words = l; homes = s.homes; views = slice_set s.views id w }) (sym words) record {
      books = held.books;
      width = held.width;
      depth = held.depth;
      fresh = held.fresh;
      each_tag = held.each_tag;
      each_seat =
          λ k v there.
          ⊎_elim (λ (h : (k ≡ id) × (w ≡ v)). subst (λ (p : ℕ × View). Knows held.books p.0 p.1) (λ i. (sym h.0 i, h.1 i)) knows)
          (λ (h : (k ≢ id) × (get_elem? s.views k ≡ some v)). held.each_seat k v h.1)
          (at_set s.views id k w v there);
    }
