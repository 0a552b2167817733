-- The claims that a pump holds, as claims are given, held and finished.
use Rattle.std.proofs.Common.{◌≡◌, ◌≢◌, ℕ, zero, suc, ◌+◌, ◌-◌, ◌*◌, ◌<◌, ◌≤◌, List, [], ◌∷◌, Option, Some, None, length, set, get_or, slice_get, refl, sym, ap, subst, ◌∙◌, arith}
use mathlib.Core.Logic.{dite}
use native.Mathlib.Decide.{ℕ_discrete}
use Rattle.std.proofs.Math.ListN.{length-set}
use Rattle.std.proofs.lemmas.Grind.{get_or-set_at}
use Rattle.std.proofs.lemmas.List.{get_or-set_other}
use Rattle.tag_desk.specs.declared.Slip.{Slip}
use Rattle.tag_desk.specs.declared.rule.WorkView.TheVariants.{Finished}
use Rattle.tag_desk.specs.Seats.{finishing, MadeDesk, Server, WorkLine, HeldClaim, IsAway, IsServed}
use Rattle.uas_work.specs.Held.{AreHeldBy, AreNone, AreUnserved, IsHeldAt, unserved_line, unserving}

-- LINES THAT ARE OUT

away_set : (lines : List (Option WorkLine)) (k j : ℕ) → slice_get lines j ≡ Some None → slice_get (set lines k None) j ≡ Some None
away_set [] k j at = at
away_set (x ∷ xs) zero zero at = refl
away_set (x ∷ xs) zero (suc j) at = at
away_set (x ∷ xs) (suc k) zero at = at
away_set (x ∷ xs) (suc k) (suc j) at = away_set xs k j at

away_other : (lines : List (Option WorkLine)) (k j : ℕ) (line : Option WorkLine) → j ≢ k → slice_get lines j ≡ Some None
    → slice_get (set lines k line) j ≡ Some None
away_other [] k j line apart at = at
away_other (x ∷ xs) zero zero line apart at = absurd (apart refl)
away_other (x ∷ xs) zero (suc j) line apart at = at
away_other (x ∷ xs) (suc k) zero line apart at = at
away_other (x ∷ xs) (suc k) (suc j) line apart at = away_other xs k j line (λ e. apart (ap suc e)) at

-- what holds of an element holds of it once one is written, where it holds of what is written there
holds_set : {X : Type 0} (P : X → Type 0) (xs : List X) (k j : ℕ) (x d : X) → (j ≡ k → P x) → P (get_or xs j d) → P (get_or (set xs k x) j d)
holds_set P [] k j x d here there = there
holds_set P (y ∷ ys) zero zero x d here there = here refl
holds_set P (y ∷ ys) zero (suc j) x d here there = there
holds_set P (y ∷ ys) (suc k) zero x d here there = there
holds_set P (y ∷ ys) (suc k) (suc j) x d here there = holds_set P ys k j x d (λ e. here (ap suc e)) there

-- CLAIMS

pub at_moved : (desk : MadeDesk) (old new : Server) (k : ℕ) (o : Option HeldClaim) → new.pump ≡ old.pump
    → ((tag : ℕ) → tag ≡ k + 1 → IsAway old tag → IsAway new tag) → IsHeldAt desk old k o → IsHeldAt desk new k o
at_moved desk old new k None same keeps h = tt
at_moved desk old new k (Some claim) same keeps h = (h.0, h.1, (h.2.0, h.2.1, h.2.2 ∙ sym same), keeps claim.tag h.1 h.3)

-- a further line goes out
pub held-given : (desk : MadeDesk) (seat : Server) (held : List (Option HeldClaim)) (k : ℕ) → AreHeldBy desk seat held
    → AreHeldBy desk (record seat { lines = set seat.lines k None }) held
held-given desk seat held k it = record {
  count = it.count;
  each =
      λ j within.
      at_moved desk seat (record seat { lines = set seat.lines k None }) j (get_or held j None) refl
      (λ tag is at. away_set seat.lines k (tag - 1) at) (it.each j within);
}

-- a further claim is held
pub held-put : (desk : MadeDesk) (seat : Server) (held : List (Option HeldClaim)) (claim : HeldClaim) → AreHeldBy desk seat held
    → claim.table ≡ desk.table → IsServed desk seat claim.tag → IsAway seat claim.tag
    → AreHeldBy desk seat (set held (claim.tag - 1) (Some claim))
held-put desk seat held claim it table served is = record {
  count = length-set held (claim.tag - 1) (Some claim) ∙ it.count;
  each =
      λ j within.
      holds_set (IsHeldAt desk seat j) held (claim.tag - 1) j (Some claim) None
      (λ here. (table, (let low : 1 ≤ claim.tag = served.0 in omega arith), served, is)) (it.each j within);
}

-- one is held no longer
pub held-taken : (desk : MadeDesk) (seat : Server) (held : List (Option HeldClaim)) (k : ℕ) → AreHeldBy desk seat held
    → AreHeldBy desk seat (set held k None)
held-taken desk seat held k it = record {
  count = length-set held k None ∙ it.count;
  each = λ j within. holds_set (IsHeldAt desk seat j) held k j None None (λ here. tt) (it.each j within);
}

-- a line comes back of which no claim is held
pub held-finished : (desk : MadeDesk) (seat : Server) (held : List (Option HeldClaim)) (k : ℕ) (line : Option WorkLine)
    → get_or held k None ≡ None → AreHeldBy desk seat held → AreHeldBy desk (record seat { lines = set seat.lines k line }) held
held-finished desk seat held k line none it =
    let new : Server = record seat { lines = set seat.lines k line } in
    record {
      count = it.count;
      each =
          λ j within.
          dite (ℕ_discrete j k)
          (λ (e : j ≡ k). subst (IsHeldAt desk new j) (sym (ap (λ i. get_or held i None) e ∙ none)) tt)
          (λ (e : j ≢ k). at_moved desk seat new j (get_or held j None) refl
          (λ tag is at. away_other seat.lines k (tag - 1) line (λ same. e (omega arith)) at) (it.each j within));
    }

pub held_ended : (desk : MadeDesk) (seat : Server) (held : List (Option HeldClaim)) (claim : HeldClaim) (end : Slip)
    → get_or held (claim.tag - 1) None ≡ None → AreHeldBy desk seat held → AreHeldBy desk (finishing seat claim end) held
held_ended desk seat held claim end none it =
    held-finished desk seat held (claim.tag - 1) (Some (record { table = claim.table; index = claim.tag - 1; view = Finished claim.ticket end [] })) none it

-- a place that was emptied is empty
pub none_at : (held : List (Option HeldClaim)) (k : ℕ) → get_or (set held k None) k None ≡ None
none_at [] k = refl
none_at (x ∷ xs) zero = refl
none_at (x ∷ xs) (suc k) = none_at xs k

-- nothing is held by anybody
pub held-none : (desk : MadeDesk) (seat : Server) (held : List (Option HeldClaim)) → AreNone held
    → length held ≡ desk.tags * desk.clients → AreHeldBy desk seat held
held-none desk seat held none count = record {
  count = count;
  each = λ j within. subst (IsHeldAt desk seat j) (sym (none j None (omega arith))) tt;
}

-- ALL ARE GIVEN BACK

-- the claims below a place are given back, and those from it on are as they were
pub record Below (old : Server) (had : List (Option HeldClaim)) (place : ℕ) (seat : Server) (held : List (Option HeldClaim)) : Type 0 where
  pub pump : seat.pump ≡ old.pump
  pub lines : length seat.lines ≡ length old.lines
  pub count : length held ≡ length had
  pub gone : (k : ℕ) (d : Option HeldClaim) → k < place → get_or held k d ≡ None
  pub left : (k : ℕ) → place ≤ k → get_or held k None ≡ get_or had k None
  pub ended : (k : ℕ) (d : Option WorkLine) → k < place → get_or seat.lines k d ≡ unserved_line (get_or had k None) (get_or old.lines k d)
  pub rest : (k : ℕ) (d : Option WorkLine) → place ≤ k → get_or seat.lines k d ≡ get_or old.lines k d

pub below-none : (old : Server) (had : List (Option HeldClaim)) → Below old had 0 old had
below-none old had = record {
  pump = refl;
  lines = refl;
  count = refl;
  gone = λ k d below. absurd (omega arith);
  left = λ k from. refl;
  ended = λ k d below. absurd (omega arith);
  rest = λ k d from. refl;
}

gone_more : (held : List (Option HeldClaim)) (place : ℕ) → place < length held → ((k : ℕ) (d : Option HeldClaim) → k < place → get_or held k d ≡ None)
    → (k : ℕ) (d : Option HeldClaim) → k < place + 1 → get_or (set held place None) k d ≡ None
gone_more held place within gone k d below =
    dite (ℕ_discrete k place)
    (λ (e : k ≡ place). get_or-set_at held place k None d e within)
    (λ (e : k ≢ place). get_or-set_other held place k None d e ∙ gone k d (omega arith))

-- one more is given back
pub below-more : (old : Server) (had : List (Option HeldClaim)) (place : ℕ) (seat : Server) (held : List (Option HeldClaim)) (o : Option HeldClaim)
    → o ≡ get_or held place None → ((claim : HeldClaim) → o ≡ Some claim → claim.tag ≡ place + 1) → place < length held → length held ≡ length seat.lines
    → Below old had place seat held → Below old had (place + 1) (unserving o seat) (set held place None)
below-more old had place seat held None is named within as_long it = record {
  pump = it.pump;
  lines = it.lines;
  count = length-set held place None ∙ it.count;
  gone = gone_more held place within it.gone;
  left = λ k from. get_or-set_other held place k None None (omega arith) ∙ it.left k (omega arith);
  ended =
      λ k d below.
      dite (ℕ_discrete k place)
      (λ (e : k ≡ place).
      let none : get_or had k None ≡ None = sym (it.left k (omega arith)) ∙ (ap (λ j. get_or held j None) e ∙ sym is) in
      it.rest k d (omega arith) ∙ sym (ap (λ (claim : Option HeldClaim). unserved_line claim (get_or old.lines k d)) none))
      (λ (e : k ≢ place). it.ended k d (omega arith));
  rest = λ k d from. it.rest k d (omega arith);
}
below-more old had place seat held (Some claim) is named within as_long it =
    let tag : claim.tag ≡ place + 1 = named claim refl in
    let here : claim.tag - 1 ≡ place = omega arith in
    let line : Option WorkLine = unserved_line (Some claim) None in
    let lines : List (Option WorkLine) = set seat.lines (claim.tag - 1) line in
    record {
      pump = it.pump;
      lines = length-set seat.lines (claim.tag - 1) line ∙ it.lines;
      count = length-set held place None ∙ it.count;
      gone = gone_more held place within it.gone;
      left = λ k from. get_or-set_other held place k None None (omega arith) ∙ it.left k (omega arith);
      ended =
          λ k d below.
          dite (ℕ_discrete k place)
          (λ (e : k ≡ place).
          let some : get_or had k None ≡ Some claim = sym (it.left k (omega arith)) ∙ (ap (λ j. get_or held j None) e ∙ sym is) in
          get_or-set_at seat.lines (claim.tag - 1) k line d (omega arith) (omega arith)
          ∙ sym (ap (λ (one : Option HeldClaim). unserved_line one (get_or old.lines k d)) some))
          (λ (e : k ≢ place). get_or-set_other seat.lines (claim.tag - 1) k line d (λ same. e (omega arith)) ∙ it.ended k d (omega arith));
      rest = λ k d from. get_or-set_other seat.lines (claim.tag - 1) k line d (omega arith) ∙ it.rest k d (omega arith);
    }

-- all are given back
pub below-all : (old : Server) (had : List (Option HeldClaim)) (seat : Server) (held : List (Option HeldClaim)) → length had ≡ length old.lines
    → Below old had (length had) seat held → AreUnserved old had seat
below-all old had seat held as_long it = record { pump = it.pump; count = it.lines; each = λ k d within. it.ended k d (omega arith) }

pub below-none_left : (old : Server) (had : List (Option HeldClaim)) (seat : Server) (held : List (Option HeldClaim))
    → Below old had (length had) seat held → AreNone held
below-none_left old had seat held it k d within = it.gone k d (omega (arith, it.count))
