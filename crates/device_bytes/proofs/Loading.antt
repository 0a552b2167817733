-- What is loaded place by place, and part by part. Cited by the answers of what loads.
use Rattle.std.proofs.Common.{◌≡◌, ℕ, suc, ◌+◌, ◌-◌, ◌<◌, ◌≤◌, Bool, true, false, cond, drop, List, Option, Some, None}
use Rattle.std.proofs.Common.{refl, arith, ap, sym, ◌∙◌, add-one}
use Rattle.uas_tasks.specs.Machine.{Machine}
use Rattle.machine_bytes.specs.Forms.{then_read}
use Rattle.machine_bytes.specs.Sparse.{end_mark, end_read, has_mark}
use Rattle.device_bytes.specs.Devices.{Loads, places_loaded}

apart : {P : Type 0} → ◌≡◌ {A = Option (Unit {0})} None (Some tt) → P
apart is = let it : ⊥ = cc in absurd it

-- something was loaded, and more is
pub then_more : (told : Option Machine × List ℕ) (next : Machine → List ℕ → Option Machine × List ℕ) (result : Option (Unit {0})) (after : Machine) (left : List ℕ) →
    Loads told result after left → result ≡ Some tt → then_read told next ≡ next after left
then_more (None, rest) next result after left loads some = apart (sym loads.1 ∙ some)
then_more (Some machine, rest) next result after left loads some = rw (loads.0, loads.1.1) refl

-- nothing was
pub then_none : (told : Option Machine × List ℕ) (next : Machine → List ℕ → Option Machine × List ℕ) (result ends : Option (Unit {0})) (after other : Machine)
    (left : List ℕ) → Loads told result after left → result ≡ None → ends ≡ None → Loads (then_read told next) ends other left
then_none (None, rest) next result ends after other left loads none end = (loads.0, end)
then_none (Some machine, rest) next result ends after other left loads none end = apart (sym none ∙ loads.1.0)

module _ (step : Machine → ℕ → List ℕ → Option Machine × List ℕ) where
  -- a place was loaded
  pub places_more : (end at : ℕ) (machine after : Machine) (text left : List ℕ) (result : Option (Unit {0})) → at < end →
      Loads (step machine at text) result after left → result ≡ Some tt →
      places_loaded step (end - (at + 1)) (at + 1) after left ≡ places_loaded step (end - at) at machine text
  unfolding places_loaded
  places_more end at machine after text left result within loads some =
      let many : end - at ≡ suc (end - (at + 1)) = omega arith in
      rw (many, add-one at) (sym (then_more (step machine at text) (λ (m : Machine) l. places_loaded step (end - suc at) (suc at) m l) result after left loads some))

  -- a place wasn't
  pub places_none : (end at : ℕ) (machine after other : Machine) (text left : List ℕ) (result ends : Option (Unit {0})) → at < end →
      Loads (step machine at text) result after left → result ≡ None → ends ≡ None → Loads (places_loaded step (end - at) at machine text) ends other left
  unfolding places_loaded
  places_none end at machine after other text left result ends within loads none stop =
      let many : end - at ≡ suc (end - (at + 1)) = omega arith in
      rw many (then_none (step machine at text) (λ (m : Machine) l. places_loaded step (end - (at + 1)) (suc at) m l) result ends after other left loads none stop)

  -- all were
  pub places_all : (end at : ℕ) (machine : Machine) (text : List ℕ) → end ≤ at → Loads (places_loaded step (end - at) at machine text) (Some tt) machine text
  unfolding places_loaded
  places_all end at machine text past =
      let none : end - at ≡ 0 = omega arith in
      rw none (refl, (refl, refl))

-- a mark that ends a list was read, or wasn't
pub end_loads : (machine : Machine) (text left : List ℕ) (result : Option (Unit {0})) → (result, left) ≡ end_read tt text →
    Loads (end_read machine text) result machine left
end_loads machine text left result is = by_mark (has_mark end_mark text) is
  where
    by_mark : (found : Bool) → ◌≡◌ {A = Option (Unit {0}) × List ℕ} (result, left) (cond found (Some tt, drop 2 text) (None, text)) →
        Loads (cond found (Some machine, drop 2 text) (None, text)) result machine left
    by_mark true same = let one = ap (λ (p : Option (Unit {0}) × List ℕ). p.0) same in (ap (λ (p : Option (Unit {0}) × List ℕ). p.1) same, (one, refl))
    by_mark false same = (ap (λ (p : Option (Unit {0}) × List ℕ). p.1) same, ap (λ (p : Option (Unit {0}) × List ℕ). p.0) same)
