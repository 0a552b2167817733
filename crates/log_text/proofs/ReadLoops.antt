-- Reading items one behind the other, as a loop does.
use Rattle.std.proofs.Common.{◌≡◌, ℕ, suc, ◌-◌, ◌+◌, ◌≤◌, ◌<◌, List, [], ◌∷◌, ◌++◌, Result, Ok, Err, refl, sym, ap, ◌∙◌, append_assoc, arith}
use Rattle.std.specs.Prelude.{IfOk, length, zero}
use Rattle.std.proofs.lemmas.List.{append-nil}
use Rattle.log_text.specs.declared.LogFault.{LogFault}
use Rattle.log_text.specs.declared.Stop.{Stop}
use Rattle.log_text.specs.declared.Stop.TheVariants as stops
use Rattle.log_text.proofs.ReadResults.{bind_ok, ok_is}
use Rattle.log_text.specs.Reading.{◌>>=◌, Fails, Gives, field_at, items_at, rising_at}

-- what was read before, and what is still read
abbrev pub with_front : {A : Type 0} → List A → Result (List A × List ℕ) LogFault → Result (List A × List ℕ) LogFault
with_front front read = read >>= λ x. Ok (front ++ x.0, x.1)

regroup : {A : Type 0} (front : List A) (item : A) (read : Result (List A × List ℕ) LogFault)
    → with_front front (read >>= λ x. Ok (item ∷ x.0, x.1)) ≡ with_front (front ++ item ∷ []) read
regroup {A = A} front item (Ok x) = ap (λ (items : List A). Ok (items, x.1)) (simp append_assoc)
regroup front item (Err fault) = refl

-- ITEMS

pub goes_on : {A : Type 0} (item_at : List ℕ → Result (A × List ℕ) LogFault) (front : List A) (count i : ℕ) (bytes : List ℕ) (item : A) (after : List ℕ)
    (total : Result (List A × List ℕ) LogFault) → i < count → item_at bytes ≡ Ok (item, after)
    → with_front front (items_at item_at (count - i) bytes) ≡ total
    → with_front (front ++ item ∷ []) (items_at item_at (count - (i + 1)) after) ≡ total
unfolding items_at
goes_on item_at front count i bytes item after total lt h so_far =
    let k : count - i ≡ suc (count - (i + 1)) = omega arith in
    let one : with_front front (items_at item_at (count - i) bytes) ≡ with_front (front ++ item ∷ []) (items_at item_at (count - (i + 1)) after) =
    rw (k, h) (regroup front item (items_at item_at (count - (i + 1)) after)) in
    sym one ∙ so_far

pub ends : {A : Type 0} (item_at : List ℕ → Result (A × List ℕ) LogFault) (stop : Stop) (front : List A) (count i : ℕ) (bytes : List ℕ)
    (total : Result (List A × List ℕ) LogFault) → i < count → Fails stop (item_at bytes)
    → with_front front (items_at item_at (count - i) bytes) ≡ total → Fails stop total
unfolding items_at
ends item_at stops.Memory front count i bytes total lt h so_far = tt
ends item_at (stops.Fault fault) front count i bytes total lt h so_far =
    let k : count - i ≡ suc (count - (i + 1)) = omega arith in
    let one : with_front front (items_at item_at (count - i) bytes) ≡ Err fault = rw (k, h) refl in
    sym so_far ∙ one

pub is_done : {A : Type 0} (item_at : List ℕ → Result (A × List ℕ) LogFault) (front : List A) (count i : ℕ) (bytes : List ℕ)
    (total : Result (List A × List ℕ) LogFault) → count ≤ i → with_front front (items_at item_at (count - i) bytes) ≡ total → total ≡ Ok (front, bytes)
unfolding items_at
is_done {A = A} item_at front count i bytes total le so_far =
    let k : count - i ≡ 0 = omega arith in
    let one : with_front front (items_at item_at (count - i) bytes) ≡ Ok (front, bytes) =
    rw k (ap (λ (items : List A). Ok (items, bytes)) (append-nil front)) in
    sym so_far ∙ one

-- NUMBERS THAT RISE

pub rises_on : (most : ℕ) (front : List ℕ) (count i least : ℕ) (bytes : List ℕ) (number : ℕ) (after : List ℕ)
    (total : Result (List ℕ × List ℕ) LogFault) → i < count → field_at 4 least most bytes ≡ Ok (number, after)
    → with_front front (rising_at most (count - i) least bytes) ≡ total
    → with_front (front ++ number ∷ []) (rising_at most (count - (i + 1)) (number + 1) after) ≡ total
unfolding rising_at
rises_on most front count i least bytes number after total lt h so_far =
    let k : count - i ≡ suc (count - (i + 1)) = omega arith in
    let one : with_front front (rising_at most (count - i) least bytes)
    ≡ with_front (front ++ number ∷ []) (rising_at most (count - (i + 1)) (number + 1) after) =
    rw (k, h) (regroup front number (rising_at most (count - (i + 1)) (number + 1) after)) in
    sym one ∙ so_far

pub rising_ends : (most : ℕ) (stop : Stop) (front : List ℕ) (count i least : ℕ) (bytes : List ℕ)
    (total : Result (List ℕ × List ℕ) LogFault) → i < count → Fails stop (field_at 4 least most bytes)
    → with_front front (rising_at most (count - i) least bytes) ≡ total → Fails stop total
unfolding rising_at
rising_ends most stops.Memory front count i least bytes total lt h so_far = tt
rising_ends most (stops.Fault fault) front count i least bytes total lt h so_far =
    let k : count - i ≡ suc (count - (i + 1)) = omega arith in
    let one : with_front front (rising_at most (count - i) least bytes) ≡ Err fault = rw (k, h) refl in
    sym so_far ∙ one

pub rising_is_done : (most : ℕ) (front : List ℕ) (count i least : ℕ) (bytes : List ℕ)
    (total : Result (List ℕ × List ℕ) LogFault) → count ≤ i → with_front front (rising_at most (count - i) least bytes) ≡ total → total ≡ Ok (front, bytes)
unfolding rising_at
rising_is_done most front count i least bytes total le so_far =
    let k : count - i ≡ 0 = omega arith in
    let one : with_front front (rising_at most (count - i) least bytes) ≡ Ok (front, bytes) =
    rw k (ap (λ (items : List ℕ). Ok (items, bytes)) (append-nil front)) in
    sym so_far ∙ one

-- HOW MANY THERE ARE

items_len : {A : Type 0} (item_at : List ℕ → Result (A × List ℕ) LogFault) (count : ℕ) (bytes : List ℕ) (x : List A × List ℕ)
    → items_at item_at count bytes ≡ Ok x → length x.0 ≡ count
unfolding items_at
items_len {A = A} item_at zero bytes x e = ap (λ (read : List A × List ℕ). length read.0) (sym (ok_is ([], bytes) x e))
items_len {A = A} item_at (suc count) bytes x e =
    let a = bind_ok (item_at bytes) _ x e in
    let b = bind_ok (items_at item_at count a.0.1) _ x a.2 in
    ap (λ (read : List A × List ℕ). length read.0) (sym (ok_is (a.0.0 ∷ b.0.0, b.0.1) x b.2)) ∙ ap suc (items_len item_at count a.0.1 b.0 b.1)

-- there is one where one was asked for
pub gives_some : {A X : Type 0} (item_at : List ℕ → Result (A × List ℕ) LogFault) (view : X → List A × List ℕ) (count : ℕ) (bytes : List ℕ) (result : Result X Stop)
    → 1 ≤ count → Gives view result (items_at item_at count bytes) → IfOk result (λ read. 1 ≤ length (view read).0)
gives_some item_at view count bytes (Ok read) some given = omega (arith, items_len item_at count bytes (view read) given)
gives_some item_at view count bytes (Err stop) some given = tt
