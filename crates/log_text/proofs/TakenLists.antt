-- Lists of items, taken and read again.
use Rattle.std.proofs.Common.{◌≡◌, ℕ, zero, suc, ◌+◌, ◌^◌, ◌<◌, List, [], ◌∷◌, ◌++◌, length, Result, Ok, refl, sym, ap, subst, ◌∙◌, append_assoc, arith}
use Rattle.std.specs.List.{flat_map, AllByRecursion}
use Rattle.std.proofs.lemmas.List.Concat.{flat_map-cons}
use Rattle.log_text.specs.declared.LogFault.{LogFault}
use Rattle.log_text.specs.declared.LogFault.TheVariants.{BadField}
use Rattle.log_text.specs.Text.{AreRising, field, listed}
use Rattle.log_text.specs.Reading.{field_at, items_at, listed_at, rising_at}
use Rattle.byte_numbers.specs.Bytes.{AreBytes}
use Rattle.log_text.proofs.ReadResults.{bind_ok, ok_is}
use Rattle.log_text.proofs.TakenFields.{Reads, Taken, Takes, Within, number_again, number_taken, then_takes}

-- ITEMS

pub record AreItems {A : Type 0} (holds : A → Type 0) (count : ℕ) (items : List A) : Type 0 where
  pub len : length items ≡ count
  pub each : AllByRecursion holds items

pub items_taken : {A : Type 0} (item_at : List ℕ → Result (A × List ℕ) LogFault) (text : A → List ℕ) (holds : A → Type 0) → Reads item_at text holds
    → (count : ℕ) (bytes : List ℕ) (x : List A × List ℕ) → AreBytes bytes → items_at item_at count bytes ≡ Ok x
    → Taken (flat_map text) (AreItems holds count) bytes x
unfolding items_at
items_taken {A = A} item_at text holds reads zero bytes x is e =
    let read : List A × List ℕ = ([], bytes) in
    subst (λ (y : List A × List ℕ). Taken (flat_map text) (AreItems holds 0) bytes y) (ok_is read x e) (record {
      takes = record { parts = refl; rest_bytes = is };
      fits = record { len = refl; each = tt };
    })
items_taken {A = A} item_at text holds reads (suc count) bytes x is e =
    let a = bind_ok (item_at bytes) _ x e in
    let b = bind_ok (items_at item_at count a.0.1) _ x a.2 in
    let first = reads.taken bytes a.0 is a.1 in
    let others = items_taken item_at text holds reads count a.0.1 b.0 first.takes.rest_bytes b.1 in
    let both = then_takes first.takes others.takes in
    let made : List A × List ℕ = (a.0.0 ∷ b.0.0, b.0.1) in
    subst (λ (y : List A × List ℕ). Taken (flat_map text) (AreItems holds (suc count)) bytes y) (ok_is made x b.2) (record {
      takes = rw (flat_map-cons text a.0.0 b.0.0) both;
      fits = record { len = ap suc others.fits.len; each = (first.fits, others.fits.each) };
    })

pub items_again : {A : Type 0} (item_at : List ℕ → Result (A × List ℕ) LogFault) (text : A → List ℕ) (holds : A → Type 0) → Reads item_at text holds
    → (items : List A) (rest : List ℕ) → AllByRecursion holds items → items_at item_at (length items) (flat_map text items ++ rest) ≡ Ok (items, rest)
unfolding items_at
items_again item_at text holds reads [] rest fits = refl
items_again item_at text holds reads (item ∷ items) rest fits =
    let regrouped : flat_map text (item ∷ items) ++ rest ≡ text item ++ (flat_map text items ++ rest) =
    ap (λ (x : List ℕ). x ++ rest) (flat_map-cons text item items) ∙ append_assoc (text item) (flat_map text items) rest in
    ap (items_at item_at (suc (length items))) regrouped
    ∙ rw (reads.again item (flat_map text items ++ rest) fits.0, items_again item_at text holds reads items rest fits.1) refl

-- LISTS BEHIND THEIR LENGTH

pub record AreListed {A : Type 0} (holds : A → Type 0) (items : List A) : Type 0 where
  pub few : length items < 2 ^ 32
  pub each : AllByRecursion holds items

pub reads_listed : {A : Type 0} (item_at : List ℕ → Result (A × List ℕ) LogFault) (text : A → List ℕ) (holds : A → Type 0) → Reads item_at text holds
    → Reads (listed_at item_at) (listed text) (AreListed holds)
unfolding listed_at
reads_listed item_at text holds reads = record {
  taken = λ bytes x is e.
      let a = bind_ok (field_at 4 0 0xffffffff bytes) _ x e in
      let count = number_taken BadField 4 0 0xffffffff bytes a.0 is a.1 in
      let items = items_taken item_at text holds reads a.0.0 a.0.1 x count.takes.rest_bytes a.2 in
      record {
        takes = subst (λ (n : ℕ). Takes bytes (field 4 n ++ flat_map text x.0) x.1) (sym items.fits.len) (then_takes count.takes items.takes);
        fits = record { few = omega (arith, items.fits.len, count.fits.most); each = items.fits.each };
      };
  again = λ items rest fits.
      let within : Within 4 0 0xffffffff (length items) = record { least = omega arith; most = omega (arith, fits.few); wide = omega (arith, fits.few) } in
      ap (listed_at item_at) (append_assoc (field 4 (length items)) (flat_map text items) rest)
      ∙ rw (number_again BadField 4 0 0xffffffff (length items) (flat_map text items ++ rest) within)
      (items_again item_at text holds reads items rest fits.each);
}

-- NUMBERS THAT RISE

pub record AreBad (upto least count : ℕ) (numbers : List ℕ) : Type 0 where
  pub len : length numbers ≡ count
  pub rising : AreRising least (upto + 1) numbers

pub rising_taken : (most count least : ℕ) (bytes : List ℕ) (x : List ℕ × List ℕ) → AreBytes bytes → rising_at most count least bytes ≡ Ok x
    → Taken (flat_map (field 4)) (AreBad most least count) bytes x
unfolding rising_at
rising_taken most zero least bytes x is e =
    let read : List ℕ × List ℕ = ([], bytes) in
    subst (λ (y : List ℕ × List ℕ). Taken (flat_map (field 4)) (AreBad most least 0) bytes y) (ok_is read x e) (record {
      takes = record { parts = refl; rest_bytes = is };
      fits = record { len = refl; rising = tt };
    })
rising_taken most (suc count) least bytes x is e =
    let a = bind_ok (field_at 4 least most bytes) _ x e in
    let b = bind_ok (rising_at most count (a.0.0 + 1) a.0.1) _ x a.2 in
    let first = number_taken BadField 4 least most bytes a.0 is a.1 in
    let others = rising_taken most count (a.0.0 + 1) a.0.1 b.0 first.takes.rest_bytes b.1 in
    let both = then_takes first.takes others.takes in
    let made : List ℕ × List ℕ = (a.0.0 ∷ b.0.0, b.0.1) in
    subst (λ (y : List ℕ × List ℕ). Taken (flat_map (field 4)) (AreBad most least (suc count)) bytes y) (ok_is made x b.2) (record {
      takes = rw (flat_map-cons (field 4) a.0.0 b.0.0) both;
      fits = record { len = ap suc others.fits.len; rising = (first.fits.least, omega (arith, first.fits.most), others.fits.rising) };
    })

pub rising_again : (most least : ℕ) (numbers rest : List ℕ) → most < 2 ^ 32 → AreRising least (most + 1) numbers
    → rising_at most (length numbers) least (flat_map (field 4) numbers ++ rest) ≡ Ok (numbers, rest)
unfolding rising_at
rising_again most least [] rest small fits = refl
rising_again most least (number ∷ numbers) rest small fits =
    let regrouped : flat_map (field 4) (number ∷ numbers) ++ rest ≡ field 4 number ++ (flat_map (field 4) numbers ++ rest) =
    ap (λ (x : List ℕ). x ++ rest) (flat_map-cons (field 4) number numbers) ∙ append_assoc (field 4 number) (flat_map (field 4) numbers) rest in
    let within : Within 4 least most number = record { least = fits.0; most = omega (arith, fits.1); wide = omega (arith, fits.1) } in
    ap (rising_at most (suc (length numbers)) least) regrouped
    ∙ rw (number_again BadField 4 least most number (flat_map (field 4) numbers ++ rest) within, rising_again most (number + 1) numbers rest small fits.2) refl
