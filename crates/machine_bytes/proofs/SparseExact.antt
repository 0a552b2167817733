-- A list of which only those places are written that aren't as made is exact.
use Rattle.std.proofs.Common.{◌≡◌, ℕ, zero, suc, ◌+◌, ◌<◌, Bool, true, false, List, [], ◌∷◌, ◌++◌, length, drop, replicate, append_assoc, Some, refl, sym, ap, subst, ◌∙◌, arith}
use Rattle.std.specs.Prelude.{not, if◌then◌else◌}
use Rattle.std.proofs.lemmas.Bool.{false≢true}
use Rattle.byteorder.specs.Endian.{big_bytes}
use Rattle.byte_numbers.specs.Bytes.{AreBytes}
use Rattle.byte_numbers.proofs.Bytes.{bytes_back, bytes_dropped}
use Rattle.machine_bytes.specs.declared.place.Place.{Place}
use Rattle.machine_bytes.specs.Exact.{IsExact}
use Rattle.machine_bytes.specs.Forms.{Form}
use Rattle.machine_bytes.specs.Places.{IsWithin, written}
use Rattle.machine_bytes.specs.Sparse.{PlaceForm, PlaceHasIf, PlacesHave, changed_form, end_mark, end_read, has_mark, made_places, place_bytes_if, place_read, place_write_if, places_bytes, places_read, places_write, sparse}
use Rattle.machine_bytes.proofs.Exact.{checked-exact, same_value, then_some, where_true}
use Rattle.machine_bytes.proofs.Marks.{behind_mark, mark_found, mark_missed, mark_stands}
use Rattle.machine_bytes.proofs.Placed.{written_joined, written_within}

-- before a place stands no number below its own
missed_place : {A : Type 0} (f : Form A) (fresh : Bool) (before at : ℕ) (x : A) (tail : List ℕ) → before < at → at < 65536 → has_mark before tail ≡ false
    → has_mark before (place_bytes_if fresh f at x ++ tail) ≡ false
missed_place f true before at x tail below few missed = missed
missed_place f false before at x tail below few missed =
    mark_missed before at (f.bytes x ++ tail) few (λ e. omega (arith, e, below))

-- behind places from one on stands no number below it
missed_behind : {A : Type 0} (p : PlaceForm A) (before at : ℕ) (xs : List A) (rest : List ℕ) → before < at → at + length xs < 65536 → has_mark before rest ≡ false
    → has_mark before (places_bytes p at xs ++ rest) ≡ false
missed_behind p before at [] rest below few missed = missed
missed_behind p before at (x ∷ xs) rest below few missed =
    rw (append_assoc (place_bytes_if (p.is_fresh x) p.form at x) (places_bytes p (suc at) xs) rest)
    (missed_place p.form (p.is_fresh x) before at x (places_bytes p (suc at) xs ++ rest) below (omega (arith, few))
    (missed_behind p before (suc at) xs rest (omega (arith, below)) (omega (arith, few)) missed))

not_fresh : (fresh : Bool) → fresh ≡ false → not fresh ≡ true
not_fresh fresh e = rw e refl

-- a place is read back
place_back : {A : Type 0} (p : PlaceForm A) (fresh : A) → IsExact p.form → ((x : A) → p.is_fresh x ≡ true → x ≡ fresh) → (at : ℕ) (x : A) (tail : List ℕ) (same : Bool)
    → p.is_fresh x ≡ same → at < 65536 → PlaceHasIf same p.form x → has_mark at tail ≡ false
    → place_read (changed_form p) fresh at (place_bytes_if same p.form at x ++ tail) ≡ (Some x, tail)
place_back p fresh exact made at x tail true e few has missed = rw (missed, made x e) refl
place_back p fresh exact made at x tail false e few has missed =
    rw (mark_found at (p.form.bytes x ++ tail) few)
    ((checked-exact (λ y. not (p.is_fresh y)) p.form exact).read_back x tail (has, not_fresh (p.is_fresh x) e))

-- and so are all
places_back : {A : Type 0} (p : PlaceForm A) (fresh : A) → IsExact p.form → ((x : A) → p.is_fresh x ≡ true → x ≡ fresh) → (at : ℕ) (xs : List A) (rest : List ℕ)
    → at + length xs < 65536 → PlacesHave p xs → ((before : ℕ) → before < at + length xs → has_mark before rest ≡ false)
    → places_read (changed_form p) (replicate (length xs) fresh) at (places_bytes p at xs ++ rest) ≡ (Some xs, rest)
places_back p fresh exact made at [] rest few have missed = refl
places_back p fresh exact made at (x ∷ xs) rest few have missed =
    let tail : List ℕ = places_bytes p (suc at) xs ++ rest in
    let none : has_mark at tail ≡ false = missed_behind p at (suc at) xs rest (omega arith) (omega (arith, few)) (missed at (omega arith)) in
    let others = places_back p fresh exact made (suc at) xs rest (omega (arith, few)) have.1 (λ before below. missed before (omega (arith, below))) in
    rw (
      append_assoc (place_bytes_if (p.is_fresh x) p.form at x) (places_bytes p (suc at) xs) rest,
      place_back p fresh exact made at x tail (p.is_fresh x) refl (omega (arith, few)) have.0 none,
      others,
    ) refl

-- a place that was read was written so
place_so : {A : Type 0} (p : PlaceForm A) (fresh : A) → IsExact p.form → p.is_fresh fresh ≡ true → (at : ℕ) (text : List ℕ) (x : A) (left : List ℕ) (marked : Bool)
    → AreBytes text → has_mark at text ≡ marked
    → (if marked then (changed_form p).read (drop 2 text) else (Some fresh, text)) ≡ (Some x, left)
    → (text ≡ place_bytes_if (p.is_fresh x) p.form at x ++ left) × PlaceHasIf (p.is_fresh x) p.form x
place_so {A = A} p fresh exact made at text x left true are m e =
    let so = (checked-exact (λ y. not (p.is_fresh y)) p.form exact).written_so (drop 2 text) x left (bytes_dropped 2 text are) e in
    let changed : p.is_fresh x ≡ false = is_changed (p.is_fresh x) so.1.1 in
    rw changed (mark_stands at text are m ∙ ap (λ (l : List ℕ). big_bytes 2 at ++ l) so.0 ∙ sym (append_assoc (big_bytes 2 at) (p.form.bytes x) left), so.1.0)
  where
    is_changed : (same : Bool) → not same ≡ true → same ≡ false
    is_changed true e = absurd (false≢true e)
    is_changed false e = refl
place_so p fresh exact made at text x left false are m e =
    let same = same_value _ _ _ _ e in
    rw (sym same.0, made) (same.1, tt)

-- what was read of places was written so
places_so : {A : Type 0} (p : PlaceForm A) (fresh : A) → IsExact p.form → p.is_fresh fresh ≡ true → (at n : ℕ) (text : List ℕ) (xs : List A) (left : List ℕ)
    → AreBytes text → places_read (changed_form p) (replicate n fresh) at text ≡ (Some xs, left)
    → (text ≡ places_bytes p at xs ++ left) × (length xs ≡ n) × PlacesHave p xs
places_so p fresh exact made at zero text xs left are e =
    let same = same_value _ _ _ _ e in
    rw (sym same.0, sym same.1) (refl, refl, tt)
places_so {A = A} p fresh exact made at (suc n) text xs left are e =
    let one = then_some (place_read (changed_form p) fresh at text) _ _ _ e in
    let two = then_some (places_read (changed_form p) (replicate n fresh) (suc at) one.1) _ _ _ one.3 in
    let here = place_so p fresh exact made at text one.0 one.1 (has_mark at text) are refl one.2 in
    let behind = bytes_back (place_bytes_if (p.is_fresh one.0) p.form at one.0) one.1 (rw (sym here.0) are) in
    let others = places_so p fresh exact made (suc at) n one.1 two.0 two.1 behind two.2 in
    let same = same_value _ _ _ _ two.3 in
    joined one.0 two.0 one.1 two.1 here others same.0 same.1
  where
    joined : (x : A) (ys : List A) (mid last : List ℕ) → (text ≡ place_bytes_if (p.is_fresh x) p.form at x ++ mid) × PlaceHasIf (p.is_fresh x) p.form x
        → (mid ≡ places_bytes p (suc at) ys ++ last) × (length ys ≡ n) × PlacesHave p ys → x ∷ ys ≡ xs → last ≡ left
        → (text ≡ places_bytes p at xs ++ left) × (length xs ≡ suc n) × PlacesHave p xs
    joined x ys mid last here others same end =
        rw (sym same, sym end) (
          here.0 ∙ ap (λ (l : List ℕ). place_bytes_if (p.is_fresh x) p.form at x ++ l) others.0
              ∙ sym (append_assoc (place_bytes_if (p.is_fresh x) p.form at x) (places_bytes p (suc at) ys) last),
          ap suc others.1,
          (here.1, others.2),
        )

-- places are written one after the other
place_wrote : {A : Type 0} (f : Form A) → IsExact f → (fresh : Bool) (w : List ℕ × Place) → IsWithin w → (at : ℕ) (x : A) → PlaceHasIf fresh f x
    → place_write_if fresh f w at x ≡ written w (place_bytes_if fresh f at x)
place_wrote f exact true w within at x has = sym within
place_wrote f exact false w within at x has =
    exact.wrote (written w (big_bytes 2 at)) (written_within w (big_bytes 2 at)) x has ∙ sym (written_joined w (big_bytes 2 at) (f.bytes x))

places_wrote : {A : Type 0} (p : PlaceForm A) → IsExact p.form → (w : List ℕ × Place) → IsWithin w → (at : ℕ) (xs : List A) → PlacesHave p xs
    → places_write p w at xs ≡ written w (places_bytes p at xs)
places_wrote p exact w within at [] have = sym within
places_wrote p exact w within at (x ∷ xs) have =
    let here = place_wrote p.form exact (p.is_fresh x) w within at x have.0 in
    let front : List ℕ = place_bytes_if (p.is_fresh x) p.form at x in
    rw (here, written_joined w front (places_bytes p (suc at) xs))
    (places_wrote p exact (written w front) (written_within w front) (suc at) xs have.1)

made-is : {A : Type 0} (n : ℕ) (fresh : A) → made_places n fresh ≡ replicate n fresh
unfolding made_places
made-is n fresh = refl

pub sparse-exact : {A : Type 0} (n : ℕ) (fresh : A) (p : PlaceForm A) → n < 65535 → IsExact p.form → p.is_fresh fresh ≡ true
    → ((x : A) → p.is_fresh x ≡ true → x ≡ fresh) → IsExact (sparse n fresh p)
sparse-exact {A = A} n fresh p few exact made only = record { read_back = back; written_so = so; wrote = parts }
  where
    parts : (w : List ℕ × Place) → IsWithin w → (xs : List A) → (length xs ≡ n) × PlacesHave p xs
        → (sparse n fresh p).write w xs ≡ written w (places_bytes p 0 xs ++ big_bytes 2 end_mark)
    parts w within xs has = rw (places_wrote p exact w within 0 xs has.1, written_joined w (places_bytes p 0 xs) (big_bytes 2 end_mark)) refl

    back : (xs : List A) (rest : List ℕ) → (length xs ≡ n) × PlacesHave p xs
        → (sparse n fresh p).read ((places_bytes p 0 xs ++ big_bytes 2 end_mark) ++ rest) ≡ (Some xs, rest)
    back xs rest has =
        let behind : List ℕ = big_bytes 2 end_mark ++ rest in
        let missed = λ (before : ℕ) (below : before < 0 + length xs). mark_missed before end_mark rest (omega arith) (λ e. omega (arith, e, below, has.0, few)) in
        let all = places_back p fresh exact only 0 xs behind (omega (arith, has.0, few)) has.1 missed in
        rw (append_assoc (places_bytes p 0 xs) (big_bytes 2 end_mark) rest, made-is n fresh, sym has.0, all, mark_found end_mark rest (omega arith), behind_mark end_mark rest) refl

    end_so : (text : List ℕ) (ys : List A) (mid : List ℕ) (xs : List A) (left : List ℕ) → AreBytes mid
        → (text ≡ places_bytes p 0 ys ++ mid) × (length ys ≡ n) × PlacesHave p ys → end_read ys mid ≡ (Some xs, left)
        → (text ≡ (places_bytes p 0 xs ++ big_bytes 2 end_mark) ++ left) × ((length xs ≡ n) × PlacesHave p xs)
    end_so text ys mid xs left are all e =
        let same = where_true (has_mark end_mark mid) _ _ _ _ _ e in
        let stands = mark_stands end_mark mid are same.0 in
        rw (sym same.1, sym same.2)
        (all.0 ∙ ap (λ (l : List ℕ). places_bytes p 0 ys ++ l) stands ∙ sym (append_assoc (places_bytes p 0 ys) (big_bytes 2 end_mark) (drop 2 mid)), (all.1, all.2))

    so : (text : List ℕ) (xs : List A) (left : List ℕ) → AreBytes text → (sparse n fresh p).read text ≡ (Some xs, left)
        → (text ≡ (places_bytes p 0 xs ++ big_bytes 2 end_mark) ++ left) × ((length xs ≡ n) × PlacesHave p xs)
    so text xs left are e =
        let one = then_some (places_read (changed_form p) (made_places n fresh) 0 text) _ _ _ e in
        let P : List A → Type 0 = λ l. places_read (changed_form p) l 0 text ≡ (Some one.0, one.1) in
        let all = places_so p fresh exact made 0 n text one.0 one.1 are (subst P (made-is n fresh) one.2) in
        let behind = bytes_back (places_bytes p 0 one.0) one.1 (rw (sym all.0) are) in
        end_so text one.0 one.1 xs left behind all one.3
