-- The forms that all others are made of are exact.
use Rattle.std.proofs.Common.{◌≡◌, ℕ, zero, suc, ◌^◌, ◌<◌, ◌≤◌, Bool, true, false, ◌==◌, nat_lt, List, [], ◌∷◌, ◌++◌, length, length-append, take, append_assoc, Option, Some, None, refl, sym, ap, ◌∙◌, arith}
use Rattle.std.specs.Prelude.{nat_le, if◌then◌else◌}
use Rattle.std.proofs.lemmas.Bool.{eqb-true, leb-true, le-leb, lt-ltb, ltb-true}
use Rattle.std.proofs.lemmas.List.{drop_at, length-take-le, take-append-drop, take_at}
use Rattle.byteorder.specs.Endian.{big_bytes}
use Rattle.byteorder.specs.Numbers.{big_from-lt, big_number-reads_back, length-bytes_high_first}
use Rattle.byte_numbers.specs.Bytes.{AreBytes}
use Rattle.byte_numbers.proofs.Bytes.{bytes_back, bytes_behind, bytes_taken}
use Rattle.byte_numbers.proofs.Numbers.{number_bytes}
use Rattle.machine_bytes.specs.Forms.{Form, below, bytes_of, checked, coded, counted, flag, flag_number, flag_part, mapped, named, nothing, number, option_number, option_part, optional, of_some, pair, tagged, then_read}
use Rattle.machine_bytes.specs.declared.place.Place.{Place}
use Rattle.machine_bytes.specs.Places.{IsWithin, written}
use Rattle.machine_bytes.specs.Exact.{IsExact}
use Rattle.machine_bytes.proofs.Placed.{written_behind, written_joined, written_within}

-- what two reads gave is the same
pub same_value : {A : Type 0} (x y : A) (left behind : List ℕ)
    → let p : Option A × List ℕ = (Some x, left) in let q : Option A × List ℕ = (Some y, behind) in p ≡ q → (x ≡ y) × (left ≡ behind)
same_value {A = A} x y left behind e = (value_of (ap (λ (p : Option A × List ℕ). p.0) e), ap (λ (p : Option A × List ℕ). p.1) e)
  where
    value_of : Some x ≡ Some y → x ≡ y
    value_of e = cc

-- no value is none that was read
pub no_value : {A : Type 0} (x : A) (left behind : List ℕ)
    → let p : Option A × List ℕ = (None, left) in let q : Option A × List ℕ = (Some x, behind) in p ≡ q → ⊥
no_value {A = A} x left behind e = let h : let n : Option A = None in n ≡ Some x = ap (λ (p : Option A × List ℕ). p.0) e in cc

-- where more was read, a value was
pub then_some : {A B : Type 0} (r : Option A × List ℕ) (next : A → List ℕ → Option B × List ℕ) (b : B) (left : List ℕ) → then_read r next ≡ (Some b, left)
    → (a : A) × (behind : List ℕ) × (r ≡ (Some a, behind)) × (next a behind ≡ (Some b, left))
then_some (None, behind) next b left e = absurd (no_value _ _ _ e)
then_some (Some a, behind) next b left e = (a, behind, refl, e)

-- a value that was read only where a test holds
pub where_true : {A : Type 0} (test : Bool) (x y : A) (left behind other : List ℕ)
    → let p : Option A × List ℕ = (Some x, left) in let n : Option A × List ℕ = (None, other) in
    let q : Option A × List ℕ = (Some y, behind) in (if test then p else n) ≡ q → (test ≡ true) × (x ≡ y) × (left ≡ behind)
where_true true x y left behind other e = let same = same_value _ _ _ _ e in (refl, same.0, same.1)
where_true false x y left behind other e = absurd (no_value _ _ _ e)

pub number-exact : (n : ℕ) → IsExact (number n)
number-exact n = record { read_back = back; written_so = so; wrote = λ _ _ _ _. refl }
  where
    back : (x : ℕ) (rest : List ℕ) → x < 256 ^ n → (number n).read (big_bytes n x ++ rest) ≡ (Some x, rest)
    back x rest few =
        let size = length-bytes_high_first n x in
        let long : nat_le n (length (big_bytes n x ++ rest)) ≡ true = le-leb _ _ (omega (arith, size, length-append (big_bytes n x) rest)) in
        rw (long, big_number-reads_back n x rest few, drop_at (big_bytes n x) rest n size) refl

    so : (text : List ℕ) (x : ℕ) (left : List ℕ) → AreBytes text → (number n).read text ≡ (Some x, left) → (text ≡ big_bytes n x ++ left) × (x < 256 ^ n)
    so text x left are e =
        let (long, value, rest) = where_true (nat_le n (length text)) _ _ _ _ _ e in
        let enough : n ≤ length text = leb-true _ _ long in
        let same : big_bytes n x ≡ take n text = ap (big_bytes n) (sym value) ∙ number_bytes n text enough are in
        (sym (take-append-drop n text) ∙ rw (same, rest) refl, rw (sym value) (big_from-lt 0 n text are))

pub nothing-exact : {A : Type 0} (value : A) → IsExact (nothing value)
nothing-exact {A = A} value = record { read_back = back; written_so = so; wrote = λ w within x has. sym within }
  where
    back : (x : A) (rest : List ℕ) → x ≡ value → (nothing value).read ([] ++ rest) ≡ (Some x, rest)
    back x rest e = rw e refl

    so : (text : List ℕ) (x : A) (left : List ℕ) → AreBytes text → (nothing value).read text ≡ (Some x, left) → (text ≡ [] ++ left) × (x ≡ value)
    so text x left are e = let same = same_value _ _ _ _ e in (same.1, sym same.0)

pub pair-exact : {A B : Type 0} (f : Form A) (g : Form B) → IsExact f → IsExact g → IsExact (pair f g)
pair-exact {A = A} {B = B} f g first second = record { read_back = back; written_so = so; wrote = both }
  where
    both : (w : List ℕ × Place) → IsWithin w → (x : A × B) → f.Has x.0 × g.Has x.1 → (pair f g).write w x ≡ written w (f.bytes x.0 ++ g.bytes x.1)
    both w within x has =
        rw (first.wrote w within x.0 has.0, written_joined w (f.bytes x.0) (g.bytes x.1))
        (second.wrote (written w (f.bytes x.0)) (written_within w (f.bytes x.0)) x.1 has.1)

    joined : (text : List ℕ) (a : A) (b : B) (behind last : List ℕ) (x : A × B) (left : List ℕ) → (text ≡ f.bytes a ++ behind) × f.Has a
        → (behind ≡ g.bytes b ++ last) × g.Has b → (a, b) ≡ x → last ≡ left → (text ≡ (f.bytes x.0 ++ g.bytes x.1) ++ left) × (f.Has x.0 × g.Has x.1)
    joined text a b behind last x left here next same end =
        rw (sym same, sym end) (here.0 ∙ ap (λ (l : List ℕ). f.bytes a ++ l) next.0 ∙ sym (append_assoc (f.bytes a) (g.bytes b) last), (here.1, next.1))

    back : (x : A × B) (rest : List ℕ) → f.Has x.0 × g.Has x.1 → (pair f g).read ((f.bytes x.0 ++ g.bytes x.1) ++ rest) ≡ (Some x, rest)
    back x rest has =
        rw (append_assoc (f.bytes x.0) (g.bytes x.1) rest, first.read_back x.0 (g.bytes x.1 ++ rest) has.0, second.read_back x.1 rest has.1) refl

    so : (text : List ℕ) (x : A × B) (left : List ℕ) → AreBytes text → (pair f g).read text ≡ (Some x, left)
        → (text ≡ (f.bytes x.0 ++ g.bytes x.1) ++ left) × (f.Has x.0 × g.Has x.1)
    so text x left are e =
        let one = then_some (f.read text) _ _ _ e in
        let two = then_some (g.read one.1) _ _ _ one.3 in
        let here = first.written_so text one.0 one.1 are one.2 in
        let next = second.written_so one.1 two.0 two.1 (bytes_back (f.bytes one.0) one.1 (rw (sym here.0) are)) two.2 in
        let same = same_value _ _ _ _ two.3 in
        joined text one.0 two.0 one.1 two.1 x left here next same.0 same.1

pub mapped-exact : {A B : Type 0} (to : A → B) (from : B → A) (f : Form A) → IsExact f → ((a : A) → f.Has a → from (to a) ≡ a) → IsExact (mapped to from f)
mapped-exact {A = A} {B = B} to from f exact inverse = record { read_back = back; written_so = so; wrote = λ w within x has. exact.wrote w within (from x) has.0 }
  where
    back : (x : B) (rest : List ℕ) → f.Has (from x) × (to (from x) ≡ x) → (mapped to from f).read (f.bytes (from x) ++ rest) ≡ (Some x, rest)
    back x rest has = rw (exact.read_back (from x) rest has.0, has.1) refl

    of_value : (text : List ℕ) (a : A) (x : B) (behind left : List ℕ) → (text ≡ f.bytes a ++ behind) × f.Has a → to a ≡ x → behind ≡ left
        → (text ≡ f.bytes (from x) ++ left) × (f.Has (from x) × (to (from x) ≡ x))
    of_value text a x behind left here same last =
        rw (sym same, sym last, inverse a here.1) (here.0, (here.1, refl))

    so : (text : List ℕ) (x : B) (left : List ℕ) → AreBytes text → (mapped to from f).read text ≡ (Some x, left)
        → (text ≡ f.bytes (from x) ++ left) × (f.Has (from x) × (to (from x) ≡ x))
    so text x left are e =
        let one = then_some (f.read text) _ _ _ e in
        let same = same_value _ _ _ _ one.3 in
        of_value text one.0 x one.1 left (exact.written_so text one.0 one.1 are one.2) same.0 same.1

pub checked-exact : {A : Type 0} (test : A → Bool) (f : Form A) → IsExact f → IsExact (checked test f)
checked-exact {A = A} test f exact = record { read_back = back; written_so = so; wrote = λ w within x has. exact.wrote w within x has.0 }
  where
    back : (x : A) (rest : List ℕ) → f.Has x × (test x ≡ true) → (checked test f).read (f.bytes x ++ rest) ≡ (Some x, rest)
    back x rest has = rw (exact.read_back x rest has.0, has.1) refl

    of_value : (text : List ℕ) (a x : A) (behind left : List ℕ) → (text ≡ f.bytes a ++ behind) × f.Has a → test a ≡ true → a ≡ x → behind ≡ left
        → (text ≡ f.bytes x ++ left) × (f.Has x × (test x ≡ true))
    of_value text a x behind left here passes same last = rw (sym same, sym last) (here.0, (here.1, passes))

    so : (text : List ℕ) (x : A) (left : List ℕ) → AreBytes text → (checked test f).read text ≡ (Some x, left) → (text ≡ f.bytes x ++ left) × (f.Has x × (test x ≡ true))
    so text x left are e =
        let one = then_some (f.read text) _ _ _ e in
        let same = where_true (test one.0) _ _ _ _ _ one.3 in
        of_value text one.0 x one.1 left (exact.written_so text one.0 one.1 are one.2) same.0 same.1 same.2

pub below-exact : (limit : ℕ) → IsExact (below limit)
below-exact limit = record { read_back = back; written_so = so; wrote = λ _ _ _ _. refl }
  where
    back : (x : ℕ) (rest : List ℕ) → (x < limit) × (x < 256) → (below limit).read ((x ∷ []) ++ rest) ≡ (Some x, rest)
    back x rest has = rw (lt-ltb x limit has.0) refl

    so : (text : List ℕ) (x : ℕ) (left : List ℕ) → AreBytes text → (below limit).read text ≡ (Some x, left) → (text ≡ (x ∷ []) ++ left) × ((x < limit) × (x < 256))
    so [] x left are e = absurd (no_value _ _ _ e)
    so (byte ∷ text) x left are e =
        let same = where_true (nat_lt byte limit) _ _ _ _ _ e in
        rw (sym same.1, sym same.2) (refl, (ltb-true byte limit same.0, are 0))

pub bytes_of-exact : (n : ℕ) → IsExact (bytes_of n)
bytes_of-exact n = record { read_back = back; written_so = so; wrote = λ _ _ _ _. refl }
  where
    back : (x rest : List ℕ) → (length x ≡ n) × AreBytes x → (bytes_of n).read (x ++ rest) ≡ (Some x, rest)
    back x rest has =
        let long : nat_le n (length (x ++ rest)) ≡ true = le-leb _ _ (omega (arith, has.0, length-append x rest)) in
        rw (long, take_at x rest n has.0, drop_at x rest n has.0) refl

    so : (text x left : List ℕ) → AreBytes text → (bytes_of n).read text ≡ (Some x, left) → (text ≡ x ++ left) × ((length x ≡ n) × AreBytes x)
    so text x left are e =
        let same = where_true (nat_le n (length text)) _ _ _ _ _ e in
        rw (sym same.1, sym same.2) (sym (take-append-drop n text), (length-take-le n text (leb-true _ _ same.0), bytes_taken n text are))

pub of_some-exact : {A : Type 0} (f : Form A) → IsExact f → IsExact (of_some f)
of_some-exact {A = A} f exact = record { read_back = back; written_so = so; wrote = parts }
  where
    parts : (w : List ℕ × Place) → IsWithin w → (x : Option A) → (of_some f).Has x → (of_some f).write w x ≡ written w ((of_some f).bytes x)
    parts w within None has = absurd has
    parts w within (Some x) has = exact.wrote w within x has

    back : (x : Option A) (rest : List ℕ) → (of_some f).Has x → (of_some f).read ((of_some f).bytes x ++ rest) ≡ (Some x, rest)
    back None rest has = absurd has
    back (Some x) rest has = rw (exact.read_back x rest has) refl

    of_value : (text : List ℕ) (a : A) (x : Option A) (behind left : List ℕ) → (text ≡ f.bytes a ++ behind) × f.Has a → Some a ≡ x → behind ≡ left
        → (text ≡ (of_some f).bytes x ++ left) × (of_some f).Has x
    of_value text a x behind left here same last = rw (sym same, sym last) here

    so : (text : List ℕ) (x : Option A) (left : List ℕ) → AreBytes text → (of_some f).read text ≡ (Some x, left) → (text ≡ (of_some f).bytes x ++ left) × (of_some f).Has x
    so text x left are e =
        let one = then_some (f.read text) _ _ _ e in
        let same = same_value _ _ _ _ one.3 in
        of_value text one.0 x one.1 left (exact.written_so text one.0 one.1 are one.2) same.0 same.1

pub tagged-exact : {A : Type 0} (limit : ℕ) (kind : A → ℕ) (part : ℕ → Form A) → ((k : ℕ) → k < limit → IsExact (part k))
    → ((k : ℕ) → k < limit → (x : A) → (part k).Has x → kind x ≡ k) → IsExact (tagged limit kind part)
tagged-exact {A = A} limit kind part exact kinds = record { read_back = back; written_so = so; wrote = parts }
  where
    parts : (w : List ℕ × Place) → IsWithin w → (x : A) → (below limit).Has (kind x) × (part (kind x)).Has x
        → (tagged limit kind part).write w x ≡ written w (kind x ∷ (part (kind x)).bytes x)
    parts w within x has =
        rw (written_behind w (kind x) ((part (kind x)).bytes x))
        ((exact (kind x) has.0.0).wrote (written w (kind x ∷ [])) (written_within w (kind x ∷ [])) x has.1)

    back : (x : A) (rest : List ℕ) → (below limit).Has (kind x) × (part (kind x)).Has x
        → (tagged limit kind part).read ((kind x ∷ (part (kind x)).bytes x) ++ rest) ≡ (Some x, rest)
    back x rest has =
        rw (lt-ltb (kind x) limit has.0.0, (exact (kind x) has.0.0).read_back x rest has.1) refl

    of_kind : (text : List ℕ) (x : A) (k : ℕ) (behind left : List ℕ) → (text ≡ k ∷ behind) → (below limit).Has k
        → (behind ≡ (part k).bytes x ++ left) × (part k).Has x → kind x ≡ k
        → (text ≡ (kind x ∷ (part (kind x)).bytes x) ++ left) × ((below limit).Has (kind x) × (part (kind x)).Has x)
    of_kind text x k behind left front fits here same = rw same (front ∙ ap (λ (l : List ℕ). k ∷ l) here.0, (fits, here.1))

    so : (text : List ℕ) (x : A) (left : List ℕ) → AreBytes text → (tagged limit kind part).read text ≡ (Some x, left)
        → (text ≡ (kind x ∷ (part (kind x)).bytes x) ++ left) × ((below limit).Has (kind x) × (part (kind x)).Has x)
    so text x left are e =
        let one = then_some ((below limit).read text) _ _ _ e in
        let front = (below-exact limit).written_so text one.0 one.1 are one.2 in
        let behind = bytes_behind one.0 one.1 (rw (sym front.0) are) in
        let here = (exact one.0 front.1.0).written_so one.1 x left behind one.3 in
        of_kind text x one.0 one.1 left front.0 front.1 here (kinds one.0 front.1.0 x here.1)

-- a kind of two is 0 or 1
two_kinds : {A : Type 0} (part : ℕ → Form A) → IsExact (part 0) → ((k : ℕ) → IsExact (part (suc k))) → (k : ℕ) → k < 2 → IsExact (part k)
two_kinds part first second zero few = first
two_kinds part first second (suc k) few = second k

pub flag-exact : IsExact flag
flag-exact = tagged-exact 2 flag_number flag_part (two_kinds flag_part (nothing-exact false) (λ _. nothing-exact true)) kinds
  where
    kinds : (k : ℕ) → k < 2 → (x : Bool) → (flag_part k).Has x → flag_number x ≡ k
    kinds zero few x has = rw has refl
    kinds (suc zero) few x has = rw has refl
    kinds (suc (suc k)) few x has = absurd (omega (arith, few))

pub optional-exact : {A : Type 0} (f : Form A) → IsExact f → IsExact (optional f)
optional-exact {A = A} f exact = tagged-exact 2 option_number (option_part f) (two_kinds (option_part f) (nothing-exact None) (λ _. of_some-exact f exact)) kinds
  where
    kinds : (k : ℕ) → k < 2 → (x : Option A) → (option_part f k).Has x → option_number x ≡ k
    kinds zero few x has = rw has refl
    kinds (suc zero) few None has = absurd has
    kinds (suc zero) few (Some x) has = refl
    kinds (suc (suc k)) few x has = absurd (omega (arith, few))

pub named-exact : {A : Type 0} (limit : ℕ) (kind : A → ℕ) (value : ℕ → A) → ((k : ℕ) → k < limit → kind (value k) ≡ k) → IsExact (named limit kind value)
named-exact limit kind value same = tagged-exact limit kind (λ k. nothing (value k)) (λ k few. nothing-exact (value k)) (λ k few x has. ap kind has ∙ same k few)

pub coded-exact : {A : Type 0} (n : ℕ) (to : ℕ → A) (from : A → ℕ) → IsExact (coded n to from)
coded-exact n to from =
    mapped-exact to from (checked (λ x. from (to x) == x) (number n)) (checked-exact (λ x. from (to x) == x) (number n) (number-exact n)) (λ x has. eqb-true _ _ has.1)

pub counted-exact : (n limit : ℕ) → IsExact (counted n limit)
counted-exact n limit = record { read_back = back; written_so = so; wrote = λ w within x has. sym (written_joined w (big_bytes n (length x)) x) }
  where
    back : (x rest : List ℕ) → (counted n limit).Has x → (counted n limit).read ((big_bytes n (length x) ++ x) ++ rest) ≡ (Some x, rest)
    back x rest has =
        rw (append_assoc (big_bytes n (length x)) x rest, (checked-exact (λ k. nat_le k limit) (number n) (number-exact n)).read_back (length x) (x ++ rest) (has.0, has.1))
        ((bytes_of-exact (length x)).read_back x rest (refl, has.2))

    joined : (text : List ℕ) (k : ℕ) (behind x left : List ℕ) → (text ≡ big_bytes n k ++ behind) × ((k < 256 ^ n) × (nat_le k limit ≡ true))
        → (behind ≡ x ++ left) × ((length x ≡ k) × AreBytes x) → (text ≡ (big_bytes n (length x) ++ x) ++ left) × (counted n limit).Has x
    joined text k behind x left here next =
        rw (next.1.0) (here.0 ∙ ap (λ (l : List ℕ). big_bytes n k ++ l) next.0 ∙ sym (append_assoc (big_bytes n k) x left), (here.1.0, here.1.1, next.1.1))

    so : (text x left : List ℕ) → AreBytes text → (counted n limit).read text ≡ (Some x, left)
        → (text ≡ (big_bytes n (length x) ++ x) ++ left) × (counted n limit).Has x
    so text x left are e =
        let one = then_some ((checked (λ k. nat_le k limit) (number n)).read text) _ _ _ e in
        let here = (checked-exact (λ k. nat_le k limit) (number n) (number-exact n)).written_so text one.0 one.1 are one.2 in
        let behind = bytes_back (big_bytes n one.0) one.1 (rw (sym here.0) are) in
        joined text one.0 one.1 x left here ((bytes_of-exact one.0).written_so one.1 x left behind one.3)
