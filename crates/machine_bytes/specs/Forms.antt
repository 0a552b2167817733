-- A form: the bytes of each value of a type, and the value at the front of bytes. Numbers are big endian.
use Rattle.std.specs.Prelude.{◌≡◌, ℕ, zero, suc, ◌<◌, ◌==◌, ◌^◌, nat_le, nat_lt, Bool, true, false, if◌then◌else◌, List, [], ◌∷◌, ◌++◌, length, take, drop, Option, Some, None}
use Rattle.byteorder.specs.Endian.{big_bytes, big_number}
use Rattle.byte_numbers.specs.Bytes.{AreBytes}
use Rattle.machine_bytes.specs.declared.place.Place.{Place}
use Rattle.machine_bytes.specs.Places.{written}

-- which values have the form; their bytes, and how these are written one part after the other; and what is read of bytes: a value and what
-- stands behind it, or no value and the bytes from the first one on that has no meaning
pub record Form (A : Type 0) : Type 1 where
  pub Has : A → Type 0
  pub bytes : A → List ℕ
  pub write : List ℕ × Place → A → List ℕ × Place
  pub read : List ℕ → Option A × List ℕ

-- what is read once a value was, or wasn't
abbrev pub read_on : {A B : Type 0} → Option A → List ℕ → (A → List ℕ → Option B × List ℕ) → Option B × List ℕ
read_on None left next = (None, left)
read_on (Some a) left next = next a left

-- and then more is read
abbrev pub then_read : {A B : Type 0} → Option A × List ℕ → (A → List ℕ → Option B × List ℕ) → Option B × List ℕ
then_read r next = read_on r.0 r.1 next

-- a number of so many bytes
abbrev pub number : ℕ → Form ℕ
number n = record {
  Has = λ x. x < 256 ^ n;
  bytes = λ x. big_bytes n x;
  write = λ w x. written w (big_bytes n x);
  read = λ text. if nat_le n (length text) then (Some (big_number n text), drop n text) else (None, text);
}

-- a number below this one, in a byte
abbrev pub below : ℕ → Form ℕ
below limit = record {
  Has = λ x. (x < limit) × (x < 256);
  bytes = λ x. x ∷ [];
  write = λ w x. written w (x ∷ []);
  read = λ text. below_read text;
}
  where
    below_read : List ℕ → Option ℕ × List ℕ
    below_read [] = (None, [])
    below_read (x ∷ text) = if nat_lt x limit then (Some x, text) else (None, x ∷ text)

-- so many bytes
abbrev pub bytes_of : ℕ → Form (List ℕ)
bytes_of n = record {
  Has = λ text. (length text ≡ n) × AreBytes text;
  bytes = λ text. text;
  write = λ w text. written w text;
  read = λ text. if nat_le n (length text) then (Some (take n text), drop n text) else (None, text);
}

-- nothing
abbrev pub nothing : {A : Type 0} → A → Form A
nothing value = record {
  Has = λ x. x ≡ value;
  bytes = λ x. [];
  write = λ w x. w;
  read = λ text. (Some value, text);
}

-- two, one behind the other
abbrev pub pair : {A B : Type 0} → Form A → Form B → Form (A × B)
pair {A = A} {B = B} f g = record {
  Has = λ x. f.Has x.0 × g.Has x.1;
  bytes = λ x. f.bytes x.0 ++ g.bytes x.1;
  write = λ w x. g.write (f.write w x.0) x.1;
  read = λ text. then_read (f.read text) (λ (a : A) left. then_read (g.read left) (λ (b : B) behind. (Some (a, b), behind)));
}

-- the same bytes for the values of another type, those that one of the first is made into
abbrev pub mapped : {A B : Type 0} → (A → B) → (B → A) → Form A → Form B
mapped {A = A} to from f = record {
  Has = λ x. f.Has (from x) × (to (from x) ≡ x);
  bytes = λ x. f.bytes (from x);
  write = λ w x. f.write w (from x);
  read = λ text. then_read (f.read text) (λ (a : A) left. (Some (to a), left));
}

-- those values alone that pass a test
abbrev pub checked : {A : Type 0} → (A → Bool) → Form A → Form A
checked {A = A} test f = record {
  Has = λ x. f.Has x × (test x ≡ true);
  bytes = f.bytes;
  write = f.write;
  read = λ text. then_read (f.read text) (λ (a : A) left. if test a then (Some a, left) else (None, text));
}

-- the same bytes for an option that has a value
abbrev pub of_some : {A : Type 0} → Form A → Form (Option A)
of_some {A = A} f = record {
  Has = some_has;
  bytes = some_bytes;
  write = some_write;
  read = λ text. then_read (f.read text) (λ (a : A) left. (Some (Some a), left));
}
  where
    some_has : Option A → Type 0
    some_has None = ⊥
    some_has (Some x) = f.Has x

    some_bytes : Option A → List ℕ
    some_bytes None = []
    some_bytes (Some x) = f.bytes x

    some_write : List ℕ × Place → Option A → List ℕ × Place
    some_write w None = w
    some_write w (Some x) = f.write w x

-- a value by the number of n bytes that has its parts in its bits; a number with other bits is none
abbrev pub coded : {A : Type 0} → ℕ → (ℕ → A) → (A → ℕ) → Form A
coded n to from = mapped to from (checked (λ x. from (to x) == x) (number n))

-- at most so many bytes, behind their number, which has n bytes
abbrev pub counted : ℕ → ℕ → Form (List ℕ)
counted n limit = record {
  Has = λ text. (number n).Has (length text) × (nat_le (length text) limit ≡ true) × AreBytes text;
  bytes = λ text. big_bytes n (length text) ++ text;
  write = λ w text. written (written w (big_bytes n (length text))) text;
  read = λ text. then_read ((checked (λ k. nat_le k limit) (number n)).read text) (λ k left. (bytes_of k).read left);
}

-- a kind in a byte, of so many, and then what that kind has
abbrev pub tagged : {A : Type 0} → ℕ → (A → ℕ) → (ℕ → Form A) → Form A
tagged limit kind part = record {
  Has = λ x. (below limit).Has (kind x) × (part (kind x)).Has x;
  bytes = λ x. kind x ∷ (part (kind x)).bytes x;
  write = λ w x. (part (kind x)).write (written w (kind x ∷ [])) x;
  read = λ text. then_read ((below limit).read text) (λ k left. (part k).read left);
}

-- a value by its number, of so many
abbrev pub named : {A : Type 0} → ℕ → (A → ℕ) → (ℕ → A) → Form A
named limit kind value = tagged limit kind (λ k. nothing (value k))

abbrev pub flag_number : Bool → ℕ
flag_number false = 0
flag_number true = 1

abbrev pub flag_part : ℕ → Form Bool
flag_part zero = nothing false
flag_part (suc k) = nothing true

-- a flag: a byte 0 or 1
abbrev pub flag : Form Bool
flag = tagged 2 flag_number flag_part

abbrev pub option_number : {A : Type 0} → Option A → ℕ
option_number None = 0
option_number (Some x) = 1

abbrev pub option_part : {A : Type 0} → Form A → ℕ → Form (Option A)
option_part f zero = nothing None
option_part f (suc k) = of_some f

-- an option: a flag, and its value
abbrev pub optional : {A : Type 0} → Form A → Form (Option A)
optional f = tagged 2 option_number (option_part f)
