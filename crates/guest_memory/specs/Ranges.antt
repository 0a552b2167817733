-- Laws of ranges of a memory.
use Rattle.std.proofs.Common.{◌≡◌, ℕ, zero, suc, ◌+◌, ◌-◌, ◌<◌, ◌≤◌, ◌⊎◌, true, false, List, [], ◌∷◌, length, take, set, slice_get, refl, sym, ap, ◌∙◌, arith, inl, inr, ◌&&◌, nat_lt}
use Rattle.std.proofs.Math.Path.{fun_ext}
use Rattle.std.proofs.lemmas.Bool.{false≢true, le-leb, lt-leb, cases_lt, cases_Bool, lt-ltb, le-ltb}
use Rattle.std.proofs.lemmas.Option.{none-some, same_Some, slice_get-get_or}
use Rattle.guest_memory.specs.Parts.{get_take}
use Rattle.std.proofs.lemmas.List.{length-take-le, length-set, get_or-set_other}
use Rattle.std.proofs.lemmas.Grind.{get_or-set_at}
use Rattle.std.specs.Prelude.{Option, Some, None, is_some, unwrap_or, ◌≢◌}
use Rattle.guest_memory.specs.Bytes.{Memory, bytes_from, is_in, is_there, written, ◌>>=◌}

-- a list whose bytes stand there is what a range has
pub from_each : (memory : Memory) (at n : ℕ) (bytes : List ℕ) → length bytes ≡ n → ((k : ℕ) → k < n → memory (at + k) ≡ slice_get bytes k)
    → bytes_from memory at n ≡ Some bytes
unfolding bytes_from
from_each memory at zero [] size each = refl
from_each memory at zero (b ∷ bytes) size each = absurd (omega (arith, size))
from_each memory at (suc n) [] size each = absurd (omega (arith, size))
from_each memory at (suc n) (b ∷ bytes) size each =
    let here : at ≡ at + 0 = omega arith in
    let first : memory at ≡ Some b = ap memory here ∙ each 0 (omega arith) in
    let rest : bytes_from memory (at + 1) n ≡ Some bytes = from_each memory (at + 1) n bytes (omega (arith, size)) (λ k below.
    let next : at + 1 + k ≡ at + suc k = omega arith in ap memory next ∙ each (suc k) (omega (arith, below))) in
    rw (first, rest) refl

-- a range that lacks a byte
pub lacks : (memory : Memory) (at n k : ℕ) → k < n → memory (at + k) ≡ None → bytes_from memory at n ≡ None
unfolding bytes_from
lacks memory at zero k below none = absurd (omega (arith, below))
lacks memory at (suc n) zero below none =
    let here : at ≡ at + 0 = omega arith in
    let first : memory at ≡ None = ap memory here ∙ none in
    rw first refl
lacks memory at (suc n) (suc k) below none =
    let next : at + 1 + k ≡ at + suc k = omega arith in
    let rest : bytes_from memory (at + 1) n ≡ None = lacks memory (at + 1) n k (omega (arith, below)) (ap memory next ∙ none) in
    rw rest (after (memory at))
  where
    after : (first : Option ℕ) → (first >>= (λ b. None >>= (λ others. Some (b ∷ others)))) ≡ None
    after None = refl
    after (Some b) = refl

-- the parts of a range that has its bytes
split : (first : Option ℕ) (rest : Option (List ℕ)) (bytes : List ℕ) → (first >>= (λ b. rest >>= (λ others. Some (b ∷ others)))) ≡ Some bytes
    → (b : ℕ) × (others : List ℕ) × (first ≡ Some b) × (rest ≡ Some others) × (bytes ≡ b ∷ others)
split None rest bytes e = absurd (none-some bytes e)
split (Some b) None bytes e = absurd (none-some bytes e)
split (Some b) (Some others) bytes e = (b, others, refl, refl, sym (same_Some (b ∷ others) bytes e))

-- what a range has stands there, byte for byte
pub size_of : (memory : Memory) (at n : ℕ) (bytes : List ℕ) → bytes_from memory at n ≡ Some bytes → length bytes ≡ n
unfolding bytes_from
size_of memory at zero bytes has = ap length (sym (same_Some [] bytes has))
size_of memory at (suc n) bytes has =
    let parts = split (memory at) (bytes_from memory (at + 1) n) bytes has in
    let rest = size_of memory (at + 1) n parts.1 parts.3 in
    let whole = parts.4 in
    rw whole (ap suc rest)

pub each_of : (memory : Memory) (at n : ℕ) (bytes : List ℕ) → bytes_from memory at n ≡ Some bytes → (k : ℕ) → k < n → memory (at + k) ≡ slice_get bytes k
unfolding bytes_from
each_of memory at zero bytes has k below = absurd (omega (arith, below))
each_of memory at (suc n) bytes has zero below =
    let parts = split (memory at) (bytes_from memory (at + 1) n) bytes has in
    let here : at + 0 ≡ at = omega arith in
    let whole = parts.4 in
    rw (here, whole) (parts.2)
each_of memory at (suc n) bytes has (suc k) below =
    let parts = split (memory at) (bytes_from memory (at + 1) n) bytes has in
    let next : at + suc k ≡ at + 1 + k = omega arith in
    let whole = parts.4 in
    rw (next, whole) (each_of memory (at + 1) n parts.1 parts.3 k (omega (arith, below)))

-- a range each byte of which is there
pub there_by_each : (memory : Memory) (at n : ℕ) → ((k : ℕ) → k < n → is_some (memory (at + k)) ≡ true) → is_there memory at n ≡ true
unfolding bytes_from
there_by_each memory at zero each = refl
there_by_each memory at (suc n) each =
    let here : at ≡ at + 0 = omega arith in
    let rest : is_some (bytes_from memory (at + 1) n) ≡ true = there_by_each memory (at + 1) n (λ k below.
    let next : at + 1 + k ≡ at + suc k = omega arith in ap (λ a. is_some (memory a)) next ∙ each (suc k) (omega (arith, below))) in
    both (memory at) (bytes_from memory (at + 1) n) (ap (λ a. is_some (memory a)) here ∙ each 0 (omega arith)) rest
  where
    both : (first : Option ℕ) (rest : Option (List ℕ)) → is_some first ≡ true → is_some rest ≡ true
        → is_some (first >>= (λ b. rest >>= (λ others. Some (b ∷ others)))) ≡ true
    both None rest a b = absurd (false≢true a)
    both (Some b) None a e = absurd (false≢true e)
    both (Some b) (Some others) a e = refl

-- an address in a range by how far it is ahead
pub ahead_in : (at n a : ℕ) → is_in at n a ≡ true → (k : ℕ) × (k < n) × (a ≡ at + k)
ahead_in at n a inside = elim (cases_lt a at) [
  | inl before ↦ absurd (false≢true (sym (ap (λ b. b && nat_lt a (at + n)) (lt-leb at a before)) ∙ inside))
  | inr from ↦ elim (cases_lt a (at + n)) [
    | inl below ↦ (a - at, omega arith, omega arith)
    | inr past ↦ absurd (false≢true (sym (rw (le-leb at a from, le-ltb a (at + n) past) refl) ∙ inside))
  ]
]

pub range_cases : (at n a : ℕ) → ((k : ℕ) × (k < n) × (a ≡ at + k)) ⊎ (is_in at n a ≡ false)
range_cases at n a = elim (cases_Bool (is_in at n a)) [ inl inside ↦ inl (ahead_in at n a inside) | inr outside ↦ inr outside ]

pub is_in_ahead : (at n k : ℕ) → k < n → is_in at n (at + k) ≡ true
is_in_ahead at n k below = rw (le-leb at (at + k) (omega arith), lt-ltb (at + k) (at + n) (omega arith)) refl

-- what is written stands there
pub written_ahead : (memory : Memory) (at : ℕ) (bytes : List ℕ) (k : ℕ) → k < length bytes → written memory at bytes (at + k) ≡ slice_get bytes k
unfolding written
written_ahead memory at bytes k below =
    let back : at + k - at ≡ k = omega arith in
    rw (is_in_ahead at (length bytes) k below, back) refl

-- and each other byte stays
pub written_beside : (memory : Memory) (at : ℕ) (bytes : List ℕ) (a : ℕ) → is_in at (length bytes) a ≡ false → written memory at bytes a ≡ memory a
unfolding written
written_beside memory at bytes a outside = rw outside refl

-- two memories that agree in a range have the same bytes there
pub same_from : (m w : Memory) (at n : ℕ) → ((k : ℕ) → k < n → m (at + k) ≡ w (at + k)) → bytes_from m at n ≡ bytes_from w at n
unfolding bytes_from
same_from m w at zero same = refl
same_from m w at (suc n) same =
    let here : at ≡ at + 0 = omega arith in
    let first : m at ≡ w at = ap m here ∙ same 0 (omega arith) ∙ ap w (sym here) in
    let rest : bytes_from m (at + 1) n ≡ bytes_from w (at + 1) n = same_from m w (at + 1) n (λ k below.
    let next : at + 1 + k ≡ at + suc k = omega arith in ap m next ∙ same (suc k) (omega (arith, below)) ∙ ap w (sym next)) in
    rw (first, rest) refl

-- which addresses are in no range
pub out_before : (at n a : ℕ) → a < at → is_in at n a ≡ false
out_before at n a before = rw (lt-leb at a before) refl

pub out_behind : (at n a : ℕ) → at + n ≤ a → is_in at n a ≡ false
out_behind at n a past = rw (le-leb at a (omega (arith, past)), le-ltb a (at + n) past) refl

-- a range is there where each byte of it is
pub there_each : (memory : Memory) (at n : ℕ) → is_there memory at n ≡ true → (k : ℕ) → k < n → is_some (memory (at + k)) ≡ true
there_each memory at n there k below = known (memory (at + k)) refl
  where
    known : (byte : Option ℕ) → memory (at + k) ≡ byte → is_some byte ≡ true
    known None none = absurd (false≢true (ap is_some (sym (lacks memory at n k below none)) ∙ there))
    known (Some byte) some = refl

-- nothing written
pub written_nothing : (memory : Memory) (at : ℕ) → written memory at [] ≡ memory
written_nothing memory at = fun_ext (λ a. elim (cases_lt a at) [
  | inl before ↦ written_beside memory at [] a (out_before at 0 a before)
  | inr from ↦ written_beside memory at [] a (out_behind at 0 a (omega arith))
])

-- one byte more is written
next_at : (memory : Memory) (at : ℕ) (bytes : List ℕ) (i b a : ℕ) → i < length bytes → slice_get bytes i ≡ Some b
    → written (written memory at (take i bytes)) (at + i) (b ∷ []) a ≡ written memory at (take (i + 1) bytes) a
next_at memory at bytes i b a below is =
    let some : length (take i bytes) ≡ i = length-take-le i bytes (omega arith) in
    let more : length (take (i + 1) bytes) ≡ i + 1 = length-take-le (i + 1) bytes (omega arith) in
    elim (cases_lt a at) [
      | inl before ↦ written_beside _ (at + i) (b ∷ []) a (out_before (at + i) 1 a (omega arith)) ∙ written_beside memory at (take i bytes) a (out_before at _ a before)
          ∙ sym (written_beside memory at (take (i + 1) bytes) a (out_before at _ a before))
      | inr from ↦
          let e : a ≡ at + (a - at) = omega arith in
          elim (cases_lt a (at + i)) [
            | inl earlier ↦ written_beside _ (at + i) (b ∷ []) a (out_before (at + i) 1 a earlier)
                ∙ ap (written memory at (take i bytes)) e ∙ written_ahead memory at (take i bytes) (a - at) (omega (arith, some))
                ∙ get_take i bytes (a - at) (omega arith) ∙ sym (get_take (i + 1) bytes (a - at) (omega arith))
                ∙ sym (ap (written memory at (take (i + 1) bytes)) e ∙ written_ahead memory at (take (i + 1) bytes) (a - at) (omega (arith, more)))
            | inr on ↦ elim (cases_lt (at + i) a) [
              | inl past ↦ written_beside _ (at + i) (b ∷ []) a (out_behind (at + i) 1 a (omega arith))
                  ∙ written_beside memory at (take i bytes) a (out_behind at _ a (omega (arith, some)))
                  ∙ sym (written_beside memory at (take (i + 1) bytes) a (out_behind at _ a (omega (arith, more))))
              | inr last ↦
                  let here : a ≡ at + i + 0 = omega arith in
                  let place : a ≡ at + i = omega arith in
                  ap (written (written memory at (take i bytes)) (at + i) (b ∷ [])) here ∙ written_ahead _ (at + i) (b ∷ []) 0 (omega arith)
                  ∙ sym (ap (written memory at (take (i + 1) bytes)) place ∙ written_ahead memory at (take (i + 1) bytes) i (omega (arith, more))
                  ∙ get_take (i + 1) bytes i (omega arith) ∙ is)
            ]
          ]
    ]

pub written_next : (memory : Memory) (at : ℕ) (bytes : List ℕ) (i b : ℕ) → i < length bytes → slice_get bytes i ≡ Some b
    → written (written memory at (take i bytes)) (at + i) (b ∷ []) ≡ written memory at (take (i + 1) bytes)
written_next memory at bytes i b below is = fun_ext (λ a. next_at memory at bytes i b a below is)

-- what was there still is
pub written_there : (memory : Memory) (at : ℕ) (bytes : List ℕ) (a : ℕ) → is_some (memory a) ≡ true → is_some (written memory at bytes a) ≡ true
written_there memory at bytes a there = elim (cases_lt a at) [
  | inl before ↦ ap is_some (written_beside memory at bytes a (out_before at _ a before)) ∙ there
  | inr from ↦ elim (cases_lt a (at + length bytes)) [
    | inl below ↦
        let e : a ≡ at + (a - at) = omega arith in
        ap (λ x. is_some (written memory at bytes x)) e ∙ ap is_some (written_ahead memory at bytes (a - at) (omega arith) ∙ slice_get-get_or bytes (a - at) 0 (omega arith))
    | inr past ↦ ap is_some (written_beside memory at bytes a (out_behind at _ a past)) ∙ there
  ]
]

-- one byte more is read
pub read_next : (memory : Memory) (at : ℕ) (bytes : List ℕ) (i : ℕ) → i < length bytes → is_some (memory (at + i)) ≡ true
    → ((k : ℕ) → k < i → memory (at + k) ≡ slice_get bytes k)
    → (k : ℕ) → k < i + 1 → memory (at + k) ≡ slice_get (set bytes i (unwrap_or (memory (at + i)) 0)) k
read_next memory at bytes i below there each k within =
    let size = length-set bytes i (unwrap_or (memory (at + i)) 0) in
    let inside : k < length (set bytes i (unwrap_or (memory (at + i)) 0)) = omega (arith, size) in
    elim (cases_lt k i) [
      | inl earlier ↦
          let other : k ≢ i = λ e. absurd (omega (arith, e)) in
          each k earlier ∙ slice_get-get_or bytes k 0 (omega arith)
          ∙ sym (slice_get-get_or _ k 0 inside ∙ ap Some (get_or-set_other bytes i k _ 0 other))
      | inr on ↦
          let last : k ≡ i = omega arith in
          ap (λ x. memory (at + x)) last ∙ unwrapped (memory (at + i)) there
          ∙ sym (slice_get-get_or _ k 0 inside ∙ ap Some (get_or-set_at bytes i k _ 0 last below))
    ]
  where
    unwrapped : (byte : Option ℕ) → is_some byte ≡ true → byte ≡ Some (unwrap_or byte 0)
    unwrapped None e = absurd (false≢true e)
    unwrapped (Some b) e = refl

pub lacking : (byte : Option ℕ) → is_some byte ≡ false → byte ≡ None
lacking None e = refl
lacking (Some b) e = absurd (false≢true (sym e))

-- a range that is there still is once something was written
pub there_written : (memory : Memory) (to : ℕ) (bytes : List ℕ) (at n : ℕ) → is_there memory at n ≡ true → is_there (written memory to bytes) at n ≡ true
there_written memory to bytes at n there =
    there_by_each (written memory to bytes) at n (λ k below. written_there memory to bytes (at + k) (there_each memory at n there k below))
