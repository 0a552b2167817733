-- The parts of a record that stands at the front of bytes.
use Rattle.std.proofs.Common.{◌≡◌, ℕ, ◌+◌, ◌^◌, ◌<◌, ◌≤◌, true, List, ◌++◌, length, take, drop, refl, sym, ap, ◌∙◌, append_assoc, arith}
use Rattle.std.specs.Prelude.{nat_le}
use Rattle.std.proofs.lemmas.Bool.{and_parts, leb-true, le-leb}
use Rattle.std.proofs.lemmas.List.{drop_at, drop-drop, length-append, length-drop, length-take, take_at, take-append-drop}
use Rattle.byteorder.specs.Endian.{big_bytes}
use Rattle.byteorder.specs.Numbers.{big_number-reads_back, length-bytes_high_first}
use Rattle.byte_numbers.specs.Bytes.{AreBytes}
use Rattle.byte_numbers.proofs.Bytes.{bytes_dropped}
use Rattle.log_records.specs.Finding.{behind, body_len, body_of, is_long_enough, sum_of}
use Rattle.log_records.specs.Records.{record_text, sum_after}
use Rattle.byte_numbers.proofs.Numbers.{number_bytes}

-- a body between its length and a checksum, and what follows
abbrev pub framed : List ℕ → ℕ → List ℕ → List ℕ
framed body sum rest = big_bytes 4 (length body) ++ (body ++ (big_bytes 4 sum ++ rest))

pub record_framed : (before : ℕ) (body rest : List ℕ) → record_text before body ++ rest ≡ framed body (sum_after before body) rest
record_framed before body rest =
    append_assoc (big_bytes 4 (length body) ++ body) (big_bytes 4 (sum_after before body)) rest
    ∙ append_assoc (big_bytes 4 (length body)) body (big_bytes 4 (sum_after before body) ++ rest)

-- PARTS OF WHAT IS FRAMED

pub framed_len : (body : List ℕ) (sum : ℕ) (rest : List ℕ) → length body < 2 ^ 32 → body_len (framed body sum rest) ≡ length body
framed_len body sum rest few = big_number-reads_back 4 (length body) (body ++ (big_bytes 4 sum ++ rest)) (omega (arith, few))

framed_drop : (body : List ℕ) (sum : ℕ) (rest : List ℕ) → drop 4 (framed body sum rest) ≡ body ++ (big_bytes 4 sum ++ rest)
framed_drop body sum rest = drop_at (big_bytes 4 (length body)) (body ++ (big_bytes 4 sum ++ rest)) 4 (length-bytes_high_first 4 (length body))

pub framed_body : (body : List ℕ) (sum : ℕ) (rest : List ℕ) → length body < 2 ^ 32 → body_of (framed body sum rest) ≡ body
framed_body body sum rest few =
    rw (framed_len body sum rest few, framed_drop body sum rest) (take_at body (big_bytes 4 sum ++ rest) (length body) refl)

framed_tail : (body : List ℕ) (sum : ℕ) (rest : List ℕ) → drop (4 + length body) (framed body sum rest) ≡ big_bytes 4 sum ++ rest
framed_tail body sum rest =
    ap (drop (4 + length body)) (sym (append_assoc (big_bytes 4 (length body)) body (big_bytes 4 sum ++ rest)))
    ∙ drop_at (big_bytes 4 (length body) ++ body) (big_bytes 4 sum ++ rest) (4 + length body)
    (omega (arith, length-append (big_bytes 4 (length body)) body, length-bytes_high_first 4 (length body)))

pub framed_sum : (body : List ℕ) (sum : ℕ) (rest : List ℕ) → length body < 2 ^ 32 → sum < 2 ^ 32 → sum_of (framed body sum rest) ≡ sum
framed_sum body sum rest few small =
    rw (framed_len body sum rest few, framed_tail body sum rest) (big_number-reads_back 4 sum rest (omega (arith, small)))

regroup : (body : List ℕ) (sum : ℕ) (rest : List ℕ) → framed body sum rest ≡ (big_bytes 4 (length body) ++ (body ++ big_bytes 4 sum)) ++ rest
regroup body sum rest = simp append_assoc refl

front_len : (body : List ℕ) (sum : ℕ) → length (big_bytes 4 (length body) ++ (body ++ big_bytes 4 sum)) ≡ 8 + length body
front_len body sum =
    omega (
      arith,
      length-append (big_bytes 4 (length body)) (body ++ big_bytes 4 sum),
      length-append body (big_bytes 4 sum),
      length-bytes_high_first 4 (length body),
      length-bytes_high_first 4 sum,
    )

pub framed_behind : (body : List ℕ) (sum : ℕ) (rest : List ℕ) → length body < 2 ^ 32 → behind (framed body sum rest) ≡ rest
framed_behind body sum rest few =
    rw (framed_len body sum rest few)
    (ap (drop (8 + length body)) (regroup body sum rest) ∙ drop_at (big_bytes 4 (length body) ++ (body ++ big_bytes 4 sum)) rest (8 + length body) (front_len body sum))

pub framed_size : (body : List ℕ) (sum : ℕ) (rest : List ℕ) → length (framed body sum rest) ≡ 8 + length body + length rest
framed_size body sum rest =
    ap length (regroup body sum rest)
    ∙ omega (arith, length-append (big_bytes 4 (length body) ++ (body ++ big_bytes 4 sum)) rest, front_len body sum)

pub framed_long : (body : List ℕ) (sum : ℕ) (rest : List ℕ) → length body < 2 ^ 32 → is_long_enough (framed body sum rest) ≡ true
framed_long body sum rest few =
    let size = framed_size body sum rest in
    let some : nat_le 4 (length (framed body sum rest)) ≡ true = le-leb _ _ (omega (arith, size)) in
    let all : nat_le (8 + body_len (framed body sum rest)) (length (framed body sum rest)) ≡ true =
    le-leb _ _ (omega (arith, size, framed_len body sum rest few)) in
    rw (some, all) refl

-- BYTES THAT ARE LONG ENOUGH ARE FRAMED

pub record IsLong (bytes : List ℕ) : Type 0 where
  pub some : 4 ≤ length bytes
  pub all : 8 + body_len bytes ≤ length bytes

pub are_long : (bytes : List ℕ) → is_long_enough bytes ≡ true → IsLong bytes
are_long bytes e =
    let both = and_parts (nat_le 4 (length bytes)) (nat_le (8 + body_len bytes) (length bytes)) e in
    record { some = leb-true _ _ both.0; all = leb-true _ _ both.1 }

pub body_size : (bytes : List ℕ) → IsLong bytes → length (body_of bytes) ≡ body_len bytes
body_size bytes long = omega (arith, long.all, length-take (body_len bytes) (drop 4 bytes), length-drop 4 bytes)

whole_parts : (bytes : List ℕ) (len : ℕ)
    → bytes ≡ take 4 bytes ++ (take len (drop 4 bytes) ++ (take 4 (drop (4 + len) bytes) ++ drop (8 + len) bytes))
whole_parts bytes len =
    let last : drop 4 (drop (4 + len) bytes) ≡ drop (8 + len) bytes = drop-drop 4 (4 + len) bytes ∙ ap (λ n. drop n bytes) (omega arith) in
    let next : drop len (drop 4 bytes) ≡ drop (4 + len) bytes = drop-drop len 4 bytes ∙ ap (λ n. drop n bytes) (omega arith) in
    let back : drop (4 + len) bytes ≡ take 4 (drop (4 + len) bytes) ++ drop (8 + len) bytes =
    sym (take-append-drop 4 (drop (4 + len) bytes)) ∙ ap (λ (rest : List ℕ). take 4 (drop (4 + len) bytes) ++ rest) last in
    let middle : drop 4 bytes ≡ take len (drop 4 bytes) ++ (take 4 (drop (4 + len) bytes) ++ drop (8 + len) bytes) =
    sym (take-append-drop len (drop 4 bytes)) ∙ ap (λ (rest : List ℕ). take len (drop 4 bytes) ++ rest) (next ∙ back) in
    sym (take-append-drop 4 bytes) ∙ ap (λ (rest : List ℕ). take 4 bytes ++ rest) middle

pub are_framed : (bytes : List ℕ) → AreBytes bytes → IsLong bytes → bytes ≡ framed (body_of bytes) (sum_of bytes) (behind bytes)
are_framed bytes are long =
    let len : ℕ = body_len bytes in
    let tail : List ℕ = drop (4 + len) bytes in
    let number : big_bytes 4 (length (body_of bytes)) ≡ take 4 bytes =
    ap (big_bytes 4) (body_size bytes long) ∙ number_bytes 4 bytes long.some are in
    let sum : big_bytes 4 (sum_of bytes) ≡ take 4 tail =
    number_bytes 4 tail (omega (arith, long.all, length-drop (4 + len) bytes)) (bytes_dropped (4 + len) bytes are) in
    whole_parts bytes len ∙ ap (λ (front : List ℕ). front ++ (body_of bytes ++ (take 4 tail ++ behind bytes))) (sym number)
    ∙ ap (λ (middle : List ℕ). big_bytes 4 (length (body_of bytes)) ++ (body_of bytes ++ (middle ++ behind bytes))) (sym sum)
