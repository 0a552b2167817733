-- The data of INFO and GO, part after part.
use Rattle.std.proofs.Common.{◌≡◌, ℕ, ◌+◌, ◌-◌, ◌*◌, ◌<◌, ◌≤◌, false, List, ◌++◌, length, drop, Option, sym, ap, ◌∙◌, arith}
use Rattle.std.specs.Prelude.{◌==◌}
use Rattle.std.proofs.lemmas.Bool.{ne_eqb}
use Rattle.std.proofs.lemmas.Bool.Decides.{nat_tests}
use Rattle.std.proofs.lemmas.List.{length-append, take-append-le}
use Rattle.std.proofs.Math.Seq.{drop-append_seam}
use Rattle.std.specs.Io.KnownBytes.{Consumes}
use Rattle.std.proofs.KnownBytes.{Consumes-trans}
use Rattle.byteorder.specs.Endian.{big_number}
use Rattle.byteorder.specs.Numbers.{big_from-take}
use Rattle.byte_io.specs.Streams.{Gave}
use Rattle.serve_run.specs.Handshake.{Tested, is_whole_ask}

-- a number is read of its own bytes
big_number-front : (n : ℕ) (xs ys : List ℕ) → n ≤ length xs → big_number n (xs ++ ys) ≡ big_number n xs
big_number-front n xs ys inside =
    sym (big_from-take 0 n n (xs ++ ys) (omega arith))
    ∙ ap (λ (l : List ℕ). big_number n l) (take-append-le n xs ys inside)
    ∙ big_from-take 0 n n xs (omega arith)

-- data that are shorter than what they name
not_whole : (brought : List ℕ) → length brought < 6 + big_number 4 brought → false ≡ is_whole_ask brought
not_whole brought short =
    sym (ne_eqb (length brought) (6 + big_number 4 brought + 2 * big_number 2 (drop (4 + big_number 4 brought) brought)) (λ e. omega arith))

-- data that end before the name does
pub asked_beyond : (count : ℕ) (name_length : List ℕ) (l m n : Option (List ℕ)) → length name_length ≡ 4 → 6 ≤ count
    → count < 6 + big_number 4 name_length → Consumes l m name_length → Gave m n (count - 4) → Tested is_whole_ask count false l n
asked_beyond count name_length l m n four room short read gave =
    let len : length (name_length ++ gave.bytes) ≡ count = omega (arith, length-append name_length gave.bytes, gave.len) in
    let number : big_number 4 (name_length ++ gave.bytes) ≡ big_number 4 name_length = big_number-front 4 name_length gave.bytes (omega arith) in
    record {
      brought = name_length ++ gave.bytes;
      len = len;
      read = Consumes-trans l m n name_length gave.bytes read gave.read;
      tests = not_whole (name_length ++ gave.bytes) (omega (arith, len, number));
    }

-- what is asked for is all that is left
same_rest : (len name rest asked : ℕ) → len ≡ 6 + name + rest → (rest == asked) ≡ (len == 6 + name + asked)
same_rest len name rest asked e = grind (arith, nat_tests)

whole_ask : (name_length name count rest : List ℕ) → length name_length ≡ 4 → length name ≡ big_number 4 name_length → length count ≡ 2
    → (length rest == 2 * big_number 2 count) ≡ is_whole_ask ((name_length ++ name) ++ (count ++ rest))
whole_ask name_length name count rest four named two =
    let front : List ℕ = name_length ++ name in
    let behind : List ℕ = count ++ rest in
    let len : length (front ++ behind) ≡ 6 + big_number 4 name_length + length rest =
    omega (arith, length-append front behind, length-append name_length name, length-append count rest) in
    let number : big_number 4 (front ++ behind) ≡ big_number 4 name_length =
    big_number-front 4 front behind (omega (arith, length-append name_length name)) ∙ big_number-front 4 name_length name (omega arith) in
    let at : 4 + big_number 4 name_length ≡ length front = omega (arith, length-append name_length name) in
    let rest_is : drop (4 + big_number 4 (front ++ behind)) (front ++ behind) ≡ behind =
    ap (λ (k : ℕ). drop k (front ++ behind)) (ap (λ (k : ℕ). 4 + k) number ∙ at) ∙ drop-append_seam front behind in
    let asked : big_number 2 (drop (4 + big_number 4 (front ++ behind)) (front ++ behind)) ≡ big_number 2 count =
    ap (λ (t : List ℕ). big_number 2 t) rest_is ∙ big_number-front 2 count rest (omega arith) in
    same_rest (length (front ++ behind)) (big_number 4 name_length) (length rest) (2 * big_number 2 count) len
    ∙ ap (λ (k : ℕ). length (front ++ behind) == 6 + k + 2 * big_number 2 count) (sym number)
    ∙ ap (λ (k : ℕ). length (front ++ behind) == 6 + big_number 4 (front ++ behind) + 2 * k) (sym asked)

-- data that were read to their end
pub asked_whole : (count middle numbers asked : ℕ) (name_length number : List ℕ) (l m n o p : Option (List ℕ)) → length name_length ≡ 4
    → length number ≡ 2 → middle ≡ big_number 4 name_length → count ≡ 6 + middle + numbers → asked ≡ big_number 2 number
    → Consumes l m name_length → Gave m n middle → Consumes n o number → Gave o p numbers → Tested is_whole_ask count (numbers == 2 * asked) l p
asked_whole count middle numbers asked name_length number l m n o p four two named sum is head name behind_name rest =
    let front : List ℕ = name_length ++ name.bytes in
    let behind : List ℕ = number ++ rest.bytes in
    record {
      brought = front ++ behind;
      len = omega (arith, length-append front behind, length-append name_length name.bytes, length-append number rest.bytes, name.len, rest.len);
      read = Consumes-trans l n p front behind (Consumes-trans l m n name_length name.bytes head name.read)
          (Consumes-trans n o p number rest.bytes behind_name rest.read);
      tests = ap (λ (k : ℕ). numbers == 2 * k) is ∙ ap (λ (k : ℕ). k == 2 * big_number 2 number) (sym rest.len)
          ∙ whole_ask name_length name.bytes number rest.bytes four (name.len ∙ named) two;
    }
