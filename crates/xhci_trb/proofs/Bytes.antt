-- Three words and their 16 bytes give each other back, and are one number.
use Rattle.std.proofs.Common.{◌≡◌, ℕ, zero, suc, ◌+◌, ◌*◌, ◌/◌, ◌%◌, ◌^◌, ◌<◌, ◌≤◌, List, [], ◌∷◌, ◌++◌, length, take, drop, slice_index}
use Rattle.std.proofs.Common.{refl, sym, ap, ap₂, ◌∙◌, arith}
use Rattle.std.proofs.Math.Nat.{div-div-eq-div-mul, div-one, pow-succ'}
use Rattle.std.proofs.lemmas.List.{get_or-drop, take-append-drop, take_all, drop-drop, length-take-le, length-drop, append_assoc}
use Rattle.std.specs.Int.{byte_at, bytes_low_first}
use Rattle.byteorder.specs.Endian.{little_from, little_number, little_bytes}
use Rattle.byteorder.specs.Numbers.{little_from-cons, little_from-take, little_number-reads_back}
use Rattle.xhci_trb.specs.declared.words.Words.{Words}
use Rattle.xhci_trb.specs.Words.{words_in, bytes_of, number_of, FitsWords}

-- words with the same parts
pub same_words : (p s k : ℕ) (w : Words) → p ≡ w.parameter → s ≡ w.status → k ≡ w.control
    → ◌≡◌ {A = Words} (record { parameter = p; status = s; control = k }) w
same_words p s k w a b c = rw (a, b, c) refl

-- a byte of a number, by its place
byte_at-pow : (k x : ℕ) → byte_at k x ≡ x / 256 ^ k % 256
byte_at-pow zero x = ap (λ (y : ℕ). y % 256) (sym (div-one x))
byte_at-pow (suc k) x = refl

-- a number's bytes from the second on are those of its 256th
shift_bytes : (j n x : ℕ) → bytes_low_first (suc j) n x ≡ bytes_low_first j n (x / 256)
shift_bytes j zero x = refl
shift_bytes j (suc n) x =
    let here : byte_at (suc j) x ≡ byte_at j (x / 256) =
    byte_at-pow (suc j) x ∙ ap (λ (p : ℕ). x / p % 256) (pow-succ' 256 j)
    ∙ ap (λ (q : ℕ). q % 256) (sym (div-div-eq-div-mul x 256 (256 ^ j))) ∙ sym (byte_at-pow j (x / 256)) in
    ap₂ ◌∷◌ here (shift_bytes (suc j) n x)

-- a list of bytes
abbrev pub AreBytes : List ℕ → Type 0
AreBytes xs = (k : ℕ) → slice_index xs k < 256

-- bytes, their number, and its bytes again
pub bytes-little : (xs : List ℕ) → AreBytes xs → little_bytes (length xs) (little_from 0 (length xs) xs) ≡ xs
bytes-little [] h = refl
bytes-little (y ∷ ys) h =
    let n = length ys in
    let rest = little_from 0 n ys in
    let moved : little_from 1 n (y ∷ ys) ≡ rest = little_from-cons 0 n y ys in
    let byte : y < 256 = h 0 in
    let low : (y + 256 * little_from 1 n (y ∷ ys)) % 256 ≡ y = omega arith in
    let high : (y + 256 * little_from 1 n (y ∷ ys)) / 256 ≡ rest = omega arith in
    ap₂ ◌∷◌ low (shift_bytes 0 n _ ∙ ap (little_bytes n) high ∙ bytes-little ys (λ k. h (suc k)))

-- the front of a list of bytes
take-bytes : (n : ℕ) (xs : List ℕ) → AreBytes xs → AreBytes (take n xs)
take-bytes zero xs h k = omega arith
take-bytes (suc n) [] h k = omega arith
take-bytes (suc n) (y ∷ ys) h zero = h 0
take-bytes (suc n) (y ∷ ys) h (suc k) = take-bytes n ys (λ i. h (suc i)) k

-- the back of a list of bytes
drop-bytes : (n : ℕ) (xs : List ℕ) → AreBytes xs → AreBytes (drop n xs)
drop-bytes n xs h k = rw (get_or-drop n xs k 0) (h (n + k))

-- the first n bytes by their number
front-bytes : (n : ℕ) (xs : List ℕ) → n ≤ length xs → AreBytes xs → little_bytes n (little_number n xs) ≡ take n xs
front-bytes n xs within bytes =
    let size : length (take n xs) ≡ n = length-take-le n xs within in
    let all = bytes-little (take n xs) (take-bytes n xs bytes) in
    let sized : little_bytes n (little_from 0 n (take n xs)) ≡ take n xs = rw size at all in
    rw (little_from-take 0 n n xs (omega arith)) at sized

-- 16 bytes are the bytes of their words
pub bytes_of-words_in : (bs : List ℕ) → length bs ≡ 16 → AreBytes bs → bytes_of (words_in bs) ≡ bs
unfolding words_in bytes_of
bytes_of-words_in bs size bytes =
    let low = front-bytes 8 bs (omega arith) bytes in
    let after8 : length (drop 8 bs) ≡ 8 = omega (arith, length-drop 8 bs) in
    let after12 : length (drop 12 bs) ≡ 4 = omega (arith, length-drop 12 bs) in
    let middle = front-bytes 4 (drop 8 bs) (omega arith) (drop-bytes 8 bs bytes) in
    let high = front-bytes 4 (drop 12 bs) (omega arith) (drop-bytes 12 bs bytes) ∙ take_all 4 (drop 12 bs) (omega arith) ∙ sym (drop-drop 4 8 bs) in
    ap₂ ◌++◌ (ap₂ ◌++◌ low middle) high
    ∙ append_assoc (take 8 bs) (take 4 (drop 8 bs)) (drop 4 (drop 8 bs))
    ∙ ap (λ (xs : List ℕ). take 8 bs ++ xs) (take-append-drop 4 (drop 8 bs))
    ∙ take-append-drop 8 bs

-- the words of their bytes
pub words_in-bytes_of : (w : Words) → FitsWords w → words_in (bytes_of w) ≡ w
unfolding words_in bytes_of
words_in-bytes_of w fits =
    same_words _ _ _ w
    (little_number-reads_back 8 w.parameter (little_bytes 4 w.status ++ little_bytes 4 w.control) fits.parameter)
    (little_number-reads_back 4 w.status (little_bytes 4 w.control) fits.status)
    (little_number-reads_back 4 w.control [] fits.control)

-- the words of 16 bytes are the parts of their one number
pub number_of-words_in : (bs : List ℕ) → number_of (words_in bs) ≡ little_number 16 bs
unfolding words_in
number_of-words_in bs = omega (
  arith,
  get_or-drop 8 bs 0 0,
  get_or-drop 8 bs 1 0,
  get_or-drop 8 bs 2 0,
  get_or-drop 8 bs 3 0,
  get_or-drop 12 bs 0 0,
  get_or-drop 12 bs 1 0,
  get_or-drop 12 bs 2 0,
  get_or-drop 12 bs 3 0,
)

-- the bytes of words as one number
pub number_of_text : (w : Words) → FitsWords w → little_number 16 (bytes_of w) ≡ number_of w
number_of_text w fits = sym (number_of-words_in (bytes_of w)) ∙ ap number_of (words_in-bytes_of w fits)
