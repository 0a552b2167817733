-- What a reader of fields took is their text, and a field's text is read again.
use Rattle.std.proofs.Common.{◌≡◌, ℕ, ◌^◌, ◌<◌, ◌≤◌, Bool, true, false, ◌||◌, List, ◌++◌, length, take, drop, Result, Ok, refl, sym, ap, subst, ◌∙◌, append_assoc, arith}
use Rattle.std.specs.Prelude.{nat_lt}
use Rattle.std.proofs.lemmas.Bool.{ltb-false, le-ltb}
use Rattle.std.proofs.lemmas.List.{take_at, drop_at, take-append-drop, length-append, length-take}
use Rattle.byteorder.specs.Endian.{big_number}
use Rattle.byteorder.specs.Numbers.{big_from-lt, big_number-reads_back, length-bytes_high_first}
use Rattle.log_text.specs.declared.LogFault.{LogFault}
use Rattle.log_text.specs.declared.LogFault.TheVariants.{Truncated, BadField}
use Rattle.log_text.specs.Text.{BufferFits, buffer_text, field}
use Rattle.log_text.specs.Reading.{buffer_at, bytes_at, field_at, number_at}
use Rattle.byte_numbers.specs.Bytes.{AreBytes}
use Rattle.byte_numbers.proofs.Bytes.{bytes_dropped}
use Rattle.byte_numbers.proofs.Numbers.{number_bytes}
use Rattle.log_text.proofs.ReadResults.{bind_ok, guard_ok, ok_is}

neither : (a b : Bool) → (a || b) ≡ false → (a ≡ false) × (b ≡ false)
neither true b e = absurd cc
neither false b e = (refl, e)

-- WHAT IS TAKEN

-- what a reader took from the front
pub record Takes (bytes text rest : List ℕ) : Type 0 where
  pub parts : bytes ≡ text ++ rest
  pub rest_bytes : AreBytes rest

pub then_takes : {a x b y c : List ℕ} → Takes a x b → Takes b y c → Takes a (x ++ y) c
then_takes {x = x} {y = y} {c = c} p q = record {
  parts = p.parts ∙ ap (λ (t : List ℕ). x ++ t) q.parts ∙ sym (append_assoc x y c);
  rest_bytes = q.rest_bytes;
}

-- what a reader gave is an item's text, and the item fits
pub record Taken {A : Type 0} (text : A → List ℕ) (holds : A → Type 0) (bytes : List ℕ) (x : A × List ℕ) : Type 0 where
  pub takes : Takes bytes (text x.0) x.1
  pub fits : holds x.0

-- A reader takes the texts of items that fit, and takes them all.
pub record Reads {A : Type 0} (item_at : List ℕ → Result (A × List ℕ) LogFault) (text : A → List ℕ) (fits : A → Type 0) : Type 0 where
  pub taken : (bytes : List ℕ) (x : A × List ℕ) → AreBytes bytes → item_at bytes ≡ Ok x → Taken text fits bytes x
  pub again : (item : A) (rest : List ℕ) → fits item → item_at (text item ++ rest) ≡ Ok (item, rest)

-- NUMBERS

pub record Within (size from upto number : ℕ) : Type 0 where
  pub least : from ≤ number
  pub most : number ≤ upto
  pub wide : number < 256 ^ size

pub number_taken : (fault : LogFault) (len least most : ℕ) (bytes : List ℕ) (x : ℕ × List ℕ) → AreBytes bytes
    → number_at fault len least most bytes ≡ Ok x → Taken (field len) (Within len least most) bytes x
unfolding number_at field
number_taken fault len least most bytes x is e =
    let long = guard_ok (nat_lt (length bytes) len) Truncated _ x e in
    let bounds = guard_ok (nat_lt (big_number len bytes) least || nat_lt most (big_number len bytes)) fault _ x long.1 in
    let both = neither (nat_lt (big_number len bytes) least) (nat_lt most (big_number len bytes)) bounds.0 in
    let text = number_bytes len bytes (ltb-false _ _ long.0) is in
    let read : ℕ × List ℕ = (big_number len bytes, drop len bytes) in
    subst (λ (y : ℕ × List ℕ). Taken (field len) (Within len least most) bytes y) (ok_is read x bounds.1) (record {
      takes = record { parts = sym (take-append-drop len bytes) ∙ ap (λ (t : List ℕ). t ++ drop len bytes) (sym text); rest_bytes = bytes_dropped len bytes is };
      fits = record { least = ltb-false _ _ both.0; most = ltb-false _ _ both.1; wide = big_from-lt 0 len bytes is };
    })

pub number_again : (fault : LogFault) (len least most number : ℕ) (rest : List ℕ) → Within len least most number
    → number_at fault len least most (field len number ++ rest) ≡ Ok (number, rest)
unfolding number_at field
number_again fault len least most number rest within =
    let size = length-bytes_high_first len number in
    let long : nat_lt (length (field len number ++ rest)) len ≡ false = le-ltb _ _ (omega (arith, length-append (field len number) rest, size)) in
    let low : nat_lt number least ≡ false = le-ltb _ _ within.least in
    let high : nat_lt most number ≡ false = le-ltb _ _ within.most in
    rw (long, big_number-reads_back len number rest within.wide, low, high, drop_at (field len number) rest len size) refl

pub reads_number : (fault : LogFault) (len least most : ℕ) → Reads (number_at fault len least most) (field len) (Within len least most)
reads_number fault len least most = record { taken = number_taken fault len least most; again = number_again fault len least most }

-- BYTES

pub record HasLength (size : ℕ) (bytes : List ℕ) : Type 0 where
  pub len : length bytes ≡ size

pub bytes_taken_at : (len : ℕ) (bytes : List ℕ) (x : List ℕ × List ℕ) → AreBytes bytes → bytes_at len bytes ≡ Ok x
    → Taken (λ taken. taken) (HasLength len) bytes x
unfolding bytes_at
bytes_taken_at len bytes x is e =
    let long = guard_ok (nat_lt (length bytes) len) Truncated _ x e in
    let at-least : len ≤ length bytes = ltb-false _ _ long.0 in
    let read : List ℕ × List ℕ = (take len bytes, drop len bytes) in
    subst (λ (y : List ℕ × List ℕ). Taken (λ taken. taken) (HasLength len) bytes y) (ok_is read x long.1) (record {
      takes = record { parts = sym (take-append-drop len bytes); rest_bytes = bytes_dropped len bytes is };
      fits = record { len = omega (arith, length-take len bytes) };
    })

pub bytes_again : (len : ℕ) (bytes rest : List ℕ) → HasLength len bytes → bytes_at len (bytes ++ rest) ≡ Ok (bytes, rest)
unfolding bytes_at
bytes_again len bytes rest fits =
    let long : nat_lt (length (bytes ++ rest)) len ≡ false = le-ltb _ _ (omega (arith, length-append bytes rest, fits.len)) in
    rw (long, take_at bytes rest len fits.len, drop_at bytes rest len fits.len) refl

buffer_taken : (bytes : List ℕ) (x : List ℕ × List ℕ) → AreBytes bytes → buffer_at bytes ≡ Ok x → Taken buffer_text BufferFits bytes x
unfolding buffer_at
buffer_taken bytes x is e =
    let a = bind_ok (field_at 4 0 65536 bytes) _ x e in
    let len = number_taken BadField 4 0 65536 bytes a.0 is a.1 in
    let body = bytes_taken_at a.0.0 a.0.1 x len.takes.rest_bytes a.2 in
    record {
      takes = subst (λ (n : ℕ). Takes bytes (field 4 n ++ x.0) x.1) (sym body.fits.len) (then_takes len.takes body.takes);
      fits = record { most = omega (arith, body.fits.len, len.fits.most) };
    }

buffer_again : (buffer rest : List ℕ) → BufferFits buffer → buffer_at (buffer_text buffer ++ rest) ≡ Ok (buffer, rest)
unfolding buffer_at
buffer_again buffer rest fits =
    let within : Within 4 0 65536 (length buffer) = record { least = omega arith; most = fits.most; wide = omega (arith, fits.most) } in
    ap buffer_at (append_assoc (field 4 (length buffer)) buffer rest)
    ∙ rw (number_again BadField 4 0 65536 (length buffer) (buffer ++ rest) within) (bytes_again (length buffer) buffer rest (record { len = refl }))

pub reads_buffer : Reads buffer_at buffer_text BufferFits
reads_buffer = record { taken = buffer_taken; again = buffer_again }
