-- A text that is decoded byte by byte is decoded line by line.
use Rattle.std.proofs.Common.{◌≡◌, ℕ, zero, suc, ◌==◌, ◌||◌, ◌≤◌, Bool, true, false, List, [], ◌∷◌, ◌++◌, length, map, All, arith, refl, sym, ◌∙◌, ap, append_assoc, append-nil}
use Rattle.std.specs.List.{join_with_byte, list_any, slice_split}
use Rattle.std.proofs.lemmas.List.Splits.{length-slice_split, slice_split_at, slice_split_none}
use Rattle.std.proofs.lemmas.List.{length-map}
use Rattle.std.proofs.lemmas.List.Elements.{All-append}
use Rattle.std.proofs.Math.Bool.{or-false}
use Rattle.uas_decode.specs.Printed.{answered, is_refused}
use Rattle.uas_decode.specs.Runs.{decoded, decoded_from, has_refusal, refused_from}
use Rattle.uas_decode.proofs.Streams.{decoded-end, decoded-more, refused-end, refused-more}

abbrev is_feed : ℕ → Bool
is_feed byte = byte == 10

-- no byte ends a line
abbrev IsOpen : List ℕ → Type 0
IsOpen line = All (λ byte. is_feed byte ≡ false) line

join-more : (first : List ℕ) (others : List (List ℕ)) → 1 ≤ length others
    → join_with_byte 10 (first ∷ others) ≡ first ++ (10 ∷ join_with_byte 10 others)
join-more first [] some = absurd (omega (arith, some))
join-more first (other ∷ others) some = refl

answers-some : (bytes : List ℕ) → 1 ≤ length (map answered (slice_split is_feed bytes))
answers-some bytes = omega (arith, length-map (slice_split is_feed bytes) answered, length-slice_split is_feed bytes)

open-none : IsOpen []
open-none k d below = absurd (omega (arith, below))

open-one : (byte : ℕ) → is_feed byte ≡ false → IsOpen (byte ∷ [])
open-one byte other zero d below = other
open-one byte other (suc k) d below = absurd (omega (arith, below))

open-more : (line : List ℕ) (byte : ℕ) → IsOpen line → is_feed byte ≡ false → IsOpen (line ++ byte ∷ [])
open-more line byte clear other = All-append (λ byte. is_feed byte ≡ false) line (byte ∷ []) clear (open-one byte other)

-- TEXTS

abbrev by_lines : List ℕ → List ℕ
by_lines bytes = join_with_byte 10 (map answered (slice_split is_feed bytes))

one_byte : (byte : ℕ) (rest line : List ℕ) (ends : Bool) → is_feed byte ≡ ends → IsOpen line
    → ((more : List ℕ) → IsOpen more → decoded_from more rest ≡ by_lines (more ++ rest))
    → decoded_from line (byte ∷ rest) ≡ by_lines (line ++ byte ∷ rest)
one_byte byte rest line true same clear after =
    decoded-end line byte rest same ∙ ap (λ l. answered line ++ (10 ∷ l)) (after [] open-none)
    ∙ sym
    (ap (λ l. join_with_byte 10 (map answered l)) (slice_split_at is_feed line byte rest clear same)
    ∙ join-more (answered line) (map answered (slice_split is_feed rest)) (answers-some rest))
one_byte byte rest line false same clear after =
    decoded-more line byte rest same ∙ after (line ++ byte ∷ []) (open-more line byte clear same)
    ∙ ap (λ l. by_lines l) (append_assoc line (byte ∷ []) rest)

behind : (bytes line : List ℕ) → IsOpen line → decoded_from line bytes ≡ by_lines (line ++ bytes)
unfolding decoded_from
behind [] line clear =
    sym (ap (λ l. join_with_byte 10 (map answered l)) (ap (slice_split is_feed) (append-nil line) ∙ slice_split_none is_feed line clear))
behind (byte ∷ rest) line clear = one_byte byte rest line (is_feed byte) refl clear (behind rest)

-- from the beginning of a line on
pub decoded-by_lines : (bytes : List ℕ) → decoded_from [] bytes ≡ decoded bytes
decoded-by_lines bytes = behind bytes [] open-none

-- a whole text that was taken in, where nothing was before it, and its last line
pub decoded-whole : (bytes text line first begun after : List ℕ) → first ≡ [] → begun ≡ []
    → ((rest : List ℕ) → first ++ decoded_from begun (bytes ++ rest) ≡ text ++ decoded_from line rest) → after ≡ text ++ answered line
    → after ≡ decoded bytes
unfolding decoded_from
decoded-whole bytes text line first begun after no_text no_line goes is =
    is ∙ (sym (goes []) ∙ (ap (λ l. l ++ decoded_from begun (bytes ++ [])) no_text
    ∙ (ap (λ l. decoded_from l (bytes ++ [])) no_line ∙ (ap (decoded_from []) (append-nil bytes) ∙ decoded-by_lines bytes))))

-- REFUSALS

abbrev any_refused : List ℕ → Bool
any_refused bytes = list_any is_refused (slice_split is_feed bytes)

one_refusal : (byte : ℕ) (rest line : List ℕ) (ends : Bool) → is_feed byte ≡ ends → IsOpen line
    → ((more : List ℕ) → IsOpen more → refused_from more rest ≡ any_refused (more ++ rest))
    → refused_from line (byte ∷ rest) ≡ any_refused (line ++ byte ∷ rest)
one_refusal byte rest line true same clear after =
    refused-end line byte rest same ∙ ap (λ b. is_refused line || b) (after [] open-none)
    ∙ sym (ap (list_any is_refused) (slice_split_at is_feed line byte rest clear same))
one_refusal byte rest line false same clear after =
    refused-more line byte rest same ∙ after (line ++ byte ∷ []) (open-more line byte clear same)
    ∙ ap (λ l. any_refused l) (append_assoc line (byte ∷ []) rest)

refusal_behind : (bytes line : List ℕ) → IsOpen line → refused_from line bytes ≡ any_refused (line ++ bytes)
unfolding refused_from
refusal_behind [] line clear =
    sym
    (ap (list_any is_refused) (ap (slice_split is_feed) (append-nil line) ∙ slice_split_none is_feed line clear) ∙ or-false (is_refused line))
refusal_behind (byte ∷ rest) line clear = one_refusal byte rest line (is_feed byte) refl clear (refusal_behind rest)

pub refused-by_lines : (bytes : List ℕ) → refused_from [] bytes ≡ has_refusal bytes
refused-by_lines bytes = refusal_behind bytes [] open-none
