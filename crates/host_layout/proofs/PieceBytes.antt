-- The bytes of pieces are those of their segments.
use Rattle.std.proofs.Common.{◌≡◌, ℕ, zero, suc, ◌+◌, ◌-◌, ◌*◌, ◌/◌, ◌%◌, ◌<◌, ◌≤◌, false, List, [], ◌∷◌, ◌++◌, refl, sym, ap, ap₂, ◌∙◌, arith, append_assoc, All}
use Rattle.std.proofs.lemmas.List.{append-nil}
use Rattle.std.proofs.lemmas.List.Elements.{All-append, All-push}
use Rattle.std.specs.Prelude.{min}
use Rattle.std.specs.List.{list_any}
use Rattle.std.proofs.lemmas.Bool.{or_parts}
use Rattle.std.proofs.lemmas.Bool.Decides.{nat_tests}
use Rattle.host_layout.specs.declared.segments.Piece.{Piece}
use Rattle.host_layout.specs.declared.segments.Segment.{Segment}
use Rattle.host_layout.specs.Cutting.{IsTrbData, addresses_in, addresses_of, begin_of, count_of, is_empty, length_of, piece_of, pieces_from, pieces_of, span}

-- a span in two parts
span_join : (a m n : ℕ) → span a m ++ span (a + m) n ≡ span a (m + n)
span_join a m zero = let same : m ≡ m + 0 = omega arith in append-nil (span a m) ∙ ap (span a) same
span_join a m (suc n) =
    let at : a + m + n ≡ a + (m + n) = omega arith in
    let next : suc (m + n) ≡ m + suc n = omega arith in
    sym (append_assoc (span a m) (span (a + m) n) ((a + m + n) ∷ [])) ∙ ap₂ (λ (xs : List ℕ) (y : ℕ). xs ++ y ∷ []) (span_join a m n) at ∙ ap (span a) next

addresses_append : (xs ys : List Piece) → addresses_of (xs ++ ys) ≡ addresses_of xs ++ addresses_of ys
addresses_append [] ys = refl
addresses_append (x ∷ xs) ys =
    ap (λ zs. span x.at x.length ++ zs) (addresses_append xs ys) ∙ sym (append_assoc (span x.at x.length) (addresses_of xs) (addresses_of ys))

-- the bytes of a segment in front of the block of a number
covered : Segment → ℕ → ℕ
covered segment number = min segment.length (65536 * number - segment.address % 65536)

begin_next : (segment : Segment) (number : ℕ) → begin_of segment (suc number) ≡ 65536 * (segment.address / 65536 + suc number)
begin_next segment number = grind (arith, nat_tests)

begin_is : (segment : Segment) (number : ℕ) → number < count_of segment → begin_of segment number ≡ segment.address + covered segment number
unfolding covered
begin_is segment zero h = omega arith
begin_is segment (suc n) h = let at = begin_next segment n in omega (arith, h, at)

length_is : (segment : Segment) (number : ℕ) → number < count_of segment → covered segment (number + 1) ≡ covered segment number + length_of segment number
unfolding covered
length_is segment zero h = omega (arith, h)
length_is segment (suc n) h = let at = begin_next segment n in omega (arith, h, at)

covered_none : (segment : Segment) → covered segment 0 ≡ 0
unfolding covered
covered_none segment = omega arith

covered_all : (segment : Segment) → covered segment (count_of segment) ≡ segment.length
unfolding covered
covered_all segment = omega arith

blocks_bytes : (done : ℕ) (segment : Segment) (number : ℕ) → number ≤ count_of segment
    → addresses_of (pieces_of done segment number) ≡ span segment.address (covered segment number)
blocks_bytes done segment zero h = sym (ap (span segment.address) (covered_none segment))
blocks_bytes done segment (suc n) h =
    let piece = piece_of done segment n in
    let last : addresses_of (piece ∷ []) ≡ span (segment.address + covered segment n) (length_of segment n) =
    append-nil (span piece.at piece.length) ∙ ap (λ at. span at (length_of segment n)) (begin_is segment n (omega (arith, h))) in
    let more : n + 1 ≡ suc n = omega arith in
    let next : covered segment n + length_of segment n ≡ covered segment (suc n) = sym (length_is segment n (omega (arith, h))) ∙ ap (covered segment) more in
    addresses_append (pieces_of done segment n) (piece ∷ []) ∙ ap₂ ◌++◌ (blocks_bytes done segment n (omega (arith, h))) last
    ∙ span_join segment.address (covered segment n) (length_of segment n) ∙ ap (span segment.address) next

pub pieces_bytes : (done : ℕ) (segments : List Segment) → addresses_of (pieces_from done segments) ≡ addresses_in segments
pieces_bytes done [] = refl
pieces_bytes done (s ∷ ss) =
    addresses_append (pieces_of done s (count_of s)) (pieces_from (done + s.length) ss)
    ∙ ap₂ ◌++◌ (blocks_bytes done s (count_of s) (omega arith) ∙ ap (span s.address) (covered_all s)) (pieces_bytes (done + s.length) ss)

-- each piece is the data of a TRB
block_data : (done : ℕ) (segment : Segment) (number : ℕ) → 0 < segment.length → number < count_of segment → IsTrbData (piece_of done segment number)
block_data done segment zero some h = record { some = omega (arith, some); most = omega arith; block = omega arith }
block_data done segment (suc n) some h =
    let at = begin_next segment n in
    record { some = omega (arith, some, h, at); most = omega (arith, at); block = omega (arith, at) }

none_yet : All IsTrbData []
none_yet k d h = omega (arith, h)

blocks_data : (done : ℕ) (segment : Segment) (number : ℕ) → 0 < segment.length → number ≤ count_of segment → All IsTrbData (pieces_of done segment number)
blocks_data done segment zero some h = none_yet
blocks_data done segment (suc n) some h =
    All-push IsTrbData (pieces_of done segment n) (piece_of done segment n) (blocks_data done segment n some (omega (arith, h)))
    (block_data done segment n some (omega (arith, h)))

pub pieces_data : (done : ℕ) (segments : List Segment) → list_any is_empty segments ≡ false → All IsTrbData (pieces_from done segments)
pieces_data done [] full = none_yet
pieces_data done (s ∷ ss) full =
    let parts = or_parts (is_empty s) (list_any is_empty ss) full in
    let some : 0 < s.length = grind (arith, nat_tests, parts.0) in
    All-append IsTrbData (pieces_of done s (count_of s)) (pieces_from (done + s.length) ss) (blocks_data done s (count_of s) some (omega arith))
    (pieces_data (done + s.length) ss parts.1)
