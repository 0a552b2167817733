-- The pieces of segments.
use Rattle.std.proofs.Common.{◌≡◌, ℕ, zero, suc, ◌+◌, ◌<◌, ◌==◌, true, false, List, [], ◌∷◌, ◌++◌, length, get_or, drop, refl, sym, ap, ◌∙◌, arith, add-one, length-append, Err, nat_lt}
use Rattle.std.specs.List.{list_any}
use Rattle.std.proofs.lemmas.Bool.{lt-ltb}
use Rattle.std.proofs.lemmas.List.{drop_more}
use Rattle.host_layout.specs.declared.segments.CutFault.TheVariants.{TooMany}
use Rattle.host_layout.specs.declared.segments.Piece.{Piece}
use Rattle.host_layout.specs.declared.segments.Segment.{Segment}
use Rattle.host_layout.specs.Cutting.{count_of, cut_of, is_beyond, is_empty, piece_of, pieces_from, pieces_of}

pub pieces_more : (done : ℕ) (segment : Segment) (number : ℕ) → pieces_of done segment (number + 1) ≡ pieces_of done segment number ++ piece_of done segment number ∷ []
pieces_more done segment number = ap (pieces_of done segment) (add-one number)

pub length-pieces_of : (done : ℕ) (segment : Segment) (number : ℕ) → length (pieces_of done segment number) ≡ number
length-pieces_of done segment zero = refl
length-pieces_of done segment (suc number) =
    let last : length (pieces_of done segment (suc number)) ≡ length (pieces_of done segment number) + 1 =
    length-append (pieces_of done segment number) (piece_of done segment number ∷ []) in
    let inner = length-pieces_of done segment number in
    omega (arith, last, inner)

-- the pieces from a segment on
pub pieces_at : (done : ℕ) (segments : List Segment) (i : ℕ) (d : Segment) → i < length segments
    → pieces_from done (drop i segments)
    ≡ pieces_of done (get_or segments i d) (count_of (get_or segments i d)) ++ pieces_from (done + (get_or segments i d).length) (drop (i + 1) segments)
pieces_at done segments i d within = ap (pieces_from done) (drop_more segments i d within)

-- too many with those of a segment are too many in all
pub many : (most : ℕ) (segments : List Segment) (items : List Piece) (done i : ℕ) (d : Segment) → items ++ pieces_from done (drop i segments) ≡ pieces_from 0 segments
    → i < length segments → most < length items + count_of (get_or segments i d) → most < length (pieces_from 0 segments)
many most segments items done i d all within more =
    let segment = get_or segments i d in
    let rest = pieces_from (done + segment.length) (drop (i + 1) segments) in
    let step = pieces_at done segments i d within in
    let inner : length (pieces_from done (drop i segments)) ≡ length (pieces_of done segment (count_of segment)) + length rest =
    ap length step ∙ length-append (pieces_of done segment (count_of segment)) rest in
    let count = length-pieces_of done segment (count_of segment) in
    let outer : length (pieces_from 0 segments) ≡ length items + length (pieces_from done (drop i segments)) =
    sym (ap length all) ∙ length-append items (pieces_from done (drop i segments)) in
    omega (arith, inner, count, outer, more)

-- such segments are refused
pub cut_many : (most : ℕ) (segments : List Segment) → (length segments == 0) ≡ false → list_any is_empty segments ≡ false
    → list_any is_beyond segments ≡ false → most < length (pieces_from 0 segments) → cut_of most segments ≡ Err TooMany
cut_many most segments a b c more = let d : nat_lt most (length (pieces_from 0 segments)) ≡ true = lt-ltb _ _ more in rw (a, b, c, d) refl
