-- Segments of memory cut at 64 KiB boundaries.
use Rattle.std.specs.Prelude.{ℕ, zero, suc, ◌+◌, ◌-◌, ◌*◌, ◌/◌, ◌%◌, ◌==◌, ◌≤◌, min, nat_lt, if◌then◌else◌, Bool, List, [], ◌∷◌, ◌++◌, length, Option, Some, None, Result, Ok, Err}
use Rattle.std.specs.List.{list_any, slice_index_or}
use Rattle.host_trbs.specs.declared.transfers.DataTrb.{DataTrb}
use Rattle.host_layout.specs.declared.segments.CutFault.{CutFault}
use Rattle.host_layout.specs.declared.segments.CutFault.TheVariants.{Empty, Reach, TooMany}
use Rattle.host_layout.specs.declared.segments.Piece.{Piece}
use Rattle.host_layout.specs.declared.segments.Segment.{Segment}

abbrev pub is_empty : Segment → Bool
is_empty segment = segment.length == 0

-- address and length are 2^64 or more
abbrev pub is_beyond : Segment → Bool
is_beyond segment = nat_lt (18446744073709551615 - segment.address) segment.length

-- the 64 KiB blocks that a segment has bytes in; worked: 4,096 bytes at 2000F800h have bytes in 2
abbrev pub count_of : Segment → ℕ
count_of segment = (segment.address % 65536 + segment.length + 65535) / 65536

-- where a segment's bytes in the block of a number begin: at its address, or at the block
abbrev pub begin_of : Segment → ℕ → ℕ
begin_of segment number = if number == 0 then segment.address else 65536 * (segment.address / 65536 + number)

-- how many they are: to the end of the segment or of the block
abbrev pub length_of : Segment → ℕ → ℕ
length_of segment number =
    min (65536 - begin_of segment number % 65536) (segment.length - (begin_of segment number - segment.address))

-- the piece in the block of a number, of a segment behind so many bytes
abbrev pub piece_of : ℕ → Segment → ℕ → Piece
piece_of done segment number = record {
  at = begin_of segment number;
  length = length_of segment number;
  end = done + (begin_of segment number - segment.address) + length_of segment number;
}

-- the pieces in the first so many blocks
abbrev pub pieces_of : ℕ → Segment → ℕ → List Piece
pieces_of done segment zero = []
pieces_of done segment (suc number) = pieces_of done segment number ++ piece_of done segment number ∷ []

-- the pieces of segments behind so many bytes
abbrev pub pieces_from : ℕ → List Segment → List Piece
pieces_from done [] = []
pieces_from done (segment ∷ segments) = pieces_of done segment (count_of segment) ++ pieces_from (done + segment.length) segments

-- The first of the refusals, or the pieces of all segments.
abbrev pub cut_of : ℕ → List Segment → Result (List Piece) CutFault
cut_of most segments =
    if length segments == 0 then Err Empty
    else if list_any is_empty segments then Err Empty
    else if list_any is_beyond segments then Err Reach
    else if nat_lt most (length (pieces_from 0 segments)) then Err TooMany
    else Ok (pieces_from 0 segments)

-- so many addresses from one on
abbrev pub span : ℕ → ℕ → List ℕ
span address zero = []
span address (suc count) = span address count ++ (address + count) ∷ []

-- the addresses of the bytes of segments, and of pieces, in order
abbrev pub addresses_in : List Segment → List ℕ
addresses_in [] = []
addresses_in (segment ∷ segments) = span segment.address segment.length ++ addresses_in segments

abbrev pub addresses_of : List Piece → List ℕ
addresses_of [] = []
addresses_of (piece ∷ pieces) = span piece.at piece.length ++ addresses_of pieces

-- 6.4.1.1: 1 to 65,536 bytes that don't cross a 64 KiB boundary
pub record IsTrbData (piece : Piece) : Type 0 where
  pub some : 1 ≤ piece.length
  pub most : piece.length ≤ 65536
  pub block : piece.at % 65536 + piece.length ≤ 65536

-- Packets of 1,024 bytes that are left behind so many bytes of a TD, at most 31 (TD Size, 4.11.2.4). Worked: of 4,096 bytes behind 2,048 they are 2.
abbrev pub packets_left : ℕ → ℕ → ℕ
packets_left total end = min 31 ((total + 1023) / 1024 - end / 1024)

-- the data TRB of a piece: the last has no packets left
abbrev pub trb_of_piece : ℕ → Bool → Bool → Piece → DataTrb
trb_of_piece total is_last is_in piece = record {
  at = piece.at;
  length = piece.length;
  packets_left = if is_last then 0 else packets_left total piece.end;
  is_last = is_last;
  is_in = is_in;
}

-- the bytes of a TD: the end of its last piece
abbrev pub no_piece : Piece
no_piece = record { at = 0; length = 0; end = 0 }

abbrev pub total_of : List Piece → ℕ
total_of pieces = (slice_index_or pieces (length pieces - 1) no_piece).end

-- the data TRB of a TD's piece of a number, from 0 on
abbrev pub data_trb_of : List Piece → ℕ → Bool → Option DataTrb
data_trb_of pieces number is_in =
    if nat_lt number (length pieces) then Some (trb_of_piece (total_of pieces) (number + 1 == length pieces) is_in (slice_index_or pieces number no_piece))
    else None

-- the bytes of a TD that were moved where so many of a piece were not, and all pieces before it were
abbrev pub moved_of : Piece → ℕ → ℕ
moved_of piece residual = piece.end - min residual piece.length
