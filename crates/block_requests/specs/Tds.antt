-- The TD of a submission's data on a tag: its pieces, and how many bytes it moves.
use Rattle.std.specs.Prelude.{ℕ, Option, Some, None, List, [], ◌∷◌}
use Rattle.host_layout.specs.declared.layout.Area.TheVariants.{OfTag}
use Rattle.host_layout.specs.declared.layout.Layout.{Layout}
use Rattle.host_layout.specs.declared.layout.TagArea.TheVariants.{UnmapList}
use Rattle.host_layout.specs.declared.segments.Piece.{Piece}
use Rattle.host_layout.specs.Cutting.{total_of}
use Rattle.host_layout.specs.Places.{place_of}
use Rattle.block_requests.specs.declared.Submission.{Submission}

-- the 24 bytes of an UNMAP parameter list, in one piece; none where the tag has no place
abbrev pub list_piece : Option ℕ → List Piece
list_piece None = []
list_piece (Some at) = (record { at = at; length = 24; end = 24 }) ∷ []

abbrev pub pieces_by : Option (List ℕ) → List Piece → Option ℕ → List Piece
pieces_by None pieces at = pieces
pieces_by (Some list) pieces at = list_piece at

-- those of the segments; of UNMAP its list, at the tag's place of one
abbrev pub pieces_of : Layout → ℕ → Submission → List Piece
pieces_of layout tag submission = pieces_by submission.list submission.pieces.items (place_of layout (OfTag tag UnmapList))

abbrev pub wanted_by : Option (List ℕ) → List Piece → ℕ
wanted_by None pieces = total_of pieces
wanted_by (Some list) pieces = 24

-- the bytes that the whole TD moves
abbrev pub wanted : Submission → ℕ
wanted submission = wanted_by submission.list submission.pieces.items
