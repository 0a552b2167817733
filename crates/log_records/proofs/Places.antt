-- What the table has is what the division leaves.
use Rattle.std.proofs.Common.{◌≡◌, ℕ, ◌<◌, get_or, map, refl, ap, ◌∙◌, arith}
use Rattle.std.specs.List.{range_with_len}
use Rattle.std.proofs.lemmas.List.FromFn.{get_or-map-range_with_len}
use Rattle.log_records.specs.declared.checksum.table.TheConstants.{REMAINDERS}
use Rattle.log_records.specs.checksum.Division.{with_bits}

all_places : REMAINDERS ≡ map (with_bits 8) (range_with_len 0 256)
unfolding with_bits
all_places = refl

pub remainder_at : (place : ℕ) → place < 256 → get_or REMAINDERS place 0 ≡ with_bits 8 place
remainder_at place within = ap (λ list. get_or list place 0) all_places ∙ get_or-map-range_with_len (with_bits 8) 0 256 place place 0 within (omega arith)
