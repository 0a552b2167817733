-- What becomes of the buffer where a chunk is given. Cited by the answers of `give_into`.
use Rattle.std.proofs.Common.{◌≡◌, ℕ, ◌+◌, ◌≤◌, List, length, take, drop, Option, Some, None, arith, ap, ◌∙◌}
use Rattle.std.specs.Option.{option_map_or, unwrap_or}
use Rattle.scsi_cmd.specs.Buffers.{with_bytes_at, written_at}
use Rattle.scsi_cmd.specs.Laws.{written_at-fits, written_at-same}

-- a place of the buffer that is filled with what is given, or left as it was where nothing is
pub written_at-given : (buffer : List ℕ) (at len : ℕ) (given : Option (List ℕ)) (now : List ℕ) → at + len ≤ length buffer → length now ≡ len →
    now ≡ unwrap_or given (take len (drop at buffer)) → written_at buffer at now ≡ option_map_or (λ bytes. with_bytes_at buffer at bytes) given buffer
written_at-given buffer at len None now fits long is = ap (written_at buffer at) is ∙ written_at-same buffer at len fits
written_at-given buffer at len (Some bytes) now fits long is =
    ap (written_at buffer at) is ∙ written_at-fits buffer at bytes (omega (arith, ap length is))
