use Rattle.std.proofs.Common.{◌≡◌, ◌+◌, ◌*◌, ◌/◌, ◌%◌, ◌∙◌, refl, ℕ, Bool, true, false, not, arith}
use Rattle.host_trbs.specs.Words.{bit, bits}
use Rattle.host_trbs.proofs.Bytes.{same_bytes}
use Rattle.host_trbs.proofs.encoded.data_encoded.Goals as goal

-- the flags as bits of the control word
flags_at : (is_last is_in : Bool) (flags cycle : ℕ) → flags ≡ 2 * bit is_in + 8 * bit (not is_last) + 16 * bit is_last
    → 1024 + 2 * (flags % 64) + 512 * (flags / 64) + cycle
    ≡ bits 15 10 1 + bits 2 2 (bit is_in) + bits 4 4 (bit (not is_last)) + bits 5 5 (bit is_last) + cycle
flags_at true true flags cycle e = omega (arith, e)
flags_at true false flags cycle e = omega (arith, e)
flags_at false true flags cycle e = omega (arith, e)
flags_at false false flags cycle e = omega (arith, e)

pub returns : goal.returns
returns c =
    c.encode.ensures.text
    ∙ same_bytes _ _ refl (omega (arith, c.requires.length, c.requires.packets_left))
    (flags_at c.args.is_last c.args.is_in _ _ c.flags_of.ensures.flags)
