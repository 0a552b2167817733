use Rattle.std.proofs.Common.{ap, sym, ◌∙◌, ◌/◌}
use Rattle.std.specs.Prelude.{bit_xor}
use Rattle.log_records.specs.checksum.Division.{with_bits}
use Rattle.log_records.proofs.Bytewise.{with_bits-byte}
use Rattle.log_records.proofs.checksum.divided.Goals as goal

pub returns : goal.returns
returns c =
    let mixed = bit_xor c.args.remainder c.from.result in
    ap (bit_xor (mixed / 256)) c.left_by.ensures ∙ sym (with_bits-byte mixed) ∙ ap (λ n. with_bits 8 (bit_xor c.args.remainder n)) c.from.ensures
