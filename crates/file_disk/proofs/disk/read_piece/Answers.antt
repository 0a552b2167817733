use Rattle.std.proofs.Common.{◌≡◌, ◌+◌, ◌-◌, ◌*◌, ◌/◌, ◌%◌, ◌≤◌, ℕ, List, length, take, drop, ap, sym, ◌∙◌, arith}
use Rattle.std.proofs.lemmas.Grind.{common_steps}
use Rattle.file_disk.proofs.Bytes.{part_of_block, piece_fits}
use Rattle.file_disk.proofs.disk.read_piece.Goals as goal
use Rattle.file_disk.proofs.disk.read_piece.Goals.{else-skip-eq0-via-then-skip-eq0+else-into-eq0, else-skip-eq0-via-else-skip-eq0}

pub returns-clause-bytes : goal.returns-clause-bytes
returns-clause-bytes g c = λ t.
    let count : ℕ = length c.args.into.now in
    let skip : ℕ = c.args.at % 512 in
    let fits : skip + count ≤ 512 =
    piece_fits c.args.at count c.requires.piece (λ first last.
    elim c.else-skip-eq0.branch [
      | else-skip-eq0-via-then-skip-eq0+else-into-eq0 w ↦ grind (arith, common_steps)
      | else-skip-eq0-via-else-skip-eq0 w ↦ grind (arith, common_steps)
    ]) in
    let size : length c.read-2.new.into ≡ 512 = c.read-2.auto.into in
    let start : List ℕ = drop (512 * (c.args.at / 512)) (g.B.Blocks.holds c.args.file.now) in
    let long : (skip + count) - skip ≡ count = omega arith in
    c.copy_from_slice.ensures.after
    ∙ ap (λ (n : ℕ). take n (drop skip c.read-2.new.into)) long
    ∙ part_of_block c.args.at count c.read-2.new.into (g.B.Blocks.holds c.args.file.now) fits (c.in_ok-read.ensures.bytes t ∙ ap (λ (n : ℕ). take n start) size)
    ∙ ap (λ (n : ℕ). take n (drop c.args.at (g.B.Blocks.holds c.args.file.now))) (sym c.copy_from_slice.ensures.len)
