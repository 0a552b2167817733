use Rattle.std.proofs.Common.{◌≡◌, ◌+◌, ◌-◌, ◌*◌, ◌/◌, ◌%◌, ◌≤◌, ℕ, List, length, take, drop, ap, sym, ◌∙◌, arith}
use Rattle.std.proofs.lemmas.Grind.{common_steps}
use Rattle.file_disk.proofs.Bytes.{on_ok, piece_fits, written_piece}
use Rattle.file_disk.proofs.disk.write_piece.Goals as goal
use Rattle.file_disk.proofs.disk.write_piece.Goals.{else-skip-eq0-via-then-skip-eq0+else-bytes-eq0, else-skip-eq0-via-else-skip-eq0}

pub returns-clause-bytes : goal.returns-clause-bytes
returns-clause-bytes g c =
    let count : ℕ = length c.args.bytes.now in
    let skip : ℕ = c.args.at % 512 in
    let fits : skip + count ≤ 512 =
    piece_fits c.args.at count c.requires.piece (λ first last.
    elim c.else-skip-eq0.branch [
      | else-skip-eq0-via-then-skip-eq0+else-bytes-eq0 w ↦ grind (arith, common_steps)
      | else-skip-eq0-via-else-skip-eq0 w ↦ grind (arith, common_steps)
    ]) in
    let size : length c.read.new.into ≡ 512 = c.read.auto.into in
    let start : List ℕ = drop (512 * (c.args.at / 512)) (g.B.Blocks.holds c.args.file.now) in
    let long : (skip + count) - skip ≡ count = omega arith in
    on_ok c.write-2.result (λ put t.
    written_piece c.args.at ((skip + count) - skip) c.args.bytes.now c.copy_from_slice.new.self c.read.new.into (g.B.Blocks.holds c.args.file.now)
    (g.B.Blocks.holds c.write-2.new.file) fits c.copy_from_slice.ensures.after long (c.in_ok-read.ensures.bytes t ∙ ap (λ (n : ℕ). take n start) size)
    (omega (arith, c.requires.file t, c.requires.fits, c.requires.piece.some)) (put t)) c.write-2.ensures.bytes
