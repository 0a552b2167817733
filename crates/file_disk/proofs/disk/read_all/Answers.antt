use Rattle.std.proofs.Common.{◌≡◌, ◌+◌, ◌-◌, ◌≤◌, ℕ, List, length, take, drop, ap, ◌∙◌, arith, rules}
use Rattle.std.proofs.lemmas.List.{length-drop, length-take-le}
use Rattle.std.proofs.lemmas.Slice.{take-put_mid}
use Rattle.file_disk.proofs.Bytes.{length-put_mid, read_more}
use Rattle.file_disk.proofs.disk.read_all.Goals as goal

pub loop-done-preserved : goal.loop-done-preserved
loop-done-preserved g c =
    let l = c.loop-done in
    let end : ℕ = l.done + c.piece_bytes.result in
    let part : List ℕ = c.read_piece.new.into in
    let held : List ℕ = g.B.Blocks.holds c.args.file.now in
    let within : l.done ≤ length l.into = l.invariant.within in
    let room : end - l.done ≤ length (drop l.done l.into) = omega (arith, length-drop l.done l.into, c.piece_bytes.ensures.most) in
    let size : length part ≡ end - l.done = c.read_piece.auto.into ∙ length-take-le (end - l.done) (drop l.done l.into) room in
    record {
      within = omega (arith, length-put_mid l.done (end - l.done) l.into part size (omega (arith, room, length-drop l.done l.into)), c.piece_bytes.ensures.most);
      ready = c.in_ok-read_piece.ensures.ready;
      blocks = c.in_ok-read_piece.ensures.blocks ∙ l.invariant.blocks;
      front = λ t.
          take-put_mid l.done (end - l.done) l.into part end (omega (arith, size)) within
          ∙ read_more c.args.offset l.done end (take l.done l.into) part held (omega arith) (l.invariant.front t)
          (c.in_ok-read_piece.ensures.bytes t ∙ ap (λ (n : ℕ). take n (drop (c.args.offset + l.done) held)) size);
    }
