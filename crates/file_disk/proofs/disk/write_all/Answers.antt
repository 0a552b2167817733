use Rattle.std.proofs.Common.{◌≡◌, ◌+◌, ◌-◌, ◌≤◌, ◌++◌, ℕ, Bool, List, length, take, drop, refl, ap, sym, ◌∙◌, arith, subst}
use Rattle.std.specs.Prelude.{IsTrue}
use Rattle.std.proofs.lemmas.List.{length-take-le}
use Rattle.file_disk.specs.Written.{written_over}
use Rattle.file_disk.proofs.Parts.{take-part}
use Rattle.file_disk.proofs.Bytes.{written_more, written_none}
use Rattle.file_disk.proofs.disk.write_all.Goals as goal

pub loop-done-init : goal.loop-done-init
loop-done-init g c = record {
  within = omega arith;
  ready = c.requires.ready;
  blocks = refl;
  front = λ t. sym (written_none c.args.offset (g.B.Blocks.holds c.args.file.now));
  len = λ t. refl;
  safe = refl;
  told = refl;
  same = refl;
  spoiled = refl;
}

pub loop-done-preserved : goal.loop-done-preserved
loop-done-preserved g c =
    let l = c.loop-done in
    let end : ℕ = l.done + c.piece_bytes.result in
    let bytes : List ℕ = c.args.bytes.now in
    let first : List ℕ = take l.done bytes in
    let part : List ℕ = take (end - l.done) (drop l.done bytes) in
    let held : List ℕ = g.B.Blocks.holds c.args.file.now in
    let size : length first ≡ l.done = length-take-le l.done bytes l.invariant.within in
    let tells : IsTrue (g.B.Blocks.tells c.args.file.now) → IsTrue (g.B.Blocks.tells l.file) =
    λ (t : IsTrue (g.B.Blocks.tells c.args.file.now)). subst (λ (b : Bool). IsTrue b) (sym l.invariant.told) t in
    record {
      within = omega (arith, c.piece_bytes.ensures.most);
      ready = c.in_ok-write_piece.ensures.ready;
      blocks = c.in_ok-write_piece.ensures.blocks ∙ l.invariant.blocks;
      front = λ t.
          c.in_ok-write_piece.ensures.bytes (tells t)
          ∙ ap (λ (xs : List ℕ). written_over xs (c.args.offset + l.done) part) (l.invariant.front t)
          ∙ ap (λ (n : ℕ). written_over (written_over held c.args.offset first) (c.args.offset + n) part) (sym size)
          ∙ written_more c.args.offset held first part (omega (arith, size, c.requires.fits, c.requires.file t, l.invariant.within))
          ∙ ap (written_over held c.args.offset) (sym (take-part l.done end bytes (omega arith)));
      len = λ t. c.in_ok-write_piece.ensures.len (tells t) ∙ l.invariant.len t;
      safe = c.in_ok-write_piece.ensures.safe ∙ l.invariant.safe;
      told = c.in_ok-write_piece.ensures.told ∙ l.invariant.told;
      same = c.in_ok-write_piece.ensures.same ∙ l.invariant.same;
      spoiled = c.in_ok-write_piece.ensures.spoiled ∙ l.invariant.spoiled;
    }
