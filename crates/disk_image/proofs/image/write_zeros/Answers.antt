use Rattle.std.proofs.Common.{rules, arith, ◌∙◌, ◌*◌, ◌≡◌, true, false, sym}
use Rattle.disk_image.proofs.Zeros.{zeros_after}
use Rattle.disk_image.proofs.image.write_zeros.Goals as goal

pub loop-done-preserved : goal.loop-done-preserved
loop-done-preserved g c =
    let l = c.loop-done in
    record {
      written = zeros_after _ _ _ (512 * l.done) (512 * c.min-count.result) (512 * c.min-part.result) _ c.deref.result.now (search rules)
          (omega arith) (omega arith) l.invariant.written (search (rules, c.in_ok-write_image.ensures));
      bound = omega arith;
      quiet = λ off. l.invariant.quiet off;
      same = c.write_image.ensures.same ∙ l.invariant.same;
      stays = c.write_image.ensures.stays ∙ l.invariant.stays;
      file = c.write_image.ensures.file ∙ l.invariant.file;
      there = λ _. sym l.invariant.stays ∙ c.in_ok-write_image.ensures.there;
    }

pub loop-done-preserved-then-shows_progress : goal.loop-done-preserved-then-shows_progress
loop-done-preserved-then-shows_progress g c =
    let l = c.loop-done in
    record {
      written = zeros_after _ _ _ (512 * l.done) (512 * c.min-count.result) (512 * c.min-part.result) _ c.deref.result.now (search rules)
          (omega arith) (omega arith) l.invariant.written (search (rules, c.in_ok-write_image.ensures));
      bound = omega arith;
      quiet = λ off. let no : true ≡ false = sym c.if-shows_progress.true ∙ off in cc;
      same = c.write_image.ensures.same ∙ l.invariant.same;
      stays = c.write_image.ensures.stays ∙ l.invariant.stays;
      file = c.write_image.ensures.file ∙ l.invariant.file;
      there = λ _. sym l.invariant.stays ∙ c.in_ok-write_image.ensures.there;
    }
