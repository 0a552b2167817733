use Rattle.std.proofs.Common.{rules, ◌∙◌}
use Rattle.byte_io.proofs.Reading.{read_more}
use Rattle.byte_io.proofs.whole.read_whole.Goals as goal

pub loop-done-preserved : goal.loop-done-preserved
loop-done-preserved g c =
    let l = c.loop-done in
    record {
      bytes = read_more _ _ _ l.done c.in_ok-count.count _ l.buffer c.read.new.buffer l.invariant.bound c.in_ok-count.ensures.bound
          l.invariant.bytes c.in_ok-count.ensures.bytes.0;
      bound = search rules;
      same = c.read.ensures.same ∙ l.invariant.same;
    }
