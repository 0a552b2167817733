use Rattle.std.proofs.Common.{rules, ◌==◌, sym}
use Rattle.std.proofs.lemmas.List.Sums.{position_or_len_is}
use Rattle.c_disks.proofs.record.text_size.Goals as goal

pub returns-then-field-size-eq0-clause-size : goal.returns-then-field-size-eq0-clause-size
returns-then-field-size-eq0-clause-size c =
    let l = c.loop-size in
    sym (position_or_len_is (λ byte. byte == 0) c.args.field.now l.size 0 l.invariant.0 l.invariant.1 (λ lt. search rules))

pub returns-clause-size : goal.returns-clause-size
returns-clause-size c =
    let l = c.loop-size in
    sym (position_or_len_is (λ byte. byte == 0) c.args.field.now l.size 0 l.invariant.0 l.invariant.1 (λ lt. search rules))
