use Rattle.std.proofs.Common.{arith, refl}
use Rattle.byte_io.proofs.Digits.{value_too_large}
use Rattle.byte_io.proofs.texts.value_up_to.Goals as goal

pub returns-then-value-from : goal.returns-then-value-from
returns-then-value-from c =
    let l = c.loop-digit in
    let large = value_too_large c.args.most l.value l.digit-index c.args.digits.now (omega arith) l.invariant.0 (omega arith) in
    rw large refl
