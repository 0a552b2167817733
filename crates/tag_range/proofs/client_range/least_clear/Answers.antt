use Rattle.std.proofs.Common.{sym, refl, arith}
use Rattle.tag_range.proofs.Flags.{position-flags_some, position-flags_none, count_by-flags_all, count_by-flags_some}
use Rattle.tag_range.proofs.client_range.least_clear.Goals as goal

pub returns-then-place-count-clause-value : goal.returns-then-place-count-clause-value
returns-then-place-count-clause-value c =
    rw c.trailing_ones-place.ensures (sym (position-flags_some c.args.count c.args.mask c.requires.few c.requires.within (omega arith)))

pub returns-then-place-count-clause-none : goal.returns-then-place-count-clause-none
returns-then-place-count-clause-none c =
    (λ no. cc, λ all. absurd (count_by-flags_some c.args.count c.args.mask c.requires.few c.requires.within (omega arith) all))

pub returns-else-place-count-clause-value : goal.returns-else-place-count-clause-value
returns-else-place-count-clause-value c =
    sym (position-flags_none c.args.count c.args.mask c.requires.few c.requires.within (omega arith))

pub returns-else-place-count-clause-none : goal.returns-else-place-count-clause-none
returns-else-place-count-clause-none c =
    (λ _. count_by-flags_all c.args.count c.args.mask c.requires.few c.requires.within (omega arith), λ _. refl)
