use Rattle.std.proofs.Common.{sym, subst}
use Rattle.tag_desk.specs.Seats.{HasIndex}
use Rattle.tag_desk.proofs.WorkSeat.serving_none.Goals as goal

pub invariant_of-result : goal.invariant_of-result
invariant_of-result c = λ k d within. subst (HasIndex k) (sym (c.loop.invariant.none k d within)) tt
