use Rattle.std.proofs.Common.{◌≡◌, ◌+◌, ◌*◌, ◌<◌, List, Option, Some, None, length, get_or, refl, sym, subst, ◌∙◌, arith}
use Rattle.tag_desk.specs.Seats.{Server, HeldClaim}
use Rattle.uas_work.specs.Held.{IsHeldAt}
use Rattle.uas_work.proofs.Holding.{Below, below-more}
use Rattle.uas_work.proofs.Held.give_back.Goals as goal

pub loop-place-preserved : goal.loop-place-preserved
loop-place-preserved c =
    let was = c.loop-place.invariant in
    let desk = c.args.desk.now in
    let held = c.loop-place.self in
    let seat = c.loop-place.seat in
    let k = c.loop-place.place in
    let claim : Option HeldClaim = get_or held k None in
    let within : k < length held = omega (arith, was.below.count, c.len-place-end.ensures, c.loop-place-test.true) in
    let below : k < desk.tags * desk.clients = omega (arith, was.held.count, within) in
    let named : (one : HeldClaim) → claim ≡ Some one → one.tag ≡ k + 1 = λ one is. (subst (IsHeldAt desk seat k) is (was.held.each k below)).1 in
    let more = below-more c.args.seat.now c.args.self.now k seat held claim refl named within (was.held.count ∙ sym was.own.0) was.below in
    record {
      own = c.give_back_one.ensures.own;
      held = c.give_back_one.ensures.held;
      below =
          subst (λ (p : Server × List (Option HeldClaim)). Below c.args.seat.now c.args.self.now (k + 1) p.0 p.1)
          (λ i. (sym c.give_back_one.ensures.seat i, sym c.give_back_one.ensures.taken i)) more;
    }
