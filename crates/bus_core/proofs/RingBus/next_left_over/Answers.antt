use Rattle.std.proofs.Common.{◌≡◌, ℕ, suc, ◌*◌, ◌<◌, ◌≤◌, Bool, true, false, ◌&&◌, Option, Some, None, IfSome, IfNone, refl, arith, ap, sym, length, ◌∙◌}
use Rattle.std.specs.Prelude.{is_none, is_some}
use Rattle.uas_profile.specs.declared.Pipe.{Pipe}
use Rattle.uas_host.specs.declared.Retirement.{Retirement as HostRetirement}
use Rattle.uas_host.specs.Retirement.{is_left_over_on}
use Rattle.shared_machine.specs.declared.Step.TheVariants.{Retire}
use Rattle.shared_machine.specs.Drain.{AreNotLeftOver}
use Rattle.bus_core.specs.Fits.{Fits}
use Rattle.shared_machine.specs.Shared.{Shared, due}
use Rattle.bus_core.specs.World.{World}
use Rattle.bus_core.specs.Decoded.{decoded}
use Rattle.bus_core.proofs.common.BusFields.{fits-in, world_in}
use Rattle.bus_core.proofs.common.CellWrites.{clients-length}
use Rattle.bus_core.proofs.retire.EngineDue.{retire-due}
use Rattle.bus_core.proofs.RingBus.next_left_over.Goals as goal
use Rattle.shared_machine.specs.Shared.{greatest_tag}

-- while a retirement is under way none is due
some-not_none : (retirement : Option HostRetirement) → true ≡ is_some retirement → is_none retirement ≡ false
some-not_none None some = absurd (cc)
some-not_none (Some retirement) some = refl

under_way-not_due : (state : Shared) (world : World) (pipe : Pipe) (tag : ℕ) → Fits state world → is_none world.host.retirement ≡ false
    → due state (Retire pipe tag) ≡ false
under_way-not_due state world pipe tag fits none =
    retire-due state world pipe tag fits ∙ ap (λ b. b && is_left_over_on world.host pipe tag) none

-- none is due of a TD that the host doesn't find left over
and_false : (b : Bool) → (b && false) ≡ false
and_false true = refl
and_false false = refl

unfound-not_due : (state : Shared) (world : World) (pipe : Pipe) (tag : ℕ) → Fits state world → is_left_over_on world.host pipe tag ≡ false
    → due state (Retire pipe tag) ≡ false
unfound-not_due state world pipe tag fits none =
    retire-due state world pipe tag fits ∙ (ap (λ b. is_none world.host.retirement && b) none ∙ and_false (is_none world.host.retirement))

-- the next that the host finds
found-next : (state : Shared) (world : World) (pipe : Pipe) (tag : ℕ) (found : Option ℕ) → Fits state world
    → IfSome found (λ next. (tag < next) × (next ≤ length world.host.clients * world.host.tags) × (is_left_over_on world.host pipe next ≡ true)
    × ((other : ℕ) → tag < other → other < next → is_left_over_on world.host pipe other ≡ false))
    → IfSome found (λ next. (tag < next) × (next ≤ greatest_tag state) × AreNotLeftOver state pipe tag next)
found-next state world pipe tag None fits none = tt
found-next state world pipe tag (Some next) fits is = (
  is.0,
  omega (
    arith,
    is.1,
    ap (λ n. n * world.host.tags) (clients-length state.tags world state.parts fits.clients) ∙ ap (λ t. length state.parts * t) fits.tags,
  ),
  λ other above below. unfound-not_due state world pipe other fits (is.3 other above below),
)

-- and where it finds none
found-none : (state : Shared) (world : World) (pipe : Pipe) (tag upto : ℕ) (found : Option ℕ) → Fits state world
    → IfNone found ((other : ℕ) → tag < other → is_left_over_on world.host pipe other ≡ false) → IfNone found (AreNotLeftOver state pipe tag upto)
found-none state world pipe tag upto None fits none = λ other above below. unfound-not_due state world pipe other fits (none other above)
found-none state world pipe tag upto (Some next) fits none = tt

pub returns-then-is_some-clause-none : goal.returns-then-is_some-clause-none
returns-then-is_some-clause-none c =
    λ other above below. under_way-not_due (decoded c.args.self.now) (world_in c.self.inside) c.args.pipe other
    (fits-in c.self.inside c.self.view_is c.self.invariant)
    (ap (λ r. is_none r) (sym c.retirement.ensures) ∙ some-not_none c.retirement.result c.if-is_some.ensures)

pub returns-clause-next : goal.returns-clause-next
returns-clause-next c =
    found-next (decoded c.args.self.now) (world_in c.self.inside) c.args.pipe c.args.tag c.next_left_over.result
    (fits-in c.self.inside c.self.view_is c.self.invariant) c.next_left_over.ensures.next

pub returns-clause-none : goal.returns-clause-none
returns-clause-none c =
    found-none (decoded c.args.self.now) (world_in c.self.inside) c.args.pipe c.args.tag
    (suc (greatest_tag (decoded c.args.self.now))) c.next_left_over.result (fits-in c.self.inside c.self.view_is c.self.invariant)
    c.next_left_over.ensures.none
