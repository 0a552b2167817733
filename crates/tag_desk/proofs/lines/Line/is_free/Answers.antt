use Rattle.std.proofs.Common.{◌≡◌, Bool, true, false, Option, None, Some, not, refl, sym, ap, subst}
use Rattle.std.specs.Option.{is_some}
use Rattle.tag_desk.specs.Seats.{ClientLine, IsFree}
use Rattle.tag_desk.proofs.Holding.{free_without, none_when_free}
use Rattle.tag_desk.proofs.lines.Line.is_free.Goals as goal

none_by : {A : Type 0} (o : Option A) (r : Bool) → is_some o ≡ not r → r ≡ true → o ≡ None
none_by None r is said = refl
none_by (Some x) true is said = absurd (let e : true ≡ false = is in cc)
none_by (Some x) false is said = absurd (let e : false ≡ true = said in cc)

by_none : {A : Type 0} (o : Option A) (r : Bool) → is_some o ≡ not r → o ≡ None → r ≡ true
by_none None true is none = refl
by_none None false is none = absurd (let e : false ≡ true = is in cc)
by_none (Some x) r is none = absurd (let e : Some x ≡ None = none in cc)

pub returns : goal.returns
returns c =
    let view = ap (λ (l : ClientLine). l.view) c.self.view_is in
    let o = c.self.inside.posted in (
      (λ said. subst IsFree view (free_without _ o c.self.invariant.1 c.self.invariant.2 (none_by o c.is_none.result c.is_none.ensures said))),
      (λ free. by_none o c.is_none.result c.is_none.ensures (none_when_free _ o c.self.invariant.1 (subst IsFree (sym view) free))),
    )
