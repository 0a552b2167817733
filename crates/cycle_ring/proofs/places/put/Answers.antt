-- An item behind the others, and the Link behind the last place before it.
use Rattle.std.proofs.Common.{Bool, ap, ◌∙◌}
use Rattle.xhci_trb.specs.Text.{text}
use Rattle.cycle_ring.specs.Ring.{link_with}
use Rattle.cycle_ring.proofs.Held.{HoldsItems-put, HoldsItems-link, IsEnd-inside, IsEnd-past}
use Rattle.cycle_ring.proofs.places.put.Goals as goal

pub returns-then-end-clause-holds : goal.returns-then-end-clause-holds
returns-then-end-clause-holds g c at put item holds room is is_text chain =
    HoldsItems-put g.row.N c.args.base _ at put item c.args.bytes c.args.end c.requires.least_places holds room is is_text c.if-end.true

pub returns-then-end-clause-end : goal.returns-then-end-clause-end
returns-then-end-clause-end g c at put is = IsEnd-inside g.row.N _ c.args.end c.requires.least_places is c.if-end.true

pub returns-clause-holds : goal.returns-clause-holds
returns-clause-holds g c at put item holds room is is_text chain =
    let link = c.encode.ensures.text ∙ ap (λ (bit : Bool). text (link_with c.args.base bit) c.args.end.cycle) chain in
    HoldsItems-link g.row.N c.args.base _ at put item c.args.bytes c.encode.result c.args.end
    c.requires.least_places holds room is is_text c.if-end.false link

pub returns-clause-end : goal.returns-clause-end
returns-clause-end g c at put is = IsEnd-past g.row.N _ c.args.end c.requires.least_places is c.if-end.false
