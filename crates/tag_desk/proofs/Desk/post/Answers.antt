use Rattle.std.proofs.Common.{◌≡◌, ℕ, ◌+◌, ◌-◌, set, sym, ap, subst, ◌∙◌, arith}
use Rattle.tag_desk.specs.declared.rule.ClientView.TheVariants.{Open}
use Rattle.tag_desk.specs.Slips.{ticket_in}
use Rattle.tag_desk.specs.contracts.ClientSeat.{the_view}
use Rattle.tag_desk.specs.Slips.{IsAsk}
use Rattle.tag_desk.specs.Seats.{ClientLine, Customer, IsClientOf, IsTagOf, posting, with_view}
use Rattle.tag_desk.proofs.Seating.{set_view, own_posting}
use Rattle.tag_desk.proofs.Desk.post.Goals as goal
use Rattle.tag_desk.proofs.Tags.{line_named, line_there, tag_within}
use Rattle.uas_profile.specs.Tags.{slot_of}

pub index_mut-requires : goal.index_mut-requires
index_mut-requires c =
    let place = c.slot_of.ensures in
    let there = line_there (the_view c.seat.inside) c.args.tag c.seat.invariant in
    omega arith

pub post-requires-clause-index : goal.post-requires-clause-index
post-requires-clause-index c =
    let seat = c.seat.inside in
    let own : IsTagOf seat.tags seat.client c.args.tag = subst (λ (s : Customer). IsTagOf s.tags s.client c.args.tag) (sym c.seat.view_is) c.requires.tag in
    let line = c.index_mut.result.now in
    let named = line_named (the_view seat) c.args.tag c.slot_of.result line c.seat.invariant own c.slot_of.ensures in
    let read = ap (λ (l : ClientLine). l.index) c.index_mut.ensures.value in
    let from = c.from-index.ensures in
    omega arith

pub post-requires-clause-ask : goal.post-requires-clause-ask
post-requires-clause-ask c =
    let number : c.args.seat.now.tags ≡ c.args.self.now.tags = c.requires.own.2 in
    let named : c.args.tag ≡ c.from-index.result - 1 + 1 = let low = c.requires.tag.0 in let from = c.from-index.ensures in omega arith in
    let ticket = sym c.ticket-ticket.ensures in
    subst (λ (p : ℕ × (ℕ × ℕ)). IsAsk p.0 p.1.0 p.1.1 c.args.slip) (λ i. (number i, (named i, ticket i))) c.requires.ask

pub post-requires-clause-within : goal.post-requires-clause-within
post-requires-clause-within c =
    let desk = c.args.self.now in
    let seat = c.args.seat.now in
    let least = c.seat.invariant.4.least in
    let same = ap (λ (s : Customer). s.tags) c.seat.view_is in
    let number : seat.tags ≡ desk.tags = c.requires.own.2 in
    let own : IsTagOf desk.tags seat.client c.args.tag = subst (λ n. IsTagOf n seat.client c.args.tag) number c.requires.tag in
    let within = tag_within desk.tags seat.client desk.clients c.args.tag (omega arith) own c.requires.own.0 in
    let from = c.from-index.ensures in
    let low = c.requires.tag.0 in
    omega arith

pub returns-clause-seat : goal.returns-clause-seat
returns-clause-seat c =
    let seat = c.seat.inside in
    let k = c.slot_of.result in
    let slip = c.args.slip in
    let ticket = c.ticket-ticket.result in
    let there = line_there (the_view seat) c.args.tag c.seat.invariant in
    let place = c.slot_of.ensures in
    let within = set_view seat.lines.items k c.index_mut.result.now (Open ticket slip 0) (omega arith) c.index_mut.ensures.value in
    let lines : set seat.lines.items k c.post.new.self ≡ with_view seat.lines.items (slot_of seat.tags c.args.tag) (Open (ticket_in slip) slip 0) =
    ap (set seat.lines.items k) c.post.ensures ∙ within ∙ (λ i. with_view seat.lines.items (place i) (Open (c.ticket-ticket.ensures i) slip 0)) in
    (λ i. record { client = seat.client; tags = seat.tags; least_ticket = c.ticket-ticket.ensures i + 1; lines = lines i })
    ∙ ap (λ (s : Customer). posting s c.args.tag (ticket_in slip) slip) c.seat.view_is

pub returns-clause-own : goal.returns-clause-own
returns-clause-own c =
    let now = c.args.seat.now in
    subst (IsClientOf c.args.self.now) (sym (returns-clause-seat c)) (own_posting c.args.self.now now (slot_of now.tags c.args.tag) (ticket_in c.args.slip + 1)
    (Open (ticket_in c.args.slip) c.args.slip 0) c.requires.own)
