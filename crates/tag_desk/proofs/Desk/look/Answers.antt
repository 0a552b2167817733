use Rattle.std.proofs.Common.{◌≡◌, ◌+◌, ◌<◌, length, set, sym, ap, subst, ◌∙◌, arith, Some, slice_get}
use Rattle.std.proofs.lemmas.Option.{slice_get_read}
use Rattle.tag_desk.specs.declared.rule.ClientView.TheVariants.{Free}
use Rattle.tag_desk.specs.Slips.{IsEnd}
use Rattle.tag_desk.specs.Seats.{Customer, ClientLine, IsClientOf, IsTagOf, with_view, looked_lines, overlooking}
use Rattle.std.specs.Vec.{with_item}
use Rattle.tag_desk.specs.contracts.ClientSeat.{the_view}
use Rattle.tag_desk.proofs.Seating.{set_view, set_looked, match_option, either_option, if_some, own_looking, own_reaping, free_reaping}
use Rattle.tag_desk.proofs.Desk.look.Goals as goal
use Rattle.tag_desk.proofs.Tags.{line_named, line_there, tag_within}
use Rattle.uas_profile.specs.Tags.{slot_of}

pub index_mut-requires : goal.index_mut-requires
index_mut-requires c =
    let place = c.slot_of.ensures in
    let there = line_there (the_view c.seat.inside) c.args.tag c.seat.invariant in
    omega arith

pub look-requires-clause-index : goal.look-requires-clause-index
look-requires-clause-index c =
    let seat = c.seat.inside in
    let own : IsTagOf seat.tags seat.client c.args.tag = subst (λ (s : Customer). IsTagOf s.tags s.client c.args.tag) (sym c.seat.view_is) c.requires.tag in
    let line = c.index_mut.result.now in
    let named = line_named (the_view seat) c.args.tag c.slot_of.result line c.seat.invariant own c.slot_of.ensures in
    let read = ap (λ (l : ClientLine). l.index) c.index_mut.ensures.value in
    let from = c.from-index.ensures in
    omega arith

pub look-requires-clause-within : goal.look-requires-clause-within
look-requires-clause-within c =
    let desk = c.args.self.now in
    let seat = c.args.seat.now in
    let least = c.seat.invariant.4.least in
    let same = ap (λ (s : Customer). s.tags) c.seat.view_is in
    let number : seat.tags ≡ desk.tags = c.requires.own.2 in
    let own : IsTagOf desk.tags seat.client c.args.tag = subst (λ n. IsTagOf n seat.client c.args.tag) number c.requires.tag in
    let within = tag_within desk.tags seat.client desk.clients c.args.tag (omega arith) own c.requires.own.0 in
    let from = c.from-index.ensures in
    let low = c.requires.tag.0 in
    omega arith

pub returns-clause-slip : goal.returns-clause-slip
returns-clause-slip c =
    let seat = c.seat.inside in
    let k = c.slot_of.result in
    let now = c.args.seat.now in
    let line = c.index_mut.result.now in
    let read = c.index_mut.ensures.value in
    let place : k ≡ slot_of seat.tags c.args.tag = c.slot_of.ensures in
    let low = line_there (the_view seat) c.args.tag c.seat.invariant in
    let within : k < length seat.lines.items = omega arith in
    let own : IsTagOf seat.tags seat.client c.args.tag = subst (λ (s : Customer). IsTagOf s.tags s.client c.args.tag) (sym c.seat.view_is) c.requires.tag in
    let named : line.index + 1 ≡ c.args.tag =
    ap (λ (l : ClientLine). l.index + 1) read ∙ line_named (the_view seat) c.args.tag k line c.seat.invariant own place in
    let there : slice_get now.lines (slot_of now.tags c.args.tag) ≡ Some line =
    subst (λ (s : Customer). slice_get s.lines (slot_of s.tags c.args.tag) ≡ Some line) c.seat.view_is
    (ap (slice_get seat.lines.items) (sym place) ∙ slice_get_read seat.lines.items
    (length seat.lines.items) k line (λ i. length seat.lines.items) within read) in
    match_option c.look.result
    (λ same.
    let lines : set seat.lines.items k c.look.new.self ≡ looked_lines 1 seat.lines.items (slot_of seat.tags c.args.tag) =
    ap (set seat.lines.items k) same ∙ set_looked 1 seat.lines.items k line within read ∙ ap (looked_lines 1 seat.lines.items) place in
    (λ i. record { client = seat.client; tags = seat.tags; least_ticket = seat.least_ticket; lines = lines i })
    ∙ ap (λ (s : Customer). overlooking 1 s c.args.tag) c.seat.view_is)
    (λ slip h.
    let n = h.0 in
    let lines : set seat.lines.items k c.look.new.self ≡ with_view seat.lines.items (slot_of seat.tags c.args.tag) (Free (n + 1)) =
    ap (set seat.lines.items k) h.4 ∙ set_view seat.lines.items k line (Free (n + 1)) within read
    ∙ ap (λ j. with_view seat.lines.items j (Free (n + 1))) place in (
      line,
      n,
      h.1,
      there,
      h.2,
      subst (λ t. IsEnd t n slip) named h.3,
      (λ i. record { client = seat.client; tags = seat.tags; least_ticket = seat.least_ticket; lines = lines i })
          ∙ ap (λ (s : Customer). record {
            client = s.client;
            tags = s.tags;
            least_ticket = s.least_ticket;
            lines = with_view s.lines (slot_of s.tags c.args.tag) (Free
                (n + 1));
          }) c.seat.view_is,
    ))
    c.look.ensures

pub returns-clause-own : goal.returns-clause-own
returns-clause-own c =
    let desk = c.args.self.now in
    let old = c.args.seat.now in
    let new = the_view (record {
      client = c.seat.inside.client;
      tags = c.seat.inside.tags;
      least_ticket = c.seat.inside.least_ticket;
      lines = with_item c.seat.inside.lines c.slot_of.result c.look.new.self;
    }) in
    either_option {C = IsClientOf desk new} c.look.result
    (λ same. subst (IsClientOf desk) (sym same) (own_looking desk old 1 c.args.tag c.requires.own))
    (λ slip reaps. own_reaping desk old new c.args.tag slip c.requires.own reaps)
    (returns-clause-slip c)

pub returns-clause-free : goal.returns-clause-free
returns-clause-free c =
    if_some _ c.look.result (λ slip reaps. free_reaping c.args.seat.now _ c.args.tag slip reaps) (returns-clause-slip c)
