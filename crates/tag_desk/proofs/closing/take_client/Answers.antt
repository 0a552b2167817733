use Rattle.std.proofs.Common.{List, sym, ap, subst, ◌∙◌}
use Rattle.tag_desk.specs.Seats.{Customer}
use Rattle.tag_desk.specs.Left.{HasNumber, IsFirst, client_number, no_customer, seat_of}
use Rattle.tag_desk.proofs.Finding.{first_found, found_without, has_without}
use Rattle.tag_desk.proofs.closing.take_client.Goals as goal

pub returns-clause-seat : goal.returns-clause-seat
returns-clause-seat c =
    let seats = c.args.seats.now.items in
    let k = c.client_place-place.result in
    let first : IsFirst client_number seats c.args.client k =
    subst (λ (xs : List Customer). IsFirst client_number xs c.args.client k) c.as_slice.ensures.value c.client_place-place.ensures in
    c.remove.ensures.value ∙ sym (first_found client_number seats c.args.client k no_customer c.remove.result first)

pub returns-clause-number : goal.returns-clause-number
returns-clause-number c =
    let seats = c.args.seats.now.items in
    let k = c.client_place-place.result in
    let first : IsFirst client_number seats c.args.client k =
    subst (λ (xs : List Customer). IsFirst client_number xs c.args.client k) c.as_slice.ensures.value c.client_place-place.ensures in
    ap client_number c.remove.ensures.value ∙ first.is c.remove.result

pub returns-clause-others : goal.returns-clause-others
returns-clause-others c =
    λ other apart.
    let seats = c.args.seats.now.items in
    let k = c.client_place-place.result in
    let first : IsFirst client_number seats c.args.client k =
    subst (λ (xs : List Customer). IsFirst client_number xs c.args.client k) c.as_slice.ensures.value c.client_place-place.ensures in
    ap (λ (xs : List Customer). seat_of xs other) c.remove.ensures.items
    ∙ found_without client_number seats c.args.client other k no_customer first apart

pub returns-clause-there : goal.returns-clause-there
returns-clause-there c =
    λ other apart has.
    let seats = c.args.seats.now.items in
    let k = c.client_place-place.result in
    let first : IsFirst client_number seats c.args.client k =
    subst (λ (xs : List Customer). IsFirst client_number xs c.args.client k) c.as_slice.ensures.value c.client_place-place.ensures in
    subst (λ (xs : List Customer). HasNumber client_number xs other) (sym c.remove.ensures.items)
    (has_without client_number seats c.args.client other k first apart has)
