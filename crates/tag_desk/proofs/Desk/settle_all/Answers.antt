use Rattle.std.proofs.Common.{◌≡◌, ◌≢◌, ℕ, suc, ◌+◌, ◌-◌, ◌*◌, ◌<◌, sym, ap, subst, ◌∙◌, arith, mul-add}
use Rattle.tag_desk.specs.Seats.{MadeDesk, IsClientOf}
use Rattle.tag_desk.specs.Left.{client_number, no_customer, seat_of, work_line, line_view, client_view, standing, left_below, Says}
use Rattle.tag_desk.specs.declared.remains.Standing.{Standing}
use Rattle.tag_desk.proofs.Settling.{less_room}
use Rattle.tag_desk.proofs.Finding.{found_all}
use Rattle.tag_desk.proofs.Desk.settle_all.Goals as goal
use Rattle.tag_desk.proofs.Tags.{client_at, slot_at, row_within}
use Rattle.uas_profile.specs.Tags.{client_of, slot_of}

pub settle_client-requires-clause-own : goal.settle_client-requires-clause-own
settle_client-requires-clause-own c =
    let n : ℕ = c.loop-client.client in
    let desk = c.args.self.now in
    let clients = c.args.seats.clients.items in
    let one : c.self.inside.clients ≡ desk.clients = ap (λ (d : MadeDesk). d.clients) c.self.view_is in
    let below : n < desk.clients = omega arith in
    let seat : c.take_client-seat.result ≡ seat_of clients n = c.take_client-seat.ensures.seat ∙ c.loop-client.invariant.seats n (omega arith) in
    subst (IsClientOf desk) (sym seat)
    (found_all client_number (IsClientOf desk) clients n no_customer c.requires.clients.own (c.requires.clients.there n below)).0

pub loop-client-preserved : goal.loop-client-preserved
loop-client-preserved c =
    let n : ℕ = c.loop-client.client in
    let desk = c.args.self.now in
    let clients = c.args.seats.clients.items in
    let pumps = c.args.seats.pumps.items in
    let seat = c.take_client-seat.result in
    let own : seat.client ≡ n = c.take_client-seat.ensures.number in
    let one : c.self.inside.clients ≡ desk.clients = ap (λ (d : MadeDesk). d.clients) c.self.view_is in
    let below : n < desk.clients = omega arith in
    let is : seat ≡ seat_of clients n = c.take_client-seat.ensures.seat ∙ c.loop-client.invariant.seats n (omega arith) in
    let at : ℕ → Standing = λ t. standing (client_view desk.tags clients t) (work_line desk pumps t) in
    let first : ℕ = desk.tags * seat.client in
    let start : first ≡ desk.tags * n = ap (λ m. desk.tags * m) own in
    let next : desk.tags * (n + 1) ≡ first + desk.tags = omega (arith, mul-add desk.tags n 1) in
    let row = row_within desk.tags n desk.clients below in
    let says : Says desk seat c.loop-client.pumps.items at =
    λ j short.
    let whose : client_of desk.tags (suc (first + j)) ≡ n = client_at desk.tags seat.client j short ∙ own in
    let which : slot_of desk.tags (suc (first + j)) ≡ j = slot_at desk.tags seat.client j short in
    (λ i. standing (line_view (seat_of clients (whose i)).lines (which i)) (work_line desk pumps (first + j)))
    ∙ (λ i. standing (line_view (sym is i).lines j) (sym (c.loop-client.invariant.others (first + j) (omega arith)) i)) in
    record {
      seats =
          λ k later.
          let apart : k ≢ n = λ (e : k ≡ n). absurd (omega arith) in
          c.take_client-seat.ensures.others k apart ∙ c.loop-client.invariant.seats k (omega arith);
      there =
          λ k later within.
          let apart : k ≢ n = λ (e : k ≡ n). absurd (omega arith) in
          c.take_client-seat.ensures.there k apart (c.loop-client.invariant.there k (omega arith) within);
      pumps = c.settle_client.ensures.pumps;
      others = λ t later. c.settle_client.ensures.others t (omega arith) ∙ c.loop-client.invariant.others t (omega arith);
      lists =
          c.settle_client.ensures.lists at says (c.loop-client.invariant.lists ∙ ap (left_below at) (sym start))
          ∙ ap (left_below at) (sym next);
      room =
          let left : ℕ = desk.tags * desk.clients - desk.tags * (n + 1) in
          c.settle_client.ensures.room left (less_room (desk.tags * desk.clients - desk.tags * n) (left + desk.tags) c.loop-client.lists (omega
          arith) c.loop-client.invariant.room);
    }

pub returns : goal.returns
returns c =
    let desk = c.args.self.now in
    let clients = c.args.seats.clients.items in
    let pumps = c.args.seats.pumps.items in
    let one : c.self.inside.clients ≡ desk.clients = ap (λ (d : MadeDesk). d.clients) c.self.view_is in
    let all : c.loop-client.client ≡ desk.clients = omega arith in
    c.loop-client.invariant.lists ∙ ap (λ n. left_below (λ t. standing (client_view desk.tags clients t) (work_line desk pumps t)) (desk.tags * n)) all
