use Rattle.std.proofs.Common.{◌≡◌, ℕ, ◌+◌, ◌-◌, ◌<◌, List, [], ◌∷◌, ◌++◌, length, get_or, sym, ap, subst, ◌∙◌, arith, zero-add}
use Rattle.std.proofs.lemmas.List.{length_push}
use Rattle.std.proofs.lemmas.Option.{slice_get_read}
use Rattle.std.proofs.lemmas.Iterator.Adapters.{YieldsList-from_vec}
use Rattle.std.proofs.lemmas.Iterator.Consumers.{YieldsList-turn}
use Rattle.tag_desk.specs.Seats.{Customer, ClientLine}
use Rattle.tag_desk.specs.Left.{work_line, line_view, view_or, standing, so_far, HasRoom}
use Rattle.tag_desk.proofs.Settling.{less_room, grown}
use Rattle.tag_desk.proofs.Desk.settle_client.Goals as goal

pub settle-requires-clause-table : goal.settle-requires-clause-table
settle-requires-clause-table c =
    let lines = c.seat.inside.lines in
    let made = c.into_iter-line-iterator.ensures.into_iter_gives in
    let len = lines.ok.0 in
    let item = YieldsList-turn (YieldsList-from_vec lines.items made.0
    (cc)) c.loop-line.yielded c.loop-line.line-iterator c.loop-line.yielded_by c.next.result c.next.new.self c.in-Some.line c.in-Some.is c.next.ensures.steps in
    let whole = c.seat.invariant.0 in
    let same = ap (λ (s : Customer). s.lines) c.seat.view_is in
    let number = ap (λ (s : Customer). s.tags) c.seat.view_is in
    let k = length c.loop-line.yielded in
    ap (λ (l : ClientLine). l.table) (item.1 ∙ ap (λ (ls : List ClientLine). get_or ls k c.in-Some.line) same)
    ∙ c.requires.own.1 k c.in-Some.line (let h = item.0 in omega arith)

pub add-requires : goal.add-requires
add-requires c =
    let made = c.into_iter-line-iterator.ensures.into_iter_gives in
    let item = YieldsList-turn (YieldsList-from_vec c.seat.inside.lines.items made.0 (let len = c.seat.inside.lines.ok.0 in cc))
    c.loop-line.yielded c.loop-line.line-iterator c.loop-line.yielded_by c.next.result c.next.new.self c.in-Some.line c.in-Some.is c.next.ensures.steps in
    let number = ap (λ (s : Customer). s.tags) c.seat.view_is ∙ c.requires.own.2 in
    let fits = let h = item.0 in let whole = c.seat.invariant.0 in less_room (0 + (c.args.self.now.tags - length c.loop-line.yielded)) 1 c.loop-line.lists (omega arith) in
    fits (c.loop-line.invariant.room 0 (subst (λ n. HasRoom n c.args.lists.now) (sym (zero-add c.args.self.now.tags)) c.requires.room))

pub loop-line-preserved : goal.loop-line-preserved
loop-line-preserved c =
    let made = c.into_iter-line-iterator.ensures.into_iter_gives in
    let len = c.seat.inside.lines.ok.0 in
    let item = YieldsList-turn (YieldsList-from_vec c.seat.inside.lines.items made.0
    (cc)) c.loop-line.yielded c.loop-line.line-iterator c.loop-line.yielded_by c.next.result c.next.new.self c.in-Some.line c.in-Some.is c.next.ensures.steps in
    let h = item.0 in
    let whole = c.seat.invariant.0 in
    let number = ap (λ (s : Customer). s.tags) c.seat.view_is ∙ c.requires.own.2 in
    let k : ℕ = length c.loop-line.yielded in
    let n : ℕ = c.loop-line.index in
    let line = c.in-Some.line in
    let more = length_push c.loop-line.yielded line in
    let place = c.loop-line.invariant.index in
    let short : k < c.args.self.now.tags = omega arith in
    let same = ap (λ (s : Customer). s.lines) c.seat.view_is in
    let view : line.view ≡ line_view c.args.seat.lines k =
    sym (ap view_or (slice_get_read c.args.seat.lines (length c.args.seat.lines) k line (λ i. length c.args.seat.lines) (subst (λ
    (ls : List ClientLine). k < length ls) same h) (item.1 ∙ ap (λ (ls : List ClientLine). get_or ls k line) same))) in
    let work : c.take_work-work.result ≡ work_line c.args.self.now c.args.pumps.now.items n = c.take_work-work.ensures.line
    ∙ c.loop-line.invariant.others n (omega arith) in
    record {
      index = omega (arith, more);
      pumps = c.take_work-work.ensures.pumps;
      others = λ t later. c.take_work-work.ensures.others t (omega arith) ∙ c.loop-line.invariant.others t (omega arith);
      lists =
          λ at says none.
          grown at n (so_far c.loop-line.lists) (so_far c.add.new.self) c.settle.result (c.loop-line.invariant.lists at says none)
          (c.settle.ensures ∙ (λ i. standing (view i) (work i))
          ∙ (λ i. standing (line_view c.args.seat.lines k) (work_line c.args.self.now c.args.pumps.now.items (place i))) ∙ sym (says k short)
          ∙ ap at (sym place))
          c.add.ensures.lists;
      room =
          λ m had.
          let after : ℕ = c.args.self.now.tags - length (c.loop-line.yielded ++ line ∷ []) in
          c.add.ensures.room (m + after) (less_room (m + (c.args.self.now.tags - k)) (m + after + 1) c.loop-line.lists (omega (arith, more)) (c.loop-line.invariant.room m had));
    }

pub returns-clause-room : goal.returns-clause-room
returns-clause-room c = λ n had. less_room (n + (c.args.self.now.tags - length c.loop-line.yielded)) n c.loop-line.lists (omega arith) (c.loop-line.invariant.room n had)
