use Rattle.std.proofs.Common.{ap, ◌∙◌, sym, arith}
use Rattle.door_board.specs.Counts.{MadeBoard}
use Rattle.door_board.proofs.Steps.{gather_allowed}
use Rattle.door_board.proofs.Board.take_in.Goals as goal

pub join_seat-requires : goal.join_seat-requires
join_seat-requires c =
    let table = sym (ap (λ (v : MadeBoard). v.table) c.self.view_is) in
    let seat = c.into_table_seat in (
      c.requires.table ∙ table,
      seat.ensures.table ∙ c.requires.own ∙ table,
      seat.ensures.slots,
      omega arith,
      gather_allowed c.self.inside.table.shared.key c.args.first.now.id seat.result.id c.args.first.now.me.0 seat.result.me.0 c.requires.some,
    )
