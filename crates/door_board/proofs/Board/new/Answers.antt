use Rattle.std.proofs.Common.{ap, arith}
use Rattle.atomic_table.specs.Table.{Me}
use Rattle.door_board.specs.declared.Past.{Past}
use Rattle.door_board.proofs.Steps.{deal_allowed}
use Rattle.door_board.proofs.Board.new.Goals as goal

pub split_seat-seat-requires : goal.split_seat-seat-requires
split_seat-seat-requires c =
    let left = ap (λ (me : Me (Unit {0}) Past). me.0.shares) c.loop.invariant.view in (
      c.loop.invariant.table,
      omega (arith, c.in_ok-table.ensures),
      deal_allowed c.in_ok-table.table.shared.key c.loop.first.id c.loop.first.me.0 (omega arith),
    )
