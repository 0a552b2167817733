use Rattle.std.proofs.Common.{sym, ap, ◌∙◌, arith}
use Rattle.door_board.specs.Counts.{MadeBoard, Sitting}
use Rattle.door_board.proofs.Steps.{collect_allowed}
use Rattle.door_board.proofs.Board.collect.Goals as goal

pub swap-requires : goal.swap-requires
swap-requires c =
    let shared = c.self.inside.table.shared in
    let seat = c.seat.inside.seat in (
      ap (λ (v : Sitting). v.table) c.seat.view_is ∙ c.requires.own ∙ sym (ap (λ (v : MadeBoard). v.table) c.self.view_is),
      omega arith,
      collect_allowed shared.key shared.table_id.slots seat.id c.args.word seat.me c.seat.invariant.0 (omega arith),
    )
