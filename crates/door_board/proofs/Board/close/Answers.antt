use Rattle.std.proofs.Common.{ℕ, List, length, ap, ◌∙◌, sym, arith}
use Rattle.door_board.specs.Counts.{MadeBoard}
use Rattle.door_board.specs.Rule.{standing}
use Rattle.door_board.proofs.Steps.{counts_alone, eight_words}
use Rattle.door_board.proofs.Board.close.Goals as goal

pub returns : goal.returns
returns c = λ place below.
    let last = c.gather-last.result in
    let final = c.close_with-closed.ensures.values.2 in
    let state = final.0 in
    let seats = c.gather-last.ensures.shares ∙ c.requires.every ∙ sym (ap (λ (v : MadeBoard). v.seats) c.self.view_is) ∙ sym c.self.invariant.2 in
    let counts = counts_alone c.self.inside.table.shared.key last.id last.me.0 state final.1.0 final.1.1 seats place below in
    let words = final.2 ∙ eight_words _ c.word.result c.word-2.result c.word-3.result c.word-4.result c.word-5.result c.word-6.result c.word-7.result
    c.word-8.result (ap length (sym final.2) ∙ final.1.0.width) c.word.ensures c.word-2.ensures c.word-3.ensures c.word-4.ensures c.word-5.ensures
    c.word-6.ensures c.word-7.ensures c.word-8.ensures in
    let bit = ap (λ (l : List ℕ). standing l place) words in
    omega (arith, c.gather-last.ensures.fresh place, c.gather-last.ensures.taken place)
