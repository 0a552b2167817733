use Rattle.std.proofs.Common.{arith}
use Rattle.door_board.proofs.Places.{in_word, place_alone}
use Rattle.door_board.proofs.place.Goals as goal

pub returns-clause-below : goal.returns-clause-below
returns-clause-below c =
    let bit = in_word c.args.tags c.args.client c.args.index c.requires.tags c.requires.index_low c.requires.index_high in
    omega arith

pub returns-clause-word : goal.returns-clause-word
returns-clause-word c =
    let bit = in_word c.args.tags c.args.client c.args.index c.requires.tags c.requires.index_low c.requires.index_high in
    omega arith

pub returns-clause-alone : goal.returns-clause-alone
returns-clause-alone c =
    λ other i there low high same.
    place_alone c.args.tags c.args.client c.args.index other i c.requires.tags c.requires.index_low c.requires.index_high low high same
