-- Zeros behind bytes. Cited by `filled`.
use Rattle.std.proofs.lemmas.List.{drop-replicate}

pub ruleset filling = (drop-replicate)
