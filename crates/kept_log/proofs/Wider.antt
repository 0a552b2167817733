-- However many tags each client has, there are few enough clients for the writers of fields.
use Rattle.std.proofs.Common.{ℕ, ◌≤◌, List, length, arith}
use Rattle.uas_log.specs.declared.FirstUnit.{FirstUnit}
use Rattle.uas_profile.specs.Tags.{most_clients}
use Rattle.log_text.proofs.TakenLog.{few_clients}

pub units_few : (tags : ℕ) (units : List FirstUnit) → length units ≤ most_clients tags → length units ≤ 31
units_few tags units few = omega (arith, few, few_clients tags)
