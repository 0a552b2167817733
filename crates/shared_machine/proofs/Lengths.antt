-- How many bytes the next reply brings.
use Rattle.std.proofs.Common.{◌≡◌, ℕ, rules}
use Rattle.std.specs.Option.{option_map_or}
use Rattle.shared_machine.specs.declared.Step.TheVariants.{Take}
use Rattle.shared_machine.specs.Shared.{Shared, shared_step}
use Rattle.shared_machine.specs.Laws.{reply_len, next_len}

-- a Take's reply brings as many bytes as was told of it, and no reply brings none
pub shared_step-len : (state : Shared) (client : ℕ) → option_map_or reply_len (shared_step state (Take client)).1.reply 0 ≡ next_len state client
shared_step-len state client = search rules
