-- What a search for a tag answers.
use Rattle.std.proofs.Common.{◌≡◌, ℕ, ◌-◌, ◌+◌, ◌*◌, ◌<◌, ◌≤◌, true, false, length, Option, Some, None, IfSome, sym, arith}
use Rattle.std.specs.Prelude.{IfNone}
use Rattle.uas_host.specs.Retirement.{is_left_over_on}
use Rattle.uas_host.specs.State.{HostState}
use Rattle.uas_profile.specs.declared.Pipe.{Pipe}
use Rattle.c_common.proofs.Least.{find-least, find-none}
use Rattle.uas_c.specs.DriverCall.{next_left_over}

-- what a search for a tag answers, by the facts of its answer
pub next-told : (host : HostState) (pipe : Pipe) (tag : ℕ) (result : Option ℕ)
    → IfSome result (λ next. (tag < next) × (next ≤ length host.clients * host.tags) × (is_left_over_on host pipe next ≡ true)
    × ((other : ℕ) → tag < other → other < next → is_left_over_on host pipe other ≡ false))
    → IfNone result ((other : ℕ) → tag < other → is_left_over_on host pipe other ≡ false) → result ≡ next_left_over host pipe tag
next-told host pipe tag (Some next) there none =
    sym (find-least (is_left_over_on host pipe) (length host.clients * host.tags - tag) (tag + 1) next (omega (arith, there.0))
    (omega (arith, there.0, there.1)) there.2 (λ other above. there.3 other (omega (arith, above))))
next-told host pipe tag None there none =
    sym (find-none (is_left_over_on host pipe) (length host.clients * host.tags - tag) (tag + 1) (λ other above. none other (omega (arith, above))))
