-- A client's last tag has streams, of as many clients as can have so many tags.
use Rattle.std.proofs.Common.{ℕ, suc, ◌+◌, ◌*◌, ◌/◌, ◌<◌, ◌≤◌, arith}
use Rattle.std.proofs.lemmas.Nat.{mul-le, div-add-mod'}
use Rattle.uas_profile.specs.Tags.{most_clients}
use Rattle.uas_profile.specs.declared.TheConstants.{STREAMS}

pub last_within : (tags client : ℕ) → 0 < tags → client < most_clients tags → client * tags + tags ≤ STREAMS
last_within tags client some there =
    let fewer : suc client ≤ STREAMS / tags = omega (arith, there) in
    omega (arith, mul-le (suc client) tags (STREAMS / tags) tags fewer (omega arith), div-add-mod' STREAMS tags)
