use Rattle.std.proofs.Common.{◌≡◌, ◌*◌, length, sym, ◌∙◌, arith}
use Rattle.uas_work.proofs.Holding.{held-none}
use Rattle.uas_work.proofs.Held.with_tags.Goals as goal

pub returns-clause-held : goal.returns-clause-held
returns-clause-held c desk seat tags same =
    let count : length c.loop.claims.items ≡ c.args.tags * c.args.clients = omega (arith, c.loop.invariant.count) in
    held-none desk seat c.loop.claims.items c.loop.invariant.none (count ∙ (λ i. sym tags i * sym same i))
