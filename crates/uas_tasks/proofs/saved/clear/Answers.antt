use Rattle.std.proofs.Common.{ap, refl, replicate, ◌∙◌}
use Rattle.uas_tasks.proofs.Restoring.{written_whole, zeros-all}
use Rattle.uas_tasks.proofs.saved.clear.Goals as goal

pub returns : goal.returns
returns c =
    let long = c.fill.ensures.len ∙ c.range_mut.ensures.len ∙ c.len-len.ensures in
    written_whole c.args.buffer.now c.fill.new.self long
    ∙ zeros-all c.fill.new.self (λ k within. c.fill.ensures.clones k 0 (rw (← c.fill.ensures.len) within) refl)
    ∙ ap (λ n. replicate n 0) long
