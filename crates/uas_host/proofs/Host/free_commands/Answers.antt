use Rattle.std.proofs.Common.{◌∙◌, ap, sym}
use Rattle.uas_host.specs.Events.{commands_freed}
use Rattle.uas_host.proofs.Freeing.{commands_freed-step, oldest-first}
use Rattle.uas_host.proofs.Host.free_commands.Goals as goal

pub loop-pointer-preserved : goal.loop-pointer-preserved
loop-pointer-preserved c =
    let first = oldest-first c.loop-pointer.lines.command (c.in-Some.pointer, c.in-Some.trb) c.in-Some.ensures.oldest in
    let freed = c.reclaim.ensures 0 c.in-Some.ensures.known in
    ap (commands_freed c.args.self.now) freed
    ∙ (commands_freed-step c.args.self.now c.loop-pointer.lines c.in-Some.trb c.in-Some.ensures.known.0 first (sym c.waits_for.ensures ∙ c.if-waits_for.false)
    ∙ c.loop-pointer.invariant)
