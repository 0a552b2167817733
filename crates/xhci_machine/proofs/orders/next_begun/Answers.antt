use Rattle.std.proofs.Common.{rules, ◌≡◌, ◌≤◌, ◌<◌, true, false, ap, sym, ◌∙◌}
use Rattle.guest_pipes.specs.declared.consumer.Consumer.{Consumer}
use Rattle.guest_pipes.specs.Pipe.{progress_on}
use Rattle.xhci_machine.proofs.Begun.{next_behind, next_here, next_none}
use Rattle.xhci_machine.proofs.orders.next_begun.Goals as goal

pub returns-then-consumer-clause-next : goal.returns-then-consumer-clause-next
returns-then-consumer-clause-next c =
    let below : c.loop-stream.stream < 256 = search rules in
    let begun : (progress_on c.args.pipe.now c.loop-stream.stream).begun ≡ true =
    ap (λ (consumer : Consumer). consumer.progress.begun) (sym c.consumer.ensures) ∙ c.if-consumer.true in
    sym (c.loop-stream.invariant ∙ next_here c.args.pipe.now c.loop-stream.stream below begun)

pub loop-stream-preserved : goal.loop-stream-preserved
loop-stream-preserved c =
    let below : c.loop-stream.stream < 256 = search rules in
    let none : (progress_on c.args.pipe.now c.loop-stream.stream).begun ≡ false =
    ap (λ (consumer : Consumer). consumer.progress.begun) (sym c.consumer.ensures) ∙ c.if-consumer.false in
    c.loop-stream.invariant ∙ next_behind c.args.pipe.now c.loop-stream.stream below none

pub returns-clause-next : goal.returns-clause-next
returns-clause-next c =
    let past : 256 ≤ c.loop-stream.stream = search rules in
    sym (c.loop-stream.invariant ∙ next_none c.args.pipe.now c.loop-stream.stream past)
