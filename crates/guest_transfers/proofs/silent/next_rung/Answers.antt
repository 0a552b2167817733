use Rattle.std.proofs.Common.{rules, ◌≡◌, ◌≤◌, ◌<◌, true, false, ap, sym, ◌∙◌}
use Rattle.guest_pipes.specs.declared.consumer.Consumer.{Consumer}
use Rattle.guest_pipes.specs.Pipe.{rung_on}
use Rattle.guest_transfers.proofs.Rung.{rung_behind, rung_here, rung_none}
use Rattle.guest_transfers.proofs.silent.next_rung.Goals as goal

pub returns-then-consumer-clause-next : goal.returns-then-consumer-clause-next
returns-then-consumer-clause-next c =
    let below : c.loop-stream.stream < 256 = search rules in
    let rung : rung_on c.args.pipe.now c.loop-stream.stream ≡ true = ap (λ (consumer : Consumer). consumer.rung) (sym c.consumer.ensures) ∙ c.if-consumer.true in
    sym (c.loop-stream.invariant ∙ rung_here c.args.pipe.now c.loop-stream.stream below rung)

pub loop-stream-preserved : goal.loop-stream-preserved
loop-stream-preserved c =
    let below : c.loop-stream.stream < 256 = search rules in
    let rung : rung_on c.args.pipe.now c.loop-stream.stream ≡ false = ap (λ (consumer : Consumer). consumer.rung) (sym c.consumer.ensures) ∙ c.if-consumer.false in
    c.loop-stream.invariant ∙ rung_behind c.args.pipe.now c.loop-stream.stream below rung

pub returns-clause-next : goal.returns-clause-next
returns-clause-next c =
    let past : 256 ≤ c.loop-stream.stream = search rules in
    sym (c.loop-stream.invariant ∙ rung_none c.args.pipe.now c.loop-stream.stream past)
