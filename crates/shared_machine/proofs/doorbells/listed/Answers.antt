use Rattle.std.proofs.Common.{◌≡◌, ◌-◌, ◌∙◌, ap, arith, sym, length}
use Rattle.uas_profile.specs.declared.TheConstants.{STREAMS}
use Rattle.marks.specs.Marks.{is_marked}
use Rattle.shared_machine.specs.Doorbells.{doors_among}
use Rattle.shared_machine.proofs.StreamDoors.{doors-all, doors-kept, doors-rung}
use Rattle.shared_machine.proofs.doorbells.listed.Goals as goal
use Rattle.shared_machine.proofs.doorbells.listed.Goals.{then-is_marked, else-is_marked}

pub loop-stream-preserved : goal.loop-stream-preserved
loop-stream-preserved c =
    let stream = c.loop-stream.stream in
    let test = is_marked c.args.streams.now in
    let before = c.loop-stream.list.items in
    let asked : test stream ≡ c.is_marked.result = ap test (omega (arith, c.from.ensures)) ∙ sym c.is_marked.ensures in
    elim c.if-is_marked.branch [
      | then-is_marked w ↦ let is : c.if-is_marked.list.items ≡ w.push.new.self.items = ap (λ l. l.items) w.list-is in record {
        doors = is
            ∙ doors-rung stream c.args.pipe test before w.push.new.self.items w.target.result w.doorbell.result c.loop-stream.auto.stream
            c.loop-stream.invariant.doors (asked ∙ w.if-is_marked.true) w.target.ensures.target w.doorbell.ensures w.push.ensures.items;
        most = omega (arith, c.loop-stream.invariant.most, w.push.ensures.len, ap length is);
      }
      | else-is_marked w ↦ let is : c.if-is_marked.list.items ≡ before = ap (λ l. l.items) w.list-is in record {
        doors = is
            ∙ doors-kept stream c.args.pipe test before c.loop-stream.auto.stream c.loop-stream.invariant.doors
            (asked ∙ w.if-is_marked.false);
        most = omega (arith, c.loop-stream.invariant.most, ap length is);
      }
    ]

pub returns : goal.returns
returns c =
    let last : c.loop-stream.stream - 1 ≡ STREAMS = omega (arith, c.loop-stream-test.false, c.loop-stream.auto.stream-end) in
    let test = is_marked c.args.streams.now in
    c.loop-stream.invariant.doors ∙ ap (λ count. doors_among count c.args.pipe test) last ∙ doors-all c.args.pipe test
