use Rattle.std.proofs.Common.{◌≡◌, ◌<◌, ◌≤◌, None, Some, length, arith, ◌∙◌}
use Rattle.device_bytes.specs.Devices.{attention_loaded}
use Rattle.device_bytes.proofs.Loading.{places_all, places_more, places_none}
use Rattle.device_bytes.proofs.tags.load_attentions.Goals as goal

pub loop-at-preserved : goal.loop-at-preserved
loop-at-preserved c =
    let some : c.load_attention.result ≡ Some tt = c.in_ok-load_attention.was in
    let within : c.loop-at.at < length c.args.tasks.now.units = omega (arith, c.loop-at-test.true, c.unit_count-count.ensures.count) in
    places_more attention_loaded (length c.args.tasks.now.units) c.loop-at.at c.loop-at.tasks c.load_attention.new.tasks c.loop-at.reader
    c.load_attention.new.reader c.load_attention.result within c.load_attention.ensures some
    ∙ c.loop-at.invariant

pub returns-in_err-load_attention : goal.returns-in_err-load_attention
returns-in_err-load_attention c =
    let none : c.load_attention.result ≡ None = cc in
    let stop : c.from_residual.result ≡ None = cc in
    let within : c.loop-at.at < length c.args.tasks.now.units = omega (arith, c.loop-at-test.true, c.unit_count-count.ensures.count) in
    rw (← c.loop-at.invariant)
    (places_none attention_loaded (length c.args.tasks.now.units) c.loop-at.at c.loop-at.tasks c.load_attention.new.tasks c.load_attention.new.tasks
    c.loop-at.reader c.load_attention.new.reader c.load_attention.result c.from_residual.result within c.load_attention.ensures none stop)

pub returns : goal.returns
returns c =
    let past : length c.args.tasks.now.units ≤ c.loop-at.at = omega (arith, c.loop-at-test.false, c.unit_count-count.ensures.count) in
    rw (← c.loop-at.invariant) (places_all attention_loaded (length c.args.tasks.now.units) c.loop-at.at c.loop-at.tasks c.loop-at.reader past)
