use Rattle.std.proofs.Common.{◌≡◌, None, Some, arith, ◌∙◌}
use Rattle.device_bytes.specs.Devices.{tag_loaded}
use Rattle.device_bytes.proofs.Loading.{places_all, places_more, places_none}
use Rattle.device_bytes.proofs.tags.load_tags.Goals as goal

pub returns-in_err-load_tag : goal.returns-in_err-load_tag
returns-in_err-load_tag c =
    let none : c.load_tag.result ≡ None = cc in
    let stop : c.from_residual.result ≡ None = cc in
    rw (← c.loop-at.invariant)
    (places_none tag_loaded 240 c.loop-at.at c.loop-at.tasks c.load_tag.new.tasks c.load_tag.new.tasks c.loop-at.reader c.load_tag.new.reader c.load_tag.result
    c.from_residual.result (omega arith) c.load_tag.ensures none stop)

pub loop-at-preserved : goal.loop-at-preserved
loop-at-preserved c =
    let some : c.load_tag.result ≡ Some tt = c.in_ok-load_tag.was in
    places_more tag_loaded 240 c.loop-at.at c.loop-at.tasks c.load_tag.new.tasks c.loop-at.reader c.load_tag.new.reader c.load_tag.result (omega arith)
    c.load_tag.ensures some
    ∙ c.loop-at.invariant

pub returns : goal.returns
returns c = rw (← c.loop-at.invariant) (places_all tag_loaded 240 c.loop-at.at c.loop-at.tasks c.loop-at.reader (omega arith))
