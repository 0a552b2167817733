use Rattle.std.proofs.Common.{sym, ◌∙◌}
use Rattle.device_bytes.proofs.Places.{put_as}
use Rattle.device_bytes.proofs.tags.put_tag.Goals as goal

pub returns-then-not-is_fresh_tag : goal.returns-then-not-is_fresh_tag
returns-then-not-is_fresh_tag c =
    put_as c.args.tasks.now c.restore_tag.new.self c.args.at (c.args.state, c.args.bytes.now) c.restore_tag.result c.is_ok.result
    (sym c.is_fresh_tag.ensures ∙ c.if-not-is_fresh_tag.true) c.restore_tag.ensures c.is_ok.ensures.value
