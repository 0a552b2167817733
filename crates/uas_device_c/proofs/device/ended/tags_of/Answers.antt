use Rattle.std.proofs.Common.{false, length, length-set, arith, ◌<◌, ◌∙◌}
use Rattle.std.specs.Prelude.{is_some}
use Rattle.uas_target.specs.Device.{task_of}
use Rattle.uas_device_c.proofs.Ended.{filled_more}
use Rattle.uas_device_c.proofs.device.ended.tags_of.Goals as goal

pub loop-tag-preserved : goal.loop-tag-preserved
loop-tag-preserved c =
    let within : c.loop-tag.tag < length c.loop-tag.tags = omega (arith, c.loop-tag.invariant.0) in (
      length-set c.loop-tag.tags c.loop-tag.tag c.has_task.result ∙ c.loop-tag.invariant.0,
      filled_more (λ tag. is_some (task_of c.args.target.now tag)) c.loop-tag.tags c.loop-tag.tag false c.has_task.result within c.has_task.ensures
          c.loop-tag.invariant.1,
    )

pub returns : goal.returns
returns c = λ tag below. c.loop-tag.invariant.1 tag (omega (arith, below))
