use Rattle.std.proofs.Common.{false, not, ◌&&◌, get_or, ap, ◌∙◌}
use Rattle.std.specs.Prelude.{is_some}
use Rattle.uas_target.specs.Device.{task_of}
use Rattle.uas_device_c.specs.DeviceCall.{has_ended}
use Rattle.uas_device_c.proofs.Ended.{mask_same}
use Rattle.uas_device_c.proofs.device.ended.receive_task.Goals as goal

pub returns-clause-ended : goal.returns-clause-ended
returns-clause-ended c =
    let after = c.receive-received.new.self in
    c.ended_since.ensures
    ∙ mask_same (λ tag. get_or c.tags_of-had.result tag false && not (is_some (task_of after tag))) (has_ended c.args.target.now after)
    (λ tag below. ap (λ b. b && not (is_some (task_of after tag))) (c.tags_of-had.ensures tag below))
