use Rattle.std.proofs.Common.{◌*◌, false, not, ◌&&◌, get_or, length, length-set, arith, ◌<◌, ◌∙◌}
use Rattle.std.specs.Prelude.{is_some}
use Rattle.uas_target.specs.Device.{task_of}
use Rattle.uas_device_c.specs.DeviceCall.{byte_from}
use Rattle.uas_device_c.proofs.Ended.{filled_more, mask_filled}
use Rattle.uas_device_c.proofs.device.ended.ended_since.Goals as goal

pub loop-place-preserved : goal.loop-place-preserved
loop-place-preserved c =
    let within : c.loop-place.place < length c.loop-place.ended = omega (arith, c.loop-place.invariant.0) in (
      length-set c.loop-place.ended c.loop-place.place c.ended_byte.result ∙ c.loop-place.invariant.0,
      filled_more (λ place. byte_from (λ tag. get_or c.args.had.now tag false && not (is_some (task_of c.args.target.now tag))) (8 * place))
          c.loop-place.ended c.loop-place.place 0 c.ended_byte.result within c.ended_byte.ensures c.loop-place.invariant.1,
    )

pub returns : goal.returns
returns c =
    mask_filled (λ tag. get_or c.args.had.now tag false && not (is_some (task_of c.args.target.now tag))) c.loop-place.ended c.loop-place.invariant.0
    (λ place below. c.loop-place.invariant.1 place (omega (arith, below)))
