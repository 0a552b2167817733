use Rattle.std.proofs.Common.{◌≡◌, ℕ, ◌*◌, ◌<◌, false, not, ◌&&◌, get_or, length}
use Rattle.std.specs.Prelude.{is_some}
use Rattle.uas_target.specs.Device.{task_of}
use Rattle.uas_device_c.specs.DeviceCall.{byte_from}
use Rattle.uas_device_c.proofs.device.ended.ended_since.Given as goal

-- the bytes so far
abbrev pub invariant-loop-place : goal.invariant-loop-place
invariant-loop-place l =
    (length l.ended ≡ 32)
    × ((place : ℕ) → place < l.place
    → get_or l.ended place 0 ≡ byte_from (λ tag. get_or l.had tag false && not (is_some (task_of l.target tag))) (8 * place))
