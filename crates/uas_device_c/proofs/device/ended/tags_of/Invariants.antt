use Rattle.std.proofs.Common.{◌≡◌, ℕ, ◌<◌, false, get_or, length}
use Rattle.std.specs.Prelude.{is_some}
use Rattle.uas_target.specs.Device.{task_of}
use Rattle.uas_device_c.proofs.device.ended.tags_of.Given as goal

-- the tags so far
abbrev pub invariant-loop-tag : goal.invariant-loop-tag
invariant-loop-tag l =
    (length l.tags ≡ 256) × ((tag : ℕ) → tag < l.tag → get_or l.tags tag false ≡ is_some (task_of l.target tag))
