use Rattle.std.proofs.Common.{◌≡◌, ◌+◌, drop}
use Rattle.uas_tasks.specs.Machine.{stale_from}
use Rattle.uas_tasks.proofs.Tasks.stale.Given as goal

-- none of the tags so far has a stale request
abbrev pub invariant-loop-place : goal.invariant-loop-place
invariant-loop-place l =
    stale_from (l.above + 1) (drop l.above l.self-inside.slots.items) ≡ stale_from (l.place + 1) (drop l.place l.self-inside.slots.items)
