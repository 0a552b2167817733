use Rattle.std.proofs.Common.{◌≡◌, None, drop}
use Rattle.line_objects.specs.Objects.{last_mark}
use Rattle.line_objects.proofs.decoded.last_mark.Given as goal

-- no mark stands from here on
abbrev pub invariant-loop-place : goal.invariant-loop-place
invariant-loop-place l = last_mark (drop l.place l.line) ≡ None
