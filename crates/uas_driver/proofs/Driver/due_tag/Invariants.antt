use Rattle.std.proofs.Common.{◌≡◌, ℕ, ◌<◌, ◌≤◌, false}
use Rattle.uas_driver.specs.Endings.{is_due}
use Rattle.uas_driver.proofs.Driver.due_tag.Given as goal

-- of the tags so far none is due
abbrev pub invariant-loop-tag : goal.invariant-loop-tag
invariant-loop-tag l = (other : ℕ) → 1 ≤ other → other < l.tag → is_due l.self l.pipe other ≡ false
