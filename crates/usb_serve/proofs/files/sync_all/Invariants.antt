use Rattle.std.proofs.Common.{◌≡◌, ◌-◌, ◌<◌, ℕ, length, map}
use Rattle.std.specs.Prelude.{IfSome, IsTrue, OnOk, slice_get}
use Rattle.usb_serve.specs.Files.{filed}
use Rattle.usb_serve.proofs.Filing.{IsSyncedTo}
use Rattle.usb_serve.proofs.files.sync_all.Given as goal

-- the files so far were synced, and where none failed they are safe
abbrev pub invariant-loop-number : goal.invariant-loop-number
invariant-loop-number g l = record {
  len : length l.units ≡ length l.fn.units;
  synced : IsSyncedTo l.number l.first
      (map (filed g.B.Blocks.tells g.B.Blocks.can_fail g.B.Blocks.holds g.B.Blocks.synced g.B.Blocks.is_spoiled) l.fn.units)
      (map (filed g.B.Blocks.tells g.B.Blocks.can_fail g.B.Blocks.holds g.B.Blocks.synced g.B.Blocks.is_spoiled) l.units);
  safe : OnOk l.first ((k : ℕ) → k < l.number → IfSome (slice_get l.units k) (λ unit.
      IsTrue (g.B.Blocks.tells unit.file) → g.B.Blocks.synced unit.file ≡ g.B.Blocks.holds unit.file));
}

abbrev pub decreases-loop-number : goal.decreases-loop-number
decreases-loop-number g l = length l.initial.units - l.number
