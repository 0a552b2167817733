use Rattle.std.proofs.Common.{◌≡◌, ◌-◌, ◌≤◌, drop, length, take}
use Rattle.std.specs.Prelude.{IsTrue}
use Rattle.file_disk.specs.Device.{IsReady}
use Rattle.file_disk.proofs.disk.read_all.Given as goal

abbrev pub invariant-loop-done : goal.invariant-loop-done
invariant-loop-done g l = record {
  within : l.done ≤ length l.into;
  ready : IsReady l.device.blocks l.device.tasks;
  blocks : l.device.blocks ≡ l.fn.device.blocks;
  front : IsTrue (g.B.Blocks.tells l.file) → take l.done l.into ≡ take l.done (drop l.offset (g.B.Blocks.holds l.file));
}

abbrev pub decreases-loop-done : goal.decreases-loop-done
decreases-loop-done g l = length l.initial.into - l.done
