use Rattle.std.proofs.Common.{◌≡◌, ◌-◌, ◌≤◌, length, take}
use Rattle.std.specs.Prelude.{IsTrue}
use Rattle.file_disk.specs.Written.{written_over}
use Rattle.file_disk.specs.Device.{IsReady}
use Rattle.file_disk.proofs.disk.write_all.Given as goal

abbrev pub invariant-loop-done : goal.invariant-loop-done
invariant-loop-done g l = record {
  within : l.done ≤ length l.bytes;
  ready : IsReady l.device.blocks l.device.tasks;
  blocks : l.device.blocks ≡ l.fn.device.blocks;
  front : IsTrue (g.B.Blocks.tells l.fn.file) → g.B.Blocks.holds l.file ≡ written_over (g.B.Blocks.holds l.fn.file) l.offset (take l.done l.bytes);
  len : IsTrue (g.B.Blocks.tells l.fn.file) → length (g.B.Blocks.holds l.file) ≡ length (g.B.Blocks.holds l.fn.file);
  safe : g.B.Blocks.synced l.file ≡ g.B.Blocks.synced l.fn.file;
  told : g.B.Blocks.tells l.file ≡ g.B.Blocks.tells l.fn.file;
  same : g.B.Blocks.can_fail l.file ≡ g.B.Blocks.can_fail l.fn.file;
  spoiled : g.B.Blocks.is_spoiled l.file ≡ g.B.Blocks.is_spoiled l.fn.file;
}

abbrev pub decreases-loop-done : goal.decreases-loop-done
decreases-loop-done g l = length l.bytes - l.done
