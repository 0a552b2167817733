use Rattle.std.proofs.Common.{false, ◌≡◌, ◌-◌, ◌*◌, ◌≤◌, ◌<◌}
use Rattle.std.specs.Prelude.{replicate, IsTrue}
use Rattle.std.specs.Io.KnownBytes.{Appends}
use Rattle.disk_image.proofs.image.write_zeros.Given as goal

abbrev pub invariant-loop-done : goal.invariant-loop-done
invariant-loop-done g l = record {
  written : Appends (g.I.Sink.written l.fn.image) (g.I.Sink.written l.image) (replicate (512 * l.done) 0);
  bound : l.done ≤ l.blocks;
  quiet : l.shows_progress ≡ false → l.notes ≡ l.fn.notes;
  same : g.I.Sink.can_fail l.image ≡ g.I.Sink.can_fail l.fn.image;
  stays : g.I.Sink.is_there l.image ≡ g.I.Sink.is_there l.fn.image;
  file : g.I.Sink.is_of l.image ≡ g.I.Sink.is_of l.fn.image;
  there : 0 < l.done → IsTrue (g.I.Sink.is_there l.fn.image);
}

abbrev pub decreases-loop-done : goal.decreases-loop-done
decreases-loop-done g l = l.blocks - l.done
