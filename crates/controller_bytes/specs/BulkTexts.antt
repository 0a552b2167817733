-- The transport as it was read, as what it is of.
use Rattle.std.specs.Prelude.{◌≤◌, length}
use Rattle.guest_bulk.specs.declared.bulk.Bulk.{Bulk}
use Rattle.controller_bytes.specs.declared.bulk.BulkText.{BulkText}

abbrev pub bulk_of : BulkText → Bulk
bulk_of t = record { stage = t.stage; chunk = t.chunk.now; taken = t.taken.now; gathers = t.gathers; kept = t.kept }

-- what was read has room in it
pub record FitsBulk (t : BulkText) : Type 0 where
  pub chunk : length t.chunk.now ≤ 4096
  pub taken : length t.taken.now ≤ 4096
