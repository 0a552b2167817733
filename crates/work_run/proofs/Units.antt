-- The units of a run are as new, and as many as a log's text may have.
use Rattle.std.proofs.Common.{ℕ, [], length, refl, arith}
use Rattle.std.specs.Prelude.{All}
use Rattle.std.proofs.Math.Nat.{le-min}
use Rattle.std.proofs.lemmas.Nat.{le-div}
use Rattle.byte_io.specs.Disks.{AreClients}
use Rattle.log_keeper.specs.Entries.{AreUnits}
use Rattle.log_text.specs.Kept.{FitsText}
use Rattle.uas_log.specs.declared.Log.{Log}
use Rattle.uas_profile.specs.declared.TheConstants.{STREAMS}
use Rattle.std.proofs.lemmas.List.Elements.{All-replicate}
use Rattle.block_unit.specs.BlockMaps.{fresh}
use Rattle.uas_work.specs.Booked.{IsNew}
use Rattle.work_run.specs.WorkEnds.{work_units}

fresh_new : IsNew (fresh 64 [])
unfolding fresh
fresh_new = record { medium = refl; attention = refl }

pub units_new : (clients : ℕ) → All IsNew (work_units clients)
units_new clients = All-replicate IsNew clients (fresh 64 []) fresh_new

pub units_fit : (log : Log) → FitsText log → AreClients log.tags (length log.units) → AreUnits log.tags log.units
units_fit log fits (tags, (some, (few, all))) =
    (tags, some, le-min few (le-div (length log.units) STREAMS log.tags (omega (arith, tags.least)) all), fits.units_fit)
