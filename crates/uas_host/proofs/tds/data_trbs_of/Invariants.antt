use Rattle.std.proofs.Common.{◌≡◌, ◌+◌, ◌-◌, ◌*◌, ◌++◌, take, length}
use Rattle.uas_profile.specs.declared.TheConstants.{CHUNK_BYTES, MOST_DATA_TRBS}
use Rattle.uas_host.specs.Tds.{data_td, data_trbs}
use Rattle.uas_host.proofs.tds.data_trbs_of.Given as goal

-- the TRBs so far, and those that are still to come, are the TD
abbrev pub invariant-loop-k : goal.invariant-loop-k
invariant-loop-k l = record {
  places : length l.trbs ≡ MOST_DATA_TRBS;
  td : take l.k l.trbs ++ data_trbs (l.count - l.k) (l.window + CHUNK_BYTES * l.k) (l.bytes - CHUNK_BYTES * l.k) ≡ data_td l.tag l.bytes;
}
