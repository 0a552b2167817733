-- What is so of every matched state is so after every replay.
use Rattle.std.proofs.Common.{arith, List, ℕ}
use Rattle.uas_profile.specs.Tags.{AreTags}
use Rattle.block_unit.specs.BlockMaps.{BlockMaps}
use Rattle.shared_machine.specs.declared.Step.{Step}
use Rattle.shared_machine.specs.Shared.{opening}
use Rattle.shared_machine.specs.Replay.{replay}
use Rattle.machine_invariant.specs.Matched.{IsMatched}
use Rattle.machine_invariant.proofs.MatchedOpening.{opening-matched}
use Rattle.machine_invariant.proofs.MatchedSteps.{replayed-matched}
use Rattle.machine_invariant.proofs.MatchedBounds.{matched-once, matched-room}
use Rattle.machine_invariant.proofs.MatchedNext.{matched-no_stray, matched-pending, matched-counted, matched-data_trbs, replay-greatest}
use Rattle.machine_invariant.proofs.queue_laws.replays_match.Goals as goal

replay-matched : (tags : ℕ) (units : List BlockMaps) (steps : List Step) → AreTags tags → IsMatched (replay tags units steps).0
replay-matched tags units steps are = replayed-matched (opening tags units) steps (opening-matched tags units are)

pub returns-clause-matched : goal.returns-clause-matched
returns-clause-matched c = replay-matched

pub returns-clause-once : goal.returns-clause-once
returns-clause-once c tags units steps are = matched-once (replay tags units steps).0 (replay-matched tags units steps are)

pub returns-clause-clients : goal.returns-clause-clients
returns-clause-clients c tags units steps are = matched-room (replay tags units steps).0 (replay-matched tags units steps are)

pub returns-clause-rings : goal.returns-clause-rings
returns-clause-rings c tags units steps are few =
    let room = matched-room (replay tags units steps).0 (replay-matched tags units steps are) in
    record { pipe = omega (arith, room.pipe, replay-greatest tags units steps, few); events = omega (arith, room.events, replay-greatest tags units steps, few) }

pub returns-clause-stray : goal.returns-clause-stray
returns-clause-stray c tags units steps are = matched-no_stray (replay tags units steps).0 (replay-matched tags units steps are)

pub returns-clause-data_tds : goal.returns-clause-data_tds
returns-clause-data_tds c tags units steps are = matched-data_trbs (replay tags units steps).0 (replay-matched tags units steps are)

pub returns-clause-pending : goal.returns-clause-pending
returns-clause-pending c tags units steps are = matched-pending (replay tags units steps).0 (replay-matched tags units steps are)

pub returns-clause-taken : goal.returns-clause-taken
returns-clause-taken c tags units steps are = matched-counted (replay tags units steps).0 (replay-matched tags units steps are)
