-- The headline from the first blocks: a replay from new units, as each client's own solo machine sees it.
use Rattle.std.specs.Prelude.{◌≡◌, ℕ, List, Some, None, slice_get}
use Rattle.block_unit.specs.BlockMaps.{BlockMaps}
use Rattle.solo_model.specs.Solo.{solo_run, opening as solo_opening}
use Rattle.shared_machine.specs.declared.Step.{Step}
use Rattle.shared_machine.specs.Shared.{opening}
use Rattle.shared_machine.specs.Replay.{replay}
use Rattle.isolation.specs.Isolation.{nobody, own_labels, own_replies, own_state}

-- On a new bus a client's part is a new solo machine on its unit.
abbrev pub OpensAsSolo : Type 0
OpensAsSolo =
    (tags : ℕ) (units : List BlockMaps) (client : ℕ) (unit : BlockMaps)
    → slice_get units client ≡ Some unit
    → own_state (opening tags units) client ≡ solo_opening tags unit

-- A client without a unit has nothing.
abbrev pub OpensAsNobody : Type 0
OpensAsNobody =
    (tags : ℕ) (units : List BlockMaps) (client : ℕ) → slice_get units client ≡ None → own_state (opening tags units) client ≡ nobody tags

-- The headline on first blocks: from a new solo machine on the client's unit, the client's own labels are a run, with the
-- client's own replies, to its own state at the end.
abbrev pub ReplayIsSoloRun : Type 0
ReplayIsSoloRun =
    (tags : ℕ) (units : List BlockMaps) (steps : List Step) (client : ℕ) (unit : BlockMaps)
    → slice_get units client ≡ Some unit
    → solo_run (solo_opening tags unit) (own_labels tags client steps (replay tags units steps).1)
    ≡ Some (own_state (replay tags units steps).0 client, own_replies tags client (replay tags units steps).1)

-- Two clients, each in a world of its own, that have the same first blocks and do alike are answered alike and end alike,
-- however many clients their worlds have and whatever these do.
abbrev pub FirstBlocksDecide : Type 0
FirstBlocksDecide =
    (tags : ℕ) (here there : List BlockMaps) (first second : List Step) (a b : ℕ) (unit : BlockMaps)
    → slice_get here a ≡ Some unit
    → slice_get there b ≡ Some unit
    → own_labels tags a first (replay tags here first).1 ≡ own_labels tags b second (replay tags there second).1
    → (own_replies tags a (replay tags here first).1 ≡ own_replies tags b (replay tags there second).1)
    × (own_state (replay tags here first).0 a ≡ own_state (replay tags there second).0 b)
