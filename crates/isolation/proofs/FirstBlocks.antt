-- A new bus is a new solo machine to each of its clients.
use Rattle.std.proofs.Common.{◌≡◌, ℕ, zero, suc, List, [], ◌∷◌, Option, Some, None, refl, ap, sym, ◌∙◌}
use Rattle.std.specs.Prelude.{slice_get}
use Rattle.std.specs.Option.{option_map_or}
use Rattle.block_unit.specs.BlockMaps.{BlockMaps}
use Rattle.solo_model.specs.Solo.{SoloState, solo_run, opening as solo_opening}
use Rattle.shared_machine.specs.declared.Step.{Step}
use Rattle.shared_machine.specs.Shared.{opening, new_parts}
use Rattle.shared_machine.specs.Replay.{replay}
use Rattle.isolation.specs.Isolation.{nobody, solo_of, own_labels, own_replies, own_state}
use Rattle.isolation.proofs.WholeRuns.{replayed-isolated}
use Rattle.isolation.proofs.Worlds.{replayed-agree}

-- each new part is a new solo machine, wherever the numbers begin
pub solo_of-new_parts : (tags number whose : ℕ) (units : List BlockMaps) (client : ℕ) →
    option_map_or (solo_of tags whose) (slice_get (new_parts number units) client) (nobody tags)
    ≡ option_map_or (solo_opening tags) (slice_get units client) (nobody tags)
solo_of-new_parts tags number whose [] client = refl
solo_of-new_parts tags number whose (unit ∷ units) zero = refl
solo_of-new_parts tags number whose (unit ∷ units) (suc client) = solo_of-new_parts tags (suc number) whose units client

pub opening-solo : (tags : ℕ) (units : List BlockMaps) (client : ℕ) (unit : BlockMaps) → slice_get units client ≡ Some unit →
    own_state (opening tags units) client ≡ solo_opening tags unit
opening-solo tags units client unit is =
    solo_of-new_parts tags 0 client units client ∙ ap (λ (o : Option BlockMaps). option_map_or (solo_opening tags) o (nobody tags)) is

pub opening-nobody : (tags : ℕ) (units : List BlockMaps) (client : ℕ) → slice_get units client ≡ None → own_state (opening tags units) client ≡ nobody tags
opening-nobody tags units client is =
    solo_of-new_parts tags 0 client units client ∙ ap (λ (o : Option BlockMaps). option_map_or (solo_opening tags) o (nobody tags)) is

-- a replay is to each client a run of a new solo machine
pub replay-solo : (tags : ℕ) (units : List BlockMaps) (steps : List Step) (client : ℕ) (unit : BlockMaps) → slice_get units client ≡ Some unit →
    solo_run (solo_opening tags unit) (own_labels tags client steps (replay tags units steps).1)
    ≡ Some (own_state (replay tags units steps).0 client, own_replies tags client (replay tags units steps).1)
replay-solo tags units steps client unit is =
    ap (λ (state : SoloState). solo_run state (own_labels tags client steps (replay tags units steps).1)) (sym (opening-solo tags units client unit is))
    ∙ replayed-isolated (opening tags units) steps client

-- who has the same first blocks and does alike is answered alike and ends alike
pub replay-agree : (tags : ℕ) (here there : List BlockMaps) (first second : List Step) (a b : ℕ) (unit : BlockMaps) →
    slice_get here a ≡ Some unit → slice_get there b ≡ Some unit →
    own_labels tags a first (replay tags here first).1 ≡ own_labels tags b second (replay tags there second).1 →
    (own_replies tags a (replay tags here first).1 ≡ own_replies tags b (replay tags there second).1)
    × (own_state (replay tags here first).0 a ≡ own_state (replay tags there second).0 b)
replay-agree tags here there first second a b unit in_here in_there does =
    replayed-agree (opening tags here) (opening tags there) first second a b
    (opening-solo tags here a unit in_here ∙ sym (opening-solo tags there b unit in_there)) does
