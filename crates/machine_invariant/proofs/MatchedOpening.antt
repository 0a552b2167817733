-- Nothing waits at the start.
use Rattle.std.proofs.Common.{◌≡◌, ℕ, zero, suc, true, List, [], ◌∷◌, None, refl, ap, sym, ◌∙◌}
use Rattle.std.proofs.lemmas.Bool.{false≢true}
use Rattle.uas_profile.specs.declared.TheConstants.{MOST_TAGS}
use Rattle.uas_profile.specs.Tags.{AreTags}
use Rattle.block_unit.specs.BlockMaps.{BlockMaps}
use Rattle.uas_profile.specs.declared.Pipe.{Pipe}
use Rattle.uas_profile.specs.declared.Pipe.TheVariants.{Command, Status, DataIn, DataOut}
use Rattle.shared_machine.specs.Shared.{new_parts, opening, pipe_of}
use Rattle.machine_invariant.specs.Matched.{under, times_ready, HaveSlots, IsMatched}
use Rattle.machine_invariant.proofs.MatchedFlows.{left_of}
use Rattle.machine_invariant.proofs.Ordered.{opening-ordered, none-held}

slots-new : (number : ℕ) (units : List BlockMaps) → HaveSlots (new_parts number units)
slots-new number [] client = tt
slots-new number (unit ∷ units) zero = refl
slots-new number (unit ∷ units) (suc client) = slots-new (suc number) units client

under-new : (number : ℕ) (units : List BlockMaps) (client slot : ℕ) → under (new_parts number units) (record { client = client; slot = slot }) ≡ None
under-new number [] client slot = refl
under-new number (unit ∷ units) zero slot = none-held MOST_TAGS slot
under-new number (unit ∷ units) (suc client) slot = under-new (suc number) units client slot

ready-new : (number : ℕ) (units : List BlockMaps) (client slot : ℕ) → times_ready (new_parts number units) (record { client = client; slot = slot }) ≡ 0
ready-new number [] client slot = refl
ready-new number (unit ∷ units) zero slot = refl
ready-new number (unit ∷ units) (suc client) slot = ready-new (suc number) units client slot

-- each pipe runs
new-runs : (tags : ℕ) (units : List BlockMaps) (pipe : Pipe) → (pipe_of (opening tags units) pipe).runs ≡ true
new-runs tags units Command = refl
new-runs tags units Status = refl
new-runs tags units DataIn = refl
new-runs tags units DataOut = refl

pub opening-matched : (tags : ℕ) (units : List BlockMaps) → AreTags tags → IsMatched (opening tags units)
opening-matched tags units are = record {
  tags = are;
  slots = slots-new 0 units;
  places = λ place. rw (under-new 0 units place.client place.slot)
      (record { messages = refl; carried = refl; moved = refl; sent = refl; ready = ready-new 0 units place.client place.slot; sound = tt });
  retired = refl;
  retiring = tt;
  flows = λ pipe place. record {
    runs = λ few free has. new-runs tags units pipe;
    left = λ before left. absurd (false≢true (sym (ap (left_of pipe) (under-new 0 units place.client place.slot)) ∙ left));
  };
  ordered = opening-ordered tags units;
}
