-- A bus and its log as they begin.
use Rattle.std.proofs.Common.{◌≡◌, ℕ, zero, suc, ◌*◌, ◌<◌, ◌≤◌, ◌^◌, List, [], ◌∷◌, length, map, refl, arith, ap, sym, subst, ◌∙◌}
use Rattle.std.specs.Prelude.{replicate, slice_index}
use Rattle.block_unit.specs.BlockMaps.{BlockMaps}
use Rattle.uas_profile.specs.declared.TheConstants.{MAX_CLIENTS, STREAMS}
use Rattle.uas_profile.specs.Tags.{AreTags}
use Rattle.shared_machine.specs.Shared.{opening}
use Rattle.uas_log.specs.declared.FirstUnit.{FirstUnit}
use Rattle.uas_log.specs.Booking.{empty_log, first_maps}
use Rattle.uas_log.proofs.Replays.{empty_log-true}
use Rattle.uas_work.specs.Booked.{IsBooked}

length_map : {A B : Type 0} (f : A → B) (xs : List A) → length (map f xs) ≡ length xs
length_map f [] = refl
length_map f (x ∷ xs) = ap suc (length_map f xs)

-- the bus of these units is what the log of their first units begins with
pub empty_log-booked : (tags : ℕ) (units : List BlockMaps) (firsts : List FirstUnit) (limit : ℕ) → AreTags tags → map first_maps firsts ≡ units
    → 1 ≤ length units → length units ≤ MAX_CLIENTS → length units * tags ≤ STREAMS → limit < 2 ^ 32
    → IsBooked (record { bus = opening tags units; log = empty_log tags firsts; limit = limit })
empty_log-booked tags units firsts limit are is some most streams small =
    let long : length units ≡ length firsts = sym (ap length is) ∙ length_map first_maps firsts in
    record {
      tags = refl;
      bus = ap (opening tags) is;
      log = empty_log-true tags firsts are (omega arith) (omega arith) (subst (λ n. n * tags ≤ STREAMS) long streams);
      within = omega arith;
      limit = small;
    }

-- nobody submitted anything
pub zeros-index : (count client : ℕ) → slice_index (replicate count 0) client ≡ 0
zeros-index zero client = refl
zeros-index (suc count) zero = refl
zeros-index (suc count) (suc client) = zeros-index count client
