-- No event that isn't freed is written over, turn by turn.
use Rattle.std.proofs.Common.{◌≡◌, ℕ, ◌+◌, ◌*◌, ◌<◌, List, [], ◌∷◌, Option, Some, None, refl, sym, ap, subst, ◌∙◌, arith, inl, inr}
use Rattle.std.specs.List.{AllByRecursion}
use Rattle.guest_memory.specs.Bytes.{Memory, bytes_from}
use Rattle.guest_memory.specs.Ranges.{out_behind, same_from}
use Rattle.guest_memory.specs.declared.rings.context.Home.TheVariants.{Endpoint}
use Rattle.guest_memory.specs.declared.rings.wanting.Range.{Range}
use Rattle.guest_memory.specs.rings.Events.{EventEnd, free_by}
use Rattle.guest_pipes.specs.Pipe.{home_of}
use Rattle.guest_pipes.specs.declared.acted.Acted.{Acted}
use Rattle.guest_tags.specs.declared.device.Received.{Received}
use Rattle.guest_tags.specs.Devices.{Kind}
use Rattle.guest_transfers.specs.State.{TransfersWorld}
use Rattle.guest_transfers.specs.Steps.{command_kept, command_world, due_by, in_world, out_world, status_world}
use Rattle.td_laws.specs.Places.{AreApart, IsOutside, nowhere}
use Rattle.td_laws.specs.NothingElse.{HasOneMoreAtMost}
use Rattle.td_laws.specs.Turns.{Turn, DataIn, DataOut, Status, Command, Rings, Frees, all_turned, turned, written_by}
use Rattle.td_laws.specs.Unfreed.{IsFreedTo, IsUnfreed, Between, ToTheEnd, FromTheStart, place_range}
use Rattle.td_laws.specs.NotOvertaken.{IsSpared, TurnsLeaveElse, UnfreedStand}
use Rattle.td_laws.proofs.DataInElse.{data_in_leaves}
use Rattle.td_laws.proofs.Held.{enqueued_base, next_is_freed, posts_keep_unfreed}
use Rattle.td_laws.proofs.OutElse.{command_leaves, data_out_leaves}
use Rattle.td_laws.proofs.StatusElse.{status_leaves}
use Rattle.guest_out.specs.Command.{command_after, stepped_command}
use Rattle.guest_out.specs.Worlds.{OutWorld}

outside_nowhere : (a : ℕ) → IsOutside a nowhere
outside_nowhere a = out_behind 0 0 a (omega arith)

all_outside : (one : Range) (ranges : List Range) → AllByRecursion (AreApart one) ranges → (k : ℕ) → k < one.count → AllByRecursion (IsOutside (one.at + k)) ranges
all_outside one [] apart k below = tt
all_outside one (range ∷ ranges) apart k below = (apart.0 k below, all_outside one ranges apart.1 k below)

-- the driver's dequeue pointer moves
unfreed_still : (ring : EventEnd) (free dequeue place : ℕ) → IsUnfreed ring dequeue place → IsUnfreed (record ring { free = free }) dequeue place
unfreed_still ring free dequeue place (Between from below) = Between from below
unfreed_still ring free dequeue place (ToTheEnd before from below) = ToTheEnd before from below
unfreed_still ring free dequeue place (FromTheStart before below) = FromTheStart before below

freed_counts : (ring : EventEnd) (dequeue : ℕ) → free_by ring dequeue ≡ free_by (record ring { free = free_by ring dequeue }) dequeue
unfolding free_by
freed_counts ring dequeue = refl

-- what holds of the event of a place once a turn was taken
record Stands (place : ℕ) (old new : EventEnd) : Type 0 where
  dequeue : ℕ
  freed : IsFreedTo new dequeue
  unfreed : IsUnfreed new dequeue place
  base : new.base ≡ old.base

still_stands : (old new : EventEnd) (dequeue place : ℕ) → HasOneMoreAtMost old new → IsFreedTo old dequeue → IsUnfreed old dequeue place → Stands place old new
still_stands old new dequeue place (inl same) freed unfreed =
    subst (λ (ring : EventEnd). Stands place old ring) (sym same) (record { dequeue = dequeue; freed = freed; unfreed = unfreed; base = refl })
still_stands old new dequeue place (inr more) freed unfreed =
    let posted = posts_keep_unfreed old more.0 dequeue freed more.1 in
    subst (λ (ring : EventEnd). Stands place old ring) (sym more.2)
    (record { dequeue = dequeue; freed = posted.counts; unfreed = posted.others place unfreed; base = enqueued_base old more.0 })

module _ {D : Type 0} (kind : Kind D) where
  kept_memory : (w : TransfersWorld D) (done : OutWorld D) (answer : Option (Acted × Received)) → (command_kept kind w done answer).0.memory ≡ done.ring.memory
  kept_memory w done None = refl
  kept_memory w done (Some answer) = refl

  kept_events : (w : TransfersWorld D) (done : OutWorld D) (answer : Option (Acted × Received)) → (command_kept kind w done answer).0.events ≡ done.ring.events
  kept_events w done None = refl
  kept_events w done (Some answer) = refl

  abbrev command_done_by : TransfersWorld D → OutWorld D × Option (Acted × Received)
  command_done_by w = command_after kind (command_world kind w) (stepped_command kind (command_world kind w) (Endpoint w.transfers.home))

  pub turns_leave_else : TurnsLeaveElse kind
  turns_leave_else w (DataIn tag) a all =
      (data_in_leaves kind (in_world kind w tag) tag (home_of w.transfers.data_in tag)).others a all.1.0 all.0 all.1.1.0
  turns_leave_else w (DataOut tag) a all =
      (data_out_leaves kind (out_world kind w tag) tag (home_of w.transfers.data_out tag)).others a (outside_nowhere a) all.0 all.1.0
  turns_leave_else w (Status tag) a all =
      (status_leaves kind (status_world kind w tag) tag (due_by w.transfers tag (kind.phase w.device tag)) (home_of w.transfers.status tag)).others a all.1.0 all.0 all.1.1.0
  turns_leave_else w Command a all =
      let done = command_done_by w in
      ap (λ (m : Memory). m a) (kept_memory w done.0 done.1)
      ∙ (command_leaves kind (command_world kind w) (Endpoint w.transfers.home)).others a (outside_nowhere a) all.0 all.1.0
  turns_leave_else w (Rings endpoint stream) a all = refl
  turns_leave_else w (Frees place) a all = refl

  -- what was kept of the event of a place
  record IsKept (place : ℕ) (w v : TransfersWorld D) : Type 0 where
    stands : Stands place w.events v.events
    bytes : bytes_from v.memory (place_range w.events place).at 16 ≡ bytes_from w.memory (place_range w.events place).at 16

  by_step : (w : TransfersWorld D) (turn : Turn) (dequeue place : ℕ) → HasOneMoreAtMost w.events (turned kind w turn).events
      → IsFreedTo w.events dequeue → IsUnfreed w.events dequeue place → AllByRecursion (AreApart (place_range w.events place)) (written_by kind w turn)
      → IsKept place w (turned kind w turn)
  by_step w turn dequeue place more freed unfreed apart =
      let range = place_range w.events place in
      record {
        stands = still_stands w.events (turned kind w turn).events dequeue place more freed unfreed;
        bytes = same_from (turned kind w turn).memory w.memory range.at 16 (λ k below.
            turns_leave_else w turn (range.at + k) (next_is_freed w.events dequeue place unfreed k below, all_outside range (written_by kind w turn) apart k below));
      }

  kept : (w : TransfersWorld D) (turn : Turn) (dequeue place : ℕ) → IsFreedTo w.events dequeue → IsUnfreed w.events dequeue place
      → IsSpared kind place w turn → IsKept place w (turned kind w turn)
  kept w (DataIn tag) dequeue place freed unfreed apart =
      by_step w (DataIn tag) dequeue place (data_in_leaves kind (in_world kind w tag) tag (home_of w.transfers.data_in tag)).events freed unfreed apart
  kept w (DataOut tag) dequeue place freed unfreed apart =
      by_step w (DataOut tag) dequeue place (data_out_leaves kind (out_world kind w tag) tag (home_of w.transfers.data_out tag)).events freed unfreed apart
  kept w (Status tag) dequeue place freed unfreed apart =
      let due = due_by w.transfers tag (kind.phase w.device tag) in
      by_step w (Status tag) dequeue place (status_leaves kind (status_world kind w tag) tag due (home_of w.transfers.status tag)).events freed unfreed apart
  kept w Command dequeue place freed unfreed apart =
      let done = command_done_by w in
      let more = (command_leaves kind (command_world kind w) (Endpoint w.transfers.home)).events in
      by_step w Command dequeue place (subst (λ (ring : EventEnd). HasOneMoreAtMost w.events ring) (sym (kept_events w done.0 done.1)) more) freed unfreed apart
  kept w (Rings endpoint stream) dequeue place freed unfreed apart = by_step w (Rings endpoint stream) dequeue place (inl refl) freed unfreed apart
  kept w (Frees to) dequeue place freed unfreed spared = record {
    stands = record {
      dequeue = to;
      freed = record { enqueue_inside = freed.enqueue_inside; dequeue_inside = spared.0; counted = freed_counts w.events to };
      unfreed = unfreed_still w.events (free_by w.events to) to place spared.1;
      base = refl;
    };
    bytes = refl;
  }

  pub unfreed_stand : UnfreedStand kind
  unfreed_stand w [] dequeue place freed unfreed spared = refl
  unfreed_stand w (turn ∷ turns) dequeue place freed unfreed spared =
      let v = turned kind w turn in
      let one = kept w turn dequeue place freed unfreed spared.0 in
      let same : (place_range v.events place).at ≡ (place_range w.events place).at = ap (λ (b : ℕ). b + 16 * place) one.stands.base in
      let rest = unfreed_stand v turns one.stands.dequeue place one.stands.freed one.stands.unfreed spared.1 in
      subst (λ (at : ℕ). bytes_from (all_turned kind v turns).memory at 16 ≡ bytes_from v.memory at 16) same rest ∙ one.bytes
