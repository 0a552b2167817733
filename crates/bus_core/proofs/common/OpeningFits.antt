-- A new world fits the opening shared machine: every cell is empty, and nothing waits.
use Rattle.std.proofs.Common.{◌≡◌, ℕ, zero, suc, ◌+◌, ◌-◌, ◌*◌, ◌<◌, ◌≤◌, true, false, List, [], ◌∷◌, length, Option, None, refl, arith, ap, sym, subst, ◌∙◌}
use Rattle.std.specs.Prelude.{nat_le, replicate, slice_get, slice_index_or}
use Rattle.std.proofs.lemmas.Bool.{leb-true, leb-false}
use Rattle.block_unit.specs.BlockMaps.{BlockMaps}
use Rattle.cycle_ring.specs.Ring.{opening}
use Rattle.cycle_ring.specs.Items.{ItemRing}
use Rattle.uas_profile.specs.declared.Pipe.{Pipe}
use Rattle.uas_profile.specs.declared.Pipe.TheVariants.{Command, Status, DataIn, DataOut}
use Rattle.stream_array.specs.Map.{HasRing}
use Rattle.stream_array.specs.Rings.{IsLines, LinesState, IsOpeningLines, ring_of, stream_ring}
use Rattle.frame_store.specs.Buffers.{held_for, opening as opening_frames, opening_buffers, no_buffers}
use Rattle.uas_profile.specs.declared.TheConstants.{STREAMS}
use Rattle.scsi_cmd.specs.Held.{held_at, held_under}
use Rattle.uas_target.specs.declared.DeviceTask.{DeviceTask}
use Rattle.uas_target.specs.Device.{task_of, opening as opening_device}
use Rattle.uas_host.specs.declared.HostEntry.{HostEntry}
use Rattle.uas_host.specs.declared.HostClient.{HostClient}
use Rattle.uas_host.specs.State.{new_client}
use Rattle.uas_profile.specs.Tags.{tag_of}
use Rattle.shared_machine.specs.Td.{Entry}
use Rattle.shared_machine.specs.Part.{new_part}
use Rattle.shared_machine.specs.Shared.{new_parts}
use Rattle.bus_core.specs.World.{Cell, cell_at}
use Rattle.bus_core.specs.Cells.{HoldsTrbs, IsEmptyCell, FitsHeld}
use Rattle.bus_core.specs.Fits.{AreUnused, place_in, FitsPart, FitsClient}
use Rattle.bus_core.specs.WorldSteps.{opening_world, OpeningFits}
use Rattle.bus_core.proofs.common.CellWrites.{index-past}
use Rattle.shared_machine.proofs.Opening.{length-new_parts}
use Rattle.machine_invariant.proofs.MatchedOpening.{opening-matched}
use Rattle.std.proofs.Common.{◌*◌}
use Rattle.std.proofs.lemmas.Nat.{mul-le}
use Rattle.uas_profile.specs.Tags.{AreTags}
use Rattle.uas_profile.specs.declared.TheConstants.{MOST_TAGS}

-- A CELL OF A NEW WORLD

-- nothing is held anywhere
held_at-nothing : (T : Type 0) (n slot : ℕ) → held_at (replicate n (let none : Option T = None in none)) slot ≡ None
held_at-nothing T zero slot = refl
held_at-nothing T (suc n) zero = refl
held_at-nothing T (suc n) (suc slot) = held_at-nothing T n slot

-- every client is new
client-new : (n client : ℕ) → slice_index_or (replicate n new_client) client new_client ≡ new_client
client-new zero client = refl
client-new (suc n) zero = refl
client-new (suc n) (suc client) = client-new n client

task_of-opening : (units : List BlockMaps) (tag : ℕ) → task_of (opening_device STREAMS units) tag ≡ None
task_of-opening units tag = none tag
  where
    none : (tag : ℕ) → held_under (replicate STREAMS (let none : Option DeviceTask = None in none)) tag ≡ None
    none zero = refl
    none (suc slot) = held_at-nothing DeviceTask STREAMS slot

-- a tag's buffers have nothing lent
lent-opening : (tag : ℕ) → (held_for opening_frames tag).lent ≡ None
unfolding opening_frames opening_buffers
lent-opening tag = none STREAMS (tag - 1)
  where
    none : (n at : ℕ) → (slice_index_or (replicate n opening_buffers) at no_buffers).lent ≡ None
    none zero at = refl
    none (suc n) zero = refl
    none (suc n) (suc at) = none n at

-- a new ring has nothing
holds-opening : (lines : LinesState) (pipe : Pipe) (stream : ℕ) → IsOpeningLines lines → HasRing pipe stream → HoldsTrbs (ring_of lines pipe stream) [] 0
holds-opening lines pipe stream new there =
    (ap (λ (r : ItemRing). r.put) (new.ring pipe stream there), ap (λ (r : ItemRing). r.got) (new.ring pipe stream there))

-- nor has a stream past the last one, of which there is no ring
past-opening : (rings : List ItemRing) (tag : ℕ) → length rings < tag → HoldsTrbs (stream_ring rings tag) [] 0
past-opening rings tag past =
    let none = index-past rings (tag - 1) (opening 0) (omega (arith, past)) in (ap (λ (r : ItemRing). r.put) none, ap (λ (r : ItemRing). r.got) none)

unused-opening : (lines : LinesState) (tag : ℕ) → IsOpeningLines lines → IsLines lines → 0 < tag → AreUnused lines tag
unused-opening lines tag new sound some =
    elim (nat_le tag STREAMS) as (λ b. nat_le tag STREAMS ≡ b → AreUnused lines tag) [
      | true ↦ λ is. let there : tag ≤ STREAMS = leb-true tag STREAMS is in
          record {
            status = holds-opening lines Status tag new (some, there);
            data_in = holds-opening lines DataIn tag new (some, there);
            data_out = holds-opening lines DataOut tag new (some, there);
          }
      | false ↦ λ is. let past : STREAMS < tag = leb-false tag STREAMS is in
          record {
            status = past-opening lines.status tag (omega (arith, past, sound.status));
            data_in = past-opening lines.data_in tag (omega (arith, past, sound.data_in));
            data_out = past-opening lines.data_out tag (omega (arith, past, sound.data_out));
          }
    ] refl

empty-opening : (tags : ℕ) (units : List BlockMaps) (lines : LinesState) (client slot : ℕ) → AreTags tags → IsOpeningLines lines → suc client * tags ≤ STREAMS → slot < tags
    → IsEmptyCell (cell_at tags (opening_world tags units (length units) lines) (place_in client slot))
empty-opening tags units lines client slot are new few within =
    let tag : ℕ = tag_of tags (place_in client slot) in
    let there : HasRing Status tag = (omega arith, omega (arith, few, within)) in
    record {
      held = ap (λ (c : HostClient). held_at c.entries slot) (client-new (length units) client) ∙ held_at-nothing HostEntry MOST_TAGS slot;
      task = task_of-opening units tag;
      status = holds-opening lines Status tag new there;
      data_in = holds-opening lines DataIn tag new there;
      data_out = holds-opening lines DataOut tag new there;
      lent = lent-opening tag;
    }

-- THE CLIENTS

part-opening : (tags : ℕ) (units : List BlockMaps) (lines : LinesState) (client : ℕ) (unit : BlockMaps) → AreTags tags → IsOpeningLines lines → suc client * tags ≤ STREAMS
    → FitsPart tags (opening_world tags units (length units) lines) client unit new_client (new_part client unit)
part-opening tags units lines client unit are new few = record {
  number = refl;
  unit_same = refl;
  least_ticket = refl;
  ready = refl;
  slots = refl;
  cells = λ slot within.
      let cell : Cell = cell_at tags (opening_world tags units (length units) lines) (place_in client slot) in
      subst (λ held. FitsHeld tags client unit.count (place_in client slot) held cell) (sym (held_at-nothing Entry MOST_TAGS slot))
      (empty-opening tags units lines client slot are new few within);
}

none-before : (n : ℕ) → n ≡ 0 + n
none-before n = omega arith

shift : (first more : ℕ) → first + suc more ≡ suc first + more
shift first more = omega arith

-- of the clients from this one on
clients-opening : (tags : ℕ) (all units : List BlockMaps) (lines : LinesState) (first k client : ℕ) → AreTags tags → IsOpeningLines lines → (first + length units) * tags ≤ STREAMS → client ≡ first + k
    → FitsClient tags (opening_world tags all (length all) lines) client (slice_get units k)
    (slice_get (replicate (length units) new_client) k) (slice_get (new_parts first units) k)
clients-opening tags all [] lines first k client are new few is = tt
clients-opening tags all (unit ∷ rest) lines first zero client are new few is =
    let same : first ≡ client = omega arith in
    subst (λ c. FitsPart tags (opening_world tags all (length all) lines) client unit new_client (new_part c unit)) (sym same)
    (part-opening tags all lines client unit are new
    (omega (arith, mul-le (suc client) tags (first + suc (length rest)) tags (omega (arith, same)) (omega arith), few)))
clients-opening tags all (unit ∷ rest) lines first (suc k) client are new few is =
    clients-opening tags all rest lines (suc first) k client are new
    (subst (λ n. n * tags ≤ STREAMS) (shift first (length rest)) few) (omega arith)

-- THE WHOLE

pub opening-fits : OpeningFits
opening-fits tags units lines are some most streams new sound =
    let long : length (new_parts 0 units) ≡ length units = length-new_parts 0 units in
    let command : HoldsTrbs lines.command [] 0 = holds-opening lines Command 0 new refl in
    record {
      tags = refl;
      some_client = omega (arith, long, some);
      most_clients = omega (arith, long, most);
      most_tags = subst (λ n. n * tags ≤ STREAMS) (sym long) streams;
      status = refl;
      data_in = refl;
      data_out = refl;
      sound = sound;
      queues = record { put = command.0; got = command.1; texts = ap (λ e. e.pending) new.events };
      engine = record { retirement = refl; commands = (ap (λ (r : ItemRing). r.put) new.engine, ap (λ (r : ItemRing). r.got) new.engine) };
      matched = opening-matched tags units are;
      clients = λ client. clients-opening tags units units lines 0 client client are new (subst (λ n. n * tags ≤ STREAMS) (none-before (length units)) streams) (omega arith);
      others = λ tag past. task_of-opening units tag;
      unused = λ tag past. unused-opening lines tag new sound.lines (omega (arith, past, long, some));
    }
