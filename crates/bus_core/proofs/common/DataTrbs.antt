-- The TRBs of a data TD one by one, and the chunks of the device: TRB k is of chunk k.
use Rattle.std.proofs.Common.{◌≡◌, ℕ, zero, suc, ◌+◌, ◌-◌, ◌*◌, ◌<◌, ◌≤◌, true, false, not, cond, length, length-take, Some, None, IfSome, refl, arith, ap, sym}
use Rattle.std.proofs.Common.{subst, ◌∙◌, map}
use Rattle.std.specs.Prelude.{slice_get, option_map, min, ◌==◌}
use Rattle.std.proofs.lemmas.Bool.{eqb-true, eqb-false, ne_eqb}
use Rattle.std.proofs.lemmas.Option.{slice_get-map}
use Rattle.block_unit.specs.BlockMaps.{BlockMaps, bytes_from, blocks_read}
use Rattle.xhci_trb.specs.Text.{has_chain}
use Rattle.cycle_ring.specs.Ring.{pointer_of}
use Rattle.cycle_ring.specs.Items.{ItemRing, known_of, known}
use Rattle.uas_profile.specs.declared.TheConstants.{STREAM_RING_PLACES, BLOCK_BYTES, CHUNK_BLOCKS, CHUNK_BYTES}
use Rattle.scsi_cmd.specs.declared.Op.{Op}
use Rattle.uas_profile.specs.declared.Direction.TheVariants.{ToHost, ToDevice}
use Rattle.scsi_cmd.specs.declared.Work.{Work}
use Rattle.scsi_cmd.specs.declared.Work.TheVariants.{Nothing as NoWork, Gives as GivesWork, Reads, Writes, Synchronizes}
use Rattle.scsi_cmd.specs.Laws.{IsGivenAtOnce-work_of, work_bytes-work_of}
use Rattle.scsi_cmd.specs.Op.{moved_bytes, direction_of}
use Rattle.scsi_cmd.specs.Work.{IsGivenAtOnce, work_bytes, work_of}
use Rattle.device_server.specs.Server.{chunk_blocks, chunk_bytes, chunk_given, meets_bad_chunk}
use Rattle.uas_target.specs.declared.Phase.TheVariants.{Gives, Takes}
use Rattle.uas_target.specs.Tasks.{chunk_wanted, wanted_way}
use Rattle.uas_host.specs.Tds.{data_td, data_trb, data_trb_count, data_trbs, window_of}
use Rattle.xhci_ctl.specs.Steps.{Front, front_at, front_in}

-- TRB K

-- TRB k begins 4,096 k bytes behind the first, with so many fewer left, and with one TRB fewer behind it
pub slice_get-data_trbs : (n pointer left k : ℕ) → k < n
    → slice_get (data_trbs n pointer left) k ≡ Some (data_trb (pointer + CHUNK_BYTES * k) (left - CHUNK_BYTES * k) (n - 1 - k))
slice_get-data_trbs zero pointer left k below = absurd (omega arith)
slice_get-data_trbs (suc more) pointer left zero below =
    let at : pointer ≡ pointer + CHUNK_BYTES * 0 = omega arith in
    let bytes : left ≡ left - CHUNK_BYTES * 0 = omega arith in
    let behind : more ≡ suc more - 1 - 0 = omega arith in
    λ i. Some (data_trb (at i) (bytes i) (behind i))
slice_get-data_trbs (suc more) pointer left (suc k) below =
    let at : pointer + CHUNK_BYTES + CHUNK_BYTES * k ≡ pointer + CHUNK_BYTES * suc k = omega arith in
    let bytes : left - CHUNK_BYTES - CHUNK_BYTES * k ≡ left - CHUNK_BYTES * suc k = omega arith in
    let behind : more - 1 - k ≡ suc more - 1 - suc k = omega arith in
    slice_get-data_trbs more (pointer + CHUNK_BYTES) (left - CHUNK_BYTES) k (omega arith) ∙ (λ i. Some (data_trb (at i) (bytes i) (behind i)))

pub length-data_trbs : (n pointer left : ℕ) → length (data_trbs n pointer left) ≡ n
length-data_trbs zero pointer left = refl
length-data_trbs (suc more) pointer left = ap suc (length-data_trbs more (pointer + CHUNK_BYTES) (left - CHUNK_BYTES))

-- the last TRB alone has no CH
has_chain-data_trb : (pointer left more : ℕ) → has_chain (data_trb pointer left more) ≡ not (more == 0)
has_chain-data_trb pointer left zero = refl
has_chain-data_trb pointer left (suc more) = sym (ap not (ne_eqb (suc more) 0 (λ is. omega (arith, is))))

same_test : (a b c d : ℕ) → (a ≡ b → c ≡ d) → (c ≡ d → a ≡ b) → (a == b) ≡ (c == d)
same_test a b c d there back =
    elim (a == b) as (λ x. (a == b) ≡ x → x ≡ (c == d)) [
      | true ↦ λ is. elim (c == d) as (λ y. (c == d) ≡ y → true ≡ y) [
        | true ↦ λ so. refl
        | false ↦ λ so. absurd (eqb-false c d so (there (eqb-true a b is)))
      ] refl
      | false ↦ λ is. elim (c == d) as (λ y. (c == d) ≡ y → false ≡ y) [
        | true ↦ λ so. absurd (eqb-false a b is (back (eqb-true c d so)))
        | false ↦ λ so. refl
      ] refl
    ] refl

-- the front of a data ring of so many TRBs and bytes, of which k were taken
abbrev pub data_front : ℕ → ℕ → ℕ → ℕ → Front
data_front address tag bytes k = record {
  address = address;
  pointer = window_of tag + CHUNK_BYTES * k;
  length = min CHUNK_BYTES (bytes - CHUNK_BYTES * k);
  chain = not (k + 1 == data_trb_count bytes);
}

pub front_of-data_td : (ring : ItemRing) (tag bytes k : ℕ) → ring.put ≡ map known (data_td tag bytes) → ring.got ≡ k → k < data_trb_count bytes
    → front_at STREAM_RING_PLACES ring
    ≡ Some (pointer_of STREAM_RING_PLACES ring k, Some (data_trb (window_of tag + CHUNK_BYTES * k) (bytes - CHUNK_BYTES * k) (data_trb_count bytes - 1 - k)))
front_of-data_td ring tag bytes k put got below =
    ap (λ n. option_map (λ item. (pointer_of STREAM_RING_PLACES ring n, known_of item)) (slice_get ring.put n)) got
    ∙ ap (λ items. option_map (λ item. (pointer_of STREAM_RING_PLACES ring k, known_of item)) (slice_get items k)) put
    ∙ ap (option_map (λ item. (pointer_of STREAM_RING_PLACES ring k, known_of item))) (slice_get-map known (data_td tag bytes) k)
    ∙ ap (λ trb. option_map (λ item. (pointer_of STREAM_RING_PLACES ring k, known_of item)) (option_map known trb)) (slice_get-data_trbs (data_trb_count bytes) (window_of tag) bytes k below)

pub front_in-data_trb : (address tag bytes k : ℕ) → k < data_trb_count bytes
    → front_in (address, Some (data_trb (window_of tag + CHUNK_BYTES * k) (bytes - CHUNK_BYTES * k) (data_trb_count bytes - 1 - k))) ≡ Some (data_front address tag bytes k)
front_in-data_trb address tag bytes k below =
    let last : (data_trb_count bytes - 1 - k == 0) ≡ (k + 1 == data_trb_count bytes) =
    same_test (data_trb_count bytes - 1 - k) 0 (k + 1) (data_trb_count bytes) (λ is. omega arith) (λ is. omega arith) in
    ap (λ c. Some (record { address = address; pointer = window_of tag + CHUNK_BYTES * k; length = min CHUNK_BYTES (bytes - CHUNK_BYTES * k); chain = c }))
    (has_chain-data_trb (window_of tag + CHUNK_BYTES * k) (bytes - CHUNK_BYTES * k) (data_trb_count bytes - 1 - k) ∙ ap not last)

-- CHUNK K

-- what goes to the host the device gives, as many bytes as TRB k names
pub chunk_wanted-gives : (op : Op) (chunk : ℕ) → direction_of op ≡ ToHost → chunk_wanted chunk op ≡ Gives (chunk_bytes (moved_bytes op) chunk)
chunk_wanted-gives op chunk way = ap (λ d. wanted_way d (chunk_bytes (moved_bytes op) chunk)) way

-- and what goes to the device it takes
pub chunk_wanted-takes : (op : Op) (chunk : ℕ) → direction_of op ≡ ToDevice → chunk_wanted chunk op ≡ Takes (chunk_bytes (moved_bytes op) chunk)
chunk_wanted-takes op chunk way = ap (λ d. wanted_way d (chunk_bytes (moved_bytes op) chunk)) way

length-blocks_read : (unit : BlockMaps) (lba many : ℕ) → length (blocks_read unit lba many) ≤ BLOCK_BYTES * many
unfolding blocks_read bytes_from
length-blocks_read unit lba many = omega (arith, length-take {A = ℕ})

given-work : (unit : BlockMaps) (chunk : ℕ) (work : Work) → IsGivenAtOnce work → CHUNK_BYTES * chunk < work_bytes work
    → IfSome (chunk_given unit chunk work) (λ bytes. length bytes ≤ chunk_bytes (work_bytes work) chunk)
given-work unit chunk NoWork little less = tt
given-work unit chunk (GivesWork bytes) little less = omega (arith, little, less)
given-work unit chunk (Reads lba count) little less =
    elim (meets_bad_chunk unit lba count chunk) as
    (λ b. IfSome (cond b None (Some (blocks_read unit (lba + CHUNK_BLOCKS * chunk) (chunk_blocks count chunk))))
    (λ bytes. length bytes ≤ min CHUNK_BYTES (BLOCK_BYTES * count - CHUNK_BYTES * chunk))) [
      | true ↦ tt
      | false ↦ omega (arith, length-blocks_read unit (lba + CHUNK_BLOCKS * chunk) (chunk_blocks count chunk))
    ]
given-work unit chunk (Writes lba count through) little less = tt
given-work unit chunk (Synchronizes lba count) little less = tt

-- the bytes that the device gives fit the TRB
pub length-chunk_given : (unit : BlockMaps) (chunk : ℕ) (op : Op) → CHUNK_BYTES * chunk < moved_bytes op
    → IfSome (chunk_given unit chunk (work_of op unit.count)) (λ bytes. length bytes ≤ chunk_bytes (moved_bytes op) chunk)
length-chunk_given unit chunk op less =
    let bytes : work_bytes (work_of op unit.count) ≡ moved_bytes op = work_bytes-work_of op unit.count in
    subst (λ n. IfSome (chunk_given unit chunk (work_of op unit.count)) (λ given. length given ≤ chunk_bytes n chunk)) bytes
    (given-work unit chunk (work_of op unit.count) (IsGivenAtOnce-work_of op unit.count) (omega (arith, bytes, less)))
