-- The chunks of a WRITE in turn leave what one write of their bytes leaves. Cited by the law of writes.
use Rattle.std.proofs.Common.{◌≡◌, ℕ, zero, suc, ◌+◌, ◌-◌, ◌*◌, ◌<◌, ◌≤◌, Bool, true, false, List, [], ◌++◌, length, get_or, take, drop, cond, refl, arith, ap, ap₂, sym, ◌∙◌}
use Rattle.std.proofs.Common.{append-nil, append_assoc, drop-drop, length-append, length-take, length-drop, length-take-le, take-add, take-append-drop, take_all, inl, inr}
use Rattle.std.proofs.Math.Seq.{drop-append-add, take-append_seam}
use Rattle.std.specs.Prelude.{min}
use Rattle.std.proofs.lemmas.Bool.{cases_lt}
use Rattle.block_unit.specs.BlockMaps.{BlockMaps, bytes_from, meets_bad, with_bytes, written}
use Rattle.block_unit.specs.Laws.{IsSized}
use Rattle.scsi_cmd.specs.declared.Work.TheVariants.{Writes}
use Rattle.device_server.specs.Server.{chunk_blocks, unit_taken}
use Rattle.uas_profile.specs.declared.TheConstants.{BLOCK_BYTES, CHUNK_BLOCKS, CHUNK_BYTES}
use Rattle.whole_commands.specs.transfers.Transfers.{WritesTakeAll, blocks_in, chunk_of, chunks_taken}
use Rattle.whole_commands.proofs.Chunks.{blocks_in-suc, chunk-good, chunks-good}

-- bytes put into a list, and more behind them
with_bytes-joined : (bytes : List ℕ) (place : ℕ) (part more : List ℕ) → place + length part + length more ≤ length bytes
    → with_bytes (with_bytes bytes place part) (place + length part) more ≡ with_bytes bytes place (part ++ more)
unfolding with_bytes
with_bytes-joined bytes place part more within =
    let front : List ℕ = take place bytes ++ part in
    let rest : List ℕ = drop (place + length part) bytes in
    let end : List ℕ = drop (place + length part + length more) bytes in
    let long : length front ≡ place + length part = omega (arith, length-append (take place bytes) part, length-take-le place bytes (omega arith)) in
    let all : place + length part + length more ≡ place + length (part ++ more) = omega (arith, length-append part more) in
    let kept : take (place + length part) (front ++ rest) ≡ front = ap (λ n. take n (front ++ rest)) (sym long) ∙ take-append_seam front rest in
    let left : drop (place + length part + length more) (front ++ rest) ≡ end =
    ap (λ n. drop (n + length more) (front ++ rest)) (sym long) ∙ drop-append-add front rest (length more)
    ∙ drop-drop (length more) (place + length part) bytes in
    ap₂ (λ a b. a ++ more ++ b) kept left
    ∙ ap (λ l. l ++ end) (append_assoc (take place bytes) part more)
    ∙ ap (λ n. take place bytes ++ (part ++ more) ++ drop n bytes) all

-- no bytes change nothing
with_bytes-none : (bytes : List ℕ) (place : ℕ) → with_bytes bytes place [] ≡ bytes
unfolding with_bytes
with_bytes-none bytes place =
    let here : place + 0 ≡ place = omega arith in
    ap₂ (λ front n. front ++ drop n bytes) (append-nil (take place bytes)) here ∙ take-append-drop place bytes

-- what the chunks up to one are, and its own
bytes-joined : (bytes : List ℕ) (count chunk : ℕ) → length bytes ≡ BLOCK_BYTES * count → CHUNK_BLOCKS * chunk < count →
    take (BLOCK_BYTES * blocks_in count chunk) bytes ++ chunk_of bytes chunk ≡ take (BLOCK_BYTES * blocks_in count (suc chunk)) bytes
unfolding bytes_from
bytes-joined bytes count chunk size inside =
    let at : BLOCK_BYTES * blocks_in count chunk ≡ CHUNK_BYTES * chunk = omega arith in
    let all : take (BLOCK_BYTES * blocks_in count (suc chunk)) bytes ≡ take (CHUNK_BYTES * chunk + CHUNK_BYTES) bytes =
    elim (cases_lt (CHUNK_BLOCKS * suc chunk) count) [
      | inl more ↦
          let same : BLOCK_BYTES * blocks_in count (suc chunk) ≡ CHUNK_BYTES * chunk + CHUNK_BYTES = omega arith in
          ap (λ n. take n bytes) same
      | inr last ↦
          take_all (BLOCK_BYTES * blocks_in count (suc chunk)) bytes (omega (arith, size)) ∙ sym (take_all (CHUNK_BYTES * chunk + CHUNK_BYTES) bytes (omega (arith, size)))
    ] in
    ap (λ n. take n bytes ++ take CHUNK_BYTES (drop (CHUNK_BYTES * chunk) bytes)) at
    ∙ sym (take-add (CHUNK_BYTES * chunk) CHUNK_BYTES bytes) ∙ sym all

length-chunk : (bytes : List ℕ) (count chunk : ℕ) → length bytes ≡ BLOCK_BYTES * count → CHUNK_BLOCKS * chunk < count →
    length (chunk_of bytes chunk) ≤ BLOCK_BYTES * count - CHUNK_BYTES * chunk
unfolding bytes_from
length-chunk bytes count chunk size inside = omega (arith, length-take CHUNK_BYTES (drop (CHUNK_BYTES * chunk) bytes), length-drop (CHUNK_BYTES * chunk) bytes, size)

-- one more write behind another is one write of both
written-joined : (unit : BlockMaps) (lba many : ℕ) (through : Bool) (part more : List ℕ) → IsSized unit → length part ≡ BLOCK_BYTES * many →
    BLOCK_BYTES * lba + length part + length more ≤ BLOCK_BYTES * unit.count →
    written (written unit lba part through) (lba + many) more through ≡ written unit lba (part ++ more) through
unfolding written
written-joined unit lba many true part more sized size within =
    let place : BLOCK_BYTES * (lba + many) ≡ BLOCK_BYTES * lba + length part = omega (arith, size) in
    ap₂ (λ blocks medium. record { count = unit.count; blocks = blocks; medium = medium; attention = unit.attention; bad = unit.bad })
    (ap (λ n. with_bytes (with_bytes unit.blocks (BLOCK_BYTES * lba) part) n more) place
    ∙ with_bytes-joined unit.blocks (BLOCK_BYTES * lba) part more (omega (arith, sized.blocks, within)))
    (ap (λ n. with_bytes (with_bytes unit.medium (BLOCK_BYTES * lba) part) n more) place
    ∙ with_bytes-joined unit.medium (BLOCK_BYTES * lba) part more (omega (arith, sized.medium, within)))
written-joined unit lba many false part more sized size within =
    let place : BLOCK_BYTES * (lba + many) ≡ BLOCK_BYTES * lba + length part = omega (arith, size) in
    ap (λ blocks. record { count = unit.count; blocks = blocks; medium = unit.medium; attention = unit.attention; bad = unit.bad })
    (ap (λ n. with_bytes (with_bytes unit.blocks (BLOCK_BYTES * lba) part) n more) place
    ∙ with_bytes-joined unit.blocks (BLOCK_BYTES * lba) part more (omega (arith, sized.blocks, within)))

written-none : (unit : BlockMaps) (lba : ℕ) (through : Bool) → written unit lba [] through ≡ unit
unfolding written
written-none unit lba true =
    ap₂ (λ blocks medium. record { count = unit.count; blocks = blocks; medium = medium; attention = unit.attention; bad = unit.bad })
    (with_bytes-none unit.blocks (BLOCK_BYTES * lba)) (with_bytes-none unit.medium (BLOCK_BYTES * lba))
written-none unit lba false =
    ap (λ blocks. record { count = unit.count; blocks = blocks; medium = unit.medium; attention = unit.attention; bad = unit.bad })
    (with_bytes-none unit.blocks (BLOCK_BYTES * lba))

written-bad : (unit : BlockMaps) (lba at many : ℕ) (bytes : List ℕ) (through : Bool) → meets_bad (written unit lba bytes through) at many ≡ meets_bad unit at many
unfolding written meets_bad
written-bad unit lba at many bytes through = refl

pub writes-all : WritesTakeAll
writes-all unit lba count through bytes zero sized fits size few none =
    let nothing : 0 ≡ BLOCK_BYTES * blocks_in count zero = omega arith in
    sym (written-none unit lba through) ∙ ap (λ n. written unit lba (take n bytes) through) nothing
writes-all unit lba count through bytes (suc chunk) sized fits size few none =
    let inside : CHUNK_BLOCKS * chunk < count = omega (arith, few) in
    let part : List ℕ = take (BLOCK_BYTES * blocks_in count chunk) bytes in
    let so_far : chunks_taken unit bytes (Writes lba count through) chunk ≡ written unit lba part through =
    writes-all unit lba count through bytes chunk sized fits size (omega (arith, few)) (chunks-good unit lba count chunk none) in
    let long : length part ≡ BLOCK_BYTES * (CHUNK_BLOCKS * chunk) = length-take-le (BLOCK_BYTES * blocks_in count chunk) bytes (omega (arith, size)) ∙ omega (arith, inside) in
    let good : meets_bad (written unit lba part through) (lba + CHUNK_BLOCKS * chunk) (chunk_blocks count chunk) ≡ false =
    written-bad unit lba (lba + CHUNK_BLOCKS * chunk) (chunk_blocks count chunk) part through ∙ chunk-good unit lba count chunk none in
    ap (λ at. unit_taken at (chunk_of bytes chunk) chunk (Writes lba count through)) so_far
    ∙ ap (λ b. cond b (written unit lba part through) (written (written unit lba part through) (lba + CHUNK_BLOCKS * chunk) (chunk_of bytes chunk) through)) good
    ∙ written-joined unit lba (CHUNK_BLOCKS * chunk) through part (chunk_of bytes chunk) sized long
    (omega (arith, fits, long, length-chunk bytes count chunk size inside, inside))
    ∙ ap (λ l. written unit lba l through) (bytes-joined bytes count chunk size inside)
