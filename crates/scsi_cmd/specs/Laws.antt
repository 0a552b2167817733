-- What users of the definitions know without opening them.
use Rattle.std.proofs.Common.{◌≡◌, ℕ, zero, suc, ◌+◌, ◌*◌, ◌/◌, ◌%◌, ◌^◌, ◌<◌, ◌≤◌, Bool, true, false, not, cond, is_some, List, [], ◌∷◌}
use Rattle.std.proofs.Common.{◌++◌, length, take, drop, Option, Some, None, IfSome, Result, Ok, Err, refl, arith, subst, sym, ap, ◌∙◌}
use Rattle.std.proofs.Common.{length-append, length-take, length-take-le, length-drop}
use Rattle.std.specs.Prelude.{slice_set, slice_index, slice_index_or, option_and_then, nat_lt, ◌==◌, ◌||◌, nat_le, min, IsOk}
use Rattle.std.proofs.lemmas.Bool.{eqb-true, ne_eqb, ltb-false}
use Rattle.std.proofs.lemmas.List.{get_or_default, take-append-drop, drop-drop}
use Rattle.std.proofs.Math.Seq.{take-length}
use Rattle.scsi_cmd.specs.declared.Command.{Command}
use Rattle.uas_profile.specs.declared.Direction.{Direction}
use Rattle.uas_profile.specs.declared.Direction.TheVariants.{Nothing, ToHost}
use Rattle.scsi_cmd.specs.declared.Op.{Op}
use Rattle.scsi_cmd.specs.declared.Op.TheVariants.{TestUnitReady, Inquiry, ReadCapacity, Read, Write, Sync, Read16, Write16, ReadCapacity16}
use Rattle.scsi_cmd.specs.declared.Sense.{Sense}
use Rattle.scsi_cmd.specs.declared.Work.{Work}
use Rattle.scsi_cmd.specs.declared.SubmitFault.{SubmitFault}
use Rattle.scsi_cmd.specs.declared.SubmitFault.TheVariants.{BadLength, TooLong, OutOfTurn}
use Rattle.scsi_cmd.specs.Buffers.{with_bytes_at, written_at}
use Rattle.scsi_cmd.specs.Data.{inquiry_bytes, long_capacity_bytes}
use Rattle.scsi_cmd.specs.Fields.{field_of_two}
use Rattle.scsi_cmd.specs.Held.{AllHeld, held_at}
use Rattle.scsi_cmd.specs.Meaning.{asked, checked, has_invalid_field, named_op, op_fault, range_fault}
use Rattle.scsi_cmd.specs.Op.{cdb_bytes, direction_of, moved_bytes, way_of}
use Rattle.scsi_cmd.specs.Sense.{invalid_field_in_cdb, invalid_operation_code, out_of_range, unit_not_supported}
use Rattle.scsi_cmd.specs.Submission.{first_submit_fault, is_too_long}
use Rattle.scsi_cmd.specs.Work.{IsGivenAtOnce, IsWorkOn, asked_without_unit, cdb_reports_attention, giving, inquiry_front}
use Rattle.scsi_cmd.specs.Work.{long_capacity_front, reports_attention, work_bytes, work_direction, work_of, work_without_unit}
use Rattle.uas_profile.specs.declared.TheConstants.{MOST_BLOCKS_MOVED, WINDOW_BYTES}

-- PLACES THAT HOLD SOMETHING OR NOTHING

-- what is so of all that is held is so of what a place holds
pub AllHeld-at : {T : Type 0} (P : T → Type 0) (places : List (Option T)) (slot : ℕ) → AllHeld P places → IfSome (held_at places slot) P
AllHeld-at P [] slot all = tt
AllHeld-at P (place ∷ places) zero all = all.0
AllHeld-at P (place ∷ places) (suc slot) all = AllHeld-at P places slot all.1

pub AllHeld-held : {T : Type 0} (P : T → Type 0) (places : List (Option T)) (slot : ℕ) (held : T) →
    AllHeld P places → held_at places slot ≡ Some held → P held
AllHeld-held {T} P places slot held all is = let Q : Option T → Type 0 = λ o. IfSome o P in subst Q is (AllHeld-at P places slot all)

-- a place may hold what is so
pub AllHeld-set : {T : Type 0} (P : T → Type 0) (places : List (Option T)) (slot : ℕ) (now : Option T) →
    AllHeld P places → IfSome now P → AllHeld P (slice_set places slot now)
AllHeld-set P [] slot now all so = tt
AllHeld-set P (place ∷ places) zero now all so = (so, all.1)
AllHeld-set P (place ∷ places) (suc slot) now all so = (all.0, AllHeld-set P places slot now all.1 so)

-- past the last place nothing is held
pub held_at-past : {T : Type 0} (places : List (Option T)) (slot : ℕ) → length places ≤ slot → held_at places slot ≡ None
held_at-past [] slot past = refl
held_at-past (place ∷ places) zero past = absurd (omega arith)
held_at-past (place ∷ places) (suc slot) past = held_at-past places slot (omega arith)

-- what was read at a place is what it holds
pub held_at-read : {T : Type 0} (places : List (Option T)) (slot : ℕ) (read held : Option T) → slot < length places →
    slice_index_or places slot read ≡ held → held_at places slot ≡ held
held_at-read places slot read held within is = get_or_default places slot None read within ∙ is

-- what was answered of a read is answered of what is held
pub answered-held : {T U : Type 0} (f : T → Option U) (places : List (Option T)) (slot : ℕ) (read : Option T) (held : T) (answer : Bool) →
    slot < length places → answer ≡ is_some (option_and_then f (slice_index_or places slot read)) → answer ≡ true →
    held_at places slot ≡ Some held → is_some (f held) ≡ true
answered-held {T} {U} f places slot read held answer within told so is =
    let same : Some held ≡ slice_index_or places slot read = sym is ∙ held_at-read places slot read (slice_index_or places slot read) within refl in
    ap (λ (o : Option T). is_some (option_and_then f o)) same ∙ sym told ∙ so

-- A SUBMISSION

-- without a fault it brings as many bytes as its operation moves
pub submit_fault-none : (yours in_use : Bool) (least_ticket ticket : ℕ) (command : Command) →
    is_some (first_submit_fault yours in_use least_ticket ticket command) ≡ false → length command.buffer ≡ moved_bytes command.op
submit_fault-none false in_use least_ticket ticket command none = let no : true ≡ false = none in cc
submit_fault-none true true least_ticket ticket command none = let no : true ≡ false = none in cc
submit_fault-none true false least_ticket ticket command none =
    elim (length command.buffer == moved_bytes command.op) as (λ b. (length command.buffer == moved_bytes command.op) ≡ b →
    is_some {T = SubmitFault}
    (cond (not b) (Some BadLength) (cond (is_too_long command.op) (Some TooLong) (cond (nat_lt ticket least_ticket) (Some (OutOfTurn least_ticket)) None)))
    ≡ false → length command.buffer ≡ moved_bytes command.op) [
      | true ↦ λ e h. eqb-true _ _ e
      | false ↦ λ e h. let no : true ≡ false = h in cc
    ] refl none

-- THE BUFFER

-- bytes that fit leave the list as long as it is
pub length-with_bytes_at : (list : List ℕ) (at : ℕ) (bytes : List ℕ) →
    at + length bytes ≤ length list → length (with_bytes_at list at bytes) ≡ length list
unfolding with_bytes_at
length-with_bytes_at list at bytes fits =
    omega (arith, length-append {A = ℕ}, length-take {A = ℕ}, length-drop {A = ℕ})

-- bytes that fit are written whole
pub written_at-fits : (list : List ℕ) (at : ℕ) (bytes : List ℕ) →
    at + length bytes ≤ length list → written_at list at bytes ≡ with_bytes_at list at bytes
unfolding written_at
written_at-fits list at bytes fits =
    ap (λ n. take n (with_bytes_at list at bytes)) (sym (length-with_bytes_at list at bytes fits)) ∙ take-length _

pub length-written_at : (list : List ℕ) (at : ℕ) (bytes : List ℕ) → at + length bytes ≤ length list → length (written_at list at bytes) ≡ length list
length-written_at list at bytes fits = ap length (written_at-fits list at bytes fits) ∙ length-with_bytes_at list at bytes fits

-- bytes written over themselves change nothing
pub written_at-same : (list : List ℕ) (at len : ℕ) → at + len ≤ length list → written_at list at (take len (drop at list)) ≡ list
unfolding with_bytes_at
written_at-same list at len fits =
    let long : length (take len (drop at list)) ≡ len = length-take-le len (drop at list) (omega (arith, length-drop at list)) in
    let within : at + length (take len (drop at list)) ≤ length list = omega arith in
    let rest : drop (at + length (take len (drop at list))) list ≡ drop len (drop at list) =
    ap (λ n. drop (at + n) list) long ∙ sym (drop-drop len at list) in
    written_at-fits list at (take len (drop at list)) within
    ∙ ap (λ t. take at list ++ (take len (drop at list) ++ t)) rest
    ∙ ap (λ t. take at list ++ t) (take-append-drop len (drop at list))
    ∙ take-append-drop at list

-- WHAT A CDB ASKS

-- a field of two bytes reads as the number that it was written as
two_bytes-read : (n : ℕ) → 256 * (n / 256) + n % 256 ≡ n
two_bytes-read n = omega arith

-- the two halves of a field of four bytes make the number that it was written as
halves-read : (n : ℕ) → 2 ^ 16 * (n / 2 ^ 16) + n % 2 ^ 16 ≡ n
halves-read n = omega arith

-- and those of a field of eight bytes
long_halves-read : (n : ℕ) → 2 ^ 32 * (n / 2 ^ 32) + n % 2 ^ 32 ≡ n
long_halves-read n = omega arith

-- the CDB of an operation asks for that operation
pub asked-cdb_bytes : (op : Op) (blocks : ℕ) → asked (cdb_bytes op) blocks ≡ checked op blocks
unfolding asked cdb_bytes
asked-cdb_bytes TestUnitReady blocks = refl
asked-cdb_bytes (Inquiry allocation) blocks = simp two_bytes-read
asked-cdb_bytes ReadCapacity blocks = refl
asked-cdb_bytes (Read lba count true) blocks = simp (two_bytes-read, halves-read)
asked-cdb_bytes (Read lba count false) blocks = simp (two_bytes-read, halves-read)
asked-cdb_bytes (Write lba count true) blocks = simp (two_bytes-read, halves-read)
asked-cdb_bytes (Write lba count false) blocks = simp (two_bytes-read, halves-read)
asked-cdb_bytes (Sync lba count) blocks = simp (two_bytes-read, halves-read)
asked-cdb_bytes (Read16 lba count true) blocks = simp (two_bytes-read, halves-read, long_halves-read)
asked-cdb_bytes (Read16 lba count false) blocks = simp (two_bytes-read, halves-read, long_halves-read)
asked-cdb_bytes (Write16 lba count true) blocks = simp (two_bytes-read, halves-read, long_halves-read)
asked-cdb_bytes (Write16 lba count false) blocks = simp (two_bytes-read, halves-read, long_halves-read)
asked-cdb_bytes (ReadCapacity16 allocation) blocks = simp (two_bytes-read, halves-read)

-- a CDB has 16 bytes, and reports an attention where its operation does
cdb_bytes-facts : (op : Op) → (length (cdb_bytes op) ≡ 16) × (cdb_reports_attention (cdb_bytes op) ≡ reports_attention op)
unfolding cdb_bytes
cdb_bytes-facts TestUnitReady = (refl, refl)
cdb_bytes-facts (Inquiry allocation) = (refl, refl)
cdb_bytes-facts ReadCapacity = (refl, refl)
cdb_bytes-facts (Read lba count fua) = (refl, refl)
cdb_bytes-facts (Write lba count fua) = (refl, refl)
cdb_bytes-facts (Sync lba count) = (refl, refl)
cdb_bytes-facts (Read16 lba count fua) = (refl, refl)
cdb_bytes-facts (Write16 lba count fua) = (refl, refl)
cdb_bytes-facts (ReadCapacity16 allocation) = (refl, refl)

pub length-cdb_bytes : (op : Op) → length (cdb_bytes op) ≡ 16
length-cdb_bytes op = (cdb_bytes-facts op).0

pub cdb_reports_attention-cdb_bytes : (op : Op) → cdb_reports_attention (cdb_bytes op) ≡ reports_attention op
cdb_reports_attention-cdb_bytes op = (cdb_bytes-facts op).1

pub checked-none : (op : Op) (blocks : ℕ) → op_fault op blocks ≡ None → checked op blocks ≡ Ok op
checked-none op blocks none = rw none refl

pub checked-some : (op : Op) (blocks : ℕ) (sense : Sense) → op_fault op blocks ≡ Some sense → checked op blocks ≡ Err sense
checked-some op blocks sense some = rw some refl

-- an operation that stands has no fault
pub checked_in_range : (op : Op) (blocks : ℕ) (other : Op) → checked op blocks ≡ Ok other → op_fault other blocks ≡ None
checked_in_range op blocks other =
    elim (op_fault op blocks) as (λ fault. op_fault op blocks ≡ fault → checked op blocks ≡ Ok other → op_fault other blocks ≡ None) [
      | None ↦ λ none asks. let same : ◌≡◌ {A = Result Op Sense} (Ok op) (Ok other) = sym (checked-none op blocks none) ∙ asks in
          let it : op ≡ other = cc in subst (λ o. op_fault o blocks ≡ None) it none
      | Some sense ↦ λ some asks. let differ : ◌≡◌ {A = Result Op Sense} (Err sense) (Ok other) = sym (checked-some op blocks sense some) ∙ asks in cc
    ] refl

-- what bytes ask once they are known to name an operation, or none
asked_by : List ℕ → ℕ → Option Op → Result Op Sense
unfolding asked
asked_by bytes blocks None = Err invalid_operation_code
asked_by bytes blocks (Some op) = cond (has_invalid_field op bytes) (Err invalid_field_in_cdb) (checked op blocks)

in_range_by : (bytes : List ℕ) (blocks : ℕ) (named : Option Op) (op : Op) → asked_by bytes blocks named ≡ Ok op → op_fault op blocks ≡ None
unfolding asked_by
in_range_by bytes blocks None op is = let no : ◌≡◌ {A = Result Op Sense} (Err invalid_operation_code) (Ok op) = is in cc
in_range_by bytes blocks (Some other) op is =
    elim (has_invalid_field other bytes) as (λ b. cond {A = Result Op Sense} b (Err invalid_field_in_cdb) (checked other blocks) ≡ Ok op →
    op_fault op blocks ≡ None) [
      | true ↦ λ fault. let no : ◌≡◌ {A = Result Op Sense} (Err invalid_field_in_cdb) (Ok op) = fault in cc
      | false ↦ λ fine. checked_in_range other blocks op fine
    ] is

-- what bytes ask has no fault
pub asked_in_range : (bytes : List ℕ) (blocks : ℕ) (op : Op) → asked bytes blocks ≡ Ok op → op_fault op blocks ≡ None
unfolding asked asked_by
asked_in_range bytes blocks op is = in_range_by bytes blocks (named_op bytes) op is

-- WORK

-- INQUIRY data has 36 bytes
pub length-inquiry_bytes : (present : Bool) → length (inquiry_bytes present) ≡ 36
unfolding inquiry_bytes
length-inquiry_bytes true = refl
length-inquiry_bytes false = refl

length-front : (present : Bool) (allocation : ℕ) → length (take (min allocation 36) (inquiry_bytes present)) ≡ min allocation 36
length-front present allocation =
    length-take-le (min allocation 36) (inquiry_bytes present) (omega (arith, length-inquiry_bytes present))

length-long_capacity_front : (blocks allocation : ℕ) → length (long_capacity_front blocks allocation) ≡ min allocation 32
length-long_capacity_front blocks allocation =
    let all : length (long_capacity_bytes blocks) ≡ 32 = refl in
    length-take-le (min allocation 32) (long_capacity_bytes blocks) (omega (arith, all))

-- a work moves the bytes of its operation
pub work_bytes-work_of : (op : Op) (blocks : ℕ) → work_bytes (work_of op blocks) ≡ moved_bytes op
work_bytes-work_of TestUnitReady blocks = refl
work_bytes-work_of (Inquiry allocation) blocks = length-front true allocation
work_bytes-work_of ReadCapacity blocks = refl
work_bytes-work_of (Read lba count fua) blocks = refl
work_bytes-work_of (Write lba count fua) blocks = refl
work_bytes-work_of (Sync lba count) blocks = refl
work_bytes-work_of (Read16 lba count fua) blocks = refl
work_bytes-work_of (Write16 lba count fua) blocks = refl
work_bytes-work_of (ReadCapacity16 allocation) blocks = length-long_capacity_front blocks allocation

pub work_direction-work_of : (op : Op) (blocks : ℕ) → work_direction (work_of op blocks) ≡ way_of op
work_direction-work_of TestUnitReady blocks = refl
work_direction-work_of (Inquiry allocation) blocks = refl
work_direction-work_of ReadCapacity blocks = refl
work_direction-work_of (Read lba count fua) blocks = refl
work_direction-work_of (Write lba count fua) blocks = refl
work_direction-work_of (Sync lba count) blocks = refl
work_direction-work_of (Read16 lba count fua) blocks = refl
work_direction-work_of (Write16 lba count fua) blocks = refl
work_direction-work_of (ReadCapacity16 allocation) blocks = refl

-- an operation that moves bytes moves them its way
pub direction_of-some : (op : Op) → 0 < moved_bytes op → direction_of op ≡ way_of op
direction_of-some op some = ap (λ b. cond {A = Direction} b Nothing (way_of op)) (ne_eqb (moved_bytes op) 0 (λ none. omega arith))

-- and has the direction of its work
pub direction_of-work : (op : Op) (blocks : ℕ) → 0 < moved_bytes op → direction_of op ≡ work_direction (work_of op blocks)
direction_of-work op blocks some = direction_of-some op some ∙ sym (work_direction-work_of op blocks)

some_way : (op : Op) → 0 < moved_bytes op → way_of op ≡ Nothing → ⊥
some_way TestUnitReady some none = absurd (omega (arith, some))
some_way (Inquiry allocation) some none = cc
some_way ReadCapacity some none = cc
some_way (Read lba count fua) some none = cc
some_way (Write lba count fua) some none = cc
some_way (Sync lba count) some none = absurd (omega (arith, some))
some_way (Read16 lba count fua) some none = cc
some_way (Write16 lba count fua) some none = cc
some_way (ReadCapacity16 allocation) some none = cc

-- bytes that move go one way or the other
pub direction_of-goes : (op : Op) → 0 < moved_bytes op → direction_of op ≡ Nothing → ⊥
direction_of-goes op some none = some_way op some (sym (direction_of-some op some) ∙ none)

range_within : (lba count blocks : ℕ) → range_fault lba count blocks ≡ None → lba + count ≤ blocks
range_within lba count blocks none =
    elim (nat_le blocks lba) as (λ a. cond {A = Option Sense} (a || nat_lt blocks (lba + count)) (Some out_of_range) None ≡ None → lba + count ≤ blocks) [
      | true ↦ λ is. let no : ◌≡◌ {A = Option Sense} (Some out_of_range) None = is in let it : ⊥ = cc in absurd it
      | false ↦ elim (nat_lt blocks (lba + count)) as (λ b. nat_lt blocks (lba + count) ≡ b → cond {A = Option Sense} b (Some out_of_range) None ≡ None
          → lba + count ≤ blocks) [
            | true ↦ λ past is. let no : ◌≡◌ {A = Option Sense} (Some out_of_range) None = is in let it : ⊥ = cc in absurd it
            | false ↦ λ within is. ltb-false blocks (lba + count) within
          ] refl
    ] none

transfer_within : (lba count blocks : ℕ) → cond (nat_lt MOST_BLOCKS_MOVED count) (Some invalid_field_in_cdb) (range_fault lba count blocks) ≡ None →
    (count ≤ MOST_BLOCKS_MOVED) × (range_fault lba count blocks ≡ None)
transfer_within lba count blocks =
    elim (nat_lt MOST_BLOCKS_MOVED count) as (λ b. nat_lt MOST_BLOCKS_MOVED count ≡ b → cond {A = Option Sense} b (Some invalid_field_in_cdb) (range_fault lba count blocks) ≡ None →
    (count ≤ MOST_BLOCKS_MOVED) × (range_fault lba count blocks ≡ None)) [
      | true ↦ λ many is. let no : ◌≡◌ {A = Option Sense} (Some invalid_field_in_cdb) None = is in let it : ⊥ = cc in absurd it
      | false ↦ λ few is. (ltb-false MOST_BLOCKS_MOVED count few, is)
    ] refl

pub IsGivenAtOnce-work_of : (op : Op) (blocks : ℕ) → IsGivenAtOnce (work_of op blocks)
IsGivenAtOnce-work_of TestUnitReady blocks = tt
IsGivenAtOnce-work_of (Inquiry allocation) blocks = omega (arith, length-front true allocation)
IsGivenAtOnce-work_of ReadCapacity blocks = omega arith
IsGivenAtOnce-work_of (Read lba count fua) blocks = tt
IsGivenAtOnce-work_of (Write lba count fua) blocks = tt
IsGivenAtOnce-work_of (Sync lba count) blocks = tt
IsGivenAtOnce-work_of (Read16 lba count fua) blocks = tt
IsGivenAtOnce-work_of (Write16 lba count fua) blocks = tt
IsGivenAtOnce-work_of (ReadCapacity16 allocation) blocks = omega (arith, length-long_capacity_front blocks allocation)

-- the blocks of an operation without a fault are there
pub IsWorkOn-work_of : (op : Op) (blocks : ℕ) → op_fault op blocks ≡ None → IsWorkOn blocks (work_of op blocks)
IsWorkOn-work_of TestUnitReady blocks none = tt
IsWorkOn-work_of (Inquiry allocation) blocks none = tt
IsWorkOn-work_of ReadCapacity blocks none = tt
IsWorkOn-work_of (Read lba count fua) blocks none = range_within lba count blocks (transfer_within lba count blocks none).1
IsWorkOn-work_of (Write lba count fua) blocks none = range_within lba count blocks (transfer_within lba count blocks none).1
IsWorkOn-work_of (Sync lba count) blocks none = range_within lba count blocks none
IsWorkOn-work_of (Read16 lba count fua) blocks none = range_within lba count blocks (transfer_within lba count blocks none).1
IsWorkOn-work_of (Write16 lba count fua) blocks none = range_within lba count blocks (transfer_within lba count blocks none).1
IsWorkOn-work_of (ReadCapacity16 allocation) blocks none = tt

-- an operation without a fault moves at most the bytes of 128 blocks
pub moved_most : (op : Op) (blocks : ℕ) → op_fault op blocks ≡ None → moved_bytes op ≤ WINDOW_BYTES
moved_most TestUnitReady blocks none = omega arith
moved_most (Inquiry allocation) blocks none = omega arith
moved_most ReadCapacity blocks none = omega arith
moved_most (Read lba count fua) blocks none = let most = (transfer_within lba count blocks none).0 in omega arith
moved_most (Write lba count fua) blocks none = let most = (transfer_within lba count blocks none).0 in omega arith
moved_most (Sync lba count) blocks none = omega arith
moved_most (Read16 lba count fua) blocks none = let most = (transfer_within lba count blocks none).0 in omega arith
moved_most (Write16 lba count fua) blocks none = let most = (transfer_within lba count blocks none).0 in omega arith
moved_most (ReadCapacity16 allocation) blocks none = omega arith

-- and so does one that isn't too long
pub moved-short : (op : Op) → is_too_long op ≡ false → moved_bytes op ≤ WINDOW_BYTES
moved-short TestUnitReady short = omega arith
moved-short (Inquiry allocation) short = omega arith
moved-short ReadCapacity short = omega arith
moved-short (Read lba count fua) short = omega (arith, ltb-false MOST_BLOCKS_MOVED count short)
moved-short (Write lba count fua) short = omega (arith, ltb-false MOST_BLOCKS_MOVED count short)
moved-short (Sync lba count) short = omega arith
moved-short (Read16 lba count fua) short = omega (arith, ltb-false MOST_BLOCKS_MOVED count short)
moved-short (Write16 lba count fua) short = omega (arith, ltb-false MOST_BLOCKS_MOVED count short)
moved-short (ReadCapacity16 allocation) short = omega arith

-- A UNIT THAT ISN'T THERE

-- the CDB of an INQUIRY asks for no other operation
inquiry_named : (cdb : List ℕ) → slice_index cdb 0 ≡ 0x12 → named_op cdb ≡ Some (Inquiry (field_of_two cdb 3))
inquiry_named cdb code = rw code refl

inquiry_by : (cdb : List ℕ) (blocks allocation : ℕ) (op : Op) → asked_by cdb blocks (Some (Inquiry allocation)) ≡ Ok op → IsOk (work_without_unit op)
unfolding asked_by
inquiry_by cdb blocks allocation op is =
    elim (has_invalid_field (Inquiry allocation) cdb) as (λ b. cond {A = Result Op Sense} b (Err invalid_field_in_cdb) (Ok (Inquiry allocation)) ≡ Ok op →
    IsOk (work_without_unit op)) [
      | true ↦ λ fault. let no : ◌≡◌ {A = Result Op Sense} (Err invalid_field_in_cdb) (Ok op) = fault in let it : ⊥ = cc in absurd it
      | false ↦ λ fine. let same : ◌≡◌ {A = Op} (Inquiry allocation) op = cc in let P : Op → Type 0 = λ o. IsOk (work_without_unit o) in subst P same refl
    ] is

inquiry_asked : (cdb : List ℕ) (blocks : ℕ) (op : Op) → slice_index cdb 0 ≡ 0x12 → asked cdb blocks ≡ Ok op → IsOk (work_without_unit op)
unfolding asked asked_by
inquiry_asked cdb blocks op code is = inquiry_by cdb blocks (field_of_two cdb 3) op (ap (asked_by cdb blocks) (sym (inquiry_named cdb code)) ∙ is)

-- what is asked where no unit is can be done there
pub work_without_unit-asked : (cdb : List ℕ) (op : Op) → asked_without_unit cdb ≡ Ok op → IsOk (work_without_unit op)
work_without_unit-asked cdb op =
    elim (slice_index cdb 0 == 0x12) as (λ b. (slice_index cdb 0 == 0x12) ≡ b → cond {A = Result Op Sense} b (asked cdb 0) (Err unit_not_supported) ≡ Ok op →
    IsOk (work_without_unit op)) [
      | true ↦ λ code is. inquiry_asked cdb 0 op (eqb-true _ _ code) is
      | false ↦ λ code is. let no : ◌≡◌ {A = Result Op Sense} (Err unit_not_supported) (Ok op) = is in let it : ⊥ = cc in absurd it
    ] refl

-- and moves the bytes of its operation
pub work_bytes-work_without_unit : (op : Op) (work : Work) → work_without_unit op ≡ Ok work → work_bytes work ≡ moved_bytes op
work_bytes-work_without_unit TestUnitReady work is = let no : ◌≡◌ {A = Result Work Sense} (Err unit_not_supported) (Ok work) = is in cc
work_bytes-work_without_unit (Inquiry allocation) work is =
    let same : ◌≡◌ {A = Work} (giving (inquiry_front false allocation)) work = cc in
    sym (ap work_bytes same) ∙ length-front false allocation
work_bytes-work_without_unit ReadCapacity work is = let no : ◌≡◌ {A = Result Work Sense} (Err unit_not_supported) (Ok work) = is in cc
work_bytes-work_without_unit (Read lba count fua) work is = let no : ◌≡◌ {A = Result Work Sense} (Err unit_not_supported) (Ok work) = is in cc
work_bytes-work_without_unit (Write lba count fua) work is = let no : ◌≡◌ {A = Result Work Sense} (Err unit_not_supported) (Ok work) = is in cc
work_bytes-work_without_unit (Sync lba count) work is = let no : ◌≡◌ {A = Result Work Sense} (Err unit_not_supported) (Ok work) = is in cc
work_bytes-work_without_unit (Read16 lba count fua) work is = let no : ◌≡◌ {A = Result Work Sense} (Err unit_not_supported) (Ok work) = is in cc
work_bytes-work_without_unit (Write16 lba count fua) work is = let no : ◌≡◌ {A = Result Work Sense} (Err unit_not_supported) (Ok work) = is in cc
work_bytes-work_without_unit (ReadCapacity16 allocation) work is = let no : ◌≡◌ {A = Result Work Sense} (Err unit_not_supported) (Ok work) = is in cc

pub way_of-work_without_unit : (op : Op) → IsOk (work_without_unit op) → way_of op ≡ ToHost
way_of-work_without_unit TestUnitReady is = let no : false ≡ true = is in let it : ⊥ = cc in absurd it
way_of-work_without_unit (Inquiry allocation) is = refl
way_of-work_without_unit ReadCapacity is = let no : false ≡ true = is in let it : ⊥ = cc in absurd it
way_of-work_without_unit (Read lba count fua) is = let no : false ≡ true = is in let it : ⊥ = cc in absurd it
way_of-work_without_unit (Write lba count fua) is = let no : false ≡ true = is in let it : ⊥ = cc in absurd it
way_of-work_without_unit (Sync lba count) is = let no : false ≡ true = is in let it : ⊥ = cc in absurd it
way_of-work_without_unit (Read16 lba count fua) is = let no : false ≡ true = is in let it : ⊥ = cc in absurd it
way_of-work_without_unit (Write16 lba count fua) is = let no : false ≡ true = is in let it : ⊥ = cc in absurd it
way_of-work_without_unit (ReadCapacity16 allocation) is = let no : false ≡ true = is in let it : ⊥ = cc in absurd it
