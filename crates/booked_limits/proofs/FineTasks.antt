-- What is so of every task that a client has: its ticket is below 2^60, and its buffer has the bytes that it moves, 65,536 at most. Cited by
-- FineParts.
use Rattle.std.proofs.Common.{◌≡◌, ℕ, ◌+◌, ◌*◌, ◌^◌, ◌<◌, ◌≤◌, Bool, true, false, cond, List, [], ◌∷◌, length, Option, Some, None, Result, Ok, Err}
use Rattle.std.proofs.Common.{length-take, refl, arith, ap, sym, subst, ◌∙◌}
use Rattle.std.specs.Prelude.{◌&&◌, drop}
use Rattle.std.specs.Option.{option_map_or}
use Rattle.std.proofs.lemmas.Option.{none-some, same_Some}
use Rattle.block_unit.specs.BlockMaps.{BlockMaps, blocks_read, bytes_from, with_attention, written}
use Rattle.block_unit.specs.Laws.{length-with_bytes, synced-bad, synced-blocks, synced-count, with_attention-bad, with_attention-blocks, with_attention-count}
use Rattle.block_unit.specs.Laws.{written-bad, written-count}
use Rattle.uas_profile.specs.declared.TheConstants.{BLOCK_BYTES, CHUNK_BLOCKS, CHUNK_BYTES, WINDOW_BYTES}
use Rattle.scsi_cmd.specs.declared.Op.{Op}
use Rattle.scsi_cmd.specs.declared.Sense.{Sense}
use Rattle.scsi_cmd.specs.declared.Request.{Request}
use Rattle.scsi_cmd.specs.declared.Request.TheVariants.{Execute, Manage}
use Rattle.scsi_cmd.specs.declared.Task.{Task}
use Rattle.scsi_cmd.specs.declared.Task.TheVariants.{Abort, Reset, Query}
use Rattle.scsi_cmd.specs.declared.Work.{Work}
use Rattle.scsi_cmd.specs.declared.Work.TheVariants.{Nothing, Gives, Reads, Writes, Synchronizes}
use Rattle.scsi_cmd.specs.Buffers.{with_bytes_at}
use Rattle.scsi_cmd.specs.Laws.{IsGivenAtOnce-work_of, IsWorkOn-work_of, length-with_bytes_at, work_bytes-work_of}
use Rattle.scsi_cmd.specs.Op.{moved_bytes}
use Rattle.scsi_cmd.specs.Work.{IsGivenAtOnce, IsWorkOn, checked_work, reports_attention, work_bytes, work_of}
use Rattle.device_server.specs.declared.Answer.TheVariants.{Check}
use Rattle.device_server.specs.declared.Progress.{Progress}
use Rattle.device_server.specs.declared.Progress.TheVariants.{Moving as MovingOn, Ended as EndedWith}
use Rattle.device_server.specs.Laws.{HasChunk-after, HasChunk-begun}
use Rattle.device_server.specs.Server.{HasChunk, begun, chunk_blocks, chunk_bytes, chunk_given, meets_bad_chunk, progress_asked, progress_after, synchronized}
use Rattle.device_server.specs.Server.{unit_asked, unit_taken}
use Rattle.scsi_cmd.specs.Sense.{reset_occurred}
use Rattle.solo_model.specs.declared.Phase.{Phase}
use Rattle.solo_model.specs.declared.Phase.TheVariants.{Queued, Begun, Sent, Gone}
use Rattle.solo_model.specs.declared.TaskAnswer.{TaskAnswer}
use Rattle.solo_model.specs.declared.TaskProgress.TheVariants.{Moving, Ended}
use Rattle.solo_model.specs.Soundness.{IsSound, IsSoundProgress, IsSoundRequest}
use Rattle.solo_model.specs.TaggedTask.{TaggedTask, after_notes, can_be_ended, carried_from, carried_request, chunk_brought, is_noted, moved, of_command}
use Rattle.solo_model.specs.TaggedTask.{request_begun, sent_from, unit_managed}
use Rattle.solo_model.proofs.Carried.{sound-heeded}
use Rattle.machine_invariant.specs.Matched.{request_bytes}

pub record IsFine (count : ℕ) (task : TaggedTask) : Type 0 where
  pub ticket : task.ticket < 2 ^ 60
  pub sound : IsSound count task
  pub small : request_bytes task.request ≤ WINDOW_BYTES

-- a unit keeps its size and its bad blocks
pub record IsSameUnit (old now : BlockMaps) : Type 0 where
  pub count : now.count ≡ old.count
  pub bad : now.bad ≡ old.bad
  pub long : length now.blocks ≡ length old.blocks

pub same_unit : (unit : BlockMaps) → IsSameUnit unit unit
same_unit unit = record { count = refl; bad = refl; long = refl }

pub same_unit-then : (first old now : BlockMaps) → IsSameUnit first old → IsSameUnit old now → IsSameUnit first now
same_unit-then first old now before after =
    record { count = after.count ∙ before.count; bad = after.bad ∙ before.bad; long = after.long ∙ before.long }

-- a unit's blocks are all there
abbrev pub IsWide : BlockMaps → Type 0
IsWide unit = BLOCK_BYTES * unit.count ≤ length unit.blocks

-- NOTES

noted-ticket : (noted : List ℕ) (task : TaggedTask) → (after_notes noted task).ticket ≡ task.ticket
noted-ticket noted task =
    elim (can_be_ended task && is_noted noted task.ticket) as (λ b. (cond b (record task { phase = Gone }) task).ticket ≡ task.ticket) [
      | true ↦ refl
      | false ↦ refl
    ]

noted-request : (noted : List ℕ) (task : TaggedTask) → (after_notes noted task).request ≡ task.request
noted-request noted task =
    elim (can_be_ended task && is_noted noted task.ticket) as (λ b. (cond b (record task { phase = Gone }) task).request ≡ task.request) [
      | true ↦ refl
      | false ↦ refl
    ]

-- a task that a task management may end
pub noted-fine : (count : ℕ) (noted : List ℕ) (task : TaggedTask) → IsFine count task → IsFine count (after_notes noted task)
noted-fine count noted task fine = record {
  ticket = subst (λ ticket. ticket < 2 ^ 60) (sym (noted-ticket noted task)) fine.ticket;
  sound = (sound-heeded count noted (Some task ∷ []) (fine.sound, tt)).0;
  small = subst (λ request. request_bytes request ≤ WINDOW_BYTES) (sym (noted-request noted task)) fine.small;
}

-- CARRY

progress-sound : (count : ℕ) (op : Op) (progress : Progress) → HasChunk count op progress → IsSoundProgress count op (of_command progress)
progress-sound count op (MovingOn chunk) has = has
progress-sound count op (EndedWith answer) has = tt

request-sound : (unit : BlockMaps) (found : Bool) (task : TaggedTask) (request : Request) → IsSoundRequest unit.count task request
    → IsSoundRequest unit.count (carried_request unit found task request).1 request
request-sound unit found task (Execute op) sound = record {
  whole = sound.whole;
  chunk = progress-sound unit.count op (begun unit (reports_attention op) (checked_work op unit.count)).1
      (HasChunk-begun unit (reports_attention op) op);
}
request-sound unit found task (Manage what noted) sound = tt

-- the device begins a task
pub carried-fine : (unit : BlockMaps) (found : Bool) (task : TaggedTask) (phase : Phase) (after : BlockMaps × TaggedTask)
    → carried_from unit found task phase ≡ Some after → IsFine unit.count task → IsFine unit.count after.1
carried-fine unit found task Queued after is fine =
    let same : carried_request unit found task task.request ≡ after = same_Some (carried_request unit found task task.request) after is in
    subst (λ (a : BlockMaps × TaggedTask). IsFine unit.count a.1) same
    (record { ticket = fine.ticket; sound = request-sound unit found task task.request fine.sound; small = fine.small })
carried-fine unit found task (Begun progress) after is fine = absurd (none-some after is)
carried-fine unit found task (Sent answer) after is fine = absurd (none-some after is)
carried-fine unit found task Gone after is fine = absurd (none-some after is)

attention-unit : (unit : BlockMaps) (flag : Bool) → IsSameUnit unit (with_attention unit flag)
attention-unit unit flag =
    record { count = with_attention-count unit flag; bad = with_attention-bad unit flag; long = ap length (with_attention-blocks unit flag) }

synchronized-unit : (unit : BlockMaps) (work : Work) → IsSameUnit unit (synchronized unit work)
synchronized-unit unit Nothing = same_unit unit
synchronized-unit unit (Gives bytes) = same_unit unit
synchronized-unit unit (Reads lba count) = same_unit unit
synchronized-unit unit (Writes lba count through) = same_unit unit
synchronized-unit unit (Synchronizes lba count) =
    record { count = synced-count unit lba count; bad = synced-bad unit lba count; long = ap length (synced-blocks unit lba count) }

asked-unit : (unit : BlockMaps) (asked : Result Work Sense) → IsSameUnit unit (unit_asked unit asked)
asked-unit unit (Ok work) = synchronized-unit unit work
asked-unit unit (Err sense) = same_unit unit

begun-unit : (unit : BlockMaps) (reports : Bool) (asked : Result Work Sense) → IsSameUnit unit (begun unit reports asked).0
begun-unit unit reports asked =
    elim (reports && unit.attention) as (λ b. IsSameUnit unit
    (cond {A = BlockMaps × Progress} b (with_attention unit false, EndedWith (Check reset_occurred)) (unit_asked unit asked, progress_asked asked)).0) [
      | true ↦ attention-unit unit false
      | false ↦ asked-unit unit asked
    ]

managed-unit : (unit : BlockMaps) (task : Task) → IsSameUnit unit (unit_managed unit task)
managed-unit unit (Abort tag) = same_unit unit
managed-unit unit Reset = attention-unit unit true
managed-unit unit (Query tag) = same_unit unit

request-unit : (unit : BlockMaps) (found : Bool) (request : Request) → IsSameUnit unit (request_begun unit found request).0
request-unit unit found (Execute op) = begun-unit unit (reports_attention op) (checked_work op unit.count)
request-unit unit found (Manage what noted) = managed-unit unit what

pub carried-unit : (unit : BlockMaps) (found : Bool) (task : TaggedTask) (phase : Phase) (after : BlockMaps × TaggedTask)
    → carried_from unit found task phase ≡ Some after → IsSameUnit unit after.0
carried-unit unit found task Queued after is =
    subst (λ (a : BlockMaps × TaggedTask). IsSameUnit unit a.0) (same_Some (carried_request unit found task task.request) after is)
    (request-unit unit found task.request)
carried-unit unit found task (Begun progress) after is = absurd (none-some after is)
carried-unit unit found task (Sent answer) after is = absurd (none-some after is)
carried-unit unit found task Gone after is = absurd (none-some after is)

-- MOVE: the buffer

length-read : (unit : BlockMaps) (lba many : ℕ) → length (blocks_read unit lba many) ≤ BLOCK_BYTES * many
unfolding blocks_read bytes_from
length-read unit lba many = omega (arith, length-take (BLOCK_BYTES * many) (drop (BLOCK_BYTES * lba) unit.blocks))

length-from : (bytes : List ℕ) (place many : ℕ) → length (bytes_from bytes place many) ≤ many
unfolding bytes_from
length-from bytes place many = omega (arith, length-take many (drop place bytes))

-- the bytes of a chunk end where the work's end at the latest
given-fits : (unit : BlockMaps) (chunk : ℕ) (work : Work) (bytes : List ℕ) → IsGivenAtOnce work → CHUNK_BYTES * chunk < work_bytes work
    → chunk_given unit chunk work ≡ Some bytes → CHUNK_BYTES * chunk + length bytes ≤ work_bytes work
given-fits unit chunk Nothing bytes once left is = absurd (none-some bytes is)
given-fits unit chunk (Gives given) bytes once left is = omega (arith, once, left, ap length (same_Some given.items bytes is))
given-fits unit chunk (Reads lba count) bytes once left is =
    elim (meets_bad_chunk unit lba count chunk) as (λ b.
    cond {A = Option (List ℕ)} b None (Some (blocks_read unit (lba + CHUNK_BLOCKS * chunk) (chunk_blocks count chunk))) ≡ Some bytes
    → CHUNK_BYTES * chunk + length bytes ≤ BLOCK_BYTES * count) [
      | true ↦ λ none. absurd (none-some bytes none)
      | false ↦ λ read. omega (
        arith,
        left,
        length-read unit (lba + CHUNK_BLOCKS * chunk) (chunk_blocks count chunk),
        ap length (same_Some (blocks_read unit (lba + CHUNK_BLOCKS * chunk) (chunk_blocks count chunk)) bytes read),
      )
    ] is
given-fits unit chunk (Writes lba count through) bytes once left is = absurd (none-some bytes is)
given-fits unit chunk (Synchronizes lba count) bytes once left is = absurd (none-some bytes is)

filled-length : (buffer : List ℕ) (at : ℕ) (given : Option (List ℕ)) → ((bytes : List ℕ) → given ≡ Some bytes → at + length bytes ≤ length buffer)
    → length (option_map_or (λ bytes. with_bytes_at buffer at bytes) given buffer) ≡ length buffer
filled-length buffer at None fits = refl
filled-length buffer at (Some bytes) fits = length-with_bytes_at buffer at bytes (fits bytes refl)

-- MOVE: the unit

written-unit : (unit : BlockMaps) (lba : ℕ) (bytes : List ℕ) (through : Bool) → BLOCK_BYTES * lba + length bytes ≤ length unit.blocks
    → length (written unit lba bytes through).blocks ≡ length unit.blocks
unfolding written
written-unit unit lba bytes through within = length-with_bytes unit.blocks (BLOCK_BYTES * lba) bytes within

taken-unit : (unit : BlockMaps) (bytes : List ℕ) (chunk : ℕ) (work : Work) → IsWide unit → IsWorkOn unit.count work
    → CHUNK_BYTES * chunk < work_bytes work → length bytes ≤ chunk_bytes (work_bytes work) chunk → IsSameUnit unit (unit_taken unit bytes chunk work)
taken-unit unit bytes chunk Nothing wide on left most = same_unit unit
taken-unit unit bytes chunk (Gives given) wide on left most = same_unit unit
taken-unit unit bytes chunk (Reads lba count) wide on left most = same_unit unit
taken-unit unit bytes chunk (Writes lba count through) wide on left most =
    elim (meets_bad_chunk unit lba count chunk) as (λ b. IsSameUnit unit (cond b unit (written unit (lba + CHUNK_BLOCKS * chunk) bytes through))) [
      | true ↦ same_unit unit
      | false ↦ record {
        count = written-count unit (lba + CHUNK_BLOCKS * chunk) bytes through;
        bad = written-bad unit (lba + CHUNK_BLOCKS * chunk) bytes through;
        long = written-unit unit (lba + CHUNK_BLOCKS * chunk) bytes through (omega (arith, wide, on, left, most));
      }
    ]
taken-unit unit bytes chunk (Synchronizes lba count) wide on left most = same_unit unit

-- MOVE: the task

pub record IsMoved (unit : BlockMaps) (after : BlockMaps × TaggedTask) : Type 0 where
  pub task : IsFine unit.count after.1
  pub unit_same : IsSameUnit unit after.0

moved-fields : (unit : BlockMaps) (ticket : ℕ) (request : Request) (buffer : List ℕ) (phase : Phase) (after : BlockMaps × TaggedTask) → IsWide unit
    → moved unit (record { ticket = ticket; request = request; buffer = buffer; phase = phase }) ≡ Some after
    → IsFine unit.count (record { ticket = ticket; request = request; buffer = buffer; phase = phase }) → IsMoved unit after
moved-fields unit ticket request buffer Queued after wide is fine = absurd (none-some after is)
moved-fields unit ticket (Execute op) buffer (Begun (Moving chunk)) after wide is fine =
    let left : CHUNK_BYTES * chunk < moved_bytes op = fine.sound.chunk.0 in
    let bytes : work_bytes (work_of op unit.count) ≡ moved_bytes op = work_bytes-work_of op unit.count in
    let within : CHUNK_BYTES * chunk < work_bytes (work_of op unit.count) = omega (arith, left, bytes) in
    subst (λ (a : BlockMaps × TaggedTask). IsMoved unit a) (same_Some _ after is) (record {
      task = record {
        ticket = fine.ticket;
        sound = record {
          whole = filled-length buffer (CHUNK_BYTES * chunk) (chunk_given unit chunk (work_of op unit.count)) (λ given told.
              omega (arith, given-fits unit chunk (work_of op unit.count) given (IsGivenAtOnce-work_of op unit.count) within told, bytes, fine.sound.whole))
              ∙ fine.sound.whole;
          chunk = progress-sound unit.count op (progress_after unit chunk (work_of op unit.count)) (HasChunk-after unit chunk op unit.count fine.sound.chunk.1);
        };
        small = fine.small;
      };
      unit_same = taken-unit unit (chunk_brought buffer chunk op) chunk (work_of op unit.count) wide
          (IsWorkOn-work_of op unit.count fine.sound.chunk.1) within
          (subst (λ n. length (chunk_brought buffer chunk op) ≤ chunk_bytes n chunk) (sym bytes)
          (length-from buffer (CHUNK_BYTES * chunk) (chunk_bytes (moved_bytes op) chunk)));
    })
moved-fields unit ticket (Manage what noted) buffer (Begun (Moving chunk)) after wide is fine = absurd (none-some after is)
moved-fields unit ticket request buffer (Begun (Ended answer)) after wide is fine = absurd (none-some after is)
moved-fields unit ticket request buffer (Sent answer) after wide is fine = absurd (none-some after is)
moved-fields unit ticket request buffer Gone after wide is fine = absurd (none-some after is)

-- the device moves a chunk
pub moved-fine : (unit : BlockMaps) (task : TaggedTask) (after : BlockMaps × TaggedTask) → IsWide unit → moved unit task ≡ Some after
    → IsFine unit.count task → IsMoved unit after
moved-fine unit task after wide is fine = moved-fields unit task.ticket task.request task.buffer task.phase after wide is fine

-- SEND

sent-sound : (count : ℕ) (task : TaggedTask) (answer : TaskAnswer) (request : Request) → IsSoundRequest count task request
    → IsSoundRequest count (record task { phase = Sent answer }) request
sent-sound count task answer (Execute op) sound = record { whole = sound.whole; chunk = tt }
sent-sound count task answer (Manage what noted) sound = tt

-- the device hands over an answer
pub sent-fine : (count : ℕ) (task : TaggedTask) (phase : Phase) (after : TaggedTask) → sent_from task phase ≡ Some after → IsFine count task
    → IsFine count after
sent-fine count task Queued after is fine = absurd (none-some after is)
sent-fine count task (Begun (Moving chunk)) after is fine = absurd (none-some after is)
sent-fine count task (Begun (Ended answer)) after is fine =
    subst (λ (t : TaggedTask). IsFine count t) (same_Some (record task { phase = Sent answer }) after is)
    (record { ticket = fine.ticket; sound = sent-sound count task answer task.request fine.sound; small = fine.small })
sent-fine count task (Sent answer) after is fine = absurd (none-some after is)
sent-fine count task Gone after is fine = absurd (none-some after is)
