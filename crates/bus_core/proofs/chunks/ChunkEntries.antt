-- An entry that moves data, and what it is after a chunk: the cell that fitted it fits it again.
use Rattle.std.proofs.Common.{◌≡◌, ℕ, ◌*◌, ◌<◌, ◌≤◌, Bool, true, false, length, Option, Some, None, refl, arith, ap, sym, subst, ◌∙◌}
use Rattle.std.specs.Prelude.{is_some, nat_lt, if◌then◌else◌}
use Rattle.std.proofs.lemmas.Bool.{ltb-false}
use Rattle.uas_profile.specs.declared.TheConstants.{CHUNK_BYTES}
use Rattle.block_unit.specs.BlockMaps.{BlockMaps}
use Rattle.cycle_ring.specs.Items.{ItemRing}
use Rattle.scsi_cmd.specs.declared.Op.{Op}
use Rattle.scsi_cmd.specs.declared.Request.{Request}
use Rattle.scsi_cmd.specs.declared.Request.TheVariants.{Execute, Manage}
use Rattle.scsi_cmd.specs.Op.{moved_bytes, direction_of}
use Rattle.solo_model.specs.declared.TaskProgress.TheVariants.{Moving}
use Rattle.device_server.specs.Laws.{HasChunk-after}
use Rattle.device_server.specs.Server.{progress_after}
use Rattle.solo_model.specs.declared.Phase.TheVariants.{Begun}
use Rattle.solo_model.specs.Soundness.{IsSound, IsSoundOp, IsSoundPhase, IsSoundRequest}
use Rattle.scsi_cmd.specs.Work.{work_of}
use Rattle.solo_model.specs.TaggedTask.{buffer_after, progress_left}
use Rattle.shared_machine.specs.Part.{took_trb}
use Rattle.bus_core.specs.Hosts.{begun_task}
use Rattle.bus_core.proofs.carry.DeviceSteps.{sound-command}
use Rattle.uas_profile.specs.declared.Place.{Place}
use Rattle.uas_profile.specs.declared.TdState.TheVariants.{Pending}
use Rattle.uas_host.specs.declared.HostAnswer.TheVariants.{Unanswered}
use Rattle.uas_profile.specs.Tags.{tag_of}
use Rattle.uas_host.specs.Tds.{data_td, data_trb_count, status_td}
use Rattle.shared_machine.specs.declared.Td.{Td}
use Rattle.shared_machine.specs.Td.{Entry, data_trbs, with_trb_taken}
use Rattle.machine_invariant.specs.Matched.{IsDataTd, IsManagedPhase, IsMovingTd, IsMatchedEntry, IsPhaseOf, request_bytes}
use Rattle.bus_core.specs.World.{Cell}
use Rattle.bus_core.specs.Cells.{FitsCell, HoldsData, HoldsTd, data_in_td, data_out_td, state_of}

-- AN ENTRY THAT MOVES DATA

-- its data TD is pending, and as many of its TRBs were taken as chunks were moved
abbrev pub moving_td : ℕ → Td
moving_td chunk = record { state = Pending; consumed = chunk }

abbrev pub moving_entry : Entry → Op → ℕ → Entry
moving_entry entry op chunk = record entry {
  task = record entry.task { request = Execute op; phase = Begun (Moving chunk) };
  data_td = Some (moving_td chunk);
}

pub record IsChunked (entry : Entry) (chunk : ℕ) : Type 0 where
  pub op : Op
  pub is : entry ≡ moving_entry entry op chunk
  pub below : chunk < data_trb_count (moved_bytes op)

chunked-td : (entry : Entry) (chunk : ℕ) (op : Op) (td : Option Td) → entry.task.request ≡ Execute op → entry.task.phase ≡ Begun (Moving chunk)
    → entry.data_td ≡ td
    → IsMovingTd (data_trbs (Execute op)) chunk td → is_some td ≡ nat_lt 0 (moved_bytes op) → CHUNK_BYTES * chunk < moved_bytes op → IsChunked entry chunk
chunked-td entry chunk op None request phase is trbs moves less =
    let none : moved_bytes op ≤ 0 = ltb-false 0 (moved_bytes op) (sym moves) in absurd (omega (arith, none, less))
chunked-td entry chunk op (Some td) request phase is trbs moves less =
    let tds : entry.data_td ≡ Some (moving_td chunk) = is ∙ (λ i. Some (record { state = trbs.0 i; consumed = trbs.1 i })) in
    record {
      op = op;
      is = λ i. record entry { task = record entry.task { request = request i; phase = phase i }; data_td = tds i };
      below = trbs.2;
    }

chunked-request : (tags : ℕ) (slot count : ℕ) (entry : Entry) (chunk : ℕ) (request : Request) → entry.task.request ≡ request → entry.task.phase ≡ Begun (Moving chunk)
    → IsMatchedEntry tags slot entry → IsSound count entry.task → IsChunked entry chunk
chunked-request tags slot count entry chunk (Execute op) is moving matched sound =
    let sound_op : IsSoundOp count entry.task op = subst (λ r. IsSoundRequest count entry.task r) is sound in
    let has : IsSoundPhase count op (Begun (Moving chunk)) = subst (λ p. IsSoundPhase count op p) moving sound_op.chunk in
    let trbs : IsMovingTd (data_trbs (Execute op)) chunk entry.data_td =
    subst (λ p. IsDataTd (data_trbs (Execute op)) p entry.data_td) moving
    (subst (λ r. IsDataTd (data_trbs r) entry.task.phase entry.data_td) is matched.chunks) in
    chunked-td entry chunk op entry.data_td is moving refl trbs (matched.moves ∙ ap (λ r. nat_lt 0 (request_bytes r)) is) has.0
chunked-request tags slot count entry chunk (Manage what noted) is moving matched sound =
    absurd (subst (λ p. IsManagedPhase what p) moving (subst (λ r. IsPhaseOf r entry.task.phase) is matched.answers))

-- a matched, sound entry whose phase is Moving
pub chunked : (tags : ℕ) (slot count : ℕ) (entry : Entry) (chunk : ℕ) → entry.task.phase ≡ Begun (Moving chunk) → IsMatchedEntry tags slot entry → IsSound count entry.task
    → IsChunked entry chunk
chunked tags slot count entry chunk moving matched sound = chunked-request tags slot count entry chunk entry.task.request refl moving matched sound

-- AFTER A CHUNK

abbrev pub td_after : Bool → ℕ → Td
td_after took chunk = if took then with_trb_taken (moving_td chunk) else moving_td chunk

abbrev pub chunk_entry : BlockMaps → Entry → Op → ℕ → Entry
chunk_entry unit entry op chunk = record entry {
  task = record entry.task { request = Execute op; buffer = buffer_after unit entry.task.buffer chunk op; phase = Begun (progress_left unit chunk op) };
  data_td = Some (td_after (took_trb (Begun (progress_left unit chunk op))) chunk);
}

-- the cell after a chunk, but for its data rings
abbrev pub chunk_cell : ℕ → BlockMaps → Entry → Op → ℕ → Cell → Cell → Cell
chunk_cell client unit entry op chunk was now = record {
  held = was.held;
  task = begun_task (Some client) (Execute op) (progress_left unit chunk op);
  status = was.status;
  data_in = now.data_in;
  data_out = now.data_out;
  buffers = record was.buffers { lent = Some (buffer_after unit entry.task.buffer chunk op) };
}

state-after : (took : Bool) (chunk : ℕ) → state_of (td_after took chunk) ≡ Pending
state-after true chunk = refl
state-after false chunk = refl

pub fits-chunk : (tags : ℕ) (client : ℕ) (place : Place) (unit : BlockMaps) (entry : Entry) (op : Op) (chunk : ℕ) (was now : Cell)
    → FitsCell tags client unit.count place (moving_entry entry op chunk) was → now ≡ chunk_cell client unit entry op chunk was now
    → HoldsData now.data_in (data_td (tag_of tags place) (moved_bytes op))
    (data_in_td (direction_of op) (Some (td_after (took_trb (Begun (progress_left unit chunk op))) chunk)))
    → HoldsData now.data_out (data_td (tag_of tags place) (moved_bytes op))
    (data_out_td (direction_of op) (Some (td_after (took_trb (Begun (progress_left unit chunk op))) chunk)))
    → length (buffer_after unit entry.task.buffer chunk op) ≡ length entry.task.buffer
    → FitsCell tags client unit.count place (chunk_entry unit entry op chunk) now
fits-chunk tags client place unit entry op chunk was now fits is data_in data_out long = record {
  held = ap (λ (c : Cell). c.held) is ∙ fits.held ∙ (λ i. Some (record {
    ticket = entry.task.ticket;
    request = Execute op;
    told = Unanswered;
    command_td = entry.command_td.state;
    status_td = entry.status_td.state;
    data_td = Some (sym (state-after (took_trb (Begun (progress_left unit chunk op))) chunk) i);
  }));
  task = ap (λ (c : Cell). c.task) is;
  status = subst (λ (r : ItemRing). HoldsTd r (status_td (tag_of tags place)) entry.status_td) (sym (ap (λ (c : Cell). c.status) is)) fits.status;
  data_in = data_in;
  data_out = data_out;
  lent = ap (λ (c : Cell). c.buffers.lent) is;
  bytes = tt;
  unit = ap (λ (c : Cell). c.buffers.command) is ∙ fits.unit;
  answer = tt;
  sound = record { whole = long ∙ fits.sound.whole; chunk = sound-command unit.count op (progress_after unit chunk (work_of op unit.count)) (HasChunk-after unit chunk op unit.count fits.sound.chunk.1) };
}
