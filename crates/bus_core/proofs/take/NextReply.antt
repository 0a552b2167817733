-- How long the buffer is that the next reply brings: the host tells it by the operation, as the buffer has the length that it moves.
use Rattle.std.proofs.Common.{◌≡◌, ℕ, ◌≤◌, true, List, [], ◌∷◌, length, Option, Some, None, refl, arith, ap, sym, ◌∙◌}
use Rattle.std.specs.Prelude.{slice_get}
use Rattle.std.specs.Option.{option_map_or}
use Rattle.scsi_cmd.specs.declared.Request.{Request}
use Rattle.scsi_cmd.specs.declared.Request.TheVariants.{Execute, Manage}
use Rattle.solo_model.specs.declared.Phase.{Phase}
use Rattle.solo_model.specs.declared.Phase.TheVariants.{Queued, Begun, Sent, Gone}
use Rattle.solo_model.specs.declared.TaskAnswer.TheVariants.{WithStatus, WithResponse}
use Rattle.solo_model.specs.TaggedTask.{TaggedTask}
use Rattle.solo_model.specs.Soundness.{IsSoundRequest}
use Rattle.uas_host.specs.declared.HostClient.{HostClient}
use Rattle.uas_profile.specs.TdStates.{is_over}
use Rattle.uas_host.specs.State.{client_of, new_client}
use Rattle.uas_host.specs.NextReply.{entry_len as host_entry_len, first_len as host_first_len, next_len as host_next_len, request_len}
use Rattle.shared_machine.specs.declared.Td.{Td}
use Rattle.shared_machine.specs.Part.{Part}
use Rattle.shared_machine.specs.Shared.{Shared}
use Rattle.shared_machine.specs.Laws.{brought_len, entry_len, first_len, next_len, part_len, sent_len}
use Rattle.shared_machine.proofs.Standing.{get-none}
use Rattle.machine_invariant.specs.Matched.{IsPhaseOf, IsStatusTd}
use Rattle.machine_invariant.proofs.MatchedEnds.{pushed-over}
use Rattle.bus_core.specs.World.{World}
use Rattle.bus_core.specs.Fits.{Fits}
use Rattle.bus_core.proofs.common.CellWrites.{clients-length, index-past}
use Rattle.bus_core.proofs.common.Framing.{found}
use Rattle.bus_core.proofs.take.Taking.{IsReadyAt, ready-at, ready-found}

-- a request brings as many bytes as it moves
brought-is : (count : ℕ) (task : TaggedTask) (request : Request) → IsSoundRequest count task request → brought_len request task.buffer ≡ request_len request
brought-is count task (Execute op) sound = sound.whole
brought-is count task (Manage what noted) sound = refl

-- and does so once its status TD is over
sent-is : (phase : Phase) (request : Request) (buffer : List ℕ) (td : Td) → IsPhaseOf request phase → IsStatusTd phase td → is_over td.state ≡ true
    → sent_len phase request buffer ≡ brought_len request buffer
sent-is Queued request buffer td answers status over = absurd (pushed-over td status over)
sent-is (Begun progress) request buffer td answers status over = absurd (pushed-over td status over)
sent-is (Sent (WithStatus answer)) request buffer td answers status over = refl
sent-is (Sent (WithResponse code)) (Execute op) buffer td answers status over = absurd answers
sent-is (Sent (WithResponse code)) (Manage what noted) buffer td answers status over = refl
sent-is Gone request buffer td answers status over = refl

-- where this slot is ready first
ready-len : (state : Shared) (world : World) (client slot : ℕ) (rest : List ℕ) (part : Part) (at : IsReadyAt state world client slot rest part)
    → first_len part (slot ∷ rest) ≡ host_first_len (client_of world.host client) (slot ∷ rest)
ready-len state world client slot rest part at =
    ap (λ held. option_map_or entry_len held 0) at.held
    ∙ sent-is at.entry.task.phase at.entry.task.request at.entry.task.buffer at.entry.status_td at.matched.answers at.matched.status at.status_over
    ∙ brought-is part.unit.count at.entry.task at.entry.task.request at.cell.sound
    ∙ sym (ap (λ held. option_map_or host_entry_len held 0) at.cell.held)

part-len : (state : Shared) (world : World) (client : ℕ) (part : Part) (ready : List ℕ) → Fits state world → slice_get state.parts client ≡ Some part
    → part.ready ≡ ready → first_len part ready ≡ host_first_len (client_of world.host client) ready
part-len state world client part [] fits there queue = refl
part-len state world client part (slot ∷ rest) fits there queue =
    ready-len state world client slot rest part (ready-at state world client slot rest part fits there queue)

client-len : (state : Shared) (world : World) (client : ℕ) (at : Option Part) → Fits state world → slice_get state.parts client ≡ at
    → option_map_or part_len at 0 ≡ host_next_len world.host client
client-len state world client None fits there =
    let past : length world.host.clients ≤ client = omega (arith, clients-length state.tags world state.parts fits.clients, get-none state.parts client there) in
    sym (ap (λ (c : HostClient). host_first_len c c.ready.items) (index-past world.host.clients client new_client past))
client-len state world client (Some part) fits there =
    part-len state world client part part.ready fits there refl
    ∙ sym (ap (host_first_len (client_of world.host client)) (ready-found state.tags world client part (found state.tags world state.parts client part fits.clients there)))

-- the shared machine's is the host's
pub next_len-host : (state : Shared) (world : World) (client : ℕ) → Fits state world → next_len state client ≡ host_next_len world.host client
next_len-host state world client fits = client-len state world client (slice_get state.parts client) fits refl
