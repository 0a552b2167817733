-- A submission, of a command or of a task management, keeps what waits matched: its entry is new, under a free slot, and where its TDs have TRBs their streams
-- were rung. Cited by MatchedSteps.
use Rattle.std.proofs.Common.{◌≡◌, ℕ, ◌<◌, Bool, true, false, cond, List, [], ◌∷◌, ◌++◌, length, Option, Some, None, IfSome, refl, arith, ap, sym, subst, ◌∙◌}
use Rattle.std.specs.Prelude.{nat_lt, slice_get, slice_set, is_some, ◌==◌}
use Rattle.std.proofs.lemmas.Bool.{ltb-true, false≢true}
use Rattle.uas_profile.specs.declared.Pipe.{Pipe}
use Rattle.uas_profile.specs.declared.Pipe.TheVariants.{Command as CommandName, Status as StatusName, DataIn, DataOut}
use Rattle.scsi_cmd.specs.declared.Command.{Command}
use Rattle.uas_profile.specs.declared.Direction.{Direction}
use Rattle.uas_profile.specs.declared.Direction.TheVariants.{Nothing, ToHost, ToDevice}
use Rattle.scsi_cmd.specs.declared.Request.TheVariants.{Execute}
use Rattle.scsi_cmd.specs.declared.SubmitFault.{SubmitFault}
use Rattle.scsi_cmd.specs.declared.Task.{Task}
use Rattle.uas_profile.specs.declared.TheConstants.{MOST_TAGS}
use Rattle.scsi_cmd.specs.Held.{held_at}
use Rattle.scsi_cmd.specs.Op.{direction_of, moved_bytes}
use Rattle.uas_profile.specs.declared.PipeState.{PipeState}
use Rattle.uas_profile.specs.declared.Place.{Place}
use Rattle.uas_profile.specs.Tags.{place_of, command_slot, tag_of, task_slot}
use Rattle.shared_machine.specs.declared.Td.{Td}
use Rattle.shared_machine.specs.Td.{Entry, data_trbs, pushed, is_td_left_over, is_left_over_on, has_data_trb, has_trb_on, data_in_td, data_out_td}
use Rattle.shared_machine.specs.Part.{Part, data_td_for, fault_at, is_there, managed_part, named_slot, new_entry, new_management, noted_tickets, submitted_part}
use Rattle.shared_machine.specs.Part.{task_fault_at}
use Rattle.shared_machine.specs.Shared.{Shared, accepted, answered, is_held, managed_or, managed_to, pipe_of, submitted_to, submitted_under, task_step}
use Rattle.shared_machine.specs.Shared.{with_streams_rung}
use Rattle.shared_machine.specs.Soundness.{one_if, times_in}
use Rattle.machine_invariant.specs.Matched.{same_place, under, command_events, data_events, status_events, IsMatchedAt, IsMatched, retired_places, IsMatchedEntry}
use Rattle.machine_invariant.specs.Matched.{is_left_over_at, has_trb_at, is_whole_at}
use Rattle.shared_machine.specs.Pipes.{rung_unless}
use Rattle.machine_invariant.proofs.MatchedPlaces.{one_self, times-append, same_place-true, IsWritten, under-written, under-other, times_ready-written, clients-written}
use Rattle.machine_invariant.proofs.MatchedPlaces.{AreMatched-written, IsCounted, counted-of}
use Rattle.machine_invariant.proofs.MatchedEnds.{IsUnfaulted, unfaulted, IsSubmitted, submit-stepped, manage-stepped, task-unfaulted, over-left_in, over-left_out}
use Rattle.machine_invariant.proofs.MatchedFlows.{left_of, trb_of, whole_of, GoOn, IsCounted-kept}
use Rattle.machine_invariant.proofs.MatchedActs.{times_ready-there, under-there}
use Rattle.shared_machine.proofs.OwnSlots.{placed_slot-within}
use Rattle.shared_machine.proofs.Standing.{not_some}
use Rattle.shared_machine.proofs.NumberOfTags.{with_streams_rung-tags}

-- A REQUEST IS ADDED

pub rung-events : (state : Shared) (way : Direction) (tag : ℕ) → (with_streams_rung state way tag).events ≡ state.events
rung-events state Nothing tag = refl
rung-events state ToHost tag = refl
rung-events state ToDevice tag = refl

-- the state after a submission of any direction
abbrev submitted_state : Shared → Direction → ℕ → List Part → List Place → Shared
submitted_state state way tag parts messages = record (with_streams_rung state way tag) { parts = parts; messages = messages }

-- a request was added to a client's part
pub record IsAdded (part now : Part) (slot : ℕ) (entry : Entry) : Type 0 where
  pub within : slot < length part.entries
  pub entries : now.entries ≡ slice_set part.entries slot (Some entry)
  pub ready : now.ready ≡ part.ready

-- the state after it
abbrev added_state : Shared → Direction → ℕ → Place → Part → Shared
added_state state way tag place now = submitted_state state way tag (slice_set state.parts place.client now) (state.messages ++ place ∷ [])

added-written : (state : Shared) (way : Direction) (tag : ℕ) (place : Place) (part now : Part) (entry : Entry)
    → slice_get state.parts place.client ≡ Some part → IsAdded part now place.slot entry
    → IsWritten state (added_state state way tag place now) place (Some entry)
added-written state way tag place part now entry there added =
    let events : (added_state state way tag place now).events ≡ state.events = rung-events state way tag in
    record {
      part = part;
      now = now;
      there = there;
      within = added.within;
      tags = with_streams_rung-tags state way tag;
      parts = refl;
      entries = added.entries;
      queue = λ slot apart. ap (λ queue. times_in slot queue) added.ready;
      others = λ other apart. record {
        messages = omega (arith, times-append other state.messages (place ∷ []), ap one_if apart);
        carried = ap (command_events other) events;
        moved = ap (data_events other) events;
        sent = ap (status_events other) events;
      };
    }

-- a place of this client where nothing stands
none-under : (state : Shared) (place : Place) (part : Part) → slice_get state.parts place.client ≡ Some part →
    is_some (held_at part.entries place.slot) ≡ false → under state.parts place ≡ None
none-under state place part there free = under-there state.parts place part None there (not_some (held_at part.entries place.slot) free)

none-matched : (state : Shared) (place : Place) (part : Part) → slice_get state.parts place.client ≡ Some part
    → is_some (held_at part.entries place.slot) ≡ false → IsMatched state →
    IsMatchedAt state place None
none-matched state place part there free all = subst (λ held. IsMatchedAt state place held) (none-under state place part there free) (all.places place)

-- A doorbell makes a pipe run, and none of a held one is rung.
rung-held : (held : Bool) (pipe : PipeState) (tag : ℕ) → held ≡ true → (rung_unless held pipe tag).runs ≡ pipe.runs
rung-held held pipe tag is = ap (λ b. (rung_unless b pipe tag).runs) is

rung-free : (held : Bool) (pipe : PipeState) (tag : ℕ) → held ≡ false → (rung_unless held pipe tag).runs ≡ true
rung-free held pipe tag is = ap (λ b. (rung_unless b pipe tag).runs) is

rung-runs : (held : Bool) (pipe : PipeState) (tag : ℕ) → pipe.runs ≡ true → (rung_unless held pipe tag).runs ≡ true
rung-runs true pipe tag is = is
rung-runs false pipe tag is = refl

-- a submission leaves a pipe as it was, or rings it unless it is held
submitted-pipe : (P : PipeState → Type 0) (state : Shared) (way : Direction) (tag : ℕ) (parts : List Part) (messages : List Place) (pipe : Pipe) →
    P (pipe_of state pipe) → P (rung_unless (is_held state pipe) (pipe_of state pipe) tag) →
    P (pipe_of (submitted_state state way tag parts messages) pipe)
submitted-pipe P state way tag parts messages CommandName was rung = was
submitted-pipe P state Nothing tag parts messages StatusName was rung = rung
submitted-pipe P state ToHost tag parts messages StatusName was rung = rung
submitted-pipe P state ToDevice tag parts messages StatusName was rung = rung
submitted-pipe P state Nothing tag parts messages DataIn was rung = was
submitted-pipe P state ToHost tag parts messages DataIn was rung = rung
submitted-pipe P state ToDevice tag parts messages DataIn was rung = was
submitted-pipe P state Nothing tag parts messages DataOut was rung = was
submitted-pipe P state ToHost tag parts messages DataOut was rung = was
submitted-pipe P state ToDevice tag parts messages DataOut was rung = rung

submitted-held : (state : Shared) (way : Direction) (tag : ℕ) (parts : List Part) (messages : List Place) (pipe : Pipe) → is_held state pipe ≡ true →
    (pipe_of (submitted_state state way tag parts messages) pipe).runs ≡ (pipe_of state pipe).runs
submitted-held state way tag parts messages pipe held =
    submitted-pipe (λ p. p.runs ≡ (pipe_of state pipe).runs) state way tag parts messages pipe refl
    (rung-held (is_held state pipe) (pipe_of state pipe) tag held)

submitted-runs : (state : Shared) (way : Direction) (tag : ℕ) (parts : List Part) (messages : List Place) (pipe : Pipe) →
    (pipe_of state pipe).runs ≡ true → (pipe_of (submitted_state state way tag parts messages) pipe).runs ≡ true
submitted-runs state way tag parts messages pipe runs =
    submitted-pipe (λ p. p.runs ≡ true) state way tag parts messages pipe runs (rung-runs (is_held state pipe) (pipe_of state pipe) tag runs)

-- the TDs of this direction on a pipe that isn't held: their pipe was rung
abbrev submitted_trb : Direction → Pipe → Option Td → Bool
submitted_trb way CommandName td = false
submitted_trb way StatusName td = true
submitted_trb way DataIn td = is_some (data_in_td way td)
submitted_trb way DataOut td = is_some (data_out_td way td)

submitted-rung : (state : Shared) (way : Direction) (tag : ℕ) (parts : List Part) (messages : List Place) (pipe : Pipe) (td : Option Td) →
    is_held state pipe ≡ false → submitted_trb way pipe td ≡ true → (pipe_of (submitted_state state way tag parts messages) pipe).runs ≡ true
submitted-rung state way tag parts messages CommandName td free has = refl
submitted-rung state Nothing tag parts messages StatusName td free has = rung-free (is_held state StatusName) state.status tag free
submitted-rung state ToHost tag parts messages StatusName td free has = rung-free (is_held state StatusName) state.status tag free
submitted-rung state ToDevice tag parts messages StatusName td free has = rung-free (is_held state StatusName) state.status tag free
submitted-rung state Nothing tag parts messages DataIn td free has = absurd (false≢true has)
submitted-rung state ToHost tag parts messages DataIn td free has = rung-free (is_held state DataIn) state.data_in tag free
submitted-rung state ToDevice tag parts messages DataIn td free has = absurd (false≢true has)
submitted-rung state Nothing tag parts messages DataOut td free has = absurd (false≢true has)
submitted-rung state ToHost tag parts messages DataOut td free has = absurd (false≢true has)
submitted-rung state ToDevice tag parts messages DataOut td free has = rung-free (is_held state DataOut) state.data_out tag free

rung-retirement : (state : Shared) (way : Direction) (tag : ℕ) → (with_streams_rung state way tag).retirement ≡ state.retirement
rung-retirement state Nothing tag = refl
rung-retirement state ToHost tag = refl
rung-retirement state ToDevice tag = refl

-- what is so of the entry that was added: its TDs are new, and where they have a TRB their stream was rung
pub record IsNewOn (way : Direction) (td : Option Td) (entry : Entry) : Type 0 where
  pub rung : (pipe : Pipe) → has_trb_on pipe entry ≡ true → submitted_trb way pipe td ≡ true
  pub none_left : (pipe : Pipe) → is_left_over_on pipe entry ≡ false

-- at the place of a submission, and elsewhere
added-go : (state : Shared) (way : Direction) (tag : ℕ) (place : Place) (part now_part : Part) (td : Option Td) (entry : Entry) →
    slice_get state.parts place.client ≡ Some part → IsAdded part now_part place.slot entry → IsNewOn way td entry → under state.parts place ≡ None →
    GoOn state (added_state state way tag place now_part)
added-go state way tag place part now_part td entry there added new free =
    let now : Shared = added_state state way tag place now_part in
    let parts : List Part = slice_set state.parts place.client now_part in
    let messages : List Place = state.messages ++ place ∷ [] in
    let written : IsWritten state now place (Some entry) = added-written state way tag place part now_part entry there added in
    let here : under now.parts place ≡ Some entry = under-written state now place (Some entry) written in
    let apart : (other : Place) → same_place place other ≡ false → under now.parts other ≡ under state.parts other =
    λ other differ. under-other state now place other (Some entry) written differ in
    record {
      clients = clients-written state now place (Some entry) written;
      retirement = rung-retirement state way tag;
      held = λ pipe held. submitted-held state way tag parts messages pipe held;
      left = λ pipe other left. by_place other (λ at. is_left_over_at now pipe at ≡ true)
          (λ same. absurd (false≢true (sym (ap (left_of pipe) (sym (ap (λ at. under state.parts at) same) ∙ free)) ∙ left)))
          (λ differ. ap (left_of pipe) (apart other differ) ∙ left);
      whole = λ pipe other left is. by_place other (λ at. is_whole_at now pipe at ≡ true)
          (λ same. absurd (false≢true (sym (ap (left_of pipe) (sym (ap (λ at. under state.parts at) same) ∙ free)) ∙ left)))
          (λ differ. ap (whole_of pipe) (apart other differ) ∙ is);
      runs = λ pipe other unheld has was. by_place other (λ at. (pipe_of now pipe).runs ≡ true)
          (λ same. submitted-rung state way tag parts messages pipe td unheld
          (new.rung pipe (sym (ap (trb_of pipe) (sym (ap (λ at. under now.parts at) same) ∙ here)) ∙ has)))
          (λ differ. submitted-runs state way tag parts messages pipe (was (sym (ap (trb_of pipe) (apart other differ)) ∙ has)));
      fresh = λ pipe other left was. by_place other (λ at. has_trb_at now pipe at ≡ true)
          (λ same. absurd (false≢true (sym (new.none_left pipe) ∙ sym (ap (left_of pipe) (sym (ap (λ at. under now.parts at) same) ∙ here)) ∙ left)))
          (λ differ. ap (trb_of pipe) (apart other differ) ∙ was (sym (ap (left_of pipe) (apart other differ)) ∙ left));
    }
  where
    by_place : (other : Place) (P : Place → Type 0) → (place ≡ other → P other) → (same_place place other ≡ false → P other) → P other
    by_place other P same differ =
        elim (same_place place other) as (λ b. same_place place other ≡ b → P other) [
          | true ↦ λ is. same (same_place-true place other is)
          | false ↦ λ is. differ is
        ] refl

-- a request that is added under a free slot
added-matched : (state : Shared) (way : Direction) (tag : ℕ) (place : Place) (part now_part : Part) (td : Option Td) (entry : Entry) →
    slice_get state.parts place.client ≡ Some part → IsAdded part now_part place.slot entry → IsNewOn way td entry →
    is_some (held_at part.entries place.slot) ≡ false → IsSubmitted state.tags place.slot entry → IsMatched state →
    IsCounted (added_state state way tag place now_part)
unfolding added-written
added-matched state way tag place part now_part td entry there added new free step all =
    let now : Shared = added_state state way tag place now_part in
    let written = added-written state way tag place part now_part entry there added in
    let here : IsMatchedAt state place None = none-matched state place part there free all in
    let events : now.events ≡ state.events = rung-events state way tag in
    let tags : now.tags ≡ state.tags = with_streams_rung-tags state way tag in
    IsCounted-kept state now
    (added-go state way tag place part now_part td entry there added new (none-under state place part there free))
    (AreMatched-written state now place (Some entry) written (record {
      messages = omega (arith, times-append place state.messages (place ∷ []), one_self place, here.messages, step.messages);
      carried = ap (command_events place) events ∙ here.carried ∙ sym step.carried;
      moved = ap (data_events place) events ∙ here.moved ∙ sym step.moved;
      sent = ap (status_events place) events ∙ here.sent ∙ sym step.sent;
      ready = times_ready-written state now place (Some entry) written ∙ ap (λ queue. times_in place.slot queue) added.ready
          ∙ sym (times_ready-there state.parts place part there) ∙ here.ready ∙ sym step.ready;
      sound = subst (λ count. IsMatchedEntry count place.slot entry) (sym tags) step.sound;
    }) (counted-of state all).matched)
    (ap (λ events. retired_places events) events)
    (counted-of state all)

-- A COMMAND

trb-some : (trbs : ℕ) (td : Option Td) → has_data_trb trbs td ≡ true → is_some td ≡ true
trb-some trbs None has = absurd (false≢true has)
trb-some trbs (Some td) has = refl

new-trb : (pipe : Pipe) (ticket : ℕ) (command : Command) → has_trb_on pipe (new_entry ticket command) ≡ true →
    submitted_trb (direction_of command.op) pipe (data_td_for (moved_bytes command.op)) ≡ true
new-trb CommandName ticket command has = absurd (false≢true has)
new-trb StatusName ticket command has = refl
new-trb DataIn ticket command has =
    trb-some (data_trbs (Execute command.op)) (data_in_td (direction_of command.op) (data_td_for (moved_bytes command.op))) has
new-trb DataOut ticket command has =
    trb-some (data_trbs (Execute command.op)) (data_out_td (direction_of command.op) (data_td_for (moved_bytes command.op))) has

-- what was pushed isn't left over
data_for-left : (bytes : ℕ) → is_td_left_over (data_td_for bytes) ≡ false
data_for-left bytes =
    elim (bytes == 0) as (λ b. is_td_left_over (cond b (let none : Option Td = None in none) (Some pushed)) ≡ false) [
      | true ↦ refl
      | false ↦ refl
    ]

new-left : (pipe : Pipe) (ticket : ℕ) (command : Command) → is_left_over_on pipe (new_entry ticket command) ≡ false
new-left CommandName ticket command = refl
new-left StatusName ticket command = refl
new-left DataIn ticket command = over-left_in (direction_of command.op) (data_td_for (moved_bytes command.op)) (data_for-left (moved_bytes command.op))
new-left DataOut ticket command = over-left_out (direction_of command.op) (data_td_for (moved_bytes command.op)) (data_for-left (moved_bytes command.op))

accepted-matched : (state : Shared) (part : Part) (place : Place) (tag ticket : ℕ) (command : Command) → slice_get state.parts place.client ≡ Some part
    → place.slot < length part.entries → place.slot < (task_slot state.tags) →
    IsUnfaulted (is_some (held_at part.entries place.slot)) command.op → IsMatched state → IsCounted (accepted state part place tag ticket command).0
accepted-matched state part place tag ticket command there within slot fine all =
    added-matched state (direction_of command.op) tag place part (submitted_part part place.slot ticket command) (data_td_for (moved_bytes command.op))
    (new_entry ticket command) there (record { within = within; entries = refl; ready = refl })
    (record { rung = λ pipe has. new-trb pipe ticket command has; none_left = λ pipe. new-left pipe ticket command }) fine.free
    (submit-stepped place.slot ticket command slot fine.short) all

pub slots-there : (state : Shared) (client : ℕ) (part : Part) → IsMatched state → slice_get state.parts client ≡ Some part → length part.entries ≡ MOST_TAGS
slots-there state client part all there = subst (λ found. IfSome found (λ part. length part.entries ≡ MOST_TAGS)) there (all.slots client)

answered-matched : (state : Shared) (part : Part) (place : Place) (tag ticket : ℕ) (command : Command) (fault : Option SubmitFault)
    → slice_get state.parts place.client ≡ Some part →
    place.slot < length part.entries → place.slot < (task_slot state.tags) → fault_at part place.slot ticket command ≡ fault → IsMatched state
    → IsCounted (answered state part place tag ticket command fault).0
answered-matched state part place tag ticket command None there within slot is all =
    accepted-matched state part place tag ticket command there within slot
    (unfaulted (is_some (held_at part.entries place.slot)) part.least_ticket ticket command is) all
answered-matched state part place tag ticket command (Some fault) there within slot is all = counted-of state all

submitted_to-matched : (state : Shared) (place : Place) (tag ticket : ℕ) (command : Command) (found : Option Part)
    → slice_get state.parts place.client ≡ found →
    nat_lt place.slot (task_slot state.tags) ≡ true → IsMatched state → IsCounted (submitted_to state place tag ticket command found).0
submitted_to-matched state place tag ticket command None is within all = counted-of state all
submitted_to-matched state place tag ticket command (Some part) is within all =
    answered-matched state part place tag ticket command (fault_at part place.slot ticket command) is
    (omega (arith, ltb-true place.slot (task_slot state.tags) within, slots-there state place.client part all is, all.tags.most)) (ltb-true place.slot (task_slot state.tags) within) refl all

pub submitted_under-matched : (state : Shared) (client tag ticket : ℕ) (command : Command) (slot : Option ℕ)
    → command_slot state.tags (length state.parts) client tag ≡ slot → IsMatched state →
    IsCounted (submitted_under state client tag ticket command slot).0
submitted_under-matched state client tag ticket command None is all = counted-of state all
submitted_under-matched state client tag ticket command (Some slot) is all =
    submitted_to-matched state (record { client = client; slot = slot }) tag ticket command (slice_get state.parts client) refl
    (placed_slot-within state.tags client (place_of state.tags (length state.parts) tag) slot is) all

-- A TASK MANAGEMENT: it moves no data, and rings its status stream

management-trb : (pipe : Pipe) (ticket : ℕ) (task : Task) (noted : List ℕ) → has_trb_on pipe (new_management ticket task noted) ≡ true →
    submitted_trb Nothing pipe None ≡ true
management-trb CommandName ticket task noted has = absurd (false≢true has)
management-trb StatusName ticket task noted has = refl
management-trb DataIn ticket task noted has = absurd (false≢true has)
management-trb DataOut ticket task noted has = absurd (false≢true has)

management-left : (pipe : Pipe) (ticket : ℕ) (task : Task) (noted : List ℕ) → is_left_over_on pipe (new_management ticket task noted) ≡ false
management-left CommandName ticket task noted = refl
management-left StatusName ticket task noted = refl
management-left DataIn ticket task noted = refl
management-left DataOut ticket task noted = refl

managed_or-matched : (state : Shared) (part : Part) (client : ℕ) (slot : Option ℕ) (ticket : ℕ) (task : Task) (fault : Option SubmitFault) →
    slice_get state.parts client ≡ Some part → task_fault_at state.tags part slot ticket task ≡ fault → IsMatched state →
    IsCounted (managed_or state part (record { client = client; slot = (task_slot state.tags) }) slot ticket task fault).0
managed_or-matched state part client slot ticket task None there is all =
    let place : Place = record { client = client; slot = (task_slot state.tags) } in
    let noted : List ℕ = noted_tickets state.tags part slot task in
    added-matched state Nothing (tag_of state.tags place) place part (managed_part state.tags part slot ticket task) None (new_management ticket task noted) there
    (record { within = omega (arith, slots-there state client part all there, all.tags.most); entries = refl; ready = refl })
    (record { rung = λ pipe has. management-trb pipe ticket task noted has; none_left = λ pipe. management-left pipe ticket task noted })
    (task-unfaulted (is_some (held_at part.entries (task_slot state.tags))) part.least_ticket ticket (is_there part slot task) is)
    (manage-stepped ticket task noted) all
managed_or-matched state part client slot ticket task (Some fault) there is all = counted-of state all

managed_to-matched : (state : Shared) (client : ℕ) (slot : Option ℕ) (ticket : ℕ) (task : Task) (found : Option Part) → slice_get state.parts client ≡ found →
    IsMatched state → IsCounted (managed_to state (record { client = client; slot = (task_slot state.tags) }) slot ticket task found).0
managed_to-matched state client slot ticket task None is all = counted-of state all
managed_to-matched state client slot ticket task (Some part) is all =
    managed_or-matched state part client slot ticket task (task_fault_at state.tags part slot ticket task) is refl all

pub task_step-matched : (state : Shared) (client ticket : ℕ) (task : Task) → IsMatched state → IsCounted (task_step state client ticket task).0
task_step-matched state client ticket task all =
    managed_to-matched state client (named_slot state.tags (length state.parts) client task) ticket task (slice_get state.parts client) refl all
