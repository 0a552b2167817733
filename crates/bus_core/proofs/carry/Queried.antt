-- The device's answer to a query is the shared machine's: the tag that the query names has a command's task of the client's unit just where the
-- entry of the ticket that it noted is begun. Cited by ManagedFits.
use Rattle.std.proofs.Common.{◌≡◌, ℕ, zero, suc, ◌<◌, Bool, true, false, List, length, Option, Some, None, option_map, refl, arith, ap, sym, subst, ◌∙◌}
use Rattle.std.specs.Prelude.{IfSome, ◌==◌}
use Rattle.std.specs.Option.{option_map_or}
use Rattle.std.proofs.Math.ListN.{get_or-map}
use Rattle.std.proofs.lemmas.Bool.{and_from, and_parts, eq-eqb, eqb-true, eqb-false, false≢true, false_from_ne_true}
use Rattle.std.proofs.lemmas.List.{get_or_default, length-map}
use Rattle.std.proofs.lemmas.List.Folds.{list_any_at, list_any_none}
use Rattle.std.proofs.lemmas.Option.{same_Some}
use Rattle.arrayvec.specs.ArrayVec.{ArrayVec}
use Rattle.scsi_cmd.specs.declared.Op.{Op}
use Rattle.scsi_cmd.specs.declared.Request.{Request}
use Rattle.scsi_cmd.specs.declared.Request.TheVariants.{Execute, Manage}
use Rattle.scsi_cmd.specs.declared.Task.{Task}
use Rattle.scsi_cmd.specs.declared.Task.TheVariants.{Query}
use Rattle.scsi_cmd.specs.Held.{held_at}
use Rattle.solo_model.specs.declared.Phase.{Phase}
use Rattle.solo_model.specs.declared.Phase.TheVariants.{Queued, Begun, Sent, Gone}
use Rattle.solo_model.specs.declared.TaskAnswer.TheVariants.{WithStatus, WithResponse}
use Rattle.solo_model.specs.declared.TaskProgress.TheVariants.{Moving, Ended}
use Rattle.solo_model.specs.TaggedTask.{finds, is_begun, is_noted, is_under_way}
use Rattle.uas_target.specs.declared.DeviceTask.{DeviceTask}
use Rattle.uas_target.specs.Device.{has_command, task_of}
use Rattle.uas_target.specs.Tasks.{is_command_of}
use Rattle.uas_profile.specs.declared.Place.{Place}
use Rattle.uas_profile.specs.Tags.{place_of, tag_of}
use Rattle.shared_machine.specs.Bus.{IsPlace}
use Rattle.shared_machine.specs.Td.{Entry}
use Rattle.shared_machine.specs.Part.{Part, tasks_in}
use Rattle.shared_machine.specs.Shared.{Shared}
use Rattle.machine_invariant.specs.Ordered.{is_queued}
use Rattle.machine_invariant.specs.Matched.{held_in, IsCommandPhase, IsMatchedAt, IsPhaseOf, IsRequestIn, under}
use Rattle.machine_invariant.proofs.OrderedManaged.{IsNotedAsReceived, of_client}
use Rattle.bus_core.specs.World.{World, cell_at}
use Rattle.bus_core.specs.Cells.{FitsCell, FitsHeld}
use Rattle.bus_core.specs.Hosts.{phase_task}
use Rattle.bus_core.specs.Fits.{Fits, place_in}
use Rattle.bus_core.proofs.carry.Aborted.{phase_task-foreign}
use Rattle.bus_core.proofs.common.ActFits.{IsPlaced, place_of-tag}
use Rattle.bus_core.proofs.event.Resumed.{}
use Rattle.bus_core.proofs.retire.EngineCells.{at-place, is-place}
use Rattle.uas_profile.specs.Tags.{task_slot}
use Rattle.machine_invariant.proofs.MatchedBounds.{held-place}
use Rattle.uas_profile.proofs.TagLaws.{unnamed-is_above}

-- what the order tells of each command of the client
abbrev pub KnowsEach : Shared → Place → Task → ArrayVec ℕ → Type 0
KnowsEach state place what noted =
    (slot : ℕ) (entry : Entry) → slot < (task_slot state.tags) → under state.parts (of_client place slot) ≡ Some entry → IsNotedAsReceived state.tags place.client slot what noted entry

-- what stands in a slot for commands asks for one
pub asks_op : (tags : ℕ) (slot : ℕ) (request : Request) → IsRequestIn tags slot request → slot < (task_slot tags) → (op : Op) × (request ≡ Execute op)
asks_op tags slot (Execute op) asks below = (op, refl)
asks_op tags slot (Manage what noted) asks below = absurd (omega (arith, asks, below))

-- the query of a client whose request the device is to receive
pub record IsQuery (state : Shared) (world : World) (place : Place) (entry : Entry) (tag : ℕ) (noted : ArrayVec ℕ) : Type 0 where
  pub at : IsPlaced state world place entry
  pub fits : Fits state world
  pub queued : entry.task.phase ≡ Queued
  pub last : place.slot ≡ (task_slot state.tags)
  pub knows : KnowsEach state place (Query tag) noted

-- the device has a command's task of the unit there
abbrev has_at : World → ℕ → ℕ → Bool
has_at world client tag = option_map_or (is_command_of client) (task_of world.device tag) false

-- ONE SLOT

-- the device has the task of a command that is begun, and of no other
has-begun : (client : ℕ) (op : Op) (phase : Phase) → IsCommandPhase phase
    → option_map_or (is_command_of client) (phase_task (Some client) (Execute op) phase) false ≡ is_begun phase
has-begun client op Queued answers = refl
has-begun client op (Begun (Moving chunk)) answers = eq-eqb client client refl
has-begun client op (Begun (Ended (WithStatus answer))) answers = eq-eqb client client refl
has-begun client op (Begun (Ended (WithResponse code))) answers = absurd answers
has-begun client op (Sent answer) answers = refl
has-begun client op Gone answers = refl

-- what is begun isn't queued
begun-received : (phase : Phase) → is_begun phase ≡ true → is_queued phase ≡ false
begun-received Queued begun = absurd (false≢true begun)
begun-received (Begun progress) begun = refl
begun-received (Sent answer) begun = refl
begun-received Gone begun = refl

-- what stands in a slot of the client
slot-under : (state : Shared) (world : World) (place : Place) (entry : Entry) (at : IsPlaced state world place entry) (slot : ℕ) (one : Entry)
    → held_at at.part.entries slot ≡ Some one → under state.parts (place_in place.client slot) ≡ Some one
slot-under state world place entry at slot one held = ap (λ found. option_map_or (held_in (place_in place.client slot)) found None) at.there ∙ held

slot-begun : (state : Shared) (world : World) (place : Place) (entry : Entry) (tag : ℕ) (noted : ArrayVec ℕ) (it : IsQuery state world place entry tag noted)
    (slot : ℕ) (one : Entry) → slot < (task_slot state.tags) → held_at it.at.part.entries slot ≡ Some one
    → has_at world place.client (tag_of state.tags (place_in place.client slot)) ≡ is_begun one.task.phase
slot-begun state world place entry tag noted it slot one below held =
    let matched : IsMatchedAt state (place_in place.client slot) (Some one) =
    subst (λ h. IsMatchedAt state (place_in place.client slot) h) (slot-under state world place entry it.at slot one held)
    (it.fits.matched.places (place_in place.client slot)) in
    let op = asks_op state.tags slot one.task.request matched.sound.asks below in
    let cell : FitsCell state.tags place.client it.at.part.unit.count (place_in place.client slot) one (cell_at state.tags world (place_in place.client slot)) =
    subst (λ h. FitsHeld state.tags place.client it.at.part.unit.count (place_in place.client slot) h (cell_at state.tags world (place_in place.client slot))) held
    (it.at.client.fits.cells slot (omega (arith, below))) in
    ap (λ t. option_map_or (is_command_of place.client) t false) (cell.task ∙ ap (λ r. phase_task (Some place.client) r one.task.phase) op.1)
    ∙ has-begun place.client op.0 one.task.phase (subst (λ r. IsPhaseOf r one.task.phase) op.1 matched.sound.answers)

-- the slot of task managements has the query alone, which isn't begun
own-queued : (state : Shared) (world : World) (place : Place) (entry : Entry) (tag : ℕ) (noted : ArrayVec ℕ) (it : IsQuery state world place entry tag noted)
    (slot : ℕ) (one : Entry) → slot ≡ (task_slot state.tags) → held_at it.at.part.entries slot ≡ Some one → is_begun one.task.phase ≡ false
own-queued state world place entry tag noted it slot one last held =
    let same : one ≡ entry = same_Some one entry (sym held ∙ ap (held_at it.at.part.entries) (last ∙ sym it.last) ∙ it.at.held) in
    ap (λ (e : Entry). is_begun e.task.phase) same ∙ ap is_begun it.queued

-- WHAT THE ENTRIES SAY, THE DEVICE HAS

-- a command of the client that the query noted and that is begun stands on the tag
found-named : (state : Shared) (world : World) (place : Place) (entry : Entry) (tag : ℕ) (noted : ArrayVec ℕ) (it : IsQuery state world place entry tag noted)
    (slot : ℕ) (one : Entry) → slot < (task_slot state.tags) → held_at it.at.part.entries slot ≡ Some one → is_noted noted.items one.task.ticket ≡ true
    → tag ≡ tag_of state.tags (place_in place.client slot)
found-named state world place entry tag noted it slot one below held noted_is =
    let knows = it.knows slot one below (slot-under state world place entry it.at slot one held) in
    elim (tag == tag_of state.tags (place_in place.client slot)) as (λ b. (tag == tag_of state.tags (place_in place.client slot)) ≡ b → tag ≡ tag_of state.tags (place_in place.client slot)) [
      | true ↦ λ is. eqb-true tag (tag_of state.tags (place_in place.client slot)) is
      | false ↦ λ is. absurd (false≢true (sym (knows.unnamed is) ∙ noted_is))
    ] refl

-- what is in a slot isn't under way where the device has no command on the tag
slot-not_under_way : (state : Shared) (world : World) (place : Place) (entry : Entry) (tag : ℕ) (noted : ArrayVec ℕ)
    (it : IsQuery state world place entry tag noted) (slot : ℕ) (one : Entry) → slot < state.tags → held_at it.at.part.entries slot ≡ Some one
    → has_at world place.client tag ≡ false → is_under_way noted.items one.task ≡ false
slot-not_under_way state world place entry tag noted it slot one inside held none =
    false_from_ne_true (is_under_way noted.items one.task) (λ is.
    let both = and_parts (is_begun one.task.phase) (is_noted noted.items one.task.ticket) is in
    elim (slot == (task_slot state.tags)) as (λ b. (slot == (task_slot state.tags)) ≡ b → ⊥) [
      | true ↦ λ last. false≢true (sym (own-queued state world place entry tag noted it slot one (eqb-true slot (task_slot state.tags) last) held) ∙ both.0)
      | false ↦ λ other.
          let apart : slot ≡ (task_slot state.tags) → ⊥ = eqb-false slot (task_slot state.tags) other in
          let below : slot < (task_slot state.tags) = omega (arith, inside, apart) in
          let named = found-named state world place entry tag noted it slot one below held both.1 in
          false≢true (sym none ∙ ap (has_at world place.client) named ∙ slot-begun state world place entry tag noted it slot one below held ∙ both.0)
    ] refl)

-- what stands in a slot of the tasks
task-held : (entries : List (Option Entry)) (slot : ℕ) → held_at (tasks_in entries) slot ≡ option_map (λ entry. entry.task) (held_at entries slot)
task-held entries slot = get_or-map (option_map (λ (entry : Entry). entry.task)) entries slot None

not-found : (state : Shared) (world : World) (place : Place) (entry : Entry) (tag : ℕ) (noted : ArrayVec ℕ) (it : IsQuery state world place entry tag noted)
    → has_at world place.client tag ≡ false → finds (Manage (Query tag) noted) (tasks_in it.at.part.entries) ≡ false
not-found state world place entry tag noted it none =
    list_any_none (λ held. option_map_or (is_under_way noted.items) held false) (tasks_in it.at.part.entries)
    (λ slot d within.
    ap (λ held. option_map_or (is_under_way noted.items) held false)
    (get_or_default (tasks_in it.at.part.entries) slot d None within ∙ task-held it.at.part.entries slot)
    ∙ in-slot slot (held_at it.at.part.entries slot) refl)
  where
    in-slot : (slot : ℕ) (held : Option Entry) → held_at it.at.part.entries slot ≡ held
        → option_map_or (is_under_way noted.items) (option_map (λ (one : Entry). one.task) held) false ≡ false
    in-slot slot None is = refl
    in-slot slot (Some one) is =
        let inside : slot < state.tags =
        (held-place state (place_in place.client slot) one it.fits.matched (slot-under state world place entry it.at slot one is)).slot in
        slot-not_under_way state world place entry tag noted it slot one inside is none

-- WHAT THE DEVICE HAS, THE ENTRIES SAY

-- a tag that is no client's has nothing, nor has a tag of another client a command of this one
tag-none : (state : Shared) (world : World) (client tag : ℕ) → Fits state world → place_of state.tags (length state.parts) tag ≡ None → has_at world client tag ≡ false
tag-none state world client zero fits none = refl
tag-none state world client (suc before) fits none =
    ap (λ t. option_map_or (is_command_of client) t false)
    (fits.others (suc before) (unnamed-is_above state.tags (length state.parts) (suc before) (omega arith) none))

foreign-none : (state : Shared) (world : World) (client : ℕ) (other : Place) → Fits state world → IsPlace state.tags (length state.parts) other
    → (other.client ≡ client → ⊥) → has_at world client (tag_of state.tags other) ≡ false
foreign-none state world client other fits there apart =
    at-place state.tags state.parts world other (λ entry. false) (λ cell fact. option_map_or (is_command_of client) cell.task false ≡ false) fits.clients there
    (λ empty. ap (λ t. option_map_or (is_command_of client) t false) empty.task)
    (λ entry count cell.
    ap (λ t. option_map_or (is_command_of client) t false) cell.task ∙ no-command (phase_task (Some other.client) entry.task.request entry.task.phase)
    (phase_task-foreign client other.client entry.task.request entry.task.phase apart))
  where
    no-command : (task : Option DeviceTask) → IfSome task (λ one. is_command_of client one ≡ false) → option_map_or (is_command_of client) task false ≡ false
    no-command None none = refl
    no-command (Some one) none = none

-- a command that the device has on the tag of a slot of the client is under way and noted
slot-found : (state : Shared) (world : World) (place : Place) (entry : Entry) (tag : ℕ) (noted : ArrayVec ℕ) (it : IsQuery state world place entry tag noted)
    (slot : ℕ) (held : Option Entry) → slot < state.tags → held_at it.at.part.entries slot ≡ held → tag ≡ tag_of state.tags (place_in place.client slot)
    → has_at world place.client tag ≡ true → finds (Manage (Query tag) noted) (tasks_in it.at.part.entries) ≡ true
slot-found state world place entry tag noted it slot None inside held named has =
    let cell = subst (λ h. FitsHeld state.tags place.client it.at.part.unit.count (place_in place.client slot) h (cell_at state.tags world (place_in place.client slot))) held
    (it.at.client.fits.cells slot inside) in
    absurd (false≢true (sym (ap (has_at world place.client) named ∙ ap (λ t. option_map_or (is_command_of place.client) t false) cell.task) ∙ has))
slot-found state world place entry tag noted it slot (Some one) inside held named has =
    elim (slot == (task_slot state.tags)) as (λ b. (slot == (task_slot state.tags)) ≡ b → finds (Manage (Query tag) noted) (tasks_in it.at.part.entries) ≡ true) [
      | true ↦ λ is.
          let last : slot ≡ (task_slot state.tags) = eqb-true slot (task_slot state.tags) is in
          let own : tag_of state.tags (place_in place.client slot) ≡ tag_of state.tags place = ap (λ s. tag_of state.tags (place_in place.client s)) (last ∙ sym it.last) in
          let none : task_of world.device (tag_of state.tags place) ≡ None =
          it.at.cell.task ∙ ap (λ p. phase_task (Some place.client) entry.task.request p) it.queued in
          absurd (false≢true (sym (ap (has_at world place.client) (named ∙ own) ∙ ap (λ t. option_map_or (is_command_of place.client) t false) none) ∙ has))
      | false ↦ λ is.
          let apart : slot ≡ (task_slot state.tags) → ⊥ = eqb-false slot (task_slot state.tags) is in
          let below : slot < (task_slot state.tags) = omega (arith, inside, apart) in
          let begun : is_begun one.task.phase ≡ true =
          sym (slot-begun state world place entry tag noted it slot one below held) ∙ sym (ap (has_at world place.client) named) ∙ has in
          let knows = it.knows slot one below (slot-under state world place entry it.at slot one held) in
          let noted_is : is_noted noted.items one.task.ticket ≡ true =
          knows.named (begun-received one.task.phase begun) (eq-eqb tag (tag_of state.tags (place_in place.client slot)) named) in
          list_any_at (λ held. option_map_or (is_under_way noted.items) held false) (tasks_in it.at.part.entries) slot None
          (omega (arith, inside, length-map it.at.part.entries (option_map (λ (e : Entry). e.task)), it.at.client.fits.slots))
          (ap (λ held. option_map_or (is_under_way noted.items) held false)
          (task-held it.at.part.entries slot ∙ ap (option_map (λ (e : Entry). e.task)) held)
          ∙ and_from (is_begun one.task.phase) (is_noted noted.items one.task.ticket) begun noted_is)
    ] refl

place-found : (state : Shared) (world : World) (place : Place) (entry : Entry) (tag : ℕ) (noted : ArrayVec ℕ) (it : IsQuery state world place entry tag noted)
    (other : Place) → place_of state.tags (length state.parts) tag ≡ Some other → has_at world place.client tag ≡ true
    → finds (Manage (Query tag) noted) (tasks_in it.at.part.entries) ≡ true
place-found state world place entry tag noted it other is has =
    let there : IsPlace state.tags (length state.parts) other = is-place state.tags (length state.parts) tag other (omega (arith, it.fits.matched.tags.least)) is in
    let named : tag_of state.tags other ≡ tag = place_of-tag state.tags (length state.parts) tag other (omega (arith, it.fits.matched.tags.least)) is in
    elim (other.client == place.client) as (λ b. (other.client == place.client) ≡ b
    → finds (Manage (Query tag) noted) (tasks_in it.at.part.entries) ≡ true) [
      | true ↦ λ same.
          slot-found state world place entry tag noted it other.slot (held_at it.at.part.entries other.slot) there.slot refl
          (sym named ∙ ap (λ c. tag_of state.tags (place_in c other.slot)) (eqb-true other.client place.client same)) has
      | false ↦ λ apart.
          absurd (false≢true (sym (ap (has_at world place.client) (sym named)
          ∙ foreign-none state world place.client other it.fits there (eqb-false other.client place.client apart)) ∙ has))
    ] refl

found-by : (state : Shared) (world : World) (place : Place) (entry : Entry) (tag : ℕ) (noted : ArrayVec ℕ) (it : IsQuery state world place entry tag noted)
    (named : Option Place) → place_of state.tags (length state.parts) tag ≡ named → has_at world place.client tag ≡ true
    → finds (Manage (Query tag) noted) (tasks_in it.at.part.entries) ≡ true
found-by state world place entry tag noted it None is has = absurd (false≢true (sym (tag-none state world place.client tag it.fits is) ∙ has))
found-by state world place entry tag noted it (Some other) is has = place-found state world place entry tag noted it other is has

-- BOTH

pub query-found : (state : Shared) (world : World) (place : Place) (entry : Entry) (tag : ℕ) (noted : ArrayVec ℕ) → IsQuery state world place entry tag noted
    → (at : IsPlaced state world place entry) → has_command world.device place.client tag ≡ finds (Manage (Query tag) noted) (tasks_in at.part.entries)
query-found state world place entry tag noted it at =
    let same : it.at.part ≡ at.part = same_Some it.at.part at.part (sym it.at.there ∙ at.there) in
    elim (has_at world place.client tag) as (λ b. has_at world place.client tag ≡ b
    → b ≡ finds (Manage (Query tag) noted) (tasks_in at.part.entries)) [
      | true ↦ λ has. sym (ap (λ (p : Part). finds (Manage (Query tag) noted) (tasks_in p.entries)) (sym same)
          ∙ found-by state world place entry tag noted it (place_of state.tags (length state.parts) tag) refl has)
      | false ↦ λ none. sym (ap (λ (p : Part). finds (Manage (Query tag) noted) (tasks_in p.entries)) (sym same)
          ∙ not-found state world place entry tag noted it none)
    ] refl
