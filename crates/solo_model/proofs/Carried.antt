-- A request that is carried: the commands that a task management ends, and then the task itself. Cited by the answers of `carry`.
use Rattle.std.proofs.Common.{◌≡◌, ℕ, zero, suc, Bool, true, false, cond, List, [], ◌∷◌, length, Option, Some, None, MatchOption}
use Rattle.std.proofs.Common.{Result, Ok, Err, refl, arith, ap, subst, ◌∙◌}
use Rattle.std.proofs.lemmas.Bool.{ltb-false}
use Rattle.std.specs.Option.{option_map_or}
use Rattle.std.specs.Prelude.{nat_lt, ◌≤◌, map, slice_set, option_map, option_and_then, if◌then◌else◌}
use Rattle.arrayvec.specs.ArrayVec.{ArrayVec}
use Rattle.block_unit.specs.BlockMaps.{BlockMaps}
use Rattle.scsi_cmd.specs.declared.Op.{Op}
use Rattle.scsi_cmd.specs.declared.Request.{Request}
use Rattle.scsi_cmd.specs.declared.Request.TheVariants.{Execute, Manage}
use Rattle.uas_profile.specs.declared.TheConstants.{MOST_TAGS}
use Rattle.scsi_cmd.specs.Held.{AllHeld, held_at, held_under}
use Rattle.scsi_cmd.specs.Request.{ended_by}
use Rattle.scsi_cmd.specs.Laws.{held_at-past}
use Rattle.solo_model.specs.declared.Phase.{Phase}
use Rattle.solo_model.specs.declared.Phase.TheVariants.{Queued, Begun, Sent, Gone}
use Rattle.solo_model.specs.declared.NotARun.{NotARun}
use Rattle.scsi_cmd.specs.declared.Reply.{Reply}
use Rattle.solo_model.specs.Soundness.{IsSound}
use Rattle.solo_model.specs.Solo.{IsCarried, SoloState, applied, carried_at, heeded, slot_under}
use Rattle.solo_model.specs.TaggedTask.{TaggedTask, after_notes, carried, ended_next, finds, is_noted}

-- SOUNDNESS

-- a command that may be gone
sound-either : (count ticket : ℕ) (op : Op) (buffer : List ℕ) (phase : Phase) (gone : Bool) →
    IsSound count (record { ticket = ticket; request = Execute op; buffer = buffer; phase = phase }) →
    IsSound count (cond gone (record { ticket = ticket; request = Execute op; buffer = buffer; phase = Gone })
    (record { ticket = ticket; request = Execute op; buffer = buffer; phase = phase }))
sound-either count ticket op buffer phase true sound = record { whole = sound.whole; chunk = tt }
sound-either count ticket op buffer phase false sound = sound

sound-fields : (count ticket : ℕ) (request : Request) (buffer : List ℕ) (phase : Phase) (noted : List ℕ) →
    IsSound count (record { ticket = ticket; request = request; buffer = buffer; phase = phase }) →
    IsSound count (after_notes noted (record { ticket = ticket; request = request; buffer = buffer; phase = phase }))
sound-fields count ticket (Execute op) buffer Queued noted sound = sound-either count ticket op buffer Queued (is_noted noted ticket) sound
sound-fields count ticket (Execute op) buffer (Begun progress) noted sound =
    sound-either count ticket op buffer (Begun progress) (is_noted noted ticket) sound
sound-fields count ticket (Execute op) buffer (Sent answer) noted sound = sound
sound-fields count ticket (Execute op) buffer Gone noted sound = sound
sound-fields count ticket (Manage what tickets) buffer phase noted sound = sound

pub sound-heeded : (count : ℕ) (noted : List ℕ) (tasks : List (Option TaggedTask)) → AllHeld (IsSound count) tasks →
    AllHeld (IsSound count) (map (option_map (after_notes noted)) tasks)
sound-heeded count noted [] all = tt
sound-heeded count noted (None ∷ tasks) all = (tt, sound-heeded count noted tasks all.1)
sound-heeded count noted (Some task ∷ tasks) all =
    (sound-fields count task.ticket task.request task.buffer task.phase noted all.0, sound-heeded count noted tasks all.1)

-- THE STEP

pub sound-all : (count : ℕ) (noted : Option (ArrayVec ℕ)) (tasks : List (Option TaggedTask)) → AllHeld (IsSound count) tasks →
    AllHeld (IsSound count) (heeded noted tasks)
sound-all count None tasks all = all
sound-all count (Some noted) tasks all = sound-heeded count noted.items tasks all

pub length-heeded : (noted : Option (ArrayVec ℕ)) (tasks : List (Option TaggedTask)) → length (heeded noted tasks) ≡ length tasks
length-heeded None tasks = refl
length-heeded (Some noted) tasks = length-mapped (option_map (after_notes noted.items)) tasks
  where
    length-mapped : {T : Type 0} (f : T → T) (list : List T) → length (map f list) ≡ length list
    length-mapped f [] = refl
    length-mapped f (x ∷ xs) = ap suc (length-mapped f xs)

held_at-map : (f : TaggedTask → TaggedTask) (tasks : List (Option TaggedTask)) (slot : ℕ)
    → held_at (map (option_map f) tasks) slot ≡ option_map f (held_at tasks slot)
held_at-map f [] slot = refl
held_at-map f (task ∷ tasks) zero = refl
held_at-map f (task ∷ tasks) (suc slot) = held_at-map f tasks slot

abbrev pub outcome : Bool → Result (Option Reply) NotARun
outcome acted = if acted then Ok None else Err (record {})

-- what it came to where the slot holds this
abbrev pub CarriedFrom : BlockMaps → List (Option TaggedTask) → ℕ → Bool → Bool → BlockMaps → List (Option TaggedTask) → Option TaggedTask → Type 0
CarriedFrom unit tasks slot found acted unit_now tasks_now held = MatchOption (option_and_then (carried unit found) held)
    ((acted ≡ false) × (unit_now ≡ unit) × (tasks_now ≡ tasks))
    (λ after. (acted ≡ true) × (unit_now ≡ after.0) × (tasks_now ≡ slice_set tasks slot (Some after.1)))

-- whether the device has what this noted
abbrev pub found_by : List (Option TaggedTask) → Option TaggedTask → Bool
found_by tasks held = option_map_or (λ task. finds task.request tasks) held false

pub carry-held : (state : SoloState) (slot : ℕ) (held : Option TaggedTask) (acted : Bool) (unit : BlockMaps) (tasks : List (Option TaggedTask)) →
    held_at state.tasks slot ≡ held →
    IsCarried state.unit (heeded (option_and_then ended_next held) state.tasks) slot (found_by state.tasks held) acted unit tasks →
    applied state (option_and_then (carried_at state (suc slot)) held) ≡
    (record { tags = state.tags; unit = unit; tasks = tasks; least_ticket = state.least_ticket }, outcome acted)
carry-held state slot None acted unit tasks at is =
    let none = subst (CarriedFrom state.unit state.tasks slot false acted unit tasks) at is in
    rw (none.0, none.1, none.2) refl
carry-held state slot (Some task) acted unit tasks at is =
    by-fields task.ticket task.request task.buffer task.phase at is
  where
    by-fields : (ticket : ℕ) (request : Request) (buffer : List ℕ) (phase : Phase) →
        held_at state.tasks slot ≡ Some (record { ticket = ticket; request = request; buffer = buffer; phase = phase }) →
        IsCarried state.unit (heeded (ended_next (record { ticket = ticket; request = request; buffer = buffer; phase = phase })) state.tasks)
        slot (finds request state.tasks) acted unit tasks →
        applied state (carried_at state (suc slot) (record { ticket = ticket; request = request; buffer = buffer; phase = phase }))
        ≡ (record { tags = state.tags; unit = unit; tasks = tasks; least_ticket = state.least_ticket }, outcome acted)
    by-fields ticket (Execute op) buffer Queued at is =
        let done = subst (CarriedFrom state.unit state.tasks slot false acted unit tasks) at is in
        rw (done.0, done.1, done.2) refl
    by-fields ticket (Manage what noted) buffer Queued at is =
        let task : TaggedTask = record { ticket = ticket; request = Manage what noted; buffer = buffer; phase = Queued } in
        let change : TaggedTask → TaggedTask = after_notes (ended_by what noted).items in
        let after = map (option_map change) state.tasks in
        let same : held_at after slot ≡ Some task = held_at-map change state.tasks slot ∙ ap (option_map change) at in
        let done = subst (CarriedFrom state.unit after slot (finds (Manage what noted) state.tasks) acted unit tasks) same is in
        rw (done.0, done.1, done.2) refl
    by-fields ticket request buffer (Begun progress) at is =
        let none = subst (CarriedFrom state.unit state.tasks slot (finds request state.tasks) acted unit tasks) at is in
        rw (none.0, none.1, none.2) refl
    by-fields ticket request buffer (Sent answer) at is =
        let none = subst (CarriedFrom state.unit state.tasks slot (finds request state.tasks) acted unit tasks) at is in
        rw (none.0, none.1, none.2) refl
    by-fields ticket request buffer Gone at is =
        let none = subst (CarriedFrom state.unit state.tasks slot (finds request state.tasks) acted unit tasks) at is in
        rw (none.0, none.1, none.2) refl

-- the same for the index of the slot
pub carry-step : (state : SoloState) (index slot : ℕ) (acted : Bool) (unit : BlockMaps) (tasks : List (Option TaggedTask)) →
    slot_under index ≡ Some slot →
    IsCarried state.unit (heeded (option_and_then ended_next (held_at state.tasks slot)) state.tasks) slot
    (found_by state.tasks (held_at state.tasks slot)) acted unit tasks →
    applied state (option_and_then (carried_at state index) (held_under state.tasks index))
    ≡ (record { tags = state.tags; unit = unit; tasks = tasks; least_ticket = state.least_ticket }, outcome acted)
carry-step state index slot acted unit tasks under is =
    let place : index ≡ suc slot = index-of index slot under in
    rw place (carry-held state slot (held_at state.tasks slot) acted unit tasks refl is)
  where
    index-of : (index slot : ℕ) → slot_under index ≡ Some slot → index ≡ suc slot
    index-of zero slot is = cc
    index-of (suc at) slot is = index-at at slot is
      where
        index-at : (at slot : ℕ) → slot_under (suc at) ≡ Some slot → suc at ≡ suc slot
        index-at at slot is = elim (nat_lt at MOST_TAGS) as (λ b. cond b (Some at) None ≡ Some slot → suc at ≡ suc slot) [
          | true ↦ λ there. cc
          | false ↦ λ none. cc
        ] is

-- an index without a slot has no task
pub none-under : (tasks : List (Option TaggedTask)) (index : ℕ) → slot_under index ≡ None → length tasks ≡ MOST_TAGS → held_under tasks index ≡ None
none-under tasks zero none places = refl
none-under tasks (suc at) none places =
    let past : MOST_TAGS ≤ at = elim (nat_lt at MOST_TAGS) as (λ b. nat_lt at MOST_TAGS ≡ b → cond b (Some at) None ≡ None → MOST_TAGS ≤ at) [
      | true ↦ λ is there. absurd (some-none there)
      | false ↦ λ is there. ltb-false at MOST_TAGS is
    ] refl none in
    held_at-past tasks at (omega (arith, past, places))
  where
    some-none : {x : ℕ} → Some x ≡ None → ⊥
    some-none is = cc
