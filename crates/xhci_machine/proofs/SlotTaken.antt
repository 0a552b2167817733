-- A command on the slot that lacks nothing is executed, and leaves the event's place.
use Rattle.std.proofs.Common.{◌≡◌, ℕ, ◌==◌, Bool, true, false, Option, Some, None, refl, ap, ◌∙◌}
use Rattle.std.proofs.lemmas.Bool.{false≢true}
use Rattle.std.specs.Prelude.{is_some, option_map, if◌then◌else◌, not, ◌&&◌, IfSome}
use Rattle.guest_memory.specs.Bytes.{Memory, ◌>>=◌}
use Rattle.guest_memory.specs.Ranges.{there_written}
use Rattle.guest_memory.specs.declared.rings.cursor.Cursor.{Cursor}
use Rattle.guest_memory.specs.rings.Events.{EventEnd, enqueue_pointer}
use Rattle.guest_memory.specs.rings.WantedLaws.{map_some}
use Rattle.guest_pipes.specs.Step.{has_place}
use Rattle.xhci_slots.specs.declared.contexts.DeviceContext.{DeviceContext}
use Rattle.xhci_slots.specs.declared.contexts.SlotState.{SlotState}
use Rattle.xhci_slots.specs.contexts.Contexts.{context_at, device_at, device_written, endpoint_bytes, slot_bytes}
use Rattle.xhci_slots.specs.contexts.Inputs.{input_at, is_bad_address, is_bad_configuration, is_bad_evaluation}
use Rattle.xhci_slots.specs.declared.Done.{Done}
use Rattle.xhci_slots.specs.declared.SlotCommand.{SlotCommand}
use Rattle.xhci_slots.specs.declared.SlotCommand.TheVariants.{Enable, Disable, Address, Configure, Evaluate, Reset as ResetDevice}
use Rattle.xhci_slots.specs.Slots.{World as SlotWorld, address_step, addressed_by, configure_step, configured_by, context_disabled, deconfigure_step}
use Rattle.xhci_slots.specs.Slots.{disable_step, entry_at, evaluate_step, evaluated_by, executed, free_step, has_context, may_address, may_configure}
use Rattle.xhci_slots.specs.Slots.{may_evaluate, reset_step, slot_step}
use Rattle.xhci_slots.specs.Wanted.{slot_wanted, wanted_in}
use Rattle.xhci_registers.specs.Writes.{has_slots}
use Rattle.xhci_machine.specs.declared.Machine.{Machine}
use Rattle.xhci_machine.specs.declared.ring.Ended.{Ended}
use Rattle.xhci_machine.specs.Lacking.{slot_world}
use Rattle.xhci_machine.specs.Bus.{transaction_error}
use Rattle.xhci_machine.specs.Ring.{commanded, ended, is_enable, is_unanswered, on_slot_done}
use Rattle.xhci_machine.specs.Steps.{command_ended, slot_ended, told_and_stood, with_done}
use Rattle.xhci_machine.specs.Turns.{World}

-- THE EVENT'S PLACE stays there

pub device_place : (memory : Memory) (base : ℕ) (device : DeviceContext) (events : EventEnd) → has_place memory events ≡ true
    → has_place (device_written memory base device) events ≡ true
device_place memory base device events place =
    let at = enqueue_pointer events in
    there_written _ (context_at base 5) (endpoint_bytes device.data_in) at 16
    (there_written _ (context_at base 4) (endpoint_bytes device.data_out) at 16
    (there_written _ (context_at base 3) (endpoint_bytes device.status) at 16
    (there_written _ (context_at base 2) (endpoint_bytes device.command) at 16
    (there_written _ (context_at base 1) (endpoint_bytes device.control) at 16
    (there_written memory base (slot_bytes device.slot) at 16 place)))))

-- what holds of each answer of a part holds behind it
bind_each : {A B : Type 0} (o : Option A) (f : A → Option B) (P : B → Type 0) → ((x : A) → IfSome (f x) P) → IfSome (o >>= f) P
bind_each None f P each = tt
bind_each (Some x) f P each = each x

abbrev Stays : EventEnd → SlotWorld × Done → Type 0
Stays events after = has_place after.0.memory events ≡ true

if_each : {A : Type 0} (b : Bool) (x y : Option A) (P : A → Type 0) → IfSome x P → IfSome y P → IfSome (if b then x else y) P
if_each true x y P one other = one
if_each false x y P one other = other

device_stays : (w : SlotWorld) (events : EventEnd) (at : ℕ) (found : Option DeviceContext) (made : DeviceContext → SlotWorld × Done)
    → has_place w.memory events ≡ true → ((device : DeviceContext) → (into : DeviceContext) × ((made device).0.memory ≡ device_written w.memory at into))
    → IfSome (found >>= (λ device. Some (made device))) (Stays events)
device_stays w events at found made place each =
    bind_each found (λ device. Some (made device)) (Stays events)
    (λ device. ap (λ (memory : Memory). has_place memory events) (each device).1 ∙ device_place w.memory at (each device).0 events place)

step_stays : (w : SlotWorld) (array : ℕ) (command : SlotCommand) (state : SlotState) (events : EventEnd) → has_place w.memory events ≡ true
    → IfSome (slot_step w array command state) (Stays events)
unfolding disable_step context_disabled address_step addressed_by configure_step configured_by deconfigure_step evaluate_step evaluated_by reset_step
step_stays w array Enable state events place = place
step_stays w array Disable state events place =
    if_each (has_context state) _ _ (Stays events)
    (device_stays w events w.slot.context (device_at w.memory w.slot.context) _ place (λ device. (_, refl))) place
step_stays w array (Address input blocked) state events place =
    if_each (may_address state blocked) _ _ (Stays events)
    (bind_each (input_at w.memory input) _ (Stays events) (λ read. if_each (is_bad_address read) _ _ (Stays events) place
    (bind_each (entry_at w.memory array) _ (Stays events) (λ at. device_stays w events at (device_at w.memory at) _ place (λ device. (_, refl))))))
    place
step_stays w array (Configure input true) state events place =
    if_each (may_configure state) _ _ (Stays events)
    (device_stays w events w.slot.context (device_at w.memory w.slot.context) _ place (λ device. (_, refl))) place
step_stays w array (Configure input false) state events place =
    if_each (may_configure state) _ _ (Stays events)
    (bind_each (input_at w.memory input) _ (Stays events) (λ read. if_each (is_bad_configuration read) _ _ (Stays events) place
    (device_stays w events w.slot.context (device_at w.memory w.slot.context) _ place (λ device. (_, refl)))))
    place
step_stays w array (Evaluate input) state events place =
    if_each (may_evaluate state) _ _ (Stays events)
    (bind_each (input_at w.memory input) _ (Stays events) (λ read. if_each (is_bad_evaluation read) _ _ (Stays events) place
    (device_stays w events w.slot.context (device_at w.memory w.slot.context) _ place (λ device. (_, refl)))))
    place
step_stays w array ResetDevice state events place =
    if_each (may_configure state) _ _ (Stays events)
    (device_stays w events w.slot.context (device_at w.memory w.slot.context) _ place (λ device. (_, refl))) place

free_stays : (w : SlotWorld) (command : SlotCommand) (events : EventEnd) → has_place w.memory events ≡ true → Stays events (free_step w command)
free_stays w Enable events place = place
free_stays w Disable events place = place
free_stays w (Address input blocked) events place = place
free_stays w (Configure input deconfigures) events place = place
free_stays w (Evaluate input) events place = place
free_stays w ResetDevice events place = place

slot_stays : (w : SlotWorld) (array : ℕ) (command : SlotCommand) (events : EventEnd) → has_place w.memory events ≡ true
    → IfSome (executed w array command) (Stays events)
slot_stays w array command events place = by_state w.slot.state
  where
    by_state : (state : Option SlotState) → IfSome (executed (record w { slot = record w.slot { state = state } }) array command) (Stays events)
    by_state None = free_stays (record w { slot = record w.slot { state = None } }) command events place
    by_state (Some state) = step_stays (record w { slot = record w.slot { state = Some state } }) array command state events place

-- HOW A COMMAND ENDS

pub stands : (w : World) (place : ℕ) (how : Ended) (to : Cursor) → has_place w.memory w.events ≡ true → (told_and_stood w place how to).1 ≡ true
stands w place how to there = rw there refl

pub ends : (w : World) (cursor : Cursor) (how : Ended) → has_place w.memory w.events ≡ true → (command_ended w cursor how).1 ≡ true
unfolding command_ended
ends w cursor how there = rw there refl

-- A COMMAND ON THE SLOT

-- a command that is executed, and leaves the event's place
abbrev SlotIsDone : EventEnd → Option (Memory × (Machine × Ended)) → Type 0
SlotIsDone events done = (is_some done ≡ true) × IfSome done (λ after. has_place after.0 events ≡ true)

pub slot_ends : (w : World) (cursor : Cursor) (done : Option (Memory × (Machine × Ended))) → SlotIsDone w.events done → (slot_ended w cursor done).1 ≡ true
slot_ends w cursor None is = absurd (false≢true is.0)
slot_ends w cursor (Some done) is = ends (with_done w done) cursor done.1.1 is.1

enable_wants : (state : Option SlotState) (world : SlotWorld) (array : ℕ) (command : SlotCommand) → is_enable command ≡ true
    → wanted_in world array command state ≡ None
enable_wants None world array command enables = refl
enable_wants (Some state) world array Enable enables = refl
enable_wants (Some state) world array Disable enables = absurd (false≢true enables)
enable_wants (Some state) world array (Address input blocked) enables = absurd (false≢true enables)
enable_wants (Some state) world array (Configure input deconfigures) enables = absurd (false≢true enables)
enable_wants (Some state) world array (Evaluate input) enables = absurd (false≢true enables)
enable_wants (Some state) world array ResetDevice enables = absurd (false≢true enables)

map_stays : (m : Machine) (slot : ℕ) (command : SlotCommand) (events : EventEnd) (done : Option (SlotWorld × Done)) → IfSome done (Stays events)
    → IfSome (option_map (commanded m slot command) done) (λ after. has_place after.0 events ≡ true)
map_stays m slot command events None is = tt
map_stays m slot command events (Some done) is = is

-- as xhci_slots has it
abbrev pub Executes : Type 0
Executes = (world : SlotWorld) (array : ℕ) (command : SlotCommand) → slot_wanted world array command ≡ None → is_some (executed world array command) ≡ true

pub slot_done : Executes → (memory : Memory) (m : Machine) (slot : ℕ) (command : SlotCommand) (events : EventEnd) → has_place memory events ≡ true
    → (if slot == 1 then slot_wanted (slot_world memory m) m.registers.contexts command else None) ≡ None
    → SlotIsDone events (on_slot_done memory m slot command)
unfolding on_slot_done
slot_done executes memory m slot command events place none = by_test (slot == 1) (is_enable command) refl none
  where
    runs : slot_wanted (slot_world memory m) m.registers.contexts command ≡ None
        → SlotIsDone events (option_map (commanded m slot command) (executed (slot_world memory m) m.registers.contexts command))
    runs lacks = (
      map_some (commanded m slot command) _ ∙ executes (slot_world memory m) m.registers.contexts command lacks,
      map_stays m slot command events _ (slot_stays (slot_world memory m) m.registers.contexts command events place),
    )

    sent : (unanswered : Bool) → slot_wanted (slot_world memory m) m.registers.contexts command ≡ None
        → SlotIsDone events (if unanswered then Some (memory, (m, ended transaction_error slot))
        else option_map (commanded m slot command) (executed (slot_world memory m) m.registers.contexts command))
    sent true lacks = (refl, place)
    sent false lacks = runs lacks

    given : (refused : Bool) → slot_wanted (slot_world memory m) m.registers.contexts command ≡ None
        → SlotIsDone events (if refused then Some (memory, (m, ended 9 0))
        else if is_unanswered memory m command then Some (memory, (m, ended transaction_error slot))
        else option_map (commanded m slot command) (executed (slot_world memory m) m.registers.contexts command))
    given true lacks = (refl, place)
    given false lacks = sent (is_unanswered memory m command) lacks

    by_test : (one enables : Bool) → is_enable command ≡ enables
        → (if one then slot_wanted (slot_world memory m) m.registers.contexts command else None) ≡ None
        → SlotIsDone events (if not one && not enables then Some (memory, (m, ended 11 slot))
        else if enables && not (has_slots m.registers) then Some (memory, (m, ended 9 0))
        else if is_unanswered memory m command then Some (memory, (m, ended transaction_error slot))
        else option_map (commanded m slot command) (executed (slot_world memory m) m.registers.contexts command))
    by_test true true is lacks = given (not (has_slots m.registers)) lacks
    by_test true false is lacks = sent (is_unanswered memory m command) lacks
    by_test false true is lacks =
        given (not (has_slots m.registers)) (enable_wants m.slot.state (slot_world memory m) m.registers.contexts command is)
    by_test false false is lacks = (refl, place)
