-- A command on an endpoint that lacks nothing isn't refused, and leaves the event's place.
use Rattle.std.proofs.Common.{◌≡◌, ℕ, suc, ◌==◌, Bool, true, false, Option, Some, None, refl, ◌∙◌, ◌%◌}
use Rattle.std.proofs.lemmas.Bool.{false≢true}
use Rattle.std.specs.Prelude.{is_some, option_map, if◌then◌else◌, not, ◌&&◌, ◌||◌}
use Rattle.guest_memory.specs.Bytes.{Memory, bytes_from, is_there, ◌>>=◌}
use Rattle.guest_memory.specs.Ranges.{there_written}
use Rattle.guest_memory.specs.declared.rings.context.Home.{Home}
use Rattle.guest_memory.specs.declared.rings.context.Home.TheVariants as home
use Rattle.guest_memory.specs.declared.rings.cursor.Cursor.{Cursor}
use Rattle.guest_memory.specs.rings.Ends.{home_at, home_size, looked}
use Rattle.guest_memory.specs.rings.Events.{enqueue_pointer}
use Rattle.guest_memory.specs.rings.WantedLaws.{look_there, map_some, there_if}
use Rattle.guest_pipes.specs.declared.consumer.EndpointState.{EndpointState}
use Rattle.guest_pipes.specs.declared.consumer.EndpointState.TheVariants.{Disabled, Running, Halted, Stopped, Error}
use Rattle.guest_pipes.specs.Gate.{is_running, stop_told}
use Rattle.guest_pipes.specs.Orders.{dequeue_set}
use Rattle.guest_pipes.specs.Pipe.{has_stream, home_of}
use Rattle.guest_pipes.specs.Step.{has_home, has_place}
use Rattle.guest_pipes.specs.Wanted.{front_wanted}
use Rattle.guest_pipes.specs.WantedLaws.{front_there, ring_there}
use Rattle.guest_transfers.specs.declared.control.StreamPipe.{StreamPipe}
use Rattle.guest_transfers.specs.declared.control.StreamPipe.TheVariants.{Status, DataOut, DataIn}
use Rattle.guest_transfers.specs.Orders.{dequeue_moved, lone_forgotten, pipe_of}
use Rattle.xhci_control.specs.Steps.{forgotten as control_forgotten}
use Rattle.guest_transfers.specs.Orders.{command_forgotten}
use Rattle.xhci_control.specs.Steps.{control_stop_told}
use Rattle.xhci_machine.specs.Bus.{bulk_forgotten}
use Rattle.xhci_machine.specs.declared.Machine.{Machine}
use Rattle.xhci_machine.specs.declared.command.Order.{Order}
use Rattle.xhci_machine.specs.declared.command.Order.TheVariants.{Reset, Stop, SetDequeue}
use Rattle.xhci_machine.specs.declared.orders.Endpoint.{Endpoint}
use Rattle.xhci_machine.specs.declared.orders.Endpoint.TheVariants.{Control, Command, Streams}
use Rattle.xhci_machine.specs.declared.ring.Ended.{Ended}
use Rattle.xhci_machine.specs.Lacking.{begun_or_none, begun_wanted, dequeue_wanted_in, moved_wanted, order_wanted, pointer_wanted, stop_wanted_by}
use Rattle.xhci_machine.specs.Lacking.{stopping_wanted, stream_wanted}
use Rattle.xhci_machine.specs.Orders.{begun_in, begun_told, dequeue_in, endpoint_of, home_in, moved, next_begun, order_coded, order_done, order_on, pointer_set, ring_stopped}
use Rattle.xhci_machine.specs.Orders.{ring_of, state_in, stop_by, stop_done, stop_in, stop_told_from, stopped_on, stream_moved, stream_success, told_from}
use Rattle.xhci_machine.specs.Orders.{told_or_not, with_dequeue, with_next, with_ring, with_slot, with_success}
use Rattle.xhci_machine.specs.Contexts.{context_wanted}
use Rattle.xhci_machine.specs.Ring.{ended, pointer_home}
use Rattle.xhci_machine.specs.Steps.{endpoint_ended}
use Rattle.xhci_machine.specs.Turns.{World}
use Rattle.xhci_machine.proofs.SlotTaken.{ends}

-- HOW IT ENDS

-- one that isn't over yet, or is and leaves the event's place
abbrev EndsWell : {X : Type 0} → World × Option (Option X) → Type 0
EndsWell (w, None) = ⊥
EndsWell (w, Some None) = Unit {0}
EndsWell (w, Some (Some how)) = has_place w.memory w.events ≡ true

endpoint_ends : (cursor : Cursor) (done : World × Option (Option Ended)) → EndsWell done → (endpoint_ended cursor done).1 ≡ true
endpoint_ends cursor (w, None) well = absurd well
endpoint_ends cursor (w, Some None) well = refl
endpoint_ends cursor (w, Some (Some how)) well = ends w cursor how well

named_well : (slot : ℕ) (done : World × Option (Option ℕ)) → EndsWell done → EndsWell (with_slot slot done)
named_well slot (w, None) well = absurd well
named_well slot (w, Some None) well = tt
named_well slot (w, Some (Some code)) well = well

-- the home of a ring whose end was looked at is there
home_found : (memory : Memory) (home : Home) → is_some (looked memory home) ≡ true → has_home memory home ≡ true
unfolding looked
home_found memory home found = by_bytes (bytes_from memory (home_at home) (home_size home)) _ found
  where
    by_bytes : {A B : Type 0} (bytes : Option A) (rest : A → Option B) → is_some (bytes >>= rest) ≡ true → is_some bytes ≡ true
    by_bytes None rest found = absurd (false≢true found)
    by_bytes (Some read) rest found = refl

-- STOP ENDPOINT

begun_found : (w : World) (endpoint : Endpoint) (stream : ℕ) → begun_wanted w.memory w.machine endpoint stream ≡ None
    → is_some (looked w.memory (home_in w.machine endpoint stream)) ≡ true
begun_found w Control stream none = look_there w.memory (home.Endpoint w.machine.control.home) none
begun_found w Command stream none = look_there w.memory (home.Endpoint (pointer_home w.machine.slot.context 2)) none
begun_found w (Streams name) stream none = ring_there w.memory (pipe_of w.machine.transfers name) stream none

tells_begun : (w : World) (endpoint : Endpoint) (stream : ℕ) → has_place w.memory w.events ≡ true
    → begun_wanted w.memory w.machine endpoint stream ≡ None → is_some (begun_told w endpoint stream) ≡ true
unfolding begun_told
tells_begun w endpoint stream place none =
    rw place (map_some (with_ring w) _ ∙ stops endpoint stream none)
  where
    stops : (of : Endpoint) (number : ℕ) → begun_wanted w.memory w.machine of number ≡ None → is_some (ring_stopped w of number) ≡ true
    stops Control number lacks =
        map_some (control_stop_told (record { memory = w.memory; events = w.events; pipe = w.machine.control })) _ ∙ begun_found w Control number lacks
    stops Command number lacks = map_some (stop_told (ring_of w Command number)) _ ∙ begun_found w Command number lacks
    stops (Streams name) number lacks = map_some (stop_told (ring_of w (Streams name) number)) _ ∙ begun_found w (Streams name) number lacks

told_well : (w : World) (told : Option World) → is_some told ≡ true → EndsWell (told_or_not w told)
told_well w None is = absurd (false≢true is)
told_well w (Some after) is = tt

same_begun : (w : World) (endpoint : Endpoint) (next : Option ℕ) (stream : ℕ)
    → begun_wanted w.memory (with_next w next).machine endpoint stream ≡ begun_wanted w.memory w.machine endpoint stream
same_begun w Control next stream = refl
same_begun w Command next stream = refl
same_begun w (Streams name) next stream = refl

stops_from : (w : World) (endpoint : Endpoint) (from : ℕ) → has_place w.memory w.events ≡ true
    → stopping_wanted w.memory w.machine endpoint from ≡ None → EndsWell (stop_told_from w endpoint from)
unfolding stop_told_from
stops_from w endpoint from place none = by_begun (begun_in w.machine endpoint from) none
  where
    by_begun : (begun : Option ℕ) → begun_or_none w.memory w.machine endpoint begun ≡ None → EndsWell (told_from w endpoint begun)
    by_begun None none = place
    by_begun (Some stream) none =
        let next = with_next w (Some (suc stream)) in
        told_well next (begun_told next endpoint stream)
        (tells_begun next endpoint stream place (same_begun w endpoint (Some (suc stream)) stream ∙ none))

-- a stop forgets the doorbells alone
same_stopping : (w : World) (endpoint : Endpoint) (from : ℕ)
    → stopping_wanted w.memory (stopped_on w.machine endpoint) endpoint from ≡ stopping_wanted w.memory w.machine endpoint from
unfolding stopped_on next_begun
same_stopping w Control from = refl
same_stopping w Command from = refl
same_stopping w (Streams Status) from = refl
same_stopping w (Streams DataOut) from = refl
same_stopping w (Streams DataIn) from = refl

stops_in : (w : World) (endpoint : Endpoint) (state : EndpointState) → has_place w.memory w.events ≡ true
    → (if is_running state then stopping_wanted w.memory w.machine endpoint 0 else None) ≡ None → EndsWell (stop_in w endpoint state)
stops_in w endpoint Disabled place none = place
stops_in w endpoint Running place none =
    stops_from (record w { machine = stopped_on w.machine endpoint }) endpoint 0 place (same_stopping w endpoint 0 ∙ none)
stops_in w endpoint Halted place none = place
stops_in w endpoint Stopped place none = place
stops_in w endpoint Error place none = place

stops : (w : World) (endpoint : Endpoint) (stopping : Option ℕ) → has_place w.memory w.events ≡ true
    → stop_wanted_by w.memory w.machine endpoint stopping ≡ None → EndsWell (stop_by w endpoint stopping)
stops w endpoint (Some from) place none = stops_from w endpoint from place none
stops w endpoint None place none = stops_in w endpoint (state_in w.machine endpoint) place none

-- SET TR DEQUEUE POINTER

abbrev Moves : World → Option (Memory × (Machine × ℕ)) → Type 0
Moves w None = ⊥
Moves w (Some after) = has_place after.0 w.events ≡ true

pointer_moves : (w : World) (m : Machine) (at : ℕ) (cursor : Cursor) → has_place w.memory w.events ≡ true → pointer_wanted w.memory at ≡ None
    → Moves w (option_map (with_success m) (pointer_set w.memory at cursor))
unfolding pointer_set
pointer_moves w m at cursor place none =
    let there = (there_if (is_there w.memory at 8) (record { at = at; count = 8 }) None none).0 in
    rw there (there_written w.memory at _ (enqueue_pointer w.events) 16 place)

stream_moves : (w : World) (m : Machine) (name : StreamPipe) (at : ℕ) (cursor : Cursor) (kind stream : ℕ) → has_place w.memory w.events ≡ true
    → stream_wanted w.memory m name at stream ≡ None → Moves w (stream_moved w.memory m name at cursor kind stream)
unfolding stream_moved dequeue_set
stream_moves w m name at cursor kind stream place none =
    by_test (has_stream (pipe_of m.transfers name) stream) (stream == 0 && not (has_stream (pipe_of m.transfers name) 1)) none
  where
    by_test : (has alone : Bool)
        → (if has then front_wanted w.memory (pipe_of m.transfers name) stream else if alone then pointer_wanted w.memory at else None) ≡ None
        → Moves w (if has then option_map (stream_success m) (dequeue_moved w.memory m.transfers name stream cursor (kind % 8))
        else if alone then option_map (with_success (bulk_forgotten name (record m { transfers = lone_forgotten m.transfers name }))) (pointer_set w.memory at cursor)
        else Some (w.memory, (m, 34)))
    by_test true alone none =
        let home = home_of (pipe_of m.transfers name) stream in
        let there = home_found w.memory home (front_there w.memory (pipe_of m.transfers name) stream none) in
        rw there (there_written w.memory (home_at home) _ (enqueue_pointer w.events) 16 place)
    by_test false true none = pointer_moves w (bulk_forgotten name (record m { transfers = lone_forgotten m.transfers name })) at cursor place none
    by_test false false none = place

moves_on : (w : World) (m : Machine) (endpoint : Endpoint) (at : ℕ) (cursor : Cursor) (kind stream : ℕ) → has_place w.memory w.events ≡ true
    → moved_wanted w.memory m endpoint at stream ≡ None → Moves w (moved w.memory m endpoint at cursor kind stream)
unfolding moved
moves_on w m Control at cursor kind stream place none = pointer_moves w (record m { control = control_forgotten m.control }) at cursor place none
moves_on w m Command at cursor kind stream place none =
    pointer_moves w (record m { transfers = command_forgotten m.transfers Stopped }) at cursor place none
moves_on w m (Streams name) at cursor kind stream place none = stream_moves w m name at cursor kind stream place none

moves_in : (w : World) (m : Machine) (endpoint : Endpoint) (id : ℕ) (cursor : Cursor) (kind stream : ℕ) (state : EndpointState)
    → has_place w.memory w.events ≡ true → dequeue_wanted_in w.memory m endpoint (pointer_home m.slot.context id) stream state ≡ None
    → Moves w (dequeue_in w.memory m endpoint id cursor kind stream state)
moves_in w m endpoint id cursor kind stream Disabled place none = place
moves_in w m endpoint id cursor kind stream Running place none = place
moves_in w m endpoint id cursor kind stream Halted place none = place
moves_in w m endpoint id cursor kind stream Stopped place none = moves_on w m endpoint (pointer_home m.slot.context id) cursor kind stream place none
moves_in w m endpoint id cursor kind stream Error place none = moves_on w m endpoint (pointer_home m.slot.context id) cursor kind stream place none

moved_well : (w : World) (after : Option (Memory × (Machine × ℕ))) → Moves w after → EndsWell (with_dequeue w after)
moved_well w None moves = absurd moves
moved_well w (Some after) moves = moves

-- A COMMAND

codes_well : (w : World) (endpoint : Endpoint) (id : ℕ) (order : Order) → has_place w.memory w.events ≡ true
    → order_wanted w.memory w.machine id order (Some endpoint) ≡ None → EndsWell (order_coded w endpoint id order)
unfolding order_coded stop_done
codes_well w endpoint id Stop place none = stops w endpoint w.machine.commands.stopping place none
codes_well w endpoint id (Reset keeps) place none = place
codes_well w endpoint id (SetDequeue cursor kind stream) place none =
    moved_well w (dequeue_in w.memory w.machine endpoint id cursor kind stream (state_in w.machine endpoint))
    (moves_in w w.machine endpoint id cursor kind stream (state_in w.machine endpoint) place none)

on_well : (w : World) (slot id : ℕ) (order : Order) (endpoint : Option Endpoint) → has_place w.memory w.events ≡ true
    → context_wanted w.memory w.machine.slot ≡ None → order_wanted w.memory w.machine id order endpoint ≡ None → EndsWell (order_on w slot id order endpoint)
on_well w slot id order None place there none = place
on_well w slot id order (Some endpoint) place there none =
    rw there (named_well slot (order_coded w endpoint id order) (codes_well w endpoint id order place none))

done_well : (w : World) (slot id : ℕ) (order : Order) → has_place w.memory w.events ≡ true → context_wanted w.memory w.machine.slot ≡ None
    → (if slot == 1 && is_some w.machine.slot.state then order_wanted w.memory w.machine id order (endpoint_of id) else None) ≡ None
    → EndsWell (order_done w slot id order)
unfolding order_done
done_well w slot id order place there none = by_test (slot == 1) (is_some w.machine.slot.state) none
  where
    by_test : (one given : Bool) → (if one && given then order_wanted w.memory w.machine id order (endpoint_of id) else None) ≡ None
        → EndsWell (if not one || not given then (w, Some (Some (ended 11 slot))) else order_on w slot id order (endpoint_of id))
    by_test true true none = on_well w slot id order (endpoint_of id) place there none
    by_test true false none = place
    by_test false true none = place
    by_test false false none = place

pub order_ends : (w : World) (cursor : Cursor) (slot id : ℕ) (order : Order) → has_place w.memory w.events ≡ true
    → context_wanted w.memory w.machine.slot ≡ None
    → (if slot == 1 && is_some w.machine.slot.state then order_wanted w.memory w.machine id order (endpoint_of id) else None) ≡ None
    → (endpoint_ended cursor (order_done w slot id order)).1 ≡ true
order_ends w cursor slot id order place there none =
    endpoint_ends cursor (order_done w slot id order) (done_well w slot id order place there none)
