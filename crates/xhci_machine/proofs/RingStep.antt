-- A step of the command ring leaves the device as it is.
use Rattle.std.proofs.Common.{ℕ, suc, ◌%◌, ◌==◌, Bool, true, false, cond, Option, Some, None, not, ◌&&◌}
use Rattle.std.specs.Prelude.{option_map}
use Rattle.guest_memory.specs.Bytes.{Memory}
use Rattle.guest_pipes.specs.declared.acted.Acted.{Acted}
use Rattle.guest_pipes.specs.declared.consumer.EndpointState.{EndpointState}
use Rattle.guest_pipes.specs.declared.consumer.EndpointState.TheVariants.{Disabled as IsDisabled, Running, Halted, Stopped, Error}
use Rattle.guest_pipes.specs.Gate.{room_gate}
use Rattle.guest_pipes.specs.Pipe.{has_stream}
use Rattle.guest_pipes.specs.Step.{World as RingWorld, has_place}
use Rattle.guest_memory.specs.declared.rings.cursor.Cursor.{Cursor}
use Rattle.guest_memory.specs.declared.rings.words.Words.{Words}
use Rattle.guest_memory.specs.rings.Ends.{fetched, followed}
use Rattle.guest_tasks.specs.declared.GuestTasks.{GuestTasks}
use Rattle.guest_transfers.specs.declared.control.StreamPipe.{StreamPipe}
use Rattle.guest_transfers.specs.declared.control.StreamPipe.TheVariants.{Status, DataOut, DataIn}
use Rattle.guest_transfers.specs.Orders.{dequeue_moved, lone_forgotten, pipe_of}
use Rattle.guest_transfers.specs.State.{TransfersState}
use Rattle.xhci_slots.specs.declared.Change.{Change}
use Rattle.xhci_slots.specs.declared.Change.TheVariants.{Kept, Disabled, Set}
use Rattle.xhci_slots.specs.declared.Changes.{Changes}
use Rattle.xhci_slots.specs.declared.Done.{Done}
use Rattle.xhci_slots.specs.declared.SlotCommand.{SlotCommand}
use Rattle.xhci_slots.specs.Slots.{World as SlotWorld, executed}
use Rattle.xhci_machine.specs.declared.Machine.{Machine}
use Rattle.xhci_machine.specs.declared.command.Command.{Command as TakenCommand}
use Rattle.xhci_machine.specs.declared.command.Command.TheVariants.{Link, NoOp, OnSlot, OnEndpoint, Foreign}
use Rattle.xhci_machine.specs.declared.command.Order.{Order}
use Rattle.xhci_machine.specs.declared.command.Order.TheVariants.{Reset, Stop, SetDequeue}
use Rattle.xhci_machine.specs.declared.orders.Endpoint.{Endpoint}
use Rattle.xhci_machine.specs.declared.orders.Endpoint.TheVariants.{Control, Command, Streams}
use Rattle.xhci_machine.specs.declared.ring.Ended.{Ended}
use Rattle.xhci_machine.specs.Commands.{command_in}
use Rattle.xhci_machine.specs.Orders.{begun_in, begun_told, dequeue_in, endpoint_of, halt_ended, moved, order_coded, order_done, order_on, pointer_set, reset_in, ring_stopped, state_in, stop_by, stop_done, stop_in, stop_told_from, stopped_on, stream_moved, stream_success, told_from, told_or_not, with_dequeue, with_next, with_ring, with_slot, with_success}
use Rattle.xhci_registers.specs.Writes.{has_slots}
use Rattle.xhci_machine.specs.Bus.{bulk_forgotten, transaction_error}
use Rattle.xhci_machine.specs.Ring.{changed, command_changed, command_cursor, commanded, control_changed, ended, is_enable, is_unanswered, on_slot_done, pipe_changed}
use Rattle.xhci_machine.specs.Steps.{command_ended, command_taken, commands_stepped, endpoint_command_taken, endpoint_ended, fetched_taken, front_taken, link_followed, slot_command_taken, slot_ended, stop_posted, taken_by, through, told_and_stood, with_done, worked_if}
use Rattle.xhci_machine.specs.Turns.{World}
use Rattle.xhci_machine.proofs.Device.{either}

module _ (P : GuestTasks → Type 0) where
  abbrev Holds : World → Type 0
  Holds w = P w.machine.device

  -- of an answer that may not be there
  abbrev IfDone : Option (Memory × (Machine × Ended)) → Type 0
  IfDone None = Unit {0}
  IfDone (Some done) = P done.1.0.device

  abbrev IfCoded : Option (Memory × (Machine × ℕ)) → Type 0
  IfCoded None = Unit {0}
  IfCoded (Some done) = P done.1.0.device

  abbrev IfTold : Option World → Type 0
  IfTold None = Unit {0}
  IfTold (Some w) = Holds w

  stood : (w : World) (place : ℕ) (how : Ended) (to : Cursor) → Holds w → Holds (told_and_stood w place how to).0
  stood w place how to p = either (λ (x : World × Bool). Holds x.0) _ _ _ p p

  over : (w : World) (cursor : Cursor) (how : Ended) → Holds w → Holds (command_ended w cursor how).0
  unfolding command_ended
  over w cursor how p = stood w cursor.place how _ p

  follows : (w : World) (cursor to : Cursor) (ioc : Bool) → Holds w → Holds (link_followed w cursor to ioc).0
  unfolding link_followed
  follows w cursor to ioc p = either (λ (x : World × Bool). Holds x.0) _ _ _ (stood w cursor.place (ended 1 0) to p) p

  worked : (done : World × Bool) → Holds done.0 → Holds (worked_if done).0
  worked (w, false) p = p
  worked (w, true) p = p

  -- COMMANDS ON THE SLOT
  control_kept : (m : Machine) (change : Change) → P m.device → P (control_changed m change).device
  unfolding control_changed
  control_kept m Kept p = p
  control_kept m Disabled p = p
  control_kept m (Set pointer entries) p = p

  command_kept : (m : Machine) (change : Change) → P m.device → P (command_changed m change).device
  unfolding command_changed
  command_kept m Kept p = p
  command_kept m Disabled p = p
  command_kept m (Set pointer entries) p = p

  pipe_kept : (m : Machine) (name : StreamPipe) (change : Change) → P m.device → P (pipe_changed m name change).device
  unfolding pipe_changed
  pipe_kept m name Kept p = p
  pipe_kept m name Disabled p = p
  pipe_kept m name (Set pointer entries) p = p

  changed_kept : (m : Machine) (changes : Changes) → P m.device → P (changed m changes).device
  unfolding changed
  changed_kept m changes p =
      let first : Machine = command_changed (control_changed m changes.control) changes.command in
      let second : Machine = pipe_changed first Status changes.status in
      pipe_kept (pipe_changed second DataOut changes.data_out) DataIn changes.data_in
      (pipe_kept second DataOut changes.data_out
      (pipe_kept first Status changes.status
      (command_kept (control_changed m changes.control) changes.command (control_kept m changes.control p))))

  slot_kept : (m : Machine) (slot : ℕ) (command : SlotCommand) (after : Option (SlotWorld × Done)) → P m.device
      → IfDone (option_map (commanded m slot command) after)
  slot_kept m slot command None p = tt
  slot_kept m slot command (Some after) p = changed_kept (record m { slot = after.0.slot }) after.1.changes p

  on_slot_kept : (memory : Memory) (m : Machine) (slot : ℕ) (command : SlotCommand) → P m.device → IfDone (on_slot_done memory m slot command)
  unfolding on_slot_done
  on_slot_kept memory m slot command p =
      let done = option_map (commanded m slot command) (executed (record { memory = memory; slot = m.slot }) m.registers.contexts command) in
      let sent = cond (is_unanswered memory m command) (Some (let none : Memory × (Machine × Ended) = (memory, (m, ended transaction_error slot)) in none)) done in
      let given = cond (is_enable command && not (has_slots m.registers)) (Some (let none : Memory × (Machine × Ended) = (memory, (m, ended 9 0)) in none)) sent in
      either IfDone (not (slot == 1) && not (is_enable command)) (Some (memory, (m, ended 11 slot))) given p
      (either IfDone (is_enable command && not (has_slots m.registers)) (Some (memory, (m, ended 9 0))) sent p
      (either IfDone (is_unanswered memory m command) (Some (memory, (m, ended transaction_error slot))) done p
      (slot_kept m slot command (executed (record { memory = memory; slot = m.slot }) m.registers.contexts command) p)))

  slot_over : (w : World) (cursor : Cursor) (done : Option (Memory × (Machine × Ended))) → Holds w → IfDone done → Holds (slot_ended w cursor done).0
  slot_over w cursor None p after = p
  slot_over w cursor (Some done) p after = over (with_done w done) cursor done.1.1 after

  slot_taken : (w : World) (cursor : Cursor) (slot : ℕ) (command : SlotCommand) → Holds w → Holds (slot_command_taken w cursor slot command).0
  unfolding slot_command_taken
  slot_taken w cursor slot command p =
      slot_over w cursor (on_slot_done w.memory w.machine slot command) p (on_slot_kept w.memory w.machine slot command p)

  -- COMMANDS ON AN ENDPOINT
  told_by : (w : World) (ring : Option RingWorld) → Holds w → IfTold (option_map (with_ring w) ring)
  told_by w None p = tt
  told_by w (Some ring) p = p

  told : (w : World) (endpoint : Endpoint) (stream : ℕ) → Holds w → IfTold (begun_told w endpoint stream)
  unfolding begun_told
  told w endpoint stream p =
      let ring : Option RingWorld = ring_stopped w endpoint stream in
      either IfTold (has_place w.memory w.events) (option_map (with_ring w) ring) None (told_by w ring p) tt

  told_else : (w : World) (after : Option World) → Holds w → IfTold after → Holds (told_or_not w after).0
  told_else w None p q = p
  told_else w (Some after) p q = q

  from_kept : (w : World) (endpoint : Endpoint) (stream : Option ℕ) → Holds w → Holds (told_from w endpoint stream).0
  from_kept w endpoint None p = p
  from_kept w endpoint (Some stream) p =
      let next : World = with_next w (Some (suc stream)) in
      told_else next (begun_told next endpoint stream) p (told next endpoint stream p)

  stop_from : (w : World) (endpoint : Endpoint) (from : ℕ) → Holds w → Holds (stop_told_from w endpoint from).0
  unfolding stop_told_from
  stop_from w endpoint from p = from_kept w endpoint (begun_in w.machine endpoint from) p

  stopped_kept : (m : Machine) (endpoint : Endpoint) → P m.device → P (stopped_on m endpoint).device
  unfolding stopped_on
  stopped_kept m Control p = p
  stopped_kept m Command p = p
  stopped_kept m (Streams name) p = p

  stop_in_kept : (w : World) (endpoint : Endpoint) (state : EndpointState) → Holds w → Holds (stop_in w endpoint state).0
  stop_in_kept w endpoint IsDisabled p = p
  stop_in_kept w endpoint Running p = stop_from (record w { machine = stopped_on w.machine endpoint }) endpoint 0 (stopped_kept w.machine endpoint p)
  stop_in_kept w endpoint Halted p = p
  stop_in_kept w endpoint Stopped p = p
  stop_in_kept w endpoint Error p = p

  stop_by_kept : (w : World) (endpoint : Endpoint) (from : Option ℕ) → Holds w → Holds (stop_by w endpoint from).0
  stop_by_kept w endpoint (Some from) p = stop_from w endpoint from p
  stop_by_kept w endpoint None p = stop_in_kept w endpoint (state_in w.machine endpoint) p

  halt_kept : (m : Machine) (endpoint : Endpoint) (keeps : Bool) → P m.device → P (halt_ended m endpoint keeps).device
  unfolding halt_ended
  halt_kept m Control keeps p = p
  halt_kept m Command true p = p
  halt_kept m Command false p = p
  halt_kept m (Streams name) keeps p = p

  reset_kept : (m : Machine) (endpoint : Endpoint) (keeps : Bool) (state : EndpointState) → P m.device → P (reset_in m endpoint keeps state).0.device
  reset_kept m endpoint keeps IsDisabled p = p
  reset_kept m endpoint keeps Running p = p
  reset_kept m endpoint keeps Halted p = halt_kept m endpoint keeps p
  reset_kept m endpoint keeps Stopped p = p
  reset_kept m endpoint keeps Error p = p

  success_kept : (m : Machine) (memory : Option Memory) → P m.device → IfCoded (option_map (with_success m) memory)
  success_kept m None p = tt
  success_kept m (Some memory) p = p

  stream_kept : (m : Machine) (after : Option (Memory × TransfersState)) → P m.device → IfCoded (option_map (stream_success m) after)
  stream_kept m None p = tt
  stream_kept m (Some after) p = p

  stream_moved_kept : (memory : Memory) (m : Machine) (name : StreamPipe) (at : ℕ) (cursor : Cursor) (kind stream : ℕ) → P m.device
      → IfCoded (stream_moved memory m name at cursor kind stream)
  unfolding stream_moved
  stream_moved_kept memory m name at cursor kind stream p =
      let there : Option (Memory × TransfersState) = dequeue_moved memory m.transfers name stream cursor (kind % 8) in
      let alone : Bool = stream == 0 && not (has_stream (pipe_of m.transfers name) 1) in
      let forgets : Machine = bulk_forgotten name (record m { transfers = lone_forgotten m.transfers name }) in
      let stands : Option (Memory × (Machine × ℕ)) = option_map (with_success forgets) (pointer_set memory at cursor) in
      either IfCoded (has_stream (pipe_of m.transfers name) stream) (option_map (stream_success m) there) (cond alone stands (Some (memory, (m, 34))))
      (stream_kept m there p) (either IfCoded alone stands (Some (memory, (m, 34))) (success_kept forgets (pointer_set memory at cursor) p) p)

  moved_kept : (memory : Memory) (m : Machine) (endpoint : Endpoint) (at : ℕ) (cursor : Cursor) (kind stream : ℕ) → P m.device
      → IfCoded (moved memory m endpoint at cursor kind stream)
  unfolding moved
  moved_kept memory m Control at cursor kind stream p = success_kept _ (pointer_set memory at cursor) p
  moved_kept memory m Command at cursor kind stream p = success_kept _ (pointer_set memory at cursor) p
  moved_kept memory m (Streams name) at cursor kind stream p = stream_moved_kept memory m name at cursor kind stream p

  dequeue_kept : (memory : Memory) (m : Machine) (endpoint : Endpoint) (id : ℕ) (cursor : Cursor) (kind stream : ℕ) (state : EndpointState)
      → P m.device → IfCoded (dequeue_in memory m endpoint id cursor kind stream state)
  dequeue_kept memory m endpoint id cursor kind stream IsDisabled p = p
  dequeue_kept memory m endpoint id cursor kind stream Running p = p
  dequeue_kept memory m endpoint id cursor kind stream Halted p = p
  dequeue_kept memory m endpoint id cursor kind stream Stopped p = moved_kept memory m endpoint _ cursor kind stream p
  dequeue_kept memory m endpoint id cursor kind stream Error p = moved_kept memory m endpoint _ cursor kind stream p

  dequeue_else : (w : World) (done : Option (Memory × (Machine × ℕ))) → Holds w → IfCoded done → Holds (with_dequeue w done).0
  dequeue_else w None p q = p
  dequeue_else w (Some done) p q = q

  coded_kept : (w : World) (endpoint : Endpoint) (id : ℕ) (order : Order) → Holds w → Holds (order_coded w endpoint id order).0
  unfolding order_coded stop_done
  coded_kept w endpoint id Stop p = stop_by_kept w endpoint w.machine.commands.stopping p
  coded_kept w endpoint id (Reset keeps) p = reset_kept w.machine endpoint keeps (state_in w.machine endpoint) p
  coded_kept w endpoint id (SetDequeue cursor kind stream) p =
      dequeue_else w _ p (dequeue_kept w.memory w.machine endpoint id cursor kind stream (state_in w.machine endpoint) p)

  with_slot_kept : (slot : ℕ) (done : World × Option (Option ℕ)) → Holds done.0 → Holds (with_slot slot done).0
  with_slot_kept slot (w, None) p = p
  with_slot_kept slot (w, Some None) p = p
  with_slot_kept slot (w, Some (Some code)) p = p

  order_on_kept : (w : World) (slot id : ℕ) (order : Order) (endpoint : Option Endpoint) → Holds w → Holds (order_on w slot id order endpoint).0
  order_on_kept w slot id order None p = p
  order_on_kept w slot id order (Some endpoint) p =
      either (λ (x : World × Option (Option Ended)). Holds x.0) _ _ _ p
      (with_slot_kept slot (order_coded w endpoint id order) (coded_kept w endpoint id order p))

  order_kept : (w : World) (slot id : ℕ) (order : Order) → Holds w → Holds (order_done w slot id order).0
  unfolding order_done
  order_kept w slot id order p =
      either (λ (x : World × Option (Option Ended)). Holds x.0) _ _ _ p (order_on_kept w slot id order (endpoint_of id) p)

  endpoint_over : (cursor : Cursor) (done : World × Option (Option Ended)) → Holds done.0 → Holds (endpoint_ended cursor done).0
  endpoint_over cursor (w, None) p = p
  endpoint_over cursor (w, Some None) p = p
  endpoint_over cursor (w, Some (Some how)) p = over w cursor how p

  endpoint_taken : (w : World) (cursor : Cursor) (slot endpoint : ℕ) (order : Order) → Holds w
      → Holds (endpoint_command_taken w cursor slot endpoint order).0
  unfolding endpoint_command_taken
  endpoint_taken w cursor slot endpoint order p = endpoint_over cursor (order_done w slot endpoint order) (order_kept w slot endpoint order p)

  -- A STEP
  taken_kept : (w : World) (cursor : Cursor) (command : TakenCommand) → Holds w → Holds (command_taken w cursor command).0
  taken_kept w cursor (Link pointer toggle ioc) p =
      worked (link_followed w cursor (followed cursor pointer toggle) ioc) (follows w cursor (followed cursor pointer toggle) ioc p)
  taken_kept w cursor NoOp p = worked (command_ended w cursor (ended 1 0)) (over w cursor (ended 1 0) p)
  taken_kept w cursor (OnSlot slot command) p = worked (slot_command_taken w cursor slot command) (slot_taken w cursor slot command p)
  taken_kept w cursor (OnEndpoint slot endpoint order) p =
      worked (endpoint_command_taken w cursor slot endpoint order) (endpoint_taken w cursor slot endpoint order p)
  taken_kept w cursor Foreign p = worked (command_ended w cursor (ended 5 0)) (over w cursor (ended 5 0) p)

  taken_by_kept : (w : World) (cursor : Cursor) (words : Option Words) → Holds w → Holds (taken_by w cursor words).0
  taken_by_kept w cursor None p = p
  taken_by_kept w cursor (Some words) p = taken_kept w cursor (command_in words) p

  fetched_kept : (w : World) (words : Option (Option Words)) → Holds w → Holds (fetched_taken w words).0
  fetched_kept w None p = p
  fetched_kept w (Some words) p = taken_by_kept w (command_cursor w.machine) words p

  front_kept : (w : World) → Holds w → Holds (front_taken w).0
  unfolding front_taken
  front_kept w p =
      either (λ (x : World × Option Acted). Holds x.0) w.machine.commands.owes_stop (stop_posted w)
      (fetched_taken w (fetched w.memory (command_cursor w.machine))) p (fetched_kept w (fetched w.memory (command_cursor w.machine)) p)

  through_kept : (w : World) (opens : Option (Option Acted)) → Holds w → Holds (through w opens).0
  through_kept w None p = p
  through_kept w (Some None) p = front_kept w p
  through_kept w (Some (Some acted)) p = p

  pub commands_kept : (w : World) → P w.machine.device → P (commands_stepped w).0.machine.device
  unfolding commands_stepped
  commands_kept w p = either (λ (x : World × Option Acted). Holds x.0) _ _ _ p (through_kept w (room_gate w.memory w.events) p)
