-- A reply is due where the host has one ready, and an event where one is pending.
use Rattle.std.proofs.Common.{◌≡◌, ℕ, suc, ◌≤◌, false, List, [], ◌∷◌, length, Option, Some, None, refl, arith, ap, sym, ◌∙◌}
use Rattle.std.specs.Prelude.{nat_lt, slice_get}
use Rattle.std.specs.Option.{option_map_or}
use Rattle.std.proofs.lemmas.Bool.{lt-ltb}
use Rattle.event_ring.specs.declared.Event.{Event}
use Rattle.uas_host.specs.declared.HostClient.{HostClient}
use Rattle.uas_host.specs.State.{client_of, new_client}
use Rattle.shared_machine.specs.declared.Completion.{Completion}
use Rattle.shared_machine.specs.declared.Completion.TheVariants.{CommandDone, DataDone, StatusDone, EngineDone}
use Rattle.shared_machine.specs.Part.{Part}
use Rattle.shared_machine.specs.Shared.{Shared, has_ready, is_some_of}
use Rattle.bus_core.specs.World.{World}
use Rattle.bus_core.specs.Fits.{Fits, event_texts}
use Rattle.bus_core.specs.WorldDue.{EventsAreDue, TakesAreDue}
use Rattle.bus_core.proofs.common.CellWrites.{clients-length, index-past}
use Rattle.bus_core.proofs.common.Framing.{found}
use Rattle.shared_machine.proofs.Standing.{get-none}
use Rattle.bus_core.proofs.take.Taking.{ready-found}

-- each event that waits has its text
texts-some : (tags : ℕ) (world : World) (k : ℕ) (events : List Completion) → is_some_of events ≡ nat_lt 0 (length (event_texts tags world k events))
texts-some tags world k [] = refl
texts-some tags world k (CommandDone place ∷ rest) = sym (lt-ltb 0 (suc (length (event_texts tags world (suc k) rest))) (omega arith))
texts-some tags world k (DataDone place ∷ rest) = sym (lt-ltb 0 (suc (length (event_texts tags world k rest))) (omega arith))
texts-some tags world k (StatusDone place ∷ rest) = sym (lt-ltb 0 (suc (length (event_texts tags world k rest))) (omega arith))
texts-some tags world k (EngineDone place ∷ rest) = sym (lt-ltb 0 (suc (length (event_texts tags world k rest))) (omega arith))

pub events-are-due : EventsAreDue
events-are-due state world fits = texts-some state.tags world 0 state.events ∙ ap (λ (es : List Event). nat_lt 0 (length es)) (sym fits.queues.texts)

take-due : (state : Shared) (world : World) (client : ℕ) (at : Option Part) → Fits state world → slice_get state.parts client ≡ at
    → option_map_or has_ready at false ≡ is_some_of (client_of world.host client).ready.items
take-due state world client None fits is =
    let past : length world.host.clients ≤ client = omega (arith, clients-length state.tags world state.parts fits.clients, get-none state.parts client is) in
    ap (λ (c : HostClient). is_some_of c.ready.items) (sym (index-past world.host.clients client new_client past))
take-due state world client (Some part) fits is =
    ap (λ ready. is_some_of ready) (sym (ready-found state.tags world client part (found state.tags world state.parts client part fits.clients is)))

pub takes-are-due : TakesAreDue
takes-are-due state world client fits = take-due state world client (slice_get state.parts client) fits refl
