-- The host finds the fault of a submission that the shared machine finds.
use Rattle.std.proofs.Common.{◌≡◌, ℕ, ◌<◌, true, length, Option, Some, None, is_some, option_map, refl, arith, ap, sym, ◌∙◌}
use Rattle.std.specs.Prelude.{slice_get}
use Rattle.scsi_cmd.specs.declared.Command.{Command}
use Rattle.scsi_cmd.specs.declared.SubmitFault.{SubmitFault}
use Rattle.scsi_cmd.specs.Submission.{first_submit_fault}
use Rattle.scsi_cmd.specs.Held.{held_at}
use Rattle.uas_profile.specs.declared.Place.{Place}
use Rattle.uas_host.specs.declared.HostClient.{HostClient}
use Rattle.uas_host.specs.State.{client_of}
use Rattle.uas_host.specs.Submit.{fault_at as host_fault_at}
use Rattle.uas_profile.specs.Tags.{command_slot}
use Rattle.shared_machine.specs.Part.{Part, fault_at}
use Rattle.shared_machine.specs.Shared.{Shared, submitted_under, submitted_to, answered}
use Rattle.bus_core.specs.World.{World, cell_at}
use Rattle.bus_core.specs.Fits.{Fits, place_in}
use Rattle.bus_core.specs.WorldSteps.{FaultsAgree, fault_in}
use Rattle.bus_core.proofs.common.Framing.{IsFound, found}
use Rattle.shared_machine.proofs.OwnSlots.{IsOwnSlot, command_slot-own}
use Rattle.bus_core.proofs.common.CellWrites.{client_of-found, clients-length, FitsHeld-some}
use Rattle.shared_machine.proofs.Standing.{get-none}

-- the host's client of a part that is there finds the part's fault
pub fault_at-found : (tags : ℕ) (world : World) (client slot ticket : ℕ) (command : Command) (part : Part) (it : IsFound tags world client part) → slot < tags
    → host_fault_at (client_of world.host client) ticket command (Some slot) ≡ fault_at part slot ticket command
fault_at-found tags world client slot ticket command part it within =
    let is : client_of world.host client ≡ it.held = client_of-found world.host client it.held it.held_is in
    let same : is_some (held_at (client_of world.host client).entries slot) ≡ is_some (held_at part.entries slot) =
    FitsHeld-some tags client part.unit.count (place_in client slot) (held_at part.entries slot) (cell_at tags world (place_in client slot))
    (it.fits.cells slot within) in
    ap (λ used. first_submit_fault true used (client_of world.host client).least_ticket ticket command) same
    ∙ ap (λ (c : HostClient). first_submit_fault true (is_some (held_at part.entries slot)) c.least_ticket ticket command) is
    ∙ ap (λ least. first_submit_fault true (is_some (held_at part.entries slot)) least ticket command) (sym it.fits.least_ticket)

answered-fault : (state : Shared) (part : Part) (place : Place) (tag ticket : ℕ) (command : Command) (fault : Option SubmitFault)
    → option_map fault_in (answered state part place tag ticket command fault).1.refused ≡ fault
answered-fault state part place tag ticket command None = refl
answered-fault state part place tag ticket command (Some fault) = refl

to-fault : (state : Shared) (world : World) (client slot tag ticket : ℕ) (command : Command) (at : Option Part) → Fits state world
    → slice_get state.parts client ≡ at
    → client < length state.parts → slot < state.tags
    → host_fault_at (client_of world.host client) ticket command (Some slot)
    ≡ option_map fault_in (submitted_to state (record { client = client; slot = slot }) tag ticket command at).1.refused
to-fault state world client slot tag ticket command None fits is there within = absurd (omega (arith, there, get-none state.parts client is))
to-fault state world client slot tag ticket command (Some part) fits is there within =
    fault_at-found state.tags world client slot ticket command part (found state.tags world state.parts client part fits.clients is) within
    ∙ sym (answered-fault state part (record { client = client; slot = slot }) tag ticket command (fault_at part slot ticket command))

under-fault : (state : Shared) (world : World) (client tag ticket : ℕ) (command : Command) (slot : Option ℕ) → Fits state world
    → command_slot state.tags (length state.parts) client tag ≡ slot
    → host_fault_at (client_of world.host client) ticket command slot ≡ option_map fault_in (submitted_under state client tag ticket command slot).1.refused
under-fault state world client tag ticket command None fits is = refl
under-fault state world client tag ticket command (Some slot) fits is =
    let own : IsOwnSlot state.tags (length state.parts) client tag slot = command_slot-own state.tags (length state.parts) client tag slot is in
    to-fault state world client slot tag ticket command (slice_get state.parts client) fits refl own.there (omega (arith, own.within))

pub faults-agree : FaultsAgree
faults-agree state world client tag ticket command fits =
    ap (λ t. host_fault_at (client_of world.host client) ticket command (command_slot t (length world.host.clients) client tag)) fits.tags
    ∙ ap (λ n. host_fault_at (client_of world.host client) ticket command (command_slot state.tags n client tag)) (clients-length state.tags world state.parts fits.clients)
    ∙ under-fault state world client tag ticket command (command_slot state.tags (length state.parts) client tag) fits refl
