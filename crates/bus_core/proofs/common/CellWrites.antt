-- One cell of the world is written: the host's entry, the stream rings and the buffers of one tag, and all others are as they were.
use Rattle.std.proofs.Common.{◌≡◌, ℕ, zero, suc, ◌+◌, ◌-◌, ◌*◌, ◌<◌, ◌≤◌, true, false, List, [], ◌∷◌, length, Option, Some, None, is_some, refl, arith, ap, sym}
use Rattle.std.proofs.Common.{subst, ◌∙◌}
use Rattle.std.specs.Prelude.{slice_get, slice_set, slice_index_or, ◌==◌}
use Rattle.std.proofs.lemmas.Bool.{eqb-true, eqb-false}
use Rattle.std.proofs.lemmas.List.{get_or-set_same, get_or-set_other}
use Rattle.std.proofs.lemmas.Option.{none-some}
use Rattle.block_unit.specs.BlockMaps.{BlockMaps}
use Rattle.cycle_ring.specs.Ring.{opening}
use Rattle.cycle_ring.specs.Items.{ItemRing}
use Rattle.stream_array.specs.Rings.{stream_ring}
use Rattle.frame_store.specs.declared.TagBuffers.{TagBuffers}
use Rattle.frame_store.specs.Buffers.{held_for, with_held, no_buffers}
use Rattle.scsi_cmd.specs.Held.{held_at}
use Rattle.uas_profile.specs.declared.Place.{Place}
use Rattle.uas_host.specs.declared.HostEntry.{HostEntry}
use Rattle.uas_host.specs.declared.HostClient.{HostClient}
use Rattle.uas_host.specs.State.{HostState, client_of, with_client, new_client}
use Rattle.uas_profile.specs.Tags.{tag_of}
use Rattle.shared_machine.specs.Td.{Entry}
use Rattle.shared_machine.specs.Part.{Part}
use Rattle.bus_core.specs.World.{World, Cell, entry_at}
use Rattle.bus_core.specs.Cells.{FitsHeld}
use Rattle.bus_core.specs.Fits.{FitsClient, place_in}
use Rattle.bus_core.proofs.common.Framing.{AllFit}

-- LISTS

pub index-get : {T : Type 0} (list : List T) (at : ℕ) (none some : T) → slice_get list at ≡ Some some → slice_index_or list at none ≡ some
index-get {T} [] at none some is = absurd (none-some some is)
index-get (first ∷ rest) zero none some is = cc
index-get (first ∷ rest) (suc at) none some is = index-get rest at none some is

pub index-past : {T : Type 0} (list : List T) (at : ℕ) (none : T) → length list ≤ at → slice_index_or list at none ≡ none
index-past [] at none past = refl
index-past (first ∷ rest) zero none past = absurd (omega arith)
index-past (first ∷ rest) (suc at) none past = index-past rest at none (omega arith)

pub same_length : {T U : Type 0} (ones : List T) (others : List U) → ((at : ℕ) → is_some (slice_get ones at) ≡ is_some (slice_get others at))
    → length ones ≡ length others
same_length [] [] same = refl
same_length [] (other ∷ others) same = let no : false ≡ true = same 0 in let it : ⊥ = cc in absurd it
same_length (one ∷ ones) [] same = let no : true ≡ false = same 0 in let it : ⊥ = cc in absurd it
same_length (one ∷ ones) (other ∷ others) same = ap suc (same_length ones others (λ at. same (suc at)))

-- RINGS AND BUFFERS BY TAG

pub stream_ring-same : (rings : List ItemRing) (tag : ℕ) (ring : ItemRing) → 0 < tag → tag ≤ length rings → stream_ring (slice_set rings (tag - 1) ring) tag ≡ ring
stream_ring-same rings tag ring some within = get_or-set_same rings (tag - 1) ring (opening 0) (omega arith)

pub stream_ring-other : (rings : List ItemRing) (tag other : ℕ) (ring : ItemRing) → 0 < tag → 0 < other → (other ≡ tag → ⊥)
    → stream_ring (slice_set rings (tag - 1) ring) other ≡ stream_ring rings other
stream_ring-other rings tag other ring some there apart = get_or-set_other rings (tag - 1) (other - 1) ring (opening 0) (λ same. apart (omega arith))

pub held_for-same : (frames : List TagBuffers) (tag : ℕ) (held : TagBuffers) → 0 < tag → tag ≤ length frames → held_for (with_held frames tag held) tag ≡ held
held_for-same frames tag held some within = get_or-set_same frames (tag - 1) held no_buffers (omega arith)

pub held_for-other : (frames : List TagBuffers) (tag other : ℕ) (held : TagBuffers) → 0 < tag → 0 < other → (other ≡ tag → ⊥)
    → held_for (with_held frames tag held) other ≡ held_for frames other
held_for-other frames tag other held some there apart = get_or-set_other frames (tag - 1) (other - 1) held no_buffers (λ same. apart (omega arith))

-- THE HOST'S ENTRIES

pub client_of-found : (host : HostState) (client : ℕ) (held : HostClient) → slice_get host.clients client ≡ Some held → client_of host client ≡ held
client_of-found host client held is = index-get host.clients client new_client held is

pub entry_at-same : (host : HostState) (client slot : ℕ) (now : HostClient) (entries : List (Option HostEntry)) (entry : Option HostEntry)
    → client < length host.clients → slot < length entries → now.entries ≡ slice_set entries slot entry
    → entry_at (with_client host client now) (place_in client slot) ≡ entry
entry_at-same host client slot now entries entry there within is =
    ap (λ (c : HostClient). held_at c.entries slot) (get_or-set_same host.clients client now new_client there)
    ∙ ap (λ es. held_at es slot) is ∙ get_or-set_same entries slot entry None within

pub entry_at-other : (tags : ℕ) (host : HostState) (client slot other at : ℕ) (now : HostClient) (entry : Option HostEntry)
    → client < length host.clients → now.entries ≡ slice_set (client_of host client).entries slot entry
    → (tag_of tags (place_in other at) ≡ tag_of tags (place_in client slot) → ⊥)
    → entry_at (with_client host client now) (place_in other at) ≡ entry_at host (place_in other at)
entry_at-other tags host client slot other at now entry there is apart =
    elim (other == client) as (λ b. (other == client) ≡ b → entry_at (with_client host client now) (place_in other at) ≡ entry_at host (place_in other at)) [
      | true ↦ λ same. let one : client ≡ other = sym (eqb-true other client same) in
          let elsewhere : at ≡ slot → ⊥ = λ e. apart (ap (λ c. c * tags + at + 1) (sym one) ∙ ap (λ s. client * tags + s + 1) e) in
          subst (λ c. entry_at (with_client host client now) (place_in c at) ≡ entry_at host (place_in c at)) one
          (ap (λ (c : HostClient). held_at c.entries at) (get_or-set_same host.clients client now new_client there)
          ∙ ap (λ es. held_at es at) is ∙ get_or-set_other (client_of host client).entries slot at entry None elsewhere)
      | false ↦ λ differs.
          ap (λ (c : HostClient). held_at c.entries at) (get_or-set_other host.clients client other now new_client (eqb-false other client differs))
    ] refl

-- WHAT FITS HAS AS MUCH

both_there : (tags : ℕ) (world : World) (client : ℕ) (unit : Option BlockMaps) (held : Option HostClient) (part : Option Part) → FitsClient tags world client unit held part
    → is_some held ≡ is_some part
both_there tags world client None None None fits = refl
both_there tags world client None None (Some part) fits = absurd fits
both_there tags world client None (Some held) part fits = absurd fits
both_there tags world client (Some unit) None part fits = absurd fits
both_there tags world client (Some unit) (Some held) None fits = absurd fits
both_there tags world client (Some unit) (Some held) (Some part) fits = refl

pub clients-length : (tags : ℕ) (world : World) (parts : List Part) → AllFit tags world parts → length world.host.clients ≡ length parts
clients-length tags world parts all = same_length world.host.clients parts
    (λ at. both_there tags world at (slice_get world.device.units at) (slice_get world.host.clients at) (slice_get parts at) (all at))

-- a cell that fits holds an entry of the host exactly where there is one
pub FitsHeld-some : (tags : ℕ) (client count : ℕ) (place : Place) (held : Option Entry) (cell : Cell) → FitsHeld tags client count place held cell
    → is_some cell.held ≡ is_some held
FitsHeld-some tags client count place None cell fits = ap (λ (o : Option HostEntry). is_some o) fits.held
FitsHeld-some tags client count place (Some entry) cell fits = ap (λ (o : Option HostEntry). is_some o) fits.held
