-- The slot that was ready first, and what is true of every host once its reply is given.
use Rattle.std.proofs.Common.{◌≡◌, ℕ, ◌<◌, Bool, true, false, List, [], ◌∷◌, drop, length, length-set, Option, Some, None, IfSome, refl, arith, ap, ◌∙◌, sym, inl, inr}
use Rattle.std.specs.Prelude.{◌&&◌, slice_get}
use Rattle.std.proofs.lemmas.Bool.Decides.{leb_tells}
use Rattle.scsi_cmd.specs.Request.{is_command}
use Rattle.scsi_cmd.specs.Held.{held_at}
use Rattle.uas_host.specs.declared.HostClient.{HostClient}
use Rattle.scsi_cmd.specs.declared.Request.{Request}
use Rattle.scsi_cmd.specs.declared.Request.TheVariants.{Execute, Manage}
use Rattle.uas_profile.specs.declared.TdState.{TdState}
use Rattle.uas_profile.specs.declared.TdState.TheVariants.{Pending, Seen, LeftOver, Retired}
use Rattle.uas_host.specs.declared.HostAnswer.{HostAnswer}
use Rattle.uas_profile.specs.TdStates.{is_over, is_seen}
use Rattle.uas_host.specs.State.{HostState, IsHost, IsHostClient, WasTold, client_of, is_answer_to, is_data_over, is_given_up}
use Rattle.uas_host.specs.State.{readied_of, with_client}
use Rattle.uas_host.specs.Replies.{HasAnswer, IsReadySlot, has_answer, without}
use Rattle.uas_host.proofs.Queues.{AreReady-take, IsFirst, readied-held, readied-ready}
use Rattle.uas_host.proofs.Sound.{AllHeld-set, IsHost-set, empty-set}
use Rattle.uas_host.proofs.Seeing.{held-at}

first-slot : (queue : List ℕ) (slot : ℕ) → slice_get queue 0 ≡ Some slot → queue ≡ slot ∷ drop 1 queue
first-slot [] slot is = absurd (cc)
first-slot (first ∷ rest) slot is = let same : first ≡ slot = cc in ap (λ s. s ∷ rest) same

-- what is ready, and was told as every entry was, has its reply
ready-answered : (request : Request) (told : HostAnswer) (command status : TdState) (moved : Bool) → (is_seen command && (is_over status && moved)) ≡ true →
    (is_seen status ≡ true → is_answer_to request told ≡ true) → (is_given_up status ≡ true → is_command request ≡ true) → has_answer told status request ≡ true
ready-answered (Execute op) told Seen Seen moved is answer command = rw (answer refl) refl
ready-answered (Execute op) told Seen Retired moved is answer command = refl
ready-answered (Manage task noted) told Seen Seen moved is answer command = answer refl
ready-answered (Manage task noted) told Seen Retired moved is answer command = absurd (let no : false ≡ true = command refl in cc)
ready-answered request told Seen Pending moved is answer command = absurd (cc)
ready-answered request told Seen LeftOver moved is answer command = absurd (cc)
ready-answered request told Pending status moved is answer command = absurd (cc)
ready-answered request told LeftOver status moved is answer command = absurd (cc)
ready-answered request told Retired status moved is answer command = absurd (cc)

first_of : (tags : ℕ) (held : HostClient) (slot : ℕ) → IsHostClient tags held → slice_get held.ready.items 0 ≡ Some slot →
    IsFirst held.entries slot (drop 1 held.ready.items)
first_of tags held slot sound is = AreReady-take held.entries held.ready.items (drop 1 held.ready.items) slot sound.ready (first-slot held.ready.items slot is)

-- what is ready is one of the tags
ready-within : (tags : ℕ) (held : HostClient) (slot : ℕ) → IsHostClient tags held → readied_of (held_at held.entries slot) ≡ 1 → slot < tags
ready-within tags held slot sound ready =
    elim (leb_tells tags slot) as (λ _. slot < tags) [
      | inl past ↦ absurd (readied-held (held_at held.entries slot) ready (sound.empty slot past.1))
      | inr within ↦ within.1
    ]

-- what is ready has its reply
ready-status : (tags : ℕ) (held : HostClient) (slot : ℕ) → IsHostClient tags held → readied_of (held_at held.entries slot) ≡ 1 →
    HasAnswer (held_at held.entries slot)
ready-status tags held slot sound ready =
    elim (held_at held.entries slot) as (λ o. held_at held.entries slot ≡ o → readied_of o ≡ 1 → HasAnswer o) [
      | None ↦ λ is none. let no : ◌≡◌ {A = ℕ} 0 1 = none in omega arith
      | Some entry ↦ λ is one.
          let told = held-at WasTold held.entries slot entry sound.told is in
          ready-answered entry.request entry.told entry.command_td entry.status_td (is_data_over entry.data_td) (readied-ready (Some entry) entry refl one)
          told.answer told.command
    ] refl ready

-- the first of the ready slots of a client that is there
pub first_ready-known : (host : HostState) (client : ℕ) (slot : Option ℕ) → client < length host.clients → IsHost host →
    slot ≡ slice_get (client_of host client).ready.items 0 → IfSome slot (IsReadySlot host client)
first_ready-known host client None there is first = tt
first_ready-known host client (Some slot) there is first =
    let sound = is.clients client there in
    let ready = first_of host.tags (client_of host client) slot sound (sym first) in
    record {
      there = there;
      within = ready-within host.tags (client_of host client) slot sound ready.ready;
      answered = ready-status host.tags (client_of host client) slot sound ready.ready;
    }

-- the entry of the first slot goes
pub released-host : (host : HostState) (client slot : ℕ) → client < length host.clients → IsHost host →
    slice_get (client_of host client).ready.items 0 ≡ Some slot →
    IsHost (with_client host client (without (client_of host client) slot (drop 1 (client_of host client).ready.items)))
released-host host client slot there is first =
    let held = client_of host client in
    let sound = is.clients client there in
    IsHost-set host client (without held slot (drop 1 held.ready.items)) is (record {
      slots = length-set held.entries slot None ∙ sound.slots;
      empty = empty-set host.tags held.entries slot None (ready-within host.tags held slot sound (first_of host.tags held slot sound first).ready) sound.empty;
      ready = (first_of host.tags held slot sound first).others;
      told = AllHeld-set WasTold held.entries slot None sound.told tt;
    })
