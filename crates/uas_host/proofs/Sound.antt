-- What is true of every host is kept.
use Rattle.std.proofs.Common.{◌≡◌, ℕ, zero, suc, ◌*◌, ◌<◌, ◌≤◌, List, [], ◌∷◌, length, length-set, replicate, Option, Some, None, IfSome, refl, arith, ◌∙◌, inl, inr}
use Rattle.std.proofs.Common.{subst, sym}
use Rattle.std.specs.Prelude.{slice_set}
use Rattle.std.proofs.lemmas.Bool.{cases_eq}
use Rattle.std.proofs.lemmas.List.{get_or-set_same, get_or-set_other, get_or-replicate, length-replicate}
use Rattle.scsi_cmd.specs.declared.Op.{Op}
use Rattle.scsi_cmd.specs.declared.Task.{Task}
use Rattle.uas_profile.specs.declared.TheConstants.{MOST_TAGS, MAX_CLIENTS, STREAMS}
use Rattle.uas_profile.specs.Tags.{AreTags, task_slot}
use Rattle.scsi_cmd.specs.Held.{AllHeld, held_at}
use Rattle.uas_host.specs.declared.HostEntry.{HostEntry}
use Rattle.uas_host.specs.declared.HostClient.{HostClient}
use Rattle.uas_host.specs.Tasks.{managed, managed_client, noted_by, task_entry}
use Rattle.uas_host.specs.State.{HostState, IsHost, IsHostClient, IsRetirement, WasTold, client_of, new_client, opening, with_client}
use Rattle.uas_host.specs.Submit.{IsFree, new_entry, noted, submitted_client}
use Rattle.uas_host.proofs.Queues.{AreReady-none, AreReady-set}

-- ENTRIES

pub AllHeld-set : {T : Type 0} → (P : T → Type 0) (places : List (Option T)) (slot : ℕ) (now : Option T) → AllHeld P places → IfSome now P →
    AllHeld P (slice_set places slot now)
AllHeld-set P [] slot now all here = all
AllHeld-set P (place ∷ places) zero now all here = (here, all.1)
AllHeld-set P (place ∷ places) (suc slot) now all here = (all.0, AllHeld-set P places slot now all.1 here)

AllHeld-none : {T : Type 0} → (P : T → Type 0) (n : ℕ) → AllHeld P (replicate n None)
AllHeld-none P zero = tt
AllHeld-none P (suc n) = (tt, AllHeld-none P n)

held_at-none : (n slot : ℕ) → held_at {T = HostEntry} (replicate n None) slot ≡ None
held_at-none zero slot = refl
held_at-none (suc n) zero = refl
held_at-none (suc n) (suc slot) = held_at-none n slot

-- the slots from a client's number of tags on are empty
abbrev pub AreEmptyFrom : ℕ → List (Option HostEntry) → Type 0
AreEmptyFrom tags entries = (slot : ℕ) → tags ≤ slot → held_at entries slot ≡ None

-- a write to one of the first slots keeps them so
pub empty-set : (tags : ℕ) (entries : List (Option HostEntry)) (slot : ℕ) (now : Option HostEntry) → slot < tags → AreEmptyFrom tags entries →
    AreEmptyFrom tags (slice_set entries slot now)
empty-set tags entries slot now within empty other past =
    get_or-set_other entries slot other now None (λ same. omega (arith, same, within, past)) ∙ empty other past

-- CLIENTS

new_client-sound : (tags : ℕ) → IsHostClient tags new_client
new_client-sound tags = record {
  slots = length-replicate {A = Option HostEntry} MOST_TAGS None;
  empty = λ slot past. held_at-none MOST_TAGS slot;
  ready = AreReady-none MOST_TAGS;
  told = AllHeld-none WasTold MOST_TAGS;
}

pub IsHost-set : (host : HostState) (client : ℕ) (now : HostClient) → IsHost host → IsHostClient host.tags now → IsHost (with_client host client now)
IsHost-set host client now is here = record {
  number = is.number;
  some = omega (arith, is.some, length-set host.clients client now);
  most = omega (arith, is.most, length-set host.clients client now);
  streams = subst (λ (n : ℕ). n * host.tags ≤ STREAMS) (sym (length-set host.clients client now)) is.streams;
  clients = λ other within.
      let inside : other < length host.clients = omega (arith, within, length-set host.clients client now) in
      elim (cases_eq other client) as (λ _. IsHostClient host.tags (client_of (with_client host client now) other)) [
        | inl same ↦ rw (same, get_or-set_same host.clients client now new_client (omega (arith, same, inside))) here
        | inr apart ↦ rw (get_or-set_other host.clients client other now new_client apart) (is.clients other inside)
      ];
  retirement = subst (λ (n : ℕ). IfSome host.retirement (IsRetirement host.tags n)) (sym (length-set host.clients client now)) is.retirement;
}

pub opening-host : (tags clients : ℕ) → AreTags tags → 1 ≤ clients → clients ≤ MAX_CLIENTS → clients * tags ≤ STREAMS → IsHost (opening tags clients)
opening-host tags clients number some most streams = record {
  number = number;
  some = omega (arith, some, length-replicate clients new_client);
  most = omega (arith, most, length-replicate clients new_client);
  streams = subst (λ (n : ℕ). n * tags ≤ STREAMS) (sym (length-replicate clients new_client)) streams;
  clients =
      λ client within. rw (get_or-replicate clients client new_client new_client (omega (arith, within, length-replicate clients new_client))) (new_client-sound tags);
  retirement = tt;
}

submitted-sound : (tags : ℕ) (held : HostClient) (slot ticket : ℕ) (op : Op) → AreTags tags → slot < tags → IsFree held slot → IsHostClient tags held →
    IsHostClient tags (submitted_client held slot ticket op)
submitted-sound tags held slot ticket op number within free is = record {
  empty = empty-set tags held.entries slot (Some (new_entry ticket op)) within is.empty;
  slots = length-set held.entries slot (Some (new_entry ticket op)) ∙ is.slots;
  ready = AreReady-set held.entries held.ready.items slot None (Some (new_entry ticket op)) (omega (arith, is.slots, within, number.most)) free refl is.ready;
  told = AllHeld-set WasTold held.entries slot (Some (new_entry ticket op)) is.told (record { answer = λ seen. absurd (cc); command = λ given_up. refl });
}

managed-sound : (tags : ℕ) (held : HostClient) (ticket : ℕ) (task : Task) → AreTags tags → IsFree held (task_slot tags) → IsHostClient tags held →
    IsHostClient tags (managed_client tags held ticket task)
managed-sound tags held ticket task number free is =
    let now : HostEntry = task_entry ticket task (record { items = noted_by tags held task }) in
    record {
      slots = length-set held.entries (task_slot tags) (Some now) ∙ is.slots;
      empty = empty-set tags held.entries (task_slot tags) (Some now) (omega (arith, number.least)) is.empty;
      ready = AreReady-set held.entries held.ready.items (task_slot tags) None (Some now) (omega (arith, is.slots, number.least, number.most)) free refl
          is.ready;
      told = AllHeld-set WasTold held.entries (task_slot tags) (Some now) is.told (record { answer = λ seen. absurd (cc); command = λ given_up. absurd (cc) });
    }

pub managed-host : (host : HostState) (client ticket : ℕ) (task : Task) → client < length host.clients → IsFree (client_of host client) (task_slot host.tags) →
    IsHost host → IsHost (managed host client ticket task)
managed-host host client ticket task there free is =
    IsHost-set host client (managed_client host.tags (client_of host client) ticket task) is
    (managed-sound host.tags (client_of host client) ticket task is.number free (is.clients client there))

pub noted-host : (host : HostState) (client slot ticket : ℕ) (op : Op) → client < length host.clients → slot < host.tags →
    IsFree (client_of host client) slot → IsHost host → IsHost (noted host client slot ticket op)
noted-host host client slot ticket op there within free is =
    IsHost-set host client (submitted_client (client_of host client) slot ticket op) is
    (submitted-sound host.tags (client_of host client) slot ticket op is.number within free (is.clients client there))
