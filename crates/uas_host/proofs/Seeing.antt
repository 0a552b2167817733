-- What is true of every host is kept at an event.
use Rattle.std.proofs.Common.{◌≡◌, ℕ, zero, suc, ◌<◌, ◌≤◌, Bool, true, false, List, [], ◌∷◌, length, length-set, Option, Some, None, IfSome, MatchOption}
use Rattle.std.proofs.Common.{refl, arith, sym, ap, ◌∙◌, subst}
use Rattle.std.specs.Prelude.{◌&&◌, not, option_and_then, option_map, cond, slice_set}
use Rattle.std.specs.Option.{option_map_or}
use Rattle.std.proofs.lemmas.List.{set-get_or}
use Rattle.arrayvec.specs.ArrayVec.{ArrayVec}
use Rattle.uas_profile.specs.declared.Pipe.{Pipe}
use Rattle.uas_profile.specs.declared.Pipe.TheVariants.{Command, Status, DataIn, DataOut}
use Rattle.uas_profile.specs.Tags.{AreTags}
use Rattle.uas_profile.specs.declared.TheConstants.{MOST_TAGS}
use Rattle.scsi_cmd.specs.Held.{AllHeld, held_at}
use Rattle.uas_profile.specs.declared.TdState.{TdState}
use Rattle.uas_profile.specs.declared.TdState.TheVariants.{Pending, Seen, LeftOver, Retired}
use Rattle.uas_host.specs.declared.HostAnswer.TheVariants.{Status as AnsweredStatus, Response as AnsweredResponse}
use Rattle.scsi_cmd.specs.declared.Request.{Request}
use Rattle.scsi_cmd.specs.declared.Request.TheVariants.{Execute, Manage}
use Rattle.uas_host.specs.declared.HostEntry.{HostEntry}
use Rattle.uas_host.specs.declared.HostClient.{HostClient}
use Rattle.uas_host.specs.Notices.{Notice, CommandSeen, DataInSeen, DataOutSeen, Answered, Responded, TdRetired}
use Rattle.uas_profile.specs.declared.Place.{Place}
use Rattle.uas_profile.specs.TdStates.{is_left_over, is_over}
use Rattle.uas_host.specs.State.{HostState, IsHost, IsHostClient, WasTold, client_of, is_answer_to, is_given_up}
use Rattle.uas_profile.specs.TdStates.{is_pending, is_seen, one_if}
use Rattle.uas_host.specs.State.{is_ready, new_client, queued_if, readied_of, with_client}
use Rattle.scsi_cmd.specs.Request.{is_command, request_direction}
use Rattle.uas_host.specs.Seen.{after_response, client_seen, completes, data_after, doomed, entries_after, goes_to_device, goes_to_host, is_data_left_over}
use Rattle.uas_host.specs.Seen.{is_doomed, left_over_data, ended_in, place_seen, seen, seen_data, with_seen}
use Rattle.uas_host.proofs.Queues.{AreReady-length, AreReady-push}
use Rattle.uas_host.proofs.Sound.{AllHeld-set, IsHost-set, empty-set}

-- what is held, once it was seen
pub saw_held : (notice : Notice) (held : Option HostEntry) (entry now : HostEntry) (saw ready : Bool) → held ≡ Some entry →
    MatchOption (seen notice entry) ((saw ≡ false) × (now ≡ entry)) (λ after. (saw ≡ true) × (now ≡ after)) → saw ≡ true → ready ≡ is_ready now →
    MatchOption (option_and_then (seen notice) held) ((Some ready ≡ None) × (Some now ≡ held))
    (λ after. (Some ready ≡ Some (is_ready after)) × (Some now ≡ Some after))
saw_held notice held entry now saw ready is told it_saw readied =
    rw is
    (elim (seen notice entry) as (λ o. MatchOption o ((saw ≡ false) × (now ≡ entry)) (λ after. (saw ≡ true) × (now ≡ after)) →
    MatchOption o ((Some ready ≡ None) × (Some now ≡ Some entry)) (λ after. (Some ready ≡ Some (is_ready after)) × (Some now ≡ Some after))) [
      | None ↦ λ no. let it : true ≡ false = sym it_saw ∙ no.0 in absurd (cc)
      | Some after ↦ λ so. (ap Some (readied ∙ ap is_ready so.1), ap Some so.1)
    ] told)

-- ONE ENTRY

pending-unseen : (td : TdState) → is_pending td ≡ true → is_seen td ≡ false
pending-unseen Pending is = refl
pending-unseen Seen is = absurd (cc)
pending-unseen LeftOver is = absurd (cc)
pending-unseen Retired is = absurd (cc)

pending-not_over : (td : TdState) → is_pending td ≡ true → is_over td ≡ false
pending-not_over Pending is = refl
pending-not_over Seen is = absurd (cc)
pending-not_over LeftOver is = absurd (cc)
pending-not_over Retired is = absurd (cc)

left_over-not_over : (td : TdState) → is_left_over td ≡ true → is_over td ≡ false
left_over-not_over Pending is = absurd (cc)
left_over-not_over Seen is = absurd (cc)
left_over-not_over LeftOver is = refl
left_over-not_over Retired is = absurd (cc)

left_over-given_up : (td : TdState) → is_left_over td ≡ true → is_given_up td ≡ true
left_over-given_up Pending is = absurd (cc)
left_over-given_up Seen is = absurd (cc)
left_over-given_up LeftOver is = refl
left_over-given_up Retired is = absurd (cc)

and_false : (b : Bool) → (b && false) ≡ false
and_false true = refl
and_false false = refl

and_left : (a b : Bool) → (a && b) ≡ true → a ≡ true
and_left true b is = refl
and_left false b is = absurd (cc)

and_right : (a b : Bool) → (a && b) ≡ true → b ≡ true
and_right true b is = is
and_right false b is = absurd (cc)

status-answers : (request : Request) (status : ℕ) (sense : ArrayVec ℕ) → is_command request ≡ true → is_answer_to request (AnsweredStatus status sense) ≡ true
status-answers (Execute op) status sense is = refl
status-answers (Manage task noted) status sense is = absurd (cc)

response-answers : (request : Request) (code : ℕ) → not (is_command request) ≡ true → is_answer_to request (AnsweredResponse code) ≡ true
response-answers (Execute op) code is = absurd (cc)
response-answers (Manage task noted) code is = refl

-- what an event finds isn't ready, and it is told of what it was told
pub record IsKept (held now : HostEntry) : Type 0 where
  pub unready : is_ready held ≡ false
  pub told : WasTold held → WasTold now

unready_status : (held : HostEntry) → is_over held.status_td ≡ false → is_ready held ≡ false
unready_status held is = rw (is, and_false (is_seen held.command_td)) refl

unready_data : (held : HostEntry) (td : TdState) → held.data_td ≡ Some td → is_over td ≡ false → is_ready held ≡ false
unready_data held td is unseen = rw (is, unseen, and_false (is_over held.status_td), and_false (is_seen held.command_td)) refl

-- a test, and what follows where it holds
where_so : (test : Bool) (held now : HostEntry) → (test ≡ true → IsKept held now) → IfSome (cond test (Some now) None) (IsKept held)
where_so true held now then = then refl
where_so false held now then = tt

kept_command : (held : HostEntry) → IfSome (seen CommandSeen held) (IsKept held)
kept_command held = where_so (is_pending held.command_td) held (record held { command_td = Seen })
    (λ is. record { unready = rw (pending-unseen held.command_td is) refl; told = λ told. record { answer = told.answer; command = told.command } })

kept_data : (right : Bool) (held : HostEntry) (td : Option TdState) → held.data_td ≡ td → IfSome (seen_data right held td) (IsKept held)
kept_data right held None is = tt
kept_data right held (Some td) is = where_so (right && is_pending td) held (record held { data_td = Some Seen })
    (λ waits. record {
      unready = unready_data held td is (pending-not_over td (and_right right (is_pending td) waits));
      told = λ told. record { answer = told.answer; command = told.command };
    })

kept_status : (held : HostEntry) (status : ℕ) (sense : ArrayVec ℕ) → IfSome (seen (Answered status sense) held) (IsKept held)
kept_status held status sense =
    where_so (is_command held.request && is_pending held.status_td) held
    (record held { told = AnsweredStatus status sense; status_td = Seen; data_td = data_after status held.data_td })
    (λ is. record {
      unready = unready_status held (pending-not_over held.status_td (and_right (is_command held.request) (is_pending held.status_td) is));
      told = λ told. record {
        answer = λ seen. status-answers held.request status sense (and_left (is_command held.request) (is_pending held.status_td) is);
        command = λ given_up. absurd (cc);
      };
    })

kept_response : (held : HostEntry) (code : ℕ) → IfSome (seen (Responded code) held) (IsKept held)
kept_response held code =
    where_so (not (is_command held.request) && is_pending held.status_td) held (record held { told = AnsweredResponse code; status_td = Seen })
    (λ is. record {
      unready = unready_status held (pending-not_over held.status_td (and_right (not (is_command held.request)) (is_pending held.status_td) is));
      told = λ told. record {
        answer = λ seen. response-answers held.request code (and_left (not (is_command held.request)) (is_pending held.status_td) is);
        command = λ given_up. absurd (cc);
      };
    })

left_over-unready : (held : HostEntry) (td : Option TdState) → held.data_td ≡ td → option_map_or is_left_over td false ≡ true → is_ready held ≡ false
left_over-unready held None same is = absurd (cc)
left_over-unready held (Some td) same is = unready_data held td same (left_over-not_over td is)

kept_retired_data : (right : Bool) (held : HostEntry) →
    IfSome (cond (is_data_left_over right held) (Some (record held { data_td = Some Retired })) None) (IsKept held)
kept_retired_data right held = where_so (is_data_left_over right held) held (record held { data_td = Some Retired })
    (λ is. record {
      unready = left_over-unready held held.data_td refl (and_right right (option_map_or is_left_over held.data_td false) is);
      told = λ told. record { answer = told.answer; command = told.command };
    })

kept_retired_status : (held : HostEntry) → IfSome (cond (is_left_over held.status_td) (Some (record held { status_td = Retired })) None) (IsKept held)
kept_retired_status held = where_so (is_left_over held.status_td) held (record held { status_td = Retired })
    (λ is. record {
      unready = unready_status held (left_over-not_over held.status_td is);
      told = λ told. record { answer = λ seen. absurd (cc); command = λ given_up. told.command (left_over-given_up held.status_td is) };
    })

kept_retired : (pipe : Pipe) (held : HostEntry) → IfSome (seen (TdRetired pipe) held) (IsKept held)
kept_retired Command held = tt
kept_retired Status held = kept_retired_status held
kept_retired DataIn held = kept_retired_data (goes_to_host (request_direction held.request)) held
kept_retired DataOut held = kept_retired_data (goes_to_device (request_direction held.request)) held

pub seen-kept : (notice : Notice) (held : HostEntry) → IfSome (seen notice held) (IsKept held)
seen-kept CommandSeen held = kept_command held
seen-kept DataInSeen held = kept_data (goes_to_host (request_direction held.request)) held held.data_td refl
seen-kept DataOutSeen held = kept_data (goes_to_device (request_direction held.request)) held held.data_td refl
seen-kept (Answered status sense) held = kept_status held status sense
seen-kept (Responded code) held = kept_response held code
seen-kept (TdRetired pipe) held = kept_retired pipe held

-- ONE CLIENT

-- a doomed command isn't ready, before and after
doomed-readied : (noted : List ℕ) (held : HostEntry) → is_ready (doomed noted held) ≡ is_ready held
doomed-readied noted held =
    elim (is_doomed noted held) as (λ b. is_doomed noted held ≡ b →
    is_ready (cond b (record held { status_td = LeftOver; data_td = left_over_data held.data_td }) held) ≡ is_ready held) [
      | true ↦ λ is.
          let waits = and_left (is_pending held.status_td) _ (and_right (is_command held.request) _ is) in
          and_false (is_seen held.command_td) ∙ sym (unready_status held (pending-not_over held.status_td waits))
      | false ↦ λ is. refl
    ] refl

doomed-told : (noted : List ℕ) (held : HostEntry) → WasTold held → WasTold (doomed noted held)
doomed-told noted held told =
    elim (is_doomed noted held) as (λ b. is_doomed noted held ≡ b →
    WasTold (cond b (record held { status_td = LeftOver; data_td = left_over_data held.data_td }) held)) [
      | true ↦ λ is. record { answer = λ seen. absurd (cc); command = λ given_up. and_left (is_command held.request) _ is }
      | false ↦ λ is. told
    ] refl

doomed-at : (noted : List ℕ) (entries : List (Option HostEntry)) (slot : ℕ) →
    readied_of (held_at (after_response noted entries) slot) ≡ readied_of (held_at entries slot)
doomed-at noted [] slot = refl
doomed-at noted (None ∷ rest) zero = refl
doomed-at noted (Some held ∷ rest) zero = ap one_if (doomed-readied noted held)
doomed-at noted (held ∷ rest) (suc slot) = doomed-at noted rest slot

all-doomed : (noted : List ℕ) (entries : List (Option HostEntry)) → AllHeld WasTold entries → AllHeld WasTold (after_response noted entries)
all-doomed noted [] all = all
all-doomed noted (None ∷ rest) all = (all.0, all-doomed noted rest all.1)
all-doomed noted (Some held ∷ rest) all = (doomed-told noted held all.0, all-doomed noted rest all.1)

length-doomed : (noted : List ℕ) (entries : List (Option HostEntry)) → length (after_response noted entries) ≡ length entries
length-doomed noted [] = refl
length-doomed noted (held ∷ rest) = ap suc (length-doomed noted rest)

-- what is empty stays so
empty-doomed : (noted : List ℕ) (entries : List (Option HostEntry)) (slot : ℕ) → held_at entries slot ≡ None →
    held_at (after_response noted entries) slot ≡ None
empty-doomed noted [] slot is = refl
empty-doomed noted (None ∷ rest) zero is = refl
empty-doomed noted (Some held ∷ rest) zero is = absurd (cc)
empty-doomed noted (held ∷ rest) (suc slot) is = empty-doomed noted rest slot is

-- a response leaves commands over
entries_after-sound : (tags : ℕ) (notice : Notice) (request : Request) (client : HostClient) → IsHostClient tags client →
    IsHostClient tags (record { entries = entries_after notice request client.entries; least_ticket = client.least_ticket; ready = client.ready })
entries_after-sound tags notice request client sound =
    elim (completes notice) as
    (λ b. IsHostClient tags
    (record { entries = cond b (after_response (ended_in request) client.entries) client.entries; least_ticket = client.least_ticket; ready = client.ready })) [
      | true ↦ record {
        slots = length-doomed (ended_in request) client.entries ∙ sound.slots;
        empty = λ slot past. empty-doomed (ended_in request) client.entries slot (sound.empty slot past);
        ready = λ slot. sound.ready slot ∙ sym (doomed-at (ended_in request) client.entries slot);
        told = all-doomed (ended_in request) client.entries sound.told;
      }
      | false ↦ record { slots = sound.slots; empty = sound.empty; ready = sound.ready; told = sound.told }
    ]

with_seen-sound : (tags : ℕ) (notice : Notice) (client : HostClient) (slot : ℕ) (held now : HostEntry) → AreTags tags → slot < tags →
    held_at client.entries slot ≡ Some held → IsKept held now → WasTold held →
    IsHostClient tags client → IsHostClient tags (with_seen notice client slot now)
with_seen-sound tags notice client slot held now number within is kept told sound = entries_after-sound tags notice now.request (record {
  entries = slice_set client.entries slot (Some now);
  least_ticket = client.least_ticket;
  ready = record { items = queued_if (is_ready now) client.ready.items slot };
}) (record {
  slots = length-set client.entries slot (Some now) ∙ sound.slots;
  empty = empty-set tags client.entries slot (Some now) within sound.empty;
  ready = AreReady-push client.entries client.ready.items slot (Some held) (Some now) (is_ready now) (omega (arith, sound.slots, within, number.most)) is
      (omega (arith, ap one_if kept.unready)) sound.ready;
  told = AllHeld-set WasTold client.entries slot (Some now) sound.told (kept.told told);
})

-- whatever a place holds
pub held-at : {T : Type 0} → (P : T → Type 0) (places : List (Option T)) (slot : ℕ) (held : T) → AllHeld P places → held_at places slot ≡ Some held → P held
held-at P [] slot held all is = absurd (cc)
held-at P (place ∷ places) zero held all is = let here : IfSome place P = all.0 in subst (λ o. IfSome o P) is here
held-at P (place ∷ places) (suc slot) held all is = held-at P places slot held all.1 is

pub client_seen-sound : (tags : ℕ) (notice : Notice) (client : HostClient) (slot : ℕ) → AreTags tags → slot < tags → IsHostClient tags client →
    IfSome (client_seen notice client slot) (IsHostClient tags)
client_seen-sound tags notice client slot number within sound =
    elim (held_at client.entries slot) as (λ o. held_at client.entries slot ≡ o →
    IfSome (option_map (with_seen notice client slot) (option_and_then (seen notice) o)) (IsHostClient tags)) [
      | None ↦ λ is. tt
      | Some held ↦ λ is.
          elim (seen notice held) as (λ o. IfSome o (IsKept held) → IfSome (option_map (with_seen notice client slot) o) (IsHostClient tags)) [
            | None ↦ λ none. tt
            | Some now ↦ λ kept.
                with_seen-sound tags notice client slot held now number within is kept (held-at WasTold client.entries slot held sound.told is) sound
          ] (seen-kept notice held)
    ] refl

pub client_seen-room : (tags : ℕ) (notice : Notice) (client : HostClient) (slot : ℕ) → AreTags tags → slot < tags → IsHostClient tags client →
    IfSome (client_seen notice client slot) (λ now. length now.ready.items ≤ MOST_TAGS)
client_seen-room tags notice client slot number within sound =
    elim (client_seen notice client slot) as (λ o. IfSome o (IsHostClient tags) → IfSome o (λ now. length now.ready.items ≤ MOST_TAGS)) [
      | None ↦ λ none. tt
      | Some now ↦ λ is. omega (arith, AreReady-length now.ready.items now.entries is.ready, is.slots)
    ] (client_seen-sound tags notice client slot number within sound)

-- THE HOST

-- what is known once the host has seen an event of a client
abbrev pub HasSeen : Notice → HostClient → ℕ → HostClient → Bool → Type 0
HasSeen notice client slot now saw = MatchOption (client_seen notice client slot) ((saw ≡ false) × (now ≡ client)) (λ after. (saw ≡ true) × (now ≡ after))

pub has_seen-host : (notice : Notice) (host : HostState) (client slot : ℕ) (now : HostClient) (saw : Bool) → client < length host.clients → slot < host.tags →
    IsHost host →
    HasSeen notice (client_of host client) slot now saw → IsHost (with_client host client now)
has_seen-host notice host client slot now saw there within is seen_so =
    IsHost-set host client now is
    (elim (client_seen notice (client_of host client) slot) as (λ o. IfSome o (IsHostClient host.tags) →
    MatchOption o ((saw ≡ false) × (now ≡ client_of host client)) (λ after. (saw ≡ true) × (now ≡ after)) → IsHostClient host.tags now) [
      | None ↦ λ none same. rw same.1 (is.clients client there)
      | Some after ↦ λ sound same. rw same.1 sound
    ] (client_seen-sound host.tags notice (client_of host client) slot is.number within (is.clients client there)) seen_so)

pub place_seen-client : (notice : Notice) (host : HostState) (place : Place) (now : HostClient) (saw : Bool) →
    HasSeen notice (client_of host place.client) place.slot now saw →
    MatchOption (place_seen notice host place) ((saw ≡ false) × (with_client host place.client now ≡ host))
    (λ after. (saw ≡ true) × (with_client host place.client now ≡ after))
place_seen-client notice host place now saw seen_so =
    elim (client_seen notice (client_of host place.client) place.slot) as (λ o.
    MatchOption o ((saw ≡ false) × (now ≡ client_of host place.client)) (λ after. (saw ≡ true) × (now ≡ after)) →
    MatchOption (option_map (with_client host place.client) o) ((saw ≡ false) × (with_client host place.client now ≡ host))
    (λ after. (saw ≡ true) × (with_client host place.client now ≡ after))) [
      | None ↦ λ same. (
        same.0,
        ap (with_client host place.client) same.1
            ∙ ap (λ clients. record { tags = host.tags; clients = clients; retirement = host.retirement }) (set-get_or host.clients place.client new_client),
      )
      | Some after ↦ λ same. (same.0, ap (with_client host place.client) same.1)
    ] seen_so
