-- Which TD an event leaves over, told of the host: the event's own data TD, or the TDs of a command whose ticket was noted.
use Rattle.std.proofs.Common.{◌≡◌, ℕ, zero, suc, ◌⊎◌, Bool, true, false, List, [], ◌∷◌, Option, Some, None}
use Rattle.std.proofs.Common.{refl, sym, ap, subst, ◌∙◌, inl, inr}
use Rattle.std.specs.Prelude.{◌==◌, ◌&&◌, not, cond, if◌then◌else◌, map, option_map, slice_set}
use Rattle.std.specs.Option.{option_map_or}
use Rattle.std.specs.List.{list_any}
use Rattle.std.proofs.lemmas.Bool.{cases_Bool, eqb-true}
use Rattle.uas_profile.specs.declared.Pipe.{Pipe}
use Rattle.uas_profile.specs.declared.Pipe.TheVariants.{Command, Status, DataIn, DataOut}
use Rattle.uas_profile.specs.declared.TdState.{TdState}
use Rattle.uas_profile.specs.declared.TdState.TheVariants.{Pending, Seen, LeftOver, Retired}
use Rattle.uas_profile.specs.TdStates.{is_left_over, is_pending}
use Rattle.scsi_cmd.specs.Held.{held_at}
use Rattle.scsi_cmd.specs.Request.{is_command, request_direction}
use Rattle.uas_host.specs.declared.HostAnswer.TheVariants.{Status as AnsweredStatus, Response as AnsweredResponse}
use Rattle.uas_host.specs.declared.HostEntry.{HostEntry}
use Rattle.uas_host.specs.declared.HostClient.{HostClient}
use Rattle.uas_host.specs.Notices.{Notice, CommandSeen, DataInSeen, DataOutSeen, Answered, Responded, TdRetired}
use Rattle.uas_host.specs.Seen.{after_response, completes, data_after, doomed, ended_in, goes_to_device, goes_to_host, is_doomed}
use Rattle.uas_host.specs.Seen.{is_data_left_over, is_td_left_over, left_over_data, seen, seen_data, with_retired, with_seen}
use Rattle.uas_host.specs.Awaited.{td_on}

-- TESTS

both : (a b : Bool) → (a && b) ≡ true → (a ≡ true) × (b ≡ true)
both true b is = (refl, is)
both false b is = absurd (cc)

second-false : (a b : Bool) → a ≡ true → (a && b) ≡ false → b ≡ false
second-false true b is other = other
second-false false b is other = absurd (cc)

some-only : {A : Type 0} → (b : Bool) (a now : A) → cond b (Some a) None ≡ Some now → (b ≡ true) × (a ≡ now)
some-only true a now is = (refl, cc)
some-only false a now is = absurd (cc)

not-true : (b : Bool) → not b ≡ true → b ≡ false
not-true true is = absurd (cc)
not-true false is = refl

true-false : (b : Bool) → b ≡ true → b ≡ false → ⊥
true-false true is other = cc
true-false false is other = cc

abbrev lo : Option TdState → Bool
lo td = option_map_or is_left_over td false

-- ONE ENTRY

-- what a unit tells
abbrev pub TellsCheck : Notice → Type 0
TellsCheck (Answered status sense) = status ≡ 2
TellsCheck _ = ⊥

abbrev pub TellsComplete : Notice → Type 0
TellsComplete (Responded code) = code ≡ 0
TellsComplete _ = ⊥

left-pending : (td : Option TdState) → lo (left_over_data td) ≡ true → lo td ≡ false → td ≡ Some Pending
left-pending None is was = absurd (cc)
left-pending (Some Pending) is was = refl
left-pending (Some Seen) is was = absurd (cc)
left-pending (Some LeftOver) is was = absurd (cc)
left-pending (Some Retired) is was = absurd (cc)

seen-data : (right : Bool) (held now : HostEntry) (td : Option TdState) → seen_data right held td ≡ Some now →
    (lo now.data_td ≡ false) × (now.request ≡ held.request) × (now.status_td ≡ held.status_td)
seen-data right held now None is = absurd (cc)
seen-data right held now (Some td) is =
    let so = some-only (right && is_pending td) (record held { data_td = Some Seen }) now is in (
      ap (λ (e : HostEntry). lo e.data_td) (sym so.1),
      ap (λ (e : HostEntry). e.request) (sym so.1),
      ap (λ (e : HostEntry). e.status_td) (sym so.1),
    )

-- what an event makes of an entry
pub record Makes (notice : Notice) (held now : HostEntry) : Type 0 where
  pub request : now.request ≡ held.request
  pub status : is_left_over now.status_td ≡ true → is_left_over held.status_td ≡ true
  pub data_td : lo now.data_td ≡ true → lo held.data_td ≡ false → (held.data_td ≡ Some Pending) × TellsCheck notice
  pub manages : TellsComplete notice → is_command now.request ≡ false

retired-makes : (pipe : Pipe) (held : HostEntry) → Makes (TdRetired pipe) held (with_retired pipe held)
retired-makes Command held = record {
  request = refl;
  status = λ left. left;
  data_td = λ left was. absurd (true-false (lo held.data_td) left was);
  manages = λ told. absurd told;
}
retired-makes Status held = record {
  request = refl;
  status = λ left. absurd (cc);
  data_td = λ left was. absurd (true-false (lo held.data_td) left was);
  manages = λ told. absurd told;
}
retired-makes DataIn held =
    record { request = refl; status = λ left. left; data_td = λ left was. absurd (cc); manages = λ told. absurd told }
retired-makes DataOut held =
    record { request = refl; status = λ left. left; data_td = λ left was. absurd (cc); manages = λ told. absurd told }

pub seen-makes : (notice : Notice) (held now : HostEntry) → seen notice held ≡ Some now → Makes notice held now
seen-makes CommandSeen held now is =
    let so = some-only (is_pending held.command_td) (record held { command_td = Seen }) now is in
    subst (λ (e : HostEntry). Makes CommandSeen held e) so.1
    (record {
      request = refl;
      status = λ left. left;
      data_td = λ left was. absurd (true-false (lo held.data_td) left was);
      manages = λ told. absurd told;
    })
seen-makes DataInSeen held now is =
    let so = seen-data (goes_to_host (request_direction held.request)) held now held.data_td is in
    record {
      request = so.1;
      status = λ left. rw so.2 at left;
      data_td = λ left was. absurd (true-false (lo now.data_td) left so.0);
      manages = λ told. absurd told;
    }
seen-makes DataOutSeen held now is =
    let so = seen-data (goes_to_device (request_direction held.request)) held now held.data_td is in
    record {
      request = so.1;
      status = λ left. rw so.2 at left;
      data_td = λ left was. absurd (true-false (lo now.data_td) left so.0);
      manages = λ told. absurd told;
    }
seen-makes (Answered status sense) held now is =
    let after : HostEntry = record held { told = AnsweredStatus status sense; status_td = Seen; data_td = data_after status held.data_td } in
    let so = some-only (is_command held.request && is_pending held.status_td) after now is in
    subst (λ (e : HostEntry). Makes (Answered status sense) held e) so.1
    (record { request = refl; status = λ left. absurd (cc); data_td = λ left was. checked left was; manages = λ told. absurd told })
  where
    checked : lo (data_after status held.data_td) ≡ true → lo held.data_td ≡ false → (held.data_td ≡ Some Pending) × (status ≡ 2)
    checked left was =
        elim (status == 2) as (λ b. (status == 2) ≡ b → lo (cond b (left_over_data held.data_td) held.data_td) ≡ true →
        (held.data_td ≡ Some Pending) × (status ≡ 2)) [
          | true ↦ λ check it. (left-pending held.data_td it was, eqb-true status 2 check)
          | false ↦ λ other it. absurd (true-false (lo held.data_td) it was)
        ] refl left
seen-makes (Responded code) held now is =
    let after : HostEntry = record held { told = AnsweredResponse code; status_td = Seen } in
    let so = some-only (not (is_command held.request) && is_pending held.status_td) after now is in
    subst (λ (e : HostEntry). Makes (Responded code) held e) so.1
    (record {
      request = refl;
      status = λ left. absurd (cc);
      data_td = λ left was. absurd (true-false (lo held.data_td) left was);
      manages = λ told. not-true (is_command held.request) (both (not (is_command held.request)) (is_pending held.status_td) so.0).0;
    })
seen-makes (TdRetired pipe) held now is =
    let so = some-only (is_td_left_over pipe held) (with_retired pipe held) now is in
    subst (λ (e : HostEntry). Makes (TdRetired pipe) held e) so.1 (retired-makes pipe held)

-- a TD is left over by an event of the entry
way-made : (notice : Notice) (right was_right : Bool) (held now : HostEntry) → right ≡ was_right → Makes notice held now →
    is_data_left_over right now ≡ true → is_data_left_over was_right held ≡ false →
    ((if was_right then held.data_td else None) ≡ Some Pending) × TellsCheck notice
way-made notice true true held now same makes is was = makes.data_td is was
way-made notice true false held now same makes is was = absurd (cc)
way-made notice false was_right held now same makes is was = absurd (cc)

pub entry-left : (notice : Notice) (pipe : Pipe) (held now : HostEntry) → Makes notice held now →
    is_td_left_over pipe now ≡ true → is_td_left_over pipe held ≡ false → (td_on pipe held ≡ Some Pending) × TellsCheck notice
entry-left notice Command held now makes is was = absurd (cc)
entry-left notice Status held now makes is was = absurd (true-false (is_left_over held.status_td) (makes.status is) was)
entry-left notice DataIn held now makes is was =
    way-made notice (goes_to_host (request_direction now.request)) (goes_to_host (request_direction held.request)) held now
    (ap (λ r. goes_to_host (request_direction r)) makes.request) makes is was
entry-left notice DataOut held now makes is was =
    way-made notice (goes_to_device (request_direction now.request)) (goes_to_device (request_direction held.request)) held now
    (ap (λ r. goes_to_device (request_direction r)) makes.request) makes is was

-- a TD is left over as its command is doomed
way-doomed : (right : Bool) (held : HostEntry) → is_data_left_over right (record held { status_td = LeftOver; data_td = left_over_data held.data_td }) ≡ true →
    is_data_left_over right held ≡ false → (if right then held.data_td else None) ≡ Some Pending
way-doomed true held is was = left-pending held.data_td is was
way-doomed false held is was = absurd (cc)

pending-is : (td : TdState) → is_pending td ≡ true → td ≡ Pending
pending-is Pending is = refl
pending-is Seen is = absurd (cc)
pending-is LeftOver is = absurd (cc)
pending-is Retired is = absurd (cc)

is-noted : (noted : List ℕ) (held : HostEntry) → is_doomed noted held ≡ true →
    (is_pending held.status_td ≡ true) × (list_any (λ one. one == held.ticket) noted ≡ true)
is-noted noted held is = both (is_pending held.status_td) _ (both (is_command held.request) _ is).1

doomed-on : (pipe : Pipe) (noted : List ℕ) (held : HostEntry) → is_doomed noted held ≡ true →
    is_td_left_over pipe (record held { status_td = LeftOver; data_td = left_over_data held.data_td }) ≡ true → is_td_left_over pipe held ≡ false →
    td_on pipe held ≡ Some Pending
doomed-on Command noted held doom is was = absurd (cc)
doomed-on Status noted held doom is was = ap Some (pending-is held.status_td (is-noted noted held doom).0)
doomed-on DataIn noted held doom is was = way-doomed (goes_to_host (request_direction held.request)) held is was
doomed-on DataOut noted held doom is was = way-doomed (goes_to_device (request_direction held.request)) held is was

-- a task management isn't doomed
doomed-command : (noted : List ℕ) (held : HostEntry) → is_doomed noted held ≡ true → is_command held.request ≡ true
doomed-command noted held is = (both (is_command held.request) _ is).0

pub doomed-left : (pipe : Pipe) (noted : List ℕ) (held : HostEntry) → is_td_left_over pipe (doomed noted held) ≡ true → is_td_left_over pipe held ≡ false →
    (td_on pipe held ≡ Some Pending) × (list_any (λ one. one == held.ticket) noted ≡ true) × (is_command held.request ≡ true)
doomed-left pipe noted held is was =
    elim (is_doomed noted held) as (λ b. is_doomed noted held ≡ b →
    is_td_left_over pipe (cond b (record held { status_td = LeftOver; data_td = left_over_data held.data_td }) held) ≡ true →
    (td_on pipe held ≡ Some Pending) × (list_any (λ one. one == held.ticket) noted ≡ true) × (is_command held.request ≡ true)) [
      | true ↦ λ doom it. (doomed-on pipe noted held doom it was, (is-noted noted held doom).1, doomed-command noted held doom)
      | false ↦ λ none it. absurd (true-false (is_td_left_over pipe held) it was)
    ] refl is

-- THE ENTRIES OF A CLIENT

held_at-map : (f : HostEntry → HostEntry) (entries : List (Option HostEntry)) (slot : ℕ) →
    held_at (map (option_map f) entries) slot ≡ option_map f (held_at entries slot)
held_at-map f [] slot = refl
held_at-map f (held ∷ rest) zero = refl
held_at-map f (held ∷ rest) (suc slot) = held_at-map f rest slot

-- what stands at a slot once one was written
held_at-set : (entries : List (Option HostEntry)) (slot at : ℕ) (now : Option HostEntry) →
    ((at ≡ slot) × (held_at (slice_set entries slot now) at ≡ now)) ⊎ (held_at (slice_set entries slot now) at ≡ held_at entries at)
held_at-set [] slot at now = inr refl
held_at-set (held ∷ rest) zero zero now = inl (refl, refl)
held_at-set (held ∷ rest) zero (suc at) now = inr refl
held_at-set (held ∷ rest) (suc slot) zero now = inr refl
held_at-set (held ∷ rest) (suc slot) (suc at) now =
    elim (held_at-set rest slot at now) as (λ _. ((suc at ≡ suc slot) × (held_at (slice_set (held ∷ rest) (suc slot) now) (suc at) ≡ now))
    ⊎ (held_at (slice_set (held ∷ rest) (suc slot) now) (suc at) ≡ held_at (held ∷ rest) (suc at))) [
      | inl here ↦ inl (ap suc here.0, here.1)
      | inr there ↦ inr there
    ]

abbrev on : Pipe → Option HostEntry → Bool
on pipe held = option_map_or (is_td_left_over pipe) held false

-- how a TD of a slot became left over
pub record Became (notice : Notice) (entries : List (Option HostEntry)) (slot at : ℕ) (manager : HostEntry) (pipe : Pipe) : Type 0 where
  pub held : HostEntry
  pub under : held_at entries at ≡ Some held
  pub waited : td_on pipe held ≡ Some Pending
  pub by : ((at ≡ slot) × TellsCheck notice) ⊎ (TellsComplete notice × (list_any (λ one. one == held.ticket) (ended_in manager.request) ≡ true))

complete-is : (notice : Notice) → completes notice ≡ true → TellsComplete notice
complete-is CommandSeen is = absurd (cc)
complete-is DataInSeen is = absurd (cc)
complete-is DataOutSeen is = absurd (cc)
complete-is (Answered status sense) is = absurd (cc)
complete-is (Responded code) is = eqb-true code 0 is
complete-is (TdRetired pipe) is = absurd (cc)

-- of a client whose entries aren't doomed
set-left : (notice : Notice) (entries : List (Option HostEntry)) (slot at : ℕ) (held now : HostEntry) (pipe : Pipe) →
    held_at entries slot ≡ Some held → Makes notice held now → on pipe (held_at (slice_set entries slot (Some now)) at) ≡ true →
    on pipe (held_at entries at) ≡ false → Became notice entries slot at held pipe
set-left notice entries slot at held now pipe here makes is was =
    elim (held_at-set entries slot at (Some now)) as (λ _. Became notice entries slot at held pipe) [
      | inl same ↦
          let under : held_at entries at ≡ Some held = ap (held_at entries) same.0 ∙ here in
          let left = entry-left notice pipe held now makes (ap (on pipe) (sym same.1) ∙ is) (ap (on pipe) (sym under) ∙ was) in
          record { held = held; under = under; waited = left.0; by = inl (same.0, left.1) }
      | inr other ↦ absurd (true-false (on pipe (held_at entries at)) (ap (on pipe) (sym other) ∙ is) was)
    ]

-- what isn't there isn't left over, before and after
doomed-at : (pipe : Pipe) (noted : List ℕ) (held : Option HostEntry) → on pipe (option_map (doomed noted) held) ≡ true → on pipe held ≡ false →
    (h : HostEntry) × ((held ≡ Some h) × (td_on pipe h ≡ Some Pending) × (list_any (λ one. one == h.ticket) noted ≡ true) × (is_command h.request ≡ true))
doomed-at pipe noted None is was = absurd (cc)
doomed-at pipe noted (Some held) is was = let left = doomed-left pipe noted held is was in (held, (refl, left.0, left.1, left.2))

some-same : {A : Type 0} → (a b : A) → Some a ≡ Some b → a ≡ b
some-same a b is = cc

-- of a client whose noted commands are doomed
map-left : (notice : Notice) (entries : List (Option HostEntry)) (slot at : ℕ) (held now : HostEntry) (pipe : Pipe) →
    completes notice ≡ true → held_at entries slot ≡ Some held → Makes notice held now →
    on pipe (held_at (after_response (ended_in now.request) (slice_set entries slot (Some now))) at) ≡ true →
    on pipe (held_at entries at) ≡ false → Became notice entries slot at held pipe
map-left notice entries slot at held now pipe complete here makes is was =
    elim (cases_Bool (on pipe (held_at (slice_set entries slot (Some now)) at))) as (λ _. Became notice entries slot at held pipe) [
      | inl left ↦ set-left notice entries slot at held now pipe here makes left was
      | inr unleft ↦ doom unleft
    ]
  where
    doom : on pipe (held_at (slice_set entries slot (Some now)) at) ≡ false → Became notice entries slot at held pipe
    doom unleft =
        let mapped = ap (on pipe) (sym (held_at-map (doomed (ended_in now.request)) (slice_set entries slot (Some now)) at)) ∙ is in
        let found = doomed-at pipe (ended_in now.request) (held_at (slice_set entries slot (Some now)) at) mapped unleft in
        let told = complete-is notice complete in
        elim (held_at-set entries slot at (Some now)) as (λ _. Became notice entries slot at held pipe) [
          | inl same ↦
              let one : now ≡ found.0 = some-same now found.0 (sym same.1 ∙ found.1.0) in
              absurd (true-false (is_command now.request) (ap (λ (e : HostEntry). is_command e.request) one ∙ found.1.3) (makes.manages told))
          | inr other ↦ record {
            held = found.0;
            under = sym other ∙ found.1.0;
            waited = found.1.1;
            by = inr (told, ap (λ r. list_any (λ one. one == found.0.ticket) (ended_in r)) (sym makes.request) ∙ found.1.2);
          }
        ]

-- of a client that has seen the event
pub client-left : (notice : Notice) (client : HostClient) (slot at : ℕ) (held now : HostEntry) (pipe : Pipe) →
    held_at client.entries slot ≡ Some held → seen notice held ≡ Some now → on pipe (held_at (with_seen notice client slot now).entries at) ≡ true →
    on pipe (held_at client.entries at) ≡ false → Became notice client.entries slot at held pipe
client-left notice client slot at held now pipe here saw is was =
    elim (completes notice) as (λ b. completes notice ≡ b →
    on pipe (held_at (cond b (after_response (ended_in now.request) (slice_set client.entries slot (Some now))) (slice_set client.entries slot (Some now))) at) ≡ true →
    Became notice client.entries slot at held pipe) [
      | true ↦ λ complete it. map-left notice client.entries slot at held now pipe complete here (seen-makes notice held now saw) it was
      | false ↦ λ other it. set-left notice client.entries slot at held now pipe here (seen-makes notice held now saw) it was
    ] refl is
