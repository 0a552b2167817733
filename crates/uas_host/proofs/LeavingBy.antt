-- What an event leaves over of the host, told by what the event brings (specs/LeftBy).
use Rattle.std.proofs.Common.{◌≡◌, ℕ, zero, suc, ◌+◌, ◌*◌, ◌/◌, ◌%◌, ◌<◌, ◌≤◌, ◌⊎◌, Bool, true, false, List, [], length, length-set, Option, Some, None}
use Rattle.std.proofs.Common.{refl, arith, sym, ap, subst, ◌∙◌, inl, inr}
use Rattle.std.specs.Prelude.{◌==◌, ◌&&◌, nat_lt, cond, option_and_then, option_map, slice_index, slice_index_or, slice_set, unwrap_or, drop, is_none, is_some}
use Rattle.std.specs.Option.{option_map_or}
use Rattle.std.specs.List.{list_any}
use Rattle.std.proofs.lemmas.Bool.{cases_eq, eqb-true, ltb-true}
use Rattle.std.proofs.lemmas.Nat.{div-add-mod'}
use Rattle.std.proofs.lemmas.List.{get_or-set_same, get_or-set_other}
use Rattle.arrayvec.specs.ArrayVec.{ArrayVec}
use Rattle.event_ring.specs.declared.Event.{Event}
use Rattle.event_ring.specs.declared.Event.TheVariants.{Transfer, Command as CommandCompletion}
use Rattle.uas_profile.specs.declared.Pipe.{Pipe}
use Rattle.uas_profile.specs.declared.Pipe.TheVariants.{Command, Status, DataIn, DataOut}
use Rattle.uas_profile.specs.declared.TdState.TheVariants.{Pending}
use Rattle.uas_profile.specs.declared.Place.{Place}
use Rattle.uas_profile.specs.declared.TheConstants.{SUCCESS, SHORT_PACKET}
use Rattle.uas_profile.specs.Tags.{client_of as client_of_tag, place_of, slot_of}
use Rattle.frame_store.specs.declared.TagBuffers.{TagBuffers}
use Rattle.scsi_cmd.specs.Held.{held_at}
use Rattle.scsi_cmd.specs.declared.Request.{Request}
use Rattle.scsi_cmd.specs.declared.Request.TheVariants.{Execute, Manage}
use Rattle.scsi_cmd.specs.declared.Task.{Task}
use Rattle.scsi_cmd.specs.Request.{ends_commands, is_command}
use Rattle.uas_iu.specs.Faults.{first_fault, identifier}
use Rattle.uas_host.specs.declared.EndedTd.{EndedTd}
use Rattle.uas_host.specs.declared.Handled.{Handled}
use Rattle.uas_host.specs.declared.HostEntry.{HostEntry}
use Rattle.uas_host.specs.declared.HostClient.{HostClient}
use Rattle.uas_host.specs.Notices.{Notice, CommandSeen, DataInSeen, DataOutSeen, Answered, Responded, TdRetired}
use Rattle.uas_host.specs.declared.Retirement.{Retirement}
use Rattle.uas_host.specs.declared.RetirementStage.{RetirementStage}
use Rattle.uas_host.specs.declared.RetirementStage.TheVariants.{Stopping, Moving}
use Rattle.uas_host.specs.State.{HostState, client_of, new_client, with_client}
use Rattle.uas_host.specs.Seen.{ended_in, held_of, host_seen, is_td_left_over, place_seen, seen, with_seen}
use Rattle.uas_host.specs.Retirement.{is_left_over_on}
use Rattle.uas_host.specs.Events.{Sides, answer_in, ended_at, handled, handled_engine, handled_notice, handled_seen, handled_stage, handled_td, is_engine_done, is_response_of}
use Rattle.uas_host.specs.Events.{is_sense_of, notice_of, response_of, told_on}
use Rattle.uas_host.specs.Awaited.{EndsAt, answer_id, td_on, written_of}
use Rattle.uas_host.specs.LeftBy.{IsCheckOf, IsLeftOverBy, LeavesOverByNote}
use Rattle.uas_host.proofs.Awaiting.{IsAccepted, accepted-is, ended-ends, host_seen-held}
use Rattle.uas_host.proofs.Leaving.{Became, TellsCheck, TellsComplete, client-left}

some-same : {A : Type 0} → (a b : A) → Some a ≡ Some b → a ≡ b
some-same a b is = cc

true-false : (b : Bool) → b ≡ true → b ≡ false → ⊥
true-false true is other = cc
true-false false is other = cc

-- THE HOST

-- the place of a tag
pub record IsAt (tags clients tag : ℕ) (place : Place) : Type 0 where
  pub there : place.client < clients
  pub client : client_of_tag tags tag ≡ place.client
  pub slot : slot_of tags tag ≡ place.slot
  pub some : 1 ≤ tag

place-is : (tags clients tag : ℕ) (place : Place) → place_of tags clients tag ≡ Some place → IsAt tags clients tag place
place-is tags clients zero place is = absurd (cc)
place-is tags clients (suc before) place is =
    let owner : ℕ = client_of_tag tags (suc before) in
    let here : Place = record { client = owner; slot = slot_of tags (suc before) } in
    elim (nat_lt owner clients) as (λ b. nat_lt owner clients ≡ b → cond b (Some here) None ≡ Some place → IsAt tags clients (suc before) place) [
      | true ↦ λ there it.
          let same : here ≡ place = some-same here place it in
          subst (λ (p : Place). IsAt tags clients (suc before) p) same
          (record { there = ltb-true owner clients there; client = refl; slot = refl; some = omega arith })
      | false ↦ λ past it. absurd (cc)
    ] refl is

-- two tags of one place are one
one-tag : (tags one other : ℕ) → 1 ≤ one → 1 ≤ other → client_of_tag tags one ≡ client_of_tag tags other → slot_of tags one ≡ slot_of tags other → one ≡ other
one-tag tags zero other some more client slot = absurd (omega (arith, some))
one-tag tags (suc one) zero some more client slot = absurd (omega (arith, more))
one-tag tags (suc one) (suc other) some more client slot =
    ap suc (sym (div-add-mod' one tags) ∙ (ap (λ owner. owner * tags + one % tags) client
    ∙ (ap (λ at. other / tags * tags + at) slot ∙ div-add-mod' other tags)))

abbrev at_place : HostState → Place → Option HostEntry
at_place host place = held_at (client_of host place.client).entries place.slot

abbrev left_on : Pipe → Option HostEntry → Bool
left_on pipe held = option_map_or (is_td_left_over pipe) held false

held-at : (host : HostState) (tag : ℕ) (place : Place) → place_of host.tags (length host.clients) tag ≡ Some place →
    held_of host tag ≡ at_place host place
held-at host tag place is = rw is refl

-- how a TD of a tag became left over by an event of a place
pub record PlaceLeft (notice : Notice) (host : HostState) (place : Place) (tag : ℕ) (pipe : Pipe) : Type 0 where
  pub manager : HostEntry
  pub here : at_place host place ≡ Some manager
  pub at : Place
  pub tag_at : place_of host.tags (length host.clients) tag ≡ Some at
  pub client : at.client ≡ place.client
  pub became : Became notice (client_of host place.client).entries place.slot at.slot manager pipe

client-became : (notice : Notice) (host : HostState) (place at : Place) (tag : ℕ) (held now : HostEntry) (pipe : Pipe) →
    place_of host.tags (length host.clients) tag ≡ Some at → at_place host place ≡ Some held → seen notice held ≡ Some now →
    left_on pipe (at_place (with_client host place.client (with_seen notice (client_of host place.client) place.slot now)) at) ≡ true →
    left_on pipe (at_place host at) ≡ false → PlaceLeft notice host place tag pipe
client-became notice host place at tag held now pipe tag_at here saw is was =
    let client : HostClient = with_seen notice (client_of host place.client) place.slot now in
    let other = place-is host.tags (length host.clients) tag at tag_at in
    elim (cases_eq at.client place.client) as (λ _. PlaceLeft notice host place tag pipe) [
      | inl same ↦
          let within : place.client < length host.clients = omega (arith, other.there, same) in
          let there : client_of (with_client host place.client client) at.client ≡ client =
          ap (λ c. slice_index_or (slice_set host.clients place.client client) c new_client) same
          ∙ get_or-set_same host.clients place.client client new_client within in
          let left = ap (λ (c : HostClient). left_on pipe (held_at c.entries at.slot)) (sym there) ∙ is in
          let unleft = ap (λ c. left_on pipe (held_at (client_of host c).entries at.slot)) (sym same) ∙ was in
          record {
            manager = held;
            here = here;
            at = at;
            tag_at = tag_at;
            client = same;
            became = client-left notice (client_of host place.client) place.slot at.slot held now pipe here saw left unleft;
          }
      | inr apart ↦
          let there : client_of (with_client host place.client client) at.client ≡ client_of host at.client =
          get_or-set_other host.clients place.client at.client client new_client apart in
          absurd
          (true-false (left_on pipe (at_place host at)) (ap (λ (c : HostClient). left_on pipe (held_at c.entries at.slot)) (sym there) ∙ is) was)
    ]

pub place-left : (notice : Notice) (host after : HostState) (place : Place) (tag : ℕ) (pipe : Pipe) → place_seen notice host place ≡ Some after →
    is_left_over_on after pipe tag ≡ true → is_left_over_on host pipe tag ≡ false → PlaceLeft notice host place tag pipe
place-left notice host after place tag pipe saw is was =
    elim (at_place host place) as (λ o. at_place host place ≡ o →
    option_map (with_client host place.client) (option_map (with_seen notice (client_of host place.client) place.slot) (option_and_then (seen notice) o)) ≡ Some after →
    PlaceLeft notice host place tag pipe) [
      | None ↦ λ none it. absurd (cc)
      | Some held ↦ λ here it. of_held held here it
    ] refl saw
  where
    in_tag : (held now : HostEntry) → at_place host place ≡ Some held → seen notice held ≡ Some now →
        with_client host place.client (with_seen notice (client_of host place.client) place.slot now) ≡ after → PlaceLeft notice host place tag pipe
    in_tag held now here held_saw same =
        elim (place_of host.tags (length host.clients) tag) as (λ o. place_of host.tags (length host.clients) tag ≡ o →
        left_on pipe (option_and_then (λ (p : Place). at_place after p) o) ≡ true →
        left_on pipe (option_and_then (λ (p : Place). at_place host p) o) ≡ false → PlaceLeft notice host place tag pipe) [
          | None ↦ λ none it that. absurd (cc)
          | Some at ↦ λ tag_at it that.
              client-became notice host place at tag held now pipe tag_at here held_saw
              (ap (λ (h : HostState). left_on pipe (at_place h at)) same ∙ it) that
        ] refl
        (ap (λ n. left_on pipe (option_and_then (λ (p : Place). at_place after p) (place_of host.tags n tag)))
        (sym (length-set host.clients place.client (with_seen notice (client_of host place.client) place.slot now)))
        ∙ (ap (λ (h : HostState). left_on pipe (option_and_then (λ (p : Place). at_place after p) (place_of h.tags (length h.clients) tag))) same ∙ is)) was

    of_held : (held : HostEntry) → at_place host place ≡ Some held →
        option_map (with_client host place.client) (option_map (with_seen notice (client_of host place.client) place.slot) (seen notice held)) ≡ Some after →
        PlaceLeft notice host place tag pipe
    of_held held here it =
        elim (seen notice held) as (λ o. seen notice held ≡ o →
        option_map (with_client host place.client) (option_map (with_seen notice (client_of host place.client) place.slot) o) ≡ Some after →
        PlaceLeft notice host place tag pipe) [
          | None ↦ λ none that. absurd (cc)
          | Some now ↦ λ held_saw that. in_tag held now here held_saw (some-same _ after that)
        ] refl it

-- how a TD of a tag became left over by an event of another or the same tag
pub record Left (notice : Notice) (host : HostState) (told tag : ℕ) (pipe : Pipe) : Type 0 where
  pub manager : HostEntry
  pub manages : held_of host told ≡ Some manager
  pub held : HostEntry
  pub under : held_of host tag ≡ Some held
  pub waited : td_on pipe held ≡ Some Pending
  pub client : client_of_tag host.tags told ≡ client_of_tag host.tags tag
  pub by : ((tag ≡ told) × TellsCheck notice) ⊎ (TellsComplete notice × (list_any (λ one. one == held.ticket) (ended_in manager.request) ≡ true))

tag-left : (notice : Notice) (host : HostState) (place : Place) (told tag : ℕ) (pipe : Pipe) →
    place_of host.tags (length host.clients) told ≡ Some place →
    PlaceLeft notice host place tag pipe → Left notice host told tag pipe
tag-left notice host place told tag pipe told_at left =
    let one = place-is host.tags (length host.clients) told place told_at in
    let other = place-is host.tags (length host.clients) tag left.at left.tag_at in
    record {
      manager = left.manager;
      manages = held-at host told place told_at ∙ left.here;
      held = left.became.held;
      under = held-at host tag left.at left.tag_at ∙ (ap (λ c. held_at (client_of host c).entries left.at.slot) left.client ∙ left.became.under);
      waited = left.became.waited;
      client = one.client ∙ (sym left.client ∙ sym other.client);
      by = elim left.became.by as (λ _. ((tag ≡ told) × TellsCheck notice)
          ⊎ (TellsComplete notice × (list_any (λ one. one == left.became.held.ticket) (ended_in left.manager.request) ≡ true))) [
            | inl own ↦ inl (
              one-tag host.tags tag told other.some one.some (other.client ∙ (left.client ∙ sym one.client)) (other.slot ∙ (own.0 ∙ sym one.slot)),
              own.1,
            )
            | inr noted ↦ inr noted
          ];
    }

pub left-after : (notice : Notice) (host after : HostState) (told tag : ℕ) (pipe : Pipe) → host_seen notice host told ≡ Some after →
    is_left_over_on after pipe tag ≡ true → is_left_over_on host pipe tag ≡ false → Left notice host told tag pipe
left-after notice host after told tag pipe saw is was =
    elim (place_of host.tags (length host.clients) told) as (λ o. place_of host.tags (length host.clients) told ≡ o → option_and_then (place_seen notice host) o ≡ Some after →
    Left notice host told tag pipe) [
      | None ↦ λ none it. absurd (cc)
      | Some place ↦ λ some it. tag-left notice host place told tag pipe some (place-left notice host after place tag pipe it is was)
    ] refl saw

-- a TD that is retired leaves none over
retired-none : (host after : HostState) (on pipe : Pipe) (place : Place) (tag : ℕ) → place_seen (TdRetired on) host place ≡ Some after →
    is_left_over_on after pipe tag ≡ true → is_left_over_on host pipe tag ≡ false → ⊥
retired-none host after on pipe place tag saw is was =
    let left = place-left (TdRetired on) host after place tag pipe saw is was in
    elim left.became.by as (λ _. ⊥) [
      | inl own ↦ own.1
      | inr noted ↦ noted.0
    ]

-- WHAT THE EVENT BRINGS

-- the notice of a status event of a pipe
pub record Tells (pipe : Pipe) (unit : List ℕ) (place wanted : ℕ) : Type 0 where
  pub pipe_is : pipe ≡ Status
  pub byte : slice_index unit place ≡ wanted

if-some : (b : Bool) (told notice : Notice) → cond b (Some told) None ≡ Some notice → told ≡ notice
if-some true told notice is = some-same told notice is
if-some false told notice is = absurd (cc)

no-check : (b : Bool) (told notice : Notice) → cond b (Some told) None ≡ Some notice → (TellsCheck told → ⊥) → TellsCheck notice → ⊥
no-check b told notice is none check = none (subst TellsCheck (sym (if-some b told notice is)) check)

no-complete : (b : Bool) (told notice : Notice) → cond b (Some told) None ≡ Some notice → (TellsComplete told → ⊥) → TellsComplete notice → ⊥
no-complete b told notice is none complete = none (subst TellsComplete (sym (if-some b told notice is)) complete)

answer-check : (tag : ℕ) (unit : List ℕ) (notice : Notice) → answer_in tag unit ≡ Some notice → TellsCheck notice →
    (slice_index unit 6 ≡ 2) × (is_sense_of tag unit ≡ true)
answer-check tag unit notice is check =
    elim (is_sense_of tag unit) as (λ b. is_sense_of tag unit ≡ b →
    cond b (Some (Answered (slice_index unit 6) (record { items = drop 16 unit }))) (response_of tag unit) ≡ Some notice →
    (slice_index unit 6 ≡ 2) × (is_sense_of tag unit ≡ true)) [
      | true ↦ λ sense it. (subst TellsCheck (sym (some-same _ notice it)) check, sense)
      | false ↦ λ other it.
          absurd (no-check (is_response_of tag unit) (Responded (slice_index unit 7)) notice it (λ (told : ⊥). told) check)
    ] refl is

answer-complete : (tag : ℕ) (unit : List ℕ) (notice : Notice) → answer_in tag unit ≡ Some notice → TellsComplete notice → slice_index unit 7 ≡ 0
answer-complete tag unit notice is complete =
    elim (is_sense_of tag unit) as (λ b.
    cond b (Some (Answered (slice_index unit 6) (record { items = drop 16 unit }))) (response_of tag unit) ≡ Some notice → slice_index unit 7 ≡ 0) [
      | true ↦ λ it. absurd (subst TellsComplete (sym (some-same _ notice it)) complete)
      | false ↦ λ it. subst TellsComplete (sym (if-some (is_response_of tag unit) (Responded (slice_index unit 7)) notice it)) complete
    ] is

if-answer : (b : Bool) (answer : Option Notice) (notice : Notice) → cond b answer None ≡ Some notice → answer ≡ Some notice
if-answer true answer notice is = is
if-answer false answer notice is = absurd (cc)

told-check : (pipe : Pipe) (unit : List ℕ) (code tag : ℕ) (notice : Notice) → told_on pipe unit code tag ≡ Some notice → TellsCheck notice →
    (pipe ≡ Status) × ((slice_index unit 6 ≡ 2) × (is_sense_of tag unit ≡ true))
told-check Command unit code tag notice is check = absurd (no-check (code == SUCCESS) CommandSeen notice is (λ (told : ⊥). told) check)
told-check Status unit code tag notice is check =
    (refl, answer-check tag unit notice (if-answer (code == SHORT_PACKET) (answer_in tag unit) notice is) check)
told-check DataIn unit code tag notice is check = absurd (no-check (code == SUCCESS) DataInSeen notice is (λ (told : ⊥). told) check)
told-check DataOut unit code tag notice is check = absurd (no-check (code == SUCCESS) DataOutSeen notice is (λ (told : ⊥). told) check)

told-complete : (pipe : Pipe) (unit : List ℕ) (code tag : ℕ) (notice : Notice) → told_on pipe unit code tag ≡ Some notice → TellsComplete notice →
    (pipe ≡ Status) × (slice_index unit 7 ≡ 0)
told-complete Command unit code tag notice is complete = absurd (no-complete (code == SUCCESS) CommandSeen notice is (λ (told : ⊥). told) complete)
told-complete Status unit code tag notice is complete =
    (refl, answer-complete tag unit notice (if-answer (code == SHORT_PACKET) (answer_in tag unit) notice is) complete)
told-complete DataIn unit code tag notice is complete = absurd (no-complete (code == SUCCESS) DataInSeen notice is (λ (told : ⊥). told) complete)
told-complete DataOut unit code tag notice is complete = absurd (no-complete (code == SUCCESS) DataOutSeen notice is (λ (told : ⊥). told) complete)

-- whom a Sense unit answers
sense-command : (request : Request) (id : ℕ) → id ≡ answer_id request → (id == 3) ≡ true → is_command request ≡ true
sense-command (Execute op) id is sense = refl
sense-command (Manage task noted) id is sense = absurd (omega (arith, is, eqb-true id 3 sense))

pub record IsManagement (request : Request) (ticket : ℕ) : Type 0 where
  pub task : Task
  pub noted : ArrayVec ℕ
  pub request_is : request ≡ Manage task noted
  pub ends : ends_commands task ≡ true
  pub notes : list_any (λ one. one == ticket) noted.items ≡ true

ending-management : (request : Request) (ticket : ℕ) → list_any (λ one. one == ticket) (ended_in request) ≡ true → IsManagement request ticket
ending-management (Execute op) ticket is = absurd (cc)
ending-management (Manage task noted) ticket is =
    elim (ends_commands task) as (λ b. ends_commands task ≡ b →
    list_any (λ one. one == ticket) (cond b noted (let none : ArrayVec ℕ = record { items = [] } in none)).items ≡ true →
    IsManagement (Manage task noted) ticket) [
      | true ↦ λ ends it. record { task = task; noted = noted; request_is = refl; ends = ends; notes = it }
      | false ↦ λ keeps it. absurd (cc)
    ] refl is

-- ANY EVENT

-- the TD of the event was awaited
accepted-by : (sides : Sides) (frames : List TagBuffers) (residual code : ℕ) (td : EndedTd) (notice : Notice) (after : HostState) (manager : HostEntry) →
    notice_of frames residual code td ≡ Some notice → host_seen notice sides.host td.tag ≡ Some after → held_of sides.host td.tag ≡ Some manager →
    IsAccepted td.pipe (written_of frames residual td.tag) code td.tag manager
accepted-by sides frames residual code td notice after manager told saw under =
    accepted-is td.pipe (written_of frames residual td.tag) code td.tag manager
    (ap (λ o. is_some (option_and_then (λ n. seen n manager) o)) told
    ∙ (ap (λ o. is_some (option_and_then (seen notice) o)) (sym under)
    ∙ (sym (host_seen-held notice sides.host td.tag) ∙ ap (λ (o : Option HostState). is_some o) saw)))

td-left : (sides : Sides) (frames : List TagBuffers) (pointer residual code : ℕ) (td : EndedTd) (notice : Notice) (after : HostState)
    (pipe : Pipe) (tag : ℕ) → ended_at sides.lines pointer ≡ Some td → notice_of frames residual code td ≡ Some notice →
    host_seen notice sides.host td.tag ≡ Some after → is_left_over_on after pipe tag ≡ true → is_left_over_on sides.host pipe tag ≡ false →
    IsLeftOverBy sides frames pointer residual code pipe tag
td-left sides frames pointer residual code td notice after pipe tag ends told saw is was =
    let left = left-after notice sides.host after td.tag tag pipe saw is was in
    let accepted = accepted-by sides frames residual code td notice after left.manager told saw left.manages in
    let ended = ended-ends sides.lines pointer td ends in
    let unit = written_of frames residual td.tag in
    elim left.by as (λ _. IsLeftOverBy sides frames pointer residual code pipe tag) [
      | inl own ↦
          let brought = told-check td.pipe unit code td.tag notice told own.1 in
          let status = subst (λ p. IsAccepted p unit code td.tag left.manager) brought.0 accepted in
          record {
            held = left.held;
            under = left.under;
            waited = left.waited;
            by = inl (subst (λ t. IsCheckOf sides frames pointer residual code t) (sym own.0) (record {
              event = record {
                ends = subst (λ p. EndsAt sides.lines pointer p td.tag) brought.0 ended;
                held = left.manager;
                under = left.manages;
                waits = status.waits;
                succeeds = status.succeeds;
                answers = status.answers;
              };
              command = sense-command left.manager.request (identifier unit) status.answers.kind (sense-kind td.tag unit brought.1.1);
              check = brought.1.0;
            }));
          }
      | inr noted ↦
          let brought = told-complete td.pipe unit code td.tag notice told noted.0 in
          let status = subst (λ p. IsAccepted p unit code td.tag left.manager) brought.0 accepted in
          let management = ending-management left.manager.request left.held.ticket noted.1 in
          record {
            held = left.held;
            under = left.under;
            waited = left.waited;
            by = inr (record {
              manager = td.tag;
              event = record {
                ends = subst (λ p. EndsAt sides.lines pointer p td.tag) brought.0 ended;
                held = left.manager;
                under = left.manages;
                waits = status.waits;
                succeeds = status.succeeds;
                answers = status.answers;
              };
              client = left.client;
              task = management.task;
              noted = management.noted;
              request = management.request_is;
              ends = management.ends;
              notes = management.notes;
              complete = brought.1;
            });
          }
    ]
  where
    second : (a b : Bool) → (a && b) ≡ true → b ≡ true
    second true b it = it
    second false b it = absurd (cc)

    first : (a b : Bool) → (a && b) ≡ true → a ≡ true
    first true b it = refl
    first false b it = absurd (cc)

    sense-kind : (tag : ℕ) (unit : List ℕ) → is_sense_of tag unit ≡ true → (identifier unit == 3) ≡ true
    sense-kind tag unit sense = first (identifier unit == 3) _ (second (is_none (first_fault unit)) _ sense)

transfer-left : (sides : Sides) (frames : List TagBuffers) (pointer residual code : ℕ) (pipe : Pipe) (tag : ℕ) →
    is_left_over_on (handled_td sides frames pointer residual code (ended_at sides.lines pointer)).0.host pipe tag ≡ true →
    is_left_over_on sides.host pipe tag ≡ false → IsLeftOverBy sides frames pointer residual code pipe tag
transfer-left sides frames pointer residual code pipe tag is was =
    elim (ended_at sides.lines pointer) as (λ o. ended_at sides.lines pointer ≡ o →
    is_left_over_on (handled_td sides frames pointer residual code o).0.host pipe tag ≡ true → IsLeftOverBy sides frames pointer residual code pipe tag) [
      | None ↦ λ none it. absurd (true-false (is_left_over_on sides.host pipe tag) it was)
      | Some td ↦ λ ends it. of_td td ends it
    ] refl is
  where
    of_notice : (td : EndedTd) (notice : Notice) → ended_at sides.lines pointer ≡ Some td → notice_of frames residual code td ≡ Some notice →
        is_left_over_on (handled_notice sides pointer td (Some notice)).0.host pipe tag ≡ true → IsLeftOverBy sides frames pointer residual code pipe tag
    of_notice td notice ends told it =
        elim (host_seen notice sides.host td.tag) as (λ o. host_seen notice sides.host td.tag ≡ o →
        is_left_over_on (handled_seen sides pointer td o).0.host pipe tag ≡ true → IsLeftOverBy sides frames pointer residual code pipe tag) [
          | None ↦ λ none that. absurd (true-false (is_left_over_on sides.host pipe tag) that was)
          | Some after ↦ λ saw that. td-left sides frames pointer residual code td notice after pipe tag ends told saw that was
        ] refl it

    of_td : (td : EndedTd) → ended_at sides.lines pointer ≡ Some td →
        is_left_over_on (handled_notice sides pointer td (notice_of frames residual code td)).0.host pipe tag ≡ true →
        IsLeftOverBy sides frames pointer residual code pipe tag
    of_td td ends it =
        elim (notice_of frames residual code td) as (λ o. notice_of frames residual code td ≡ o →
        is_left_over_on (handled_notice sides pointer td o).0.host pipe tag ≡ true → IsLeftOverBy sides frames pointer residual code pipe tag) [
          | None ↦ λ none that. absurd (true-false (is_left_over_on sides.host pipe tag) that was)
          | Some notice ↦ λ told that. of_notice td notice ends told that
        ] refl it

stage-left : (sides : Sides) (pointer : ℕ) (retirement : Retirement) (stage : RetirementStage) (pipe : Pipe) (tag : ℕ) →
    is_left_over_on (handled_stage sides pointer retirement stage).host pipe tag ≡ true → is_left_over_on sides.host pipe tag ≡ false → ⊥
stage-left sides pointer retirement Stopping pipe tag is was = true-false (is_left_over_on sides.host pipe tag) is was
stage-left sides pointer retirement Moving pipe tag is was =
    elim (place_seen (TdRetired retirement.pipe) sides.host retirement.place) as (λ o. place_seen (TdRetired retirement.pipe) sides.host retirement.place ≡ o →
    is_left_over_on (unwrap_or o sides.host) pipe tag ≡ true → ⊥) [
      | None ↦ λ none it. true-false (is_left_over_on sides.host pipe tag) it was
      | Some after ↦ λ saw it. retired-none sides.host after retirement.pipe pipe retirement.place tag saw it was
    ] refl is

engine-left : (sides : Sides) (pointer : ℕ) (done : Bool) (retirement : Option Retirement) (pipe : Pipe) (tag : ℕ) →
    is_left_over_on (handled_engine sides pointer done retirement).0.host pipe tag ≡ true → is_left_over_on sides.host pipe tag ≡ false → ⊥
engine-left sides pointer false retirement pipe tag is was = true-false (is_left_over_on sides.host pipe tag) is was
engine-left sides pointer true None pipe tag is was = true-false (is_left_over_on sides.host pipe tag) is was
engine-left sides pointer true (Some retirement) pipe tag is was = stage-left sides pointer retirement retirement.stage pipe tag is was

event-left : (sides : Sides) (frames : List TagBuffers) (event : Event) → LeavesOverByNote sides frames event (handled sides frames event).0.host
event-left sides frames (Transfer pointer residual code endpoint slot) pipe tag is was = transfer-left sides frames pointer residual code pipe tag is was
event-left sides frames (CommandCompletion pointer code slot) pipe tag is was =
    engine-left sides pointer (is_engine_done sides.lines pointer code) sides.host.retirement pipe tag is was

pub left-told : (sides after : Sides) (frames : List TagBuffers) (event : Event) (told : Handled) → handled sides frames event ≡ (after, told) →
    LeavesOverByNote sides frames event after.host
left-told sides after frames event told is =
    subst (λ (both : Sides × Handled). LeavesOverByNote sides frames event both.0.host) is (event-left sides frames event)
