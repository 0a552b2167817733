-- The host matches an event exactly where it is of something that the host waits for.
use Rattle.std.proofs.Common.{◌≡◌, ℕ, ◌≤◌, Bool, true, false, List, length, drop, Option, Some, None, refl, sym, ap, subst, ◌∙◌, arith}
use Rattle.std.specs.Prelude.{◌==◌, ◌&&◌, not, cond, if◌then◌else◌, is_none, is_some, option_and_then, option_map, slice_index}
use Rattle.std.specs.Option.{option_map_or}
use Rattle.std.proofs.lemmas.Bool.{eqb-true, eq-eqb}
use Rattle.std.proofs.lemmas.Bool.Decides.{nat_tests}
use Rattle.xhci_trb.specs.declared.Trb.{Trb}
use Rattle.xhci_trb.specs.declared.Trb.TheVariants.{Normal, Link, StopEndpoint, SetDequeue, TransferEvent, CommandEvent}
use Rattle.xhci_trb.specs.Text.{has_chain}
use Rattle.cycle_ring.specs.Items.{known_consumed_at}
use Rattle.uas_profile.specs.declared.Pipe.{Pipe}
use Rattle.uas_profile.specs.declared.Pipe.TheVariants.{Command, Status, DataIn, DataOut}
use Rattle.uas_profile.specs.declared.TdState.{TdState}
use Rattle.uas_profile.specs.declared.TdState.TheVariants.{Pending, Seen, LeftOver, Retired}
use Rattle.uas_profile.specs.declared.Place.{Place}
use Rattle.uas_profile.specs.declared.TheConstants.{STREAMS, SUCCESS, SHORT_PACKET}
use Rattle.uas_profile.specs.Tags.{place_of}
use Rattle.uas_profile.specs.TdStates.{is_pending}
use Rattle.stream_array.specs.Map.{places_of, spot_at}
use Rattle.stream_array.specs.Rings.{LinesState, ring_of}
use Rattle.scsi_cmd.specs.declared.Request.{Request}
use Rattle.scsi_cmd.specs.declared.Request.TheVariants.{Execute, Manage}
use Rattle.scsi_cmd.specs.Request.{is_command, request_direction}
use Rattle.scsi_cmd.specs.Held.{held_at}
use Rattle.uas_iu.specs.Faults.{first_fault, identifier}
use Rattle.uas_iu.specs.Heads.{tag_told}
use Rattle.uas_host.specs.declared.EndedTd.{EndedTd}
use Rattle.uas_host.specs.declared.HostEntry.{HostEntry}
use Rattle.uas_host.specs.Notices.{Notice, CommandSeen, DataInSeen, DataOutSeen, Answered, Responded}
use Rattle.uas_host.specs.State.{HostState, client_of, with_client}
use Rattle.uas_host.specs.Seen.{goes_to_device, goes_to_host, held_of, host_seen, place_seen, seen, seen_data, with_seen}
use Rattle.uas_host.specs.Events.{answer_in, command_tag, ended_at, ended_on, ended_td, is_response_of, is_sense_of, response_of, tag_at_buffer, told_on, trb_tag}
use Rattle.uas_host.specs.Awaited.{BringsAnswer, EndsAt, IsOfTag, IsUnitOf, NamesCommand, answer_id, code_of, td_on}
use Rattle.uas_host.specs.Tds.{command_buffer_of}

-- OPTIONS AND TESTS

none-is : {A : Type 0} → (o : Option A) → is_none o ≡ true → o ≡ None
none-is None is = refl
none-is (Some a) is = absurd (cc)

both : (a b : Bool) → (a && b) ≡ true → (a ≡ true) × (b ≡ true)
both true b is = (refl, is)
both false b is = absurd (cc)

some-map : {A B : Type 0} → (f : A → B) (o : Option A) → is_some (option_map f o) ≡ is_some o
some-map f None = refl
some-map f (Some a) = refl

some-if : {A : Type 0} → (b : Bool) (a : A) → is_some (cond b (Some a) None) ≡ b
some-if true a = refl
some-if false a = refl

some-then : {A B : Type 0} → (f : A → Option B) (b : Bool) (o : Option A) → is_some (option_and_then f (cond b o None)) ≡ (b && is_some (option_and_then f o))
some-then f true o = refl
some-then f false o = refl

pending-is : (td : TdState) → is_pending td ≡ true → td ≡ Pending
pending-is Pending is = refl
pending-is Seen is = absurd (cc)
pending-is LeftOver is = absurd (cc)
pending-is Retired is = absurd (cc)

-- WHICH TD

buffer-names : (pointer tag : ℕ) → tag_at_buffer pointer ≡ Some tag → (1 ≤ tag) × (tag ≤ STREAMS) × (pointer ≡ command_buffer_of tag)
buffer-names pointer tag is = grind (arith, nat_tests)

names-buffer : (pointer tag : ℕ) → 1 ≤ tag → tag ≤ STREAMS → pointer ≡ command_buffer_of tag → tag_at_buffer pointer ≡ Some tag
names-buffer pointer tag least most is = grind (arith, nat_tests)

command-names : (trb : Trb) (tag : ℕ) → command_tag trb ≡ Some tag → NamesCommand trb tag
command-names (Normal pointer length td_size flags) tag is = buffer-names pointer tag is
command-names (Link pointer toggle chain ioc) tag is = absurd (cc)
command-names (StopEndpoint endpoint slot) tag is = absurd (cc)
command-names (SetDequeue pointer cycle stream endpoint slot) tag is = absurd (cc)
command-names (TransferEvent pointer residual code endpoint slot) tag is = absurd (cc)
command-names (CommandEvent pointer code slot) tag is = absurd (cc)

names-command : (trb : Trb) (tag : ℕ) → NamesCommand trb tag → command_tag trb ≡ Some tag
names-command (Normal pointer length td_size flags) tag names = names-buffer pointer tag names.0 names.1 names.2
names-command (Link pointer toggle chain ioc) tag names = absurd names
names-command (StopEndpoint endpoint slot) tag names = absurd names
names-command (SetDequeue pointer cycle stream endpoint slot) tag names = absurd names
names-command (TransferEvent pointer residual code endpoint slot) tag names = absurd names
names-command (CommandEvent pointer code slot) tag names = absurd names

trb-of_tag : (pipe : Pipe) (stream : ℕ) (trb : Trb) (tag : ℕ) → trb_tag pipe stream trb ≡ Some tag → IsOfTag pipe stream trb tag
trb-of_tag Command stream trb tag is = command-names trb tag is
trb-of_tag Status stream trb tag is = cc
trb-of_tag DataIn stream trb tag is = cc
trb-of_tag DataOut stream trb tag is = cc

of_tag-trb : (pipe : Pipe) (stream : ℕ) (trb : Trb) (tag : ℕ) → IsOfTag pipe stream trb tag → trb_tag pipe stream trb ≡ Some tag
of_tag-trb Command stream trb tag names = names-command trb tag names
of_tag-trb Status stream trb tag names = ap Some (sym names)
of_tag-trb DataIn stream trb tag names = ap Some (sym names)
of_tag-trb DataOut stream trb tag names = ap Some (sym names)

-- a TD that ends with a TRB
pub ended-ends : (lines : LinesState) (pointer : ℕ) (td : EndedTd) → ended_at lines pointer ≡ Some td → EndsAt lines pointer td.pipe td.tag
ended-ends lines pointer td is =
    elim (spot_at pointer) as (λ o. spot_at pointer ≡ o → option_and_then (ended_on lines pointer) o ≡ Some td → EndsAt lines pointer td.pipe td.tag) [
      | None ↦ λ none found. absurd (cc)
      | Some at ↦ λ some found. on_ring at some found
    ] refl is
  where
    told : (at : Pipe × ℕ × ℕ) (trb : Trb) → spot_at pointer ≡ Some at → known_consumed_at (places_of at.0) (ring_of lines at.0 at.1) pointer ≡ Some trb
        → has_chain trb ≡ false → option_map (λ tag. let t : EndedTd = record { pipe = at.0; tag = tag } in t) (trb_tag at.0 at.1 trb) ≡ Some td
        → EndsAt lines pointer td.pipe td.tag
    told at trb ring consumed last found =
        elim (trb_tag at.0 at.1 trb) as (λ o. trb_tag at.0 at.1 trb ≡ o →
        option_map (λ tag. let t : EndedTd = record { pipe = at.0; tag = tag } in t) o ≡ Some td → EndsAt lines pointer td.pipe td.tag) [
          | None ↦ λ none it. absurd (cc)
          | Some tag ↦ λ some it.
              let here : EndedTd = record { pipe = at.0; tag = tag } in
              let same : here ≡ td = cc in
              subst (λ (t : EndedTd). EndsAt lines pointer t.pipe t.tag) same (record {
                stream = at.1;
                place = at.2;
                trb = trb;
                ring = ring;
                consumed = consumed;
                last = last;
                names = trb-of_tag at.0 at.1 trb tag some;
              })
        ] refl found

    on_trb : (at : Pipe × ℕ × ℕ) (trb : Trb) → spot_at pointer ≡ Some at → known_consumed_at (places_of at.0) (ring_of lines at.0 at.1) pointer ≡ Some trb
        → ended_td at.0 at.1 trb ≡ Some td → EndsAt lines pointer td.pipe td.tag
    on_trb at trb ring consumed found =
        elim (has_chain trb) as (λ b. has_chain trb ≡ b →
        cond b None (option_map (λ tag. let t : EndedTd = record { pipe = at.0; tag = tag } in t) (trb_tag at.0 at.1 trb)) ≡ Some td →
        EndsAt lines pointer td.pipe td.tag) [
          | true ↦ λ chain it. absurd (cc)
          | false ↦ λ last it. told at trb ring consumed last it
        ] refl found

    on_ring : (at : Pipe × ℕ × ℕ) → spot_at pointer ≡ Some at → ended_on lines pointer at ≡ Some td → EndsAt lines pointer td.pipe td.tag
    on_ring at ring found =
        elim (known_consumed_at (places_of at.0) (ring_of lines at.0 at.1) pointer) as (λ o. known_consumed_at (places_of at.0) (ring_of lines at.0 at.1) pointer ≡ o →
        option_and_then (ended_td at.0 at.1) o ≡ Some td → EndsAt lines pointer td.pipe td.tag) [
          | None ↦ λ none it. absurd (cc)
          | Some trb ↦ λ some it. on_trb at trb ring some it
        ] refl found

pub ends-ended : (lines : LinesState) (pointer : ℕ) (pipe : Pipe) (tag : ℕ) → EndsAt lines pointer pipe tag →
    ended_at lines pointer ≡ Some (record { pipe = pipe; tag = tag })
ends-ended lines pointer pipe tag ends =
    let told = of_tag-trb pipe ends.stream ends.trb tag ends.names in
    rw (ends.ring, ends.consumed, ends.last, told) refl

-- WHAT THE EVENT TELLS

-- what the bytes are
sense-is : (tag : ℕ) (bytes : List ℕ) → is_sense_of tag bytes ≡ true → IsUnitOf 3 tag bytes
sense-is tag bytes is =
    let parts = both (is_none (first_fault bytes)) _ is in
    let told = both (identifier bytes == 3) _ parts.1 in
    record {
      sound = none-is (first_fault bytes) parts.0;
      kind = eqb-true (identifier bytes) 3 told.0;
      under = eqb-true (tag_told bytes) tag told.1;
    }

response-is : (tag : ℕ) (bytes : List ℕ) → is_response_of tag bytes ≡ true → IsUnitOf 4 tag bytes
response-is tag bytes is =
    let parts = both (is_none (first_fault bytes)) _ is in
    let told = both (identifier bytes == 4) _ parts.1 in
    record {
      sound = none-is (first_fault bytes) parts.0;
      kind = eqb-true (identifier bytes) 4 told.0;
      under = eqb-true (tag_told bytes) tag told.1;
    }

is-sense : (tag : ℕ) (bytes : List ℕ) → IsUnitOf 3 tag bytes → is_sense_of tag bytes ≡ true
is-sense tag bytes unit = rw (unit.sound, unit.kind, eq-eqb (tag_told bytes) tag unit.under) refl

is-response : (tag : ℕ) (bytes : List ℕ) → IsUnitOf 4 tag bytes → (is_sense_of tag bytes ≡ false) × (is_response_of tag bytes ≡ true)
is-response tag bytes unit = (rw (unit.sound, unit.kind) refl, rw (unit.sound, unit.kind, eq-eqb (tag_told bytes) tag unit.under) refl)

-- the entry waits for what the event tells
abbrev pub accepts : Pipe → List ℕ → ℕ → ℕ → HostEntry → Bool
accepts pipe unit code tag held = is_some (option_and_then (λ notice. seen notice held) (told_on pipe unit code tag))

pub record IsAccepted (pipe : Pipe) (unit : List ℕ) (code tag : ℕ) (held : HostEntry) : Type 0 where
  pub waits : td_on pipe held ≡ Some Pending
  pub succeeds : code ≡ code_of pipe
  pub answers : BringsAnswer pipe held.request tag unit

command-accepts : (unit : List ℕ) (code tag : ℕ) (held : HostEntry) → accepts Command unit code tag held ≡ ((code == SUCCESS) && is_pending held.command_td)
command-accepts unit code tag held =
    some-then (λ notice. seen notice held) (code == SUCCESS) (Some CommandSeen)
    ∙ ap (λ b. (code == SUCCESS) && b) (some-if (is_pending held.command_td) (record held { command_td = Seen }))

-- the data TD of an entry, where the event is of its pipe
data-seen : (right : Bool) (held : HostEntry) (td : Option TdState) →
    is_some (seen_data right held td) ≡ option_map_or is_pending (if right then td else None) false
data-seen true held None = refl
data-seen false held None = refl
data-seen true held (Some td) = some-if (is_pending td) (record held { data_td = Some Seen })
data-seen false held (Some td) = refl

in-accepts : (unit : List ℕ) (code tag : ℕ) (held : HostEntry) →
    accepts DataIn unit code tag held ≡ ((code == SUCCESS) && option_map_or is_pending (td_on DataIn held) false)
in-accepts unit code tag held =
    some-then (λ notice. seen notice held) (code == SUCCESS) (Some DataInSeen)
    ∙ ap (λ b. (code == SUCCESS) && b) (data-seen (goes_to_host (request_direction held.request)) held held.data_td)

out-accepts : (unit : List ℕ) (code tag : ℕ) (held : HostEntry) →
    accepts DataOut unit code tag held ≡ ((code == SUCCESS) && option_map_or is_pending (td_on DataOut held) false)
out-accepts unit code tag held =
    some-then (λ notice. seen notice held) (code == SUCCESS) (Some DataOutSeen)
    ∙ ap (λ b. (code == SUCCESS) && b) (data-seen (goes_to_device (request_direction held.request)) held held.data_td)

-- the status of a command or a task management
status-accepts : (unit : List ℕ) (code tag : ℕ) (held : HostEntry) →
    accepts Status unit code tag held
    ≡ ((code == SHORT_PACKET) && is_some (option_and_then (λ notice. seen notice held) (answer_in tag unit)))
status-accepts unit code tag held = some-then (λ notice. seen notice held) (code == SHORT_PACKET) (answer_in tag unit)

pending-some : (o : Option TdState) → option_map_or is_pending o false ≡ true → o ≡ Some Pending
pending-some None is = absurd (cc)
pending-some (Some td) is = ap Some (pending-is td is)

command-id : (request : Request) → is_command request ≡ true → answer_id request ≡ 3
command-id (Execute op) is = refl
command-id (Manage task noted) is = absurd (cc)

management-id : (request : Request) → not (is_command request) ≡ true → answer_id request ≡ 4
management-id (Execute op) is = absurd (cc)
management-id (Manage task noted) is = refl

-- the bytes that an entry waits for are its answer
answer-is : (unit : List ℕ) (tag : ℕ) (held : HostEntry) → is_some (option_and_then (λ notice. seen notice held) (answer_in tag unit)) ≡ true →
    (is_pending held.status_td ≡ true) × IsUnitOf (answer_id held.request) tag unit
answer-is unit tag held is =
    elim (is_sense_of tag unit) as (λ b. is_sense_of tag unit ≡ b →
    is_some (option_and_then (λ notice. seen notice held) (cond b (Some (Answered (slice_index unit 6) (record { items = drop 16 unit }))) (response_of tag unit))) ≡ true →
    (is_pending held.status_td ≡ true) × IsUnitOf (answer_id held.request) tag unit) [
      | true ↦ λ sense it.
          let parts = both (is_command held.request) (is_pending held.status_td) (sym (some-if (is_command held.request && is_pending held.status_td) _) ∙ it) in
          (parts.1, rw (command-id held.request parts.0) (sense-is tag unit sense))
      | false ↦ λ other it. response other it
    ] refl is
  where
    response : is_sense_of tag unit ≡ false → is_some (option_and_then (λ notice. seen notice held) (response_of tag unit)) ≡ true →
        (is_pending held.status_td ≡ true) × IsUnitOf (answer_id held.request) tag unit
    response other it =
        elim (is_response_of tag unit) as (λ b. is_response_of tag unit ≡ b →
        is_some (option_and_then (λ notice. seen notice held) (cond b (Some (Responded (slice_index unit 7))) None)) ≡ true →
        (is_pending held.status_td ≡ true) × IsUnitOf (answer_id held.request) tag unit) [
          | true ↦ λ told that.
              let parts = both (not (is_command held.request)) (is_pending held.status_td)
              (sym (some-if (not (is_command held.request) && is_pending held.status_td) _) ∙ that) in
              (parts.1, rw (management-id held.request parts.0) (response-is tag unit told))
          | false ↦ λ none that. absurd (cc)
        ] refl it

pub accepted-is : (pipe : Pipe) (unit : List ℕ) (code tag : ℕ) (held : HostEntry) → accepts pipe unit code tag held ≡ true → IsAccepted pipe unit code tag held
accepted-is Command unit code tag held is =
    let parts = both (code == SUCCESS) (is_pending held.command_td) (sym (command-accepts unit code tag held) ∙ is) in
    record { waits = ap Some (pending-is held.command_td parts.1); succeeds = eqb-true code SUCCESS parts.0; answers = tt }
accepted-is Status unit code tag held is =
    let parts = both (code == SHORT_PACKET) _ (sym (status-accepts unit code tag held) ∙ is) in
    let answer = answer-is unit tag held parts.1 in
    record { waits = ap Some (pending-is held.status_td answer.0); succeeds = eqb-true code SHORT_PACKET parts.0; answers = answer.1 }
accepted-is DataIn unit code tag held is =
    let parts = both (code == SUCCESS) _ (sym (in-accepts unit code tag held) ∙ is) in
    record { waits = pending-some (td_on DataIn held) parts.1; succeeds = eqb-true code SUCCESS parts.0; answers = tt }
accepted-is DataOut unit code tag held is =
    let parts = both (code == SUCCESS) _ (sym (out-accepts unit code tag held) ∙ is) in
    record { waits = pending-some (td_on DataOut held) parts.1; succeeds = eqb-true code SUCCESS parts.0; answers = tt }

some-same : {A : Type 0} → (a b : A) → Some a ≡ Some b → a ≡ b
some-same a b is = cc

-- an answer is one that the entry waits for
is-answer : (unit : List ℕ) (tag : ℕ) (held : HostEntry) (request : Request) → held.request ≡ request → held.status_td ≡ Pending →
    IsUnitOf (answer_id request) tag unit → is_some (option_and_then (λ notice. seen notice held) (answer_in tag unit)) ≡ true
is-answer unit tag held (Execute op) is waits sound = rw (is-sense tag unit sound, is, waits) refl
is-answer unit tag held (Manage task noted) is waits sound =
    let told = is-response tag unit sound in rw (told.0, told.1, is, waits) refl

pub is-accepted : (pipe : Pipe) (unit : List ℕ) (code tag : ℕ) (held : HostEntry) → IsAccepted pipe unit code tag held → accepts pipe unit code tag held ≡ true
is-accepted Command unit code tag held is =
    command-accepts unit code tag held ∙ rw (eq-eqb code SUCCESS is.succeeds, some-same held.command_td Pending is.waits) refl
is-accepted Status unit code tag held is =
    status-accepts unit code tag held
    ∙ rw (eq-eqb code SHORT_PACKET is.succeeds)
    (is-answer unit tag held held.request refl (some-same held.status_td Pending is.waits) is.answers)
is-accepted DataIn unit code tag held is = in-accepts unit code tag held ∙ rw (eq-eqb code SUCCESS is.succeeds, is.waits) refl
is-accepted DataOut unit code tag held is = out-accepts unit code tag held ∙ rw (eq-eqb code SUCCESS is.succeeds, is.waits) refl

-- THE HOST

-- the host waits for what the entry under the tag waits for
pub host_seen-held : (notice : Notice) (host : HostState) (tag : ℕ) → is_some (host_seen notice host tag) ≡ is_some (option_and_then (seen notice) (held_of host tag))
host_seen-held notice host tag =
    elim (place_of host.tags (length host.clients) tag) as (λ o. is_some (option_and_then (place_seen notice host) o)
    ≡ is_some (option_and_then (seen notice) (option_and_then (λ (place : Place). held_at (client_of host place.client).entries place.slot) o))) [
      | None ↦ refl
      | Some place ↦
          some-map (with_client host place.client) _ ∙ some-map (with_seen notice (client_of host place.client) place.slot) _
    ]
