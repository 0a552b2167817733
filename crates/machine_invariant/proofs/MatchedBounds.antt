-- What is matched has room: a list that names each place once at most isn't longer than the places are many.
use Rattle.std.proofs.Common.{◌≡◌, ℕ, zero, suc, ◌+◌, ◌*◌, ◌<◌, ◌≤◌, true, false, List, [], ◌∷◌, length, length-append, Option, Some, None, IfSome, refl}
use Rattle.std.proofs.Common.{arith, ap, subst}
use Rattle.std.specs.Prelude.{slice_get}
use Rattle.std.proofs.lemmas.Option.{none-some}
use Rattle.uas_profile.specs.Tags.{AreTags}
use Rattle.scsi_cmd.specs.declared.Request.{Request}
use Rattle.scsi_cmd.specs.declared.Request.TheVariants.{Execute, Manage}
use Rattle.uas_profile.specs.declared.Place.{Place}
use Rattle.shared_machine.specs.declared.Td.{Td}
use Rattle.shared_machine.specs.declared.Completion.{Completion}
use Rattle.shared_machine.specs.declared.Completion.TheVariants.{CommandDone, DataDone, StatusDone, EngineDone}
use Rattle.shared_machine.specs.Td.{Entry, has_trb, is_awaited, is_ready, data_trbs}
use Rattle.shared_machine.specs.Part.{Part}
use Rattle.shared_machine.specs.Shared.{Shared}
use Rattle.shared_machine.specs.Bus.{IsPlace}
use Rattle.shared_machine.specs.Soundness.{one_if, awaited_data, readied_of}
use Rattle.machine_invariant.specs.Matched.{same_place, times, under, carried_places, moved_places, sent_places, command_events, waiting_command, awaited_command}
use Rattle.machine_invariant.specs.Matched.{awaited_status, awaited_data_of, retired_places, IsMatchedAt, IsRequestIn, IsMatched, HasRoom, IsNamedOnce, pipe_places}
use Rattle.machine_invariant.proofs.MatchedPlaces.{one_self, one_if-most, times-append, IsFound, under-found, held-within}
use Rattle.machine_invariant.proofs.MatchedEntries.{awaited-taken}
use Rattle.machine_invariant.proofs.MatchedRetirement.{answered-once}

-- SUMS OVER THE PLACES

-- the sum over the numbers below one
abbrev sum_below : ℕ → (ℕ → ℕ) → ℕ
sum_below zero f = 0
sum_below (suc n) f = f 0 + sum_below n (λ k. f (suc k))

sum_below-two : (n : ℕ) (f g both : ℕ → ℕ) → ((k : ℕ) → f k + g k ≤ both k) → sum_below n f + sum_below n g ≤ sum_below n both
sum_below-two zero f g both less = omega arith
sum_below-two (suc n) f g both less = omega (arith, sum_below-two n (λ k. f (suc k)) (λ k. g (suc k)) (λ k. both (suc k)) (λ k. less (suc k)), less 0)

sum_below-one : (n k : ℕ) (f : ℕ → ℕ) → k < n → f k ≤ sum_below n f
sum_below-one zero k f within = absurd (omega arith)
sum_below-one (suc n) zero f within = omega arith
sum_below-one (suc n) (suc k) f within = omega (arith, sum_below-one n k (λ k. f (suc k)) (omega arith))

sum_below-ones : (n : ℕ) (f : ℕ → ℕ) → ((k : ℕ) → f k ≤ 1) → sum_below n f ≤ n
sum_below-ones zero f most = omega arith
sum_below-ones (suc n) f most = omega (arith, sum_below-ones n (λ k. f (suc k)) (λ k. most (suc k)), most 0)

sum_below-most : (each n : ℕ) (f : ℕ → ℕ) → ((k : ℕ) → f k ≤ each) → sum_below n f ≤ n * each
sum_below-most each zero f most = omega arith
sum_below-most each (suc n) f most = omega (arith, sum_below-most each n (λ k. f (suc k)) (λ k. most (suc k)), most 0)

-- the number of a client's slot
abbrev at_slot : (Place → ℕ) → ℕ → ℕ → ℕ
at_slot f client slot = f (record { client = client; slot = slot })

-- the sum over a client's slots, and over the slots of so many clients
abbrev sum_slots : ℕ → (Place → ℕ) → ℕ → ℕ
sum_slots tags f client = sum_below tags (at_slot f client)

abbrev sum_places : ℕ → ℕ → (Place → ℕ) → ℕ
sum_places tags clients f = sum_below clients (sum_slots tags f)

sum_places-two : (tags clients : ℕ) (f g both : Place → ℕ) → ((place : Place) → f place + g place ≤ both place) →
    sum_places tags clients f + sum_places tags clients g ≤ sum_places tags clients both
sum_places-two tags clients f g both less =
    sum_below-two clients (sum_slots tags f) (sum_slots tags g) (sum_slots tags both)
    (λ client. sum_below-two tags (at_slot f client) (at_slot g client) (at_slot both client) (λ slot. less (record { client = client; slot = slot })))

sum_places-one : (tags clients : ℕ) (place : Place) (f : Place → ℕ) → IsPlace tags clients place → f place ≤ sum_places tags clients f
sum_places-one tags clients place f is =
    let row : f place ≤ sum_slots tags f place.client = sum_below-one tags place.slot (at_slot f place.client) is.slot in
    let all : sum_slots tags f place.client ≤ sum_places tags clients f = sum_below-one clients place.client (sum_slots tags f) is.client in
    omega (arith, row, all)

sum_places-ones : (tags clients : ℕ) (f : Place → ℕ) → ((place : Place) → f place ≤ 1) → sum_places tags clients f ≤ clients * tags
sum_places-ones tags clients f most =
    sum_below-most tags clients (sum_slots tags f) (λ client. sum_below-ones tags (at_slot f client) (λ slot. most (record { client = client; slot = slot })))

-- LISTS OF PLACES

-- a list of places isn't longer than they are named together
length-places : (tags clients : ℕ) (places : List Place) → ((place : Place) → 1 ≤ times place places → IsPlace tags clients place) →
    length places ≤ sum_places tags clients (λ place. times place places)
length-places tags clients [] within = omega arith
length-places tags clients (first ∷ rest) within =
    let here : IsPlace tags clients first = within first (omega (arith, one_self first)) in
    let one : one_if (same_place first first) ≤ sum_places tags clients (λ place. one_if (same_place first place)) =
    sum_places-one tags clients first (λ place. one_if (same_place first place)) here in
    let more : length rest ≤ sum_places tags clients (λ place. times place rest) =
    length-places tags clients rest (λ place named. within place (omega (arith, named))) in
    let two = sum_places-two tags clients (λ place. one_if (same_place first place)) (λ place. times place rest) (λ place. times place (first ∷ rest))
    (λ place. omega arith) in
    omega (arith, one_self first, one, more, two)

-- a list that names each place once at most isn't longer than the places are many
once-length : (tags clients : ℕ) (places : List Place) → ((place : Place) → 1 ≤ times place places → IsPlace tags clients place) →
    ((place : Place) → times place places ≤ 1) → length places ≤ clients * tags
once-length tags clients places within once =
    let long = length-places tags clients places within in
    let most = sum_places-ones tags clients (λ place. times place places) once in
    omega (arith, long, most)

-- the events are those of the four kinds
length-events : (events : List Completion) →
    length events ≡ length (carried_places events) + length (moved_places events) + length (sent_places events) + length (retired_places events)
length-events [] = refl
length-events (CommandDone place ∷ rest) = omega (arith, length-events rest)
length-events (DataDone place ∷ rest) = omega (arith, length-events rest)
length-events (StatusDone place ∷ rest) = omega (arith, length-events rest)
length-events (EngineDone place ∷ rest) = omega (arith, length-events rest)

-- A MATCHED STATE

-- a client that is found is one of them
found-within : (parts : List Part) (client : ℕ) (part : Part) → slice_get parts client ≡ Some part → client < length parts
found-within [] client part is = absurd (none-some part is)
found-within (first ∷ rest) zero part is = omega arith
found-within (first ∷ rest) (suc client) part is = omega (arith, found-within rest client part is)

-- a request asks one of the client's slots
asked-within : (tags slot : ℕ) (request : Request) → AreTags tags → IsRequestIn tags slot request → slot < tags
asked-within tags slot (Execute op) are asks = omega (arith, asks)
asked-within tags slot (Manage what noted) are asks = omega (arith, asks, are.least)

-- where something stands is a place
pub slots-place : (state : Shared) (place : Place) (entry : Entry) → AreTags state.tags → IsMatchedAt state place (under state.parts place)
    → under state.parts place ≡ Some entry → IsPlace state.tags (length state.parts) place
slots-place state place entry are here is =
    let found : IsFound state.parts place entry = under-found state.parts place entry is in
    let at : IsMatchedAt state place (Some entry) = subst (λ held. IsMatchedAt state place held) is here in
    record {
      client = found-within state.parts place.client found.part found.there;
      slot = asked-within state.tags place.slot entry.task.request are at.sound.asks;
    }

pub held-place : (state : Shared) (place : Place) (entry : Entry) → IsMatched state → under state.parts place ≡ Some entry →
    IsPlace state.tags (length state.parts) place
held-place state place entry all is = slots-place state place entry all.tags (all.places place) is

-- what is counted somewhere stands there
pub some-place : (state : Shared) (place : Place) (count : Option Entry → ℕ) → count None ≡ 0 → IsMatched state → 1 ≤ count (under state.parts place) →
    IsPlace state.tags (length state.parts) place
some-place state place count none all some =
    elim (under state.parts place) as (λ held. under state.parts place ≡ held → 1 ≤ count held → IsPlace state.tags (length state.parts) place) [
      | None ↦ λ is named. absurd (omega (arith, none, named))
      | Some entry ↦ λ is named. held-place state place entry all is
    ] refl some

-- an entry waits once at most for its command
command-once : (held : Option Entry) → awaited_command held + waiting_command held ≤ 1
command-once None = omega arith
command-once (Some entry) =
    elim (is_awaited entry.command_td 1) as (λ b. is_awaited entry.command_td 1 ≡ b → one_if b + one_if (has_trb entry.command_td 1) ≤ 1) [
      | true ↦ λ is. omega (arith, awaited-taken entry.command_td is)
      | false ↦ λ is. omega (arith, one_if-most (has_trb entry.command_td 1))
    ] refl

data_td-once : (trbs : ℕ) (td : Option Td) → awaited_data trbs td ≤ 1
data_td-once trbs None = omega arith
data_td-once trbs (Some td) = one_if-most (is_awaited td trbs)

data-once : (held : Option Entry) → awaited_data_of held ≤ 1
data-once None = omega arith
data-once (Some entry) = data_td-once (data_trbs entry.task.request) entry.data_td

status-once : (held : Option Entry) → awaited_status held ≤ 1
status-once None = omega arith
status-once (Some entry) = one_if-most (is_awaited entry.status_td 1)

ready-once : (held : Option Entry) → readied_of held ≤ 1
ready-once None = omega arith
ready-once (Some entry) = one_if-most (is_ready entry)

-- a TRB in the command pipe's ring was taken or wasn't
pub times_pipe : (state : Shared) (place : Place) → times place (pipe_places state) ≡ command_events place state.events + times place state.messages
times_pipe state place = times-append place (carried_places state.events) state.messages

-- nothing names a place twice
pub matched-once : (state : Shared) → IsMatched state → (place : Place) → IsNamedOnce state place
matched-once state all place =
    let here : IsMatchedAt state place (under state.parts place) = all.places place in
    record {
      command = omega (arith, times_pipe state place, here.messages, here.carried, command-once (under state.parts place));
      data_events = omega (arith, here.moved, data-once (under state.parts place));
      status_events = omega (arith, here.sent, status-once (under state.parts place));
      ready = omega (arith, here.ready, ready-once (under state.parts place));
    }

-- the command pipe's TRBs
pipe-length : (state : Shared) → IsMatched state → length (pipe_places state) ≤ length state.parts * state.tags
pipe-length state all =
    once-length state.tags (length state.parts) (pipe_places state)
    (λ place named. some-place state place (λ held. awaited_command held + waiting_command held) refl all
    (omega (arith, times_pipe state place, named, (all.places place).messages, (all.places place).carried)))
    (λ place. (matched-once state all place).command)

moved-length : (state : Shared) → IsMatched state → length (moved_places state.events) ≤ length state.parts * state.tags
moved-length state all =
    once-length state.tags (length state.parts) (moved_places state.events)
    (λ place named. some-place state place awaited_data_of refl all (omega (arith, named, (all.places place).moved)))
    (λ place. (matched-once state all place).data_events)

sent-length : (state : Shared) → IsMatched state → length (sent_places state.events) ≤ length state.parts * state.tags
sent-length state all =
    once-length state.tags (length state.parts) (sent_places state.events)
    (λ place named. some-place state place awaited_status refl all (omega (arith, named, (all.places place).sent)))
    (λ place. (matched-once state all place).status_events)

-- no queue outgrows the places
pub matched-room : (state : Shared) → IsMatched state → HasRoom state
matched-room state all =
    let pipe = pipe-length state all in
    record {
      pipe = pipe;
      events = omega (
        arith,
        pipe,
        length-append (carried_places state.events) state.messages,
        length-events state.events,
        moved-length state all,
        sent-length state all,
        ap (λ places. length places) all.retired,
        answered-once state.retirement,
      );
    }
