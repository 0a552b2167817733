-- Places, how often they are named, and what a write to one place leaves of the others.
use Rattle.std.proofs.Common.{◌≡◌, ℕ, zero, suc, ◌+◌, ◌<◌, ◌≤◌, Bool, true, false, List, [], ◌∷◌, ◌++◌, length, length-set, Option, Some, None, IfSome, ◌*◌}
use Rattle.std.proofs.Common.{refl, arith, ap, sym, subst, ◌∙◌}
use Rattle.std.specs.Prelude.{◌==◌, slice_get, slice_set}
use Rattle.std.specs.Option.{option_map_or}
use Rattle.std.proofs.lemmas.Bool.{eqb-true, eqb-false, ne_eqb, false≢true, and_parts}
use Rattle.std.proofs.lemmas.List.{get_or-set_same, get_or-set_other}
use Rattle.std.proofs.lemmas.Option.{none-some}
use Rattle.uas_profile.specs.declared.TheConstants.{MOST_TAGS}
use Rattle.uas_profile.specs.Tags.{AreTags}
use Rattle.scsi_cmd.specs.Held.{held_at}
use Rattle.uas_profile.specs.declared.Place.{Place}
use Rattle.shared_machine.specs.declared.Completion.{Completion}
use Rattle.shared_machine.specs.declared.Completion.TheVariants.{CommandDone, DataDone, StatusDone, EngineDone}
use Rattle.shared_machine.specs.Td.{Entry}
use Rattle.shared_machine.specs.Part.{Part}
use Rattle.shared_machine.specs.Shared.{Shared}
use Rattle.shared_machine.specs.Soundness.{one_if, times_in}
use Rattle.machine_invariant.specs.Matched.{same_place, times, held_in, under, command_events, data_events, status_events, readied_in, times_ready, HaveSlots}
use Rattle.uas_profile.specs.declared.Pipe.{Pipe}
use Rattle.machine_invariant.specs.Ordered.{IsOrdered}
use Rattle.machine_invariant.specs.Matched.{retired_places, answered_places, IsMatchedAt, IsMatchedEntry, IsRetiring, FlowsAt, IsMatched}
use Rattle.shared_machine.proofs.Standing.{slice_get-slice_set_same, slice_get-slice_set_other}

-- PLACES

pub self_equal : (n : ℕ) → (n == n) ≡ true
self_equal n = elim (n == n) as (λ b. (n == n) ≡ b → (n == n) ≡ true) [
  | true ↦ λ is. is
  | false ↦ λ is. absurd (eqb-false n n is refl)
] refl

pub same_place-self : (place : Place) → same_place place place ≡ true
same_place-self place = rw (self_equal place.client, self_equal place.slot) refl

pub one_self : (place : Place) → one_if (same_place place place) ≡ 1
one_self place = ap one_if (same_place-self place)

pub one_if-most : (b : Bool) → one_if b ≤ 1
one_if-most true = omega arith
one_if-most false = omega arith

pub one_if-true : (b : Bool) → 1 ≤ one_if b → b ≡ true
one_if-true true some = refl
one_if-true false some = absurd (omega (arith, some))

pub same_place-true : (place other : Place) → same_place place other ≡ true → place ≡ other
same_place-true place other is =
    let parts : ((place.client == other.client) ≡ true) × ((place.slot == other.slot) ≡ true) =
    and_parts (place.client == other.client) (place.slot == other.slot) is in
    let client = eqb-true place.client other.client parts.0 in
    let slot = eqb-true place.slot other.slot parts.1 in
    λ i. record { client = client i; slot = slot i }

-- places of one client that aren't the same have other slots
apart_slot : (place other : Place) → same_place place other ≡ false → place.client ≡ other.client → place.slot ≡ other.slot → ⊥
apart_slot place other apart client slot =
    let same : same_place place other ≡ true = rw (client, slot, self_equal other.client, self_equal other.slot) refl in
    false≢true (sym apart ∙ same)

-- COUNTS

pub times-append : (place : Place) (first second : List Place) → times place (first ++ second) ≡ times place first + times place second
times-append place [] second = omega arith
times-append place (next ∷ rest) second = omega (arith, times-append place rest second)

-- the events of each kind
record IsEventSum (place : Place) (events more all : List Completion) : Type 0 where
  carried : command_events place all ≡ command_events place events + command_events place more
  moved : data_events place all ≡ data_events place events + data_events place more
  sent : status_events place all ≡ status_events place events + status_events place more

events-append : (place : Place) (events more : List Completion) → IsEventSum place events more (events ++ more)
events-append place [] more = record { carried = omega arith; moved = omega arith; sent = omega arith }
events-append place (event ∷ rest) more = at event (events-append place rest more)
  where
    at : (event : Completion) → IsEventSum place rest more (rest ++ more) → IsEventSum place (event ∷ rest) more (event ∷ rest ++ more)
    at (CommandDone next) sum = record { carried = omega (arith, sum.carried); moved = sum.moved; sent = sum.sent }
    at (DataDone next) sum = record { carried = sum.carried; moved = omega (arith, sum.moved); sent = sum.sent }
    at (StatusDone next) sum = record { carried = sum.carried; moved = sum.moved; sent = omega (arith, sum.sent) }
    at (EngineDone next) sum = record { carried = sum.carried; moved = sum.moved; sent = sum.sent }

pub command_events-append : (place : Place) (events more : List Completion) →
    command_events place (events ++ more) ≡ command_events place events + command_events place more
command_events-append place events more = (events-append place events more).carried

pub data_events-append : (place : Place) (events more : List Completion) →
    data_events place (events ++ more) ≡ data_events place events + data_events place more
data_events-append place events more = (events-append place events more).moved

pub status_events-append : (place : Place) (events more : List Completion) →
    status_events place (events ++ more) ≡ status_events place events + status_events place more
status_events-append place events more = (events-append place events more).sent

-- the places of the events of the controller's own commands, in order
pub retired_places-append : (events more : List Completion) → retired_places (events ++ more) ≡ retired_places events ++ retired_places more
retired_places-append [] more = refl
retired_places-append (CommandDone next ∷ rest) more = retired_places-append rest more
retired_places-append (DataDone next ∷ rest) more = retired_places-append rest more
retired_places-append (StatusDone next ∷ rest) more = retired_places-append rest more
retired_places-append (EngineDone next ∷ rest) more = ap (λ places. next ∷ places) (retired_places-append rest more)

-- one more in a queue of slots
pub times_in-push : (slot : ℕ) (queue : List ℕ) (last : ℕ) → times_in slot (queue ++ last ∷ []) ≡ times_in slot queue + one_if (last == slot)
times_in-push slot [] last = omega arith
times_in-push slot (first ∷ rest) last = omega (arith, times_in-push slot rest last)

pub one_equal : (slot : ℕ) → one_if (slot == slot) ≡ 1
one_equal slot = ap one_if (self_equal slot)

pub one_apart : (first slot : ℕ) → (slot ≡ first → ⊥) → one_if (first == slot) ≡ 0
one_apart first slot apart = ap one_if (ne_eqb first slot (λ same. apart (sym same)))

-- WHAT IS FOUND

-- where something stands its client is there
pub record IsFound (parts : List Part) (place : Place) (entry : Entry) : Type 0 where
  pub part : Part
  pub there : slice_get parts place.client ≡ Some part
  pub held : held_at part.entries place.slot ≡ Some entry

pub under-found : (parts : List Part) (place : Place) (entry : Entry) → under parts place ≡ Some entry → IsFound parts place entry
under-found parts place entry is =
    elim (slice_get parts place.client) as (λ found.
    slice_get parts place.client ≡ found → option_map_or (held_in place) found None ≡ Some entry → IsFound parts place entry) [
      | None ↦ λ there held. absurd (none-some entry held)
      | Some part ↦ λ there held. record { part = part; there = there; held = held }
    ] refl is

-- a slot that holds something is one of the slots
pub held-within : (entries : List (Option Entry)) (slot : ℕ) (entry : Entry) → held_at entries slot ≡ Some entry → slot < length entries
held-within [] slot entry is = absurd (none-some entry is)
held-within (held ∷ rest) zero entry is = omega arith
held-within (held ∷ rest) (suc slot) entry is = omega (arith, held-within rest slot entry is)

-- A WRITE TO ONE PART

-- of any client, once one client's part was written
pub part-set : (P : Option Part → Type 0) (parts : List Part) (client other : ℕ) (part now : Part) → slice_get parts client ≡ Some part →
    (client ≡ other → P (slice_get parts other) → P (Some now)) → P (slice_get parts other) → P (slice_get (slice_set parts client now) other)
part-set P parts client other part now there here was =
    elim (client == other) as (λ b. (client == other) ≡ b → P (slice_get (slice_set parts client now) other)) [
      | true ↦ λ is. let same : client ≡ other = eqb-true client other is in
          subst (λ c. P (slice_get (slice_set parts client now) c)) same
          (subst P (sym (slice_get-slice_set_same parts client part now there)) (here same was))
      | false ↦ λ is. subst P (sym (slice_get-slice_set_other parts client other now (eqb-false client other is))) was
    ] refl

-- what is written is told of the client
fact-set_same : {T : Type 0} (fact : Part → T) (none : T) (parts : List Part) (client : ℕ) (part now : Part) → slice_get parts client ≡ Some part →
    option_map_or fact (slice_get (slice_set parts client now) client) none ≡ fact now
fact-set_same fact none parts client part now there = ap (λ found. option_map_or fact found none) (slice_get-slice_set_same parts client part now there)

-- what the write keeps of the client is told as before
fact-set_other : {T : Type 0} (fact : Part → T) (none : T) (parts : List Part) (client other : ℕ) (part now : Part) →
    slice_get parts client ≡ Some part → (client ≡ other → fact now ≡ fact part) →
    option_map_or fact (slice_get (slice_set parts client now) other) none ≡ option_map_or fact (slice_get parts other) none
fact-set_other fact none parts client other part now there kept =
    part-set (λ found. option_map_or fact found none ≡ option_map_or fact (slice_get parts other) none) parts client other part now there
    (λ same was. kept same ∙ sym (ap (λ found. option_map_or fact found none) (sym (ap (λ c. slice_get parts c) same) ∙ there)))
    refl

-- HOW MANY TAGS AND CLIENTS THERE ARE

abbrev pub layout : Shared → ℕ × ℕ
layout state = (state.tags, length state.parts)

pub same-layout : (old new : Shared) → new.tags ≡ old.tags → length new.parts ≡ length old.parts → layout new ≡ layout old
same-layout old new tags clients = rw (tags, clients) refl

-- WHAT A STEP AT ONE PLACE LEAVES

-- as much waits for a place as before
pub record WaitsAsBefore (old new : Shared) (place : Place) : Type 0 where
  pub messages : times place new.messages ≡ times place old.messages
  pub carried : command_events place new.events ≡ command_events place old.events
  pub moved : data_events place new.events ≡ data_events place old.events
  pub sent : status_events place new.events ≡ status_events place old.events

-- one place was written, and its slot alone moved in its client's queue of ready slots
pub record IsWritten (old new : Shared) (place : Place) (entry : Option Entry) : Type 0 where
  pub part : Part
  pub now : Part
  pub there : slice_get old.parts place.client ≡ Some part
  pub within : place.slot < length part.entries
  pub tags : new.tags ≡ old.tags
  pub parts : new.parts ≡ slice_set old.parts place.client now
  pub entries : now.entries ≡ slice_set part.entries place.slot entry
  pub queue : (slot : ℕ) → (slot ≡ place.slot → ⊥) → times_in slot now.ready ≡ times_in slot part.ready
  pub others : (other : Place) → same_place place other ≡ false → WaitsAsBefore old new other

-- the entry stands where it was written
pub under-written : (old new : Shared) (place : Place) (entry : Option Entry) → IsWritten old new place entry → under new.parts place ≡ entry
under-written old new place entry written =
    rw written.parts (fact-set_same (held_in place) None old.parts place.client written.part written.now written.there
    ∙ ap (λ entries. held_at entries place.slot) written.entries ∙ get_or-set_same written.part.entries place.slot entry None written.within)

-- how often the place is ready is told by the part that was written
pub times_ready-written : (old new : Shared) (place : Place) (entry : Option Entry) (written : IsWritten old new place entry) →
    times_ready new.parts place ≡ times_in place.slot written.now.ready
times_ready-written old new place entry written =
    rw written.parts (fact-set_same (readied_in place) 0 old.parts place.client written.part written.now written.there)

-- at another place stands what stood there
pub under-other : (old new : Shared) (place other : Place) (entry : Option Entry) → IsWritten old new place entry → same_place place other ≡ false →
    under new.parts other ≡ under old.parts other
under-other old new place other entry written apart =
    let differ : place.client ≡ other.client → place.slot ≡ other.slot → ⊥ = apart_slot place other apart in
    rw written.parts (fact-set_other (held_in other) None old.parts place.client other.client written.part written.now written.there
    (λ same. ap (λ entries. held_at entries other.slot) written.entries
    ∙ get_or-set_other written.part.entries place.slot other.slot entry None (λ at. differ same (sym at))))

-- another place is as it was
matched-other : (old new : Shared) (place other : Place) (entry : Option Entry) → IsWritten old new place entry → same_place place other ≡ false →
    IsMatchedAt old other (under old.parts other) → IsMatchedAt new other (under new.parts other)
matched-other old new place other entry written apart was =
    let differ : place.client ≡ other.client → place.slot ≡ other.slot → ⊥ = apart_slot place other apart in
    let held : under new.parts other ≡ under old.parts other = under-other old new place other entry written apart in
    let readied : times_ready new.parts other ≡ times_ready old.parts other =
    rw written.parts (fact-set_other (readied_in other) 0 old.parts place.client other.client written.part written.now written.there
    (λ same. written.queue other.slot (λ at. differ same (sym at)))) in
    let waits : WaitsAsBefore old new other = written.others other apart in
    subst (λ o. IsMatchedAt new other o) (sym held) (record {
      messages = waits.messages ∙ was.messages;
      carried = waits.carried ∙ was.carried;
      moved = waits.moved ∙ was.moved;
      sent = waits.sent ∙ was.sent;
      ready = readied ∙ was.ready;
      sound = subst (λ tags. IfSome (under old.parts other) (IsMatchedEntry tags other.slot)) (sym written.tags) was.sound;
    })

-- the slots of the client that was written are as many as before
slots-written : (old new : Shared) (place : Place) (entry : Option Entry) → IsWritten old new place entry → HaveSlots old.parts → HaveSlots new.parts
slots-written old new place entry written slots client =
    rw written.parts (part-set (λ found. IfSome found (λ part. length part.entries ≡ MOST_TAGS)) old.parts place.client client written.part written.now written.there
    (λ same was. let long : length written.part.entries ≡ MOST_TAGS =
    subst (λ found. IfSome found (λ part. length part.entries ≡ MOST_TAGS)) written.there (slots place.client) in
    ap (λ entries. length entries) written.entries ∙ length-set written.part.entries place.slot entry ∙ long)
    (slots client))

-- the clients are as many as before
pub clients-written : (old new : Shared) (place : Place) (entry : Option Entry) → IsWritten old new place entry → layout new ≡ layout old
clients-written old new place entry written =
    same-layout old new written.tags (ap (λ parts. length parts) written.parts ∙ length-set old.parts place.client written.now)

-- Every place is matched, whatever of the retirement.
pub record AreMatched (state : Shared) : Type 0 where
  pub tags : AreTags state.tags
  pub slots : HaveSlots state.parts
  pub places : (place : Place) → IsMatchedAt state place (under state.parts place)

-- So it is after a step at one place, where that place is.
pub AreMatched-written : (old new : Shared) (place : Place) (entry : Option Entry) → IsWritten old new place entry → IsMatchedAt new place entry →
    AreMatched old → AreMatched new
AreMatched-written old new place entry written here all = record {
  tags = subst (λ tags. AreTags tags) (sym written.tags) all.tags;
  slots = slots-written old new place entry written all.slots;
  places = λ other.
      elim (same_place place other) as (λ b. same_place place other ≡ b → IsMatchedAt new other (under new.parts other)) [
        | true ↦ λ is. subst (λ at. IsMatchedAt new at (under new.parts at)) (same_place-true place other is)
            (subst (λ held. IsMatchedAt new place held) (sym (under-written old new place entry written)) here)
        | false ↦ λ is. matched-other old new place other entry written is (all.places other)
      ] refl;
}

-- and after a step that writes no place
pub AreMatched-same : (old new : Shared) → new.tags ≡ old.tags → new.parts ≡ old.parts → ((place : Place) → WaitsAsBefore old new place) → AreMatched old → AreMatched new
AreMatched-same old new tags parts waits all = record {
  tags = subst (λ count. AreTags count) (sym tags) all.tags;
  slots = subst (λ ps. HaveSlots ps) (sym parts) all.slots;
  places = λ place. subst (λ held. IsMatchedAt new place held) (sym (ap (λ ps. under ps place) parts)) (record {
    messages = (waits place).messages ∙ (all.places place).messages;
    carried = (waits place).carried ∙ (all.places place).carried;
    moved = (waits place).moved ∙ (all.places place).moved;
    sent = (waits place).sent ∙ (all.places place).sent;
    ready = ap (λ ps. times_ready ps place) parts ∙ (all.places place).ready;
    sound = subst (λ count. IfSome (under old.parts place) (IsMatchedEntry count place.slot)) (sym tags) (all.places place).sound;
  });
}

-- A MATCHED STATE BUT FOR THE ORDER OF ITS REQUESTS, which Ordered shows

pub record IsCounted (state : Shared) : Type 0 where
  pub matched : AreMatched state
  pub retired : retired_places state.events ≡ answered_places state.retirement
  pub retiring : IfSome state.retirement (IsRetiring state)
  pub flows : (pipe : Pipe) (place : Place) → FlowsAt state pipe place

pub counted-of : (state : Shared) → IsMatched state → IsCounted state
counted-of state all =
    record { matched = record { tags = all.tags; slots = all.slots; places = all.places }; retired = all.retired; retiring = all.retiring; flows = all.flows }

pub matched-of : (state : Shared) → IsCounted state → IsOrdered state → IsMatched state
matched-of state all ordered =
    record { tags = all.matched.tags; slots = all.matched.slots; places = all.matched.places; retired = all.retired; retiring = all.retiring; flows = all.flows; ordered = ordered }
