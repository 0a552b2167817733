-- The TRBs of waiting events: over appended lists, and in two worlds where what each event reads is the same.
use Rattle.std.proofs.Common.{◌≡◌, ℕ, suc, ◌+◌, ◌-◌, ◌*◌, ◌%◌, ◌<◌, ◌≤◌, true, false, List, [], ◌∷◌, ◌++◌, length, Some, IfSome, refl, arith, ap, sym, subst, ◌∙◌}
use Rattle.std.specs.Prelude.{slice_get}
use Rattle.std.proofs.lemmas.Bool.{false≢true}
use Rattle.event_ring.specs.declared.Event.{Event}
use Rattle.event_ring.specs.declared.Event.TheVariants.{Transfer}
use Rattle.cycle_ring.specs.Ring.{pointer_of}
use Rattle.uas_profile.specs.declared.TheConstants.{COMMAND_RING_PLACES, SLOT, SUCCESS}
use Rattle.uas_profile.specs.declared.Pipe.TheVariants.{Command}
use Rattle.stream_array.specs.Rings.{stream_ring}
use Rattle.frame_store.specs.Buffers.{held_for}
use Rattle.uas_profile.specs.declared.Place.{Place}
use Rattle.uas_profile.specs.Tags.{tag_of}
use Rattle.xhci_ctl.specs.Steps.{endpoint_of}
use Rattle.shared_machine.specs.declared.Completion.{Completion}
use Rattle.shared_machine.specs.declared.Completion.TheVariants.{CommandDone, DataDone, StatusDone, EngineDone}
use Rattle.shared_machine.specs.Part.{event_place}
use Rattle.shared_machine.specs.Shared.{Shared}
use Rattle.shared_machine.specs.Soundness.{one_if}
use Rattle.machine_invariant.specs.Matched.{same_place, carried_places, data_events, status_events, IsMatched, IsOwnEvent, IsRetiring}
use Rattle.bus_core.specs.World.{World, Cell, cell_at}
use Rattle.bus_core.specs.Fits.{data_event, engine_event, status_event, event_texts}
pub use Rattle.bus_core.proofs.common.Framing.{KeepsOthers}
use Rattle.machine_invariant.proofs.MatchedPlaces.{same_place-true, same_place-self}
use Rattle.machine_invariant.proofs.MatchedBounds.{held-place}
use Rattle.machine_invariant.proofs.MatchedNext.{matched-no_stray}
use Rattle.uas_profile.proofs.TagLaws.{tags-apart as places-apart}

-- APPENDED LISTS

pub carried_places-append : (events more : List Completion) → carried_places (events ++ more) ≡ carried_places events ++ carried_places more
carried_places-append [] more = refl
carried_places-append (CommandDone place ∷ rest) more = ap (λ ps. place ∷ ps) (carried_places-append rest more)
carried_places-append (DataDone place ∷ rest) more = carried_places-append rest more
carried_places-append (StatusDone place ∷ rest) more = carried_places-append rest more
carried_places-append (EngineDone place ∷ rest) more = carried_places-append rest more

-- the text of a command event
abbrev pub command_event : World → ℕ → Event
command_event world k = Transfer (pointer_of COMMAND_RING_PLACES world.lines.command k) 0 SUCCESS (endpoint_of Command) SLOT

plus_none : (k : ℕ) → k ≡ k + 0
plus_none k = omega arith

pub event_texts-append : (tags : ℕ) (world : World) (k : ℕ) (events more : List Completion) →
    event_texts tags world k (events ++ more) ≡ event_texts tags world k events ++ event_texts tags world (k + length (carried_places events)) more
event_texts-append tags world k [] more = ap (λ n. event_texts tags world n more) (plus_none k)
event_texts-append tags world k (CommandDone place ∷ rest) more =
    let same : suc k + length (carried_places rest) ≡ k + suc (length (carried_places rest)) = omega arith in
    ap (λ es. command_event world k ∷ es)
    (event_texts-append tags world (suc k) rest more ∙ ap (λ n. event_texts tags world (suc k) rest ++ event_texts tags world n more) same)
event_texts-append tags world k (DataDone place ∷ rest) more =
    ap (λ es. data_event (stream_ring world.lines.data_in (tag_of tags place)) (stream_ring world.lines.data_out (tag_of tags place)) ∷ es)
    (event_texts-append tags world k rest more)
event_texts-append tags world k (StatusDone place ∷ rest) more =
    ap (λ es. status_event tags place.slot (stream_ring world.lines.status (tag_of tags place)) (held_for world.frames (tag_of tags place)).status ∷ es)
    (event_texts-append tags world k rest more)
event_texts-append tags world k (EngineDone place ∷ rest) more = ap (λ es. engine_event world.lines.engine ∷ es) (event_texts-append tags world k rest more)

-- WHAT EACH EVENT READS IS THE SAME

-- what the text of an event reads beside the command ring
abbrev pub ReadsSame : ℕ → World → World → Completion → Type 0
ReadsSame tags before after (CommandDone place) = Unit {0}
ReadsSame tags before after (DataDone place) =
    ((cell_at tags after place).data_in ≡ (cell_at tags before place).data_in) × ((cell_at tags after place).data_out ≡ (cell_at tags before place).data_out)
ReadsSame tags before after (StatusDone place) =
    ((cell_at tags after place).status ≡ (cell_at tags before place).status) × ((cell_at tags after place).buffers.status ≡ (cell_at tags before place).buffers.status)
ReadsSame tags before after (EngineDone place) = after.lines.engine ≡ before.lines.engine

abbrev pub AllReadSame : ℕ → World → World → List Completion → Type 0
AllReadSame tags before after [] = Unit {0}
AllReadSame tags before after (event ∷ rest) = ReadsSame tags before after event × AllReadSame tags before after rest

-- the command ring's TRBs lie as they lay, but for so many that were freed
abbrev pub IsShiftedBy : ℕ → World → World → Type 0
IsShiftedBy m before after = (i : ℕ) → pointer_of COMMAND_RING_PLACES after.lines.command i ≡ pointer_of COMMAND_RING_PLACES before.lines.command (m + i)

pub event_texts-shifted : (tags : ℕ) (before after : World) (m k : ℕ) (events : List Completion) → IsShiftedBy m before after → AllReadSame tags before after events
    → event_texts tags after k events ≡ event_texts tags before (m + k) events
event_texts-shifted tags before after m k [] shifts same = refl
event_texts-shifted tags before after m k (CommandDone place ∷ rest) shifts same =
    let next : m + suc k ≡ suc (m + k) = omega arith in
    ap (λ p. Transfer p 0 SUCCESS (endpoint_of Command) SLOT ∷ event_texts tags after (suc k) rest) (shifts k)
    ∙ ap (λ es. command_event before (m + k) ∷ es)
    (event_texts-shifted tags before after m (suc k) rest shifts same.1 ∙ ap (λ n. event_texts tags before n rest) next)
event_texts-shifted tags before after m k (DataDone place ∷ rest) shifts same =
    ap (λ ring. data_event ring (cell_at tags after place).data_out ∷ event_texts tags after k rest) same.0.0
    ∙ ap (λ ring. data_event (cell_at tags before place).data_in ring ∷ event_texts tags after k rest) same.0.1
    ∙ ap (λ es. data_event (cell_at tags before place).data_in (cell_at tags before place).data_out ∷ es) (event_texts-shifted tags before after m k rest shifts same.1)
event_texts-shifted tags before after m k (StatusDone place ∷ rest) shifts same =
    ap (λ ring. status_event tags place.slot ring (cell_at tags after place).buffers.status ∷ event_texts tags after k rest) same.0.0
    ∙ ap (λ bytes. status_event tags place.slot (cell_at tags before place).status bytes ∷ event_texts tags after k rest) same.0.1
    ∙ ap (λ es. status_event tags place.slot (cell_at tags before place).status (cell_at tags before place).buffers.status ∷ es)
    (event_texts-shifted tags before after m k rest shifts same.1)
event_texts-shifted tags before after m k (EngineDone place ∷ rest) shifts same =
    ap (λ ring. engine_event ring ∷ event_texts tags after k rest) same.0
    ∙ ap (λ es. engine_event before.lines.engine ∷ es) (event_texts-shifted tags before after m k rest shifts same.1)

-- the command ring lies where it lay
abbrev pub LiesSame : World → World → Type 0
LiesSame before after = (after.lines.command.base ≡ before.lines.command.base) × (after.lines.command.at ≡ before.lines.command.at)

lies-shifted : (before after : World) → LiesSame before after → IsShiftedBy 0 before after
lies-shifted before after lies i =
    let same : i ≡ 0 + i = omega arith in
    ap (λ b. b + 16 * ((after.lines.command.at + i) % (COMMAND_RING_PLACES - 1))) lies.0
    ∙ ap (λ a. before.lines.command.base + 16 * ((a + i) % (COMMAND_RING_PLACES - 1))) lies.1
    ∙ ap (pointer_of COMMAND_RING_PLACES before.lines.command) same

pub event_texts-kept : (tags : ℕ) (before after : World) (k : ℕ) (events : List Completion) → LiesSame before after → AllReadSame tags before after events
    → event_texts tags after k events ≡ event_texts tags before k events
event_texts-kept tags before after k events lies same =
    let it : 0 + k ≡ k = omega arith in
    event_texts-shifted tags before after 0 k events (lies-shifted before after lies) same ∙ ap (λ n. event_texts tags before n events) it

-- ONE CELL CHANGES

-- all events are of slots that are there
abbrev pub AreWithin : ℕ → List Completion → Type 0
AreWithin tags [] = Unit {0}
AreWithin tags (event ∷ rest) = ((event_place event).slot < tags) × AreWithin tags rest

within-all : (tags : ℕ) (events : List Completion) → ((at : ℕ) (event : Completion) → slice_get events at ≡ Some event → (event_place event).slot < tags)
    → AreWithin tags events
within-all tags [] each = tt
within-all tags (event ∷ rest) each = (each 0 event refl, within-all tags rest (λ at other is. each (suc at) other is))

-- the place of an event that waits has its slot
pub event-within : (state : Shared) (event : Completion) → IsMatched state → IsOwnEvent state event → (event_place event).slot < state.tags
event-within state (CommandDone place) all own = (held-place state place own.entry all own.held).slot
event-within state (DataDone place) all own = (held-place state place own.entry all own.held).slot
event-within state (StatusDone place) all own = (held-place state place own.entry all own.held).slot
event-within state (EngineDone place) all own =
    subst (λ (p : Place). p.slot < state.tags) own.place_same (subst (λ o. IfSome o (IsRetiring state)) own.under_way all.retiring).there.slot

pub events-within : (state : Shared) → IsMatched state → AreWithin state.tags state.events
events-within state all = within-all state.tags state.events (λ at event is. event-within state event all ((matched-no_stray state all).events at event is))

-- other places have other tags
pub other-tags : (tags : ℕ) (place other : Place) → place.slot < tags → other.slot < tags → same_place place other ≡ false → tag_of tags place ≡ tag_of tags other → ⊥
other-tags tags place other within there apart same =
    let one : place ≡ other = places-apart tags place other within there same in
    false≢true (sym apart ∙ ap (λ p. same_place p other) one ∙ same_place-self other)

-- where a data event of the place waits its data rings are the same, and where a status event waits its status ring and buffer are
abbrev pub KeepsData : ℕ → World → World → Place → List Completion → Type 0
KeepsData tags before after place events = 1 ≤ data_events place events → ReadsSame tags before after (DataDone place)

abbrev pub KeepsStatus : ℕ → World → World → Place → List Completion → Type 0
KeepsStatus tags before after place events = 1 ≤ status_events place events → ReadsSame tags before after (StatusDone place)

-- what an event reads is the same at another place, whose cell is the same, and at this one where it was kept
event-reads : (tags : ℕ) (before after : World) (event : Place → Completion) (place other : Place) → place.slot < tags → other.slot < tags → KeepsOthers tags before after place
    → (cell_at tags after other ≡ cell_at tags before other → ReadsSame tags before after (event other))
    → (one_if (same_place other place) ≡ 1 → ReadsSame tags before after (event place)) → ReadsSame tags before after (event other)
event-reads tags before after event place other within there others same_cell kept =
    elim (same_place other place) as (λ b. same_place other place ≡ b → ReadsSame tags before after (event other)) [
      | true ↦ λ is. subst (λ p. ReadsSame tags before after (event p)) (sym (same_place-true other place is)) (kept (ap one_if is))
      | false ↦ λ is. same_cell (others other.client other.slot there (other-tags tags other place there within is))
    ] refl

data-reads : (tags : ℕ) (before after : World) (place other : Place) (rest : List Completion) → place.slot < tags → other.slot < tags → KeepsOthers tags before after place
    → KeepsData tags before after place (DataDone other ∷ rest) → ReadsSame tags before after (DataDone other)
data-reads tags before after place other rest within there others data_kept =
    event-reads tags before after DataDone place other within there others
    (λ same. (ap (λ (c : Cell). c.data_in) same, ap (λ (c : Cell). c.data_out) same)) (λ one. data_kept (omega arith))

status-reads : (tags : ℕ) (before after : World) (place other : Place) (rest : List Completion) → place.slot < tags → other.slot < tags → KeepsOthers tags before after place
    → KeepsStatus tags before after place (StatusDone other ∷ rest) → ReadsSame tags before after (StatusDone other)
status-reads tags before after place other rest within there others status_kept =
    event-reads tags before after StatusDone place other within there others
    (λ same. (ap (λ (c : Cell). c.status) same, ap (λ (c : Cell). c.buffers.status) same)) (λ one. status_kept (omega arith))

-- The handy form. Where no such event waits write `λ some. absurd (omega (arith, some, none))`, and where the cell has
-- what it reads `λ some. (refl, refl)`.
pub one-reads : (tags : ℕ) (before after : World) (place : Place) (events : List Completion) → place.slot < tags → AreWithin tags events
    → after.lines.engine ≡ before.lines.engine → KeepsOthers tags before after place → KeepsData tags before after place events → KeepsStatus tags before after place events
    → AllReadSame tags before after events
one-reads tags before after place [] within there engine others data_kept status_kept = tt
one-reads tags before after place (CommandDone other ∷ rest) within there engine others data_kept status_kept =
    (tt, one-reads tags before after place rest within there.1 engine others data_kept status_kept)
one-reads tags before after place (DataDone other ∷ rest) within there engine others data_kept status_kept = (
  data-reads tags before after place other rest within there.0 others data_kept,
  one-reads tags before after place rest within there.1 engine others (λ some. data_kept (omega (arith, some))) status_kept,
)
one-reads tags before after place (StatusDone other ∷ rest) within there engine others data_kept status_kept = (
  status-reads tags before after place other rest within there.0 others status_kept,
  one-reads tags before after place rest within there.1 engine others data_kept (λ some. status_kept (omega (arith, some))),
)
one-reads tags before after place (EngineDone other ∷ rest) within there engine others data_kept status_kept =
    (engine, one-reads tags before after place rest within there.1 engine others data_kept status_kept)

-- no event of the place waits that reads what changed, and the command ring lies where it lay: the texts are the same
pub event_texts-one : (state : Shared) (before after : World) (place : Place) (k : ℕ) → IsMatched state → place.slot < state.tags → LiesSame before after
    → after.lines.engine ≡ before.lines.engine → KeepsOthers state.tags before after place → KeepsData state.tags before after place state.events
    → KeepsStatus state.tags before after place state.events
    → event_texts state.tags after k state.events ≡ event_texts state.tags before k state.events
event_texts-one state before after place k all within lies engine others data_kept status_kept =
    event_texts-kept state.tags before after k state.events lies
    (one-reads state.tags before after place state.events within (events-within state all) engine others data_kept status_kept)
