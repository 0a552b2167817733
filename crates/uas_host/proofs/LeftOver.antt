-- The marks of clients: what sets and keeps them, and what they tell of the TDs that are left over. The answers of each call that
-- changes a host's clients cite the first part, those of next_left_over the last.
use Rattle.std.proofs.Common.{◌≡◌, ℕ, zero, suc, ◌+◌, ◌*◌, ◌<◌, ◌≤◌, ◌⊎◌, Bool, true, false, List, [], ◌∷◌, length, length-set, replicate}
use Rattle.std.proofs.Common.{Option, Some, None, IfSome, MatchOption, refl, arith, sym, ap, ◌∙◌, inl, inr}
use Rattle.std.specs.Prelude.{◌==◌, ◌&&◌, ◌||◌, not, nat_lt, option_and_then, option_map, cond, slice_set, slice_index_or, if◌then◌else◌}
use Rattle.std.specs.Option.{option_map_or}
use Rattle.std.proofs.lemmas.Bool.{cases_eq, cases_Bool, ltb-true, ltb-false}
use Rattle.std.proofs.lemmas.Bool.Decides.{leb_tells}
use Rattle.std.proofs.lemmas.Nat.{mul-le}
use Rattle.std.proofs.lemmas.List.{get_or-set_same, get_or-set_other}
use Rattle.uas_profile.specs.declared.Pipe.{Pipe}
use Rattle.uas_profile.specs.declared.Pipe.TheVariants.{Command, Status, DataIn, DataOut}
use Rattle.scsi_cmd.specs.Held.{held_at}
use Rattle.uas_profile.specs.declared.TdState.{TdState}
use Rattle.uas_profile.specs.declared.TdState.TheVariants.{Pending, Seen}
use Rattle.uas_host.specs.declared.HostAnswer.TheVariants.{Status as AnsweredStatus, Response as AnsweredResponse}
use Rattle.uas_profile.specs.declared.Place.{Place}
use Rattle.scsi_cmd.specs.declared.Op.{Op}
use Rattle.scsi_cmd.specs.Op.{moved_bytes}
use Rattle.scsi_cmd.specs.declared.Task.{Task}
use Rattle.uas_profile.specs.declared.TheConstants.{MOST_TAGS}
use Rattle.uas_profile.specs.Tags.{place_of, tag_of, task_slot}
use Rattle.uas_profile.specs.TagLaws.{IsNamed}
use Rattle.uas_profile.proofs.TagLaws.{named-is_place, place-is_named, tags-within, unnamed-is_above}
use Rattle.uas_host.specs.declared.HostEntry.{HostEntry}
use Rattle.uas_host.specs.declared.HostClient.{HostClient}
use Rattle.uas_host.specs.Notices.{Notice, CommandSeen, DataInSeen, DataOutSeen, Answered, Responded, TdRetired}
use Rattle.uas_profile.specs.TdStates.{is_left_over, is_pending}
use Rattle.uas_host.specs.State.{HostState, client_of, new_client, with_client}
use Rattle.uas_host.specs.Submit.{data_td_for, new_entry, noted, submitted_client}
use Rattle.uas_host.specs.Tasks.{managed, managed_client, noted_by, task_entry}
use Rattle.uas_host.specs.Replies.{without}
use Rattle.uas_host.specs.Seen.{after_response, completes, data_after, left_over_data, ended_in, goes_to_device, goes_to_host, is_td_left_over}
use Rattle.scsi_cmd.specs.Request.{is_command, request_direction}
use Rattle.uas_host.specs.Seen.{seen, seen_data, with_seen}
use Rattle.marks.specs.Marks.{is_marked}
use Rattle.uas_host.specs.Left.{AreMarked, has_left_over, have_left_over, holds_left_over, is_held_left_over, moves_left_over}
use Rattle.uas_host.specs.Retirement.{is_left_over_on}
use Rattle.uas_host.proofs.Seeing.{HasSeen}

-- ENTRIES

or_right : (a b : Bool) → b ≡ true → (a || b) ≡ true
or_right true b is = refl
or_right false b is = is

or_left : (a b : Bool) → a ≡ true → (a || b) ≡ true
or_left true b is = refl
or_left false b is = absurd (cc)

-- one of two, of which the second is none
or_first : (a b : Bool) → (a || false) ≡ true → (a || b) ≡ true
or_first true b is = refl
or_first false b is = absurd (cc)

and_second : (a b : Bool) → (a && b) ≡ true → b ≡ true
and_second true b is = is
and_second false b is = absurd (cc)

-- a TD on a pipe is one of the entry's
pipe-left_over : (pipe : Pipe) (held : HostEntry) → is_td_left_over pipe held ≡ true → has_left_over held ≡ true
pipe-left_over Command held is = absurd (cc)
pipe-left_over Status held is = or_left (is_left_over held.status_td) (option_map_or is_left_over held.data_td false) is
pipe-left_over DataIn held is = or_right (is_left_over held.status_td) (option_map_or is_left_over held.data_td false)
    (and_second (goes_to_host (request_direction held.request)) (option_map_or is_left_over held.data_td false) is)
pipe-left_over DataOut held is = or_right (is_left_over held.status_td) (option_map_or is_left_over held.data_td false)
    (and_second (goes_to_device (request_direction held.request)) (option_map_or is_left_over held.data_td false) is)

pipe-held : (pipe : Pipe) (held : Option HostEntry) → is_held_left_over pipe held ≡ true → holds_left_over held ≡ true
pipe-held pipe None is = absurd (cc)
pipe-held pipe (Some held) is = pipe-left_over pipe held is

-- what is left over of the second was so of the first
abbrev LeavesNoMore : HostEntry → HostEntry → Type 0
LeavesNoMore held now = has_left_over now ≡ true → has_left_over held ≡ true

where_so : (test : Bool) (held now : HostEntry) → LeavesNoMore held now → IfSome (cond test (Some now) None) (LeavesNoMore held)
where_so true held now less = less
where_so false held now less = tt

data-no_more : (right : Bool) (held : HostEntry) (td : Option TdState) → IfSome (seen_data right held td) (LeavesNoMore held)
data-no_more right held None = tt
data-no_more right held (Some td) = where_so (right && is_pending td) held (record held { data_td = Some Seen })
    (λ is. or_first (is_left_over held.status_td) (option_map_or is_left_over held.data_td false) is)

-- the answer came, and its data TD is as it was
answered-no_more : (held : HostEntry) (status : ℕ) → (status == 2) ≡ false → (option_map_or is_left_over (data_after status held.data_td) false) ≡ true →
    has_left_over held ≡ true
answered-no_more held status still is =
    let same : data_after status held.data_td ≡ held.data_td = ap (λ b. cond b (left_over_data held.data_td) held.data_td) still in
    or_right (is_left_over held.status_td) (option_map_or is_left_over held.data_td false) (sym (ap (λ td. option_map_or is_left_over td false) same) ∙ is)

pub seen-no_more : (notice : Notice) (held : HostEntry) → moves_left_over notice ≡ false → IfSome (seen notice held) (LeavesNoMore held)
seen-no_more CommandSeen held still = where_so (is_pending held.command_td) held (record held { command_td = Seen }) (λ is. is)
seen-no_more DataInSeen held still = data-no_more (goes_to_host (request_direction held.request)) held held.data_td
seen-no_more DataOutSeen held still = data-no_more (goes_to_device (request_direction held.request)) held held.data_td
seen-no_more (Answered status sense) held still = where_so (is_command held.request && is_pending held.status_td) held
    (record held { told = AnsweredStatus status sense; status_td = Seen; data_td = data_after status held.data_td }) (answered-no_more held status still)
seen-no_more (Responded code) held still = where_so (not (is_command held.request) && is_pending held.status_td) held
    (record held { told = AnsweredResponse code; status_td = Seen }) (or_right (is_left_over held.status_td) (option_map_or is_left_over held.data_td false))
seen-no_more (TdRetired pipe) held still = absurd (cc)

-- CLIENTS

-- what is left over of the second client's entries was so of the first's
abbrev pub LeavesNoMoreIn : List (Option HostEntry) → List (Option HostEntry) → Type 0
LeavesNoMoreIn entries now = (slot : ℕ) → holds_left_over (held_at now slot) ≡ true → holds_left_over (held_at entries slot) ≡ true

pub held-set : (entries : List (Option HostEntry)) (slot : ℕ) (now : Option HostEntry) →
    (holds_left_over now ≡ true → holds_left_over (held_at entries slot) ≡ true) → LeavesNoMoreIn entries (slice_set entries slot now)
held-set [] slot now here other is = is
held-set (held ∷ rest) zero now here zero is = here is
held-set (held ∷ rest) zero now here (suc other) is = is
held-set (held ∷ rest) (suc slot) now here zero is = is
held-set (held ∷ rest) (suc slot) now here (suc other) is = held-set rest slot now here other is

still-incomplete : (notice : Notice) → moves_left_over notice ≡ false → completes notice ≡ false
still-incomplete CommandSeen still = refl
still-incomplete DataInSeen still = refl
still-incomplete DataOutSeen still = refl
still-incomplete (Answered status sense) still = refl
still-incomplete (Responded code) still = still
still-incomplete (TdRetired pipe) still = refl

with_seen-no_more : (notice : Notice) (client : HostClient) (slot : ℕ) (held now : HostEntry) → moves_left_over notice ≡ false →
    held_at client.entries slot ≡ Some held →
    LeavesNoMore held now → LeavesNoMoreIn client.entries (with_seen notice client slot now).entries
with_seen-no_more notice client slot held now still is less =
    let so : (with_seen notice client slot now).entries ≡ slice_set client.entries slot (Some now) =
    ap (λ b. cond b (after_response (ended_in now.request) (slice_set client.entries slot (Some now))) (slice_set client.entries slot (Some now)))
    (still-incomplete notice still) in
    rw so (held-set client.entries slot (Some now) (rw is less))

-- an event that can't change which TDs are left over
pub has_seen-no_more : (notice : Notice) (client : HostClient) (slot : ℕ) (now : HostClient) (saw : Bool) → moves_left_over notice ≡ false →
    HasSeen notice client slot now saw → LeavesNoMoreIn client.entries now.entries
has_seen-no_more notice client slot now saw still seen_so =
    elim (held_at client.entries slot) as (λ o. held_at client.entries slot ≡ o →
    MatchOption (option_map (with_seen notice client slot) (option_and_then (seen notice) o)) ((saw ≡ false) × (now ≡ client))
    (λ after. (saw ≡ true) × (now ≡ after)) →
    LeavesNoMoreIn client.entries now.entries) [
      | None ↦ λ is same. rw same.1 (λ slot is. is)
      | Some held ↦ λ is.
          elim (seen notice held) as (λ o. IfSome o (LeavesNoMore held) →
          MatchOption (option_map (with_seen notice client slot) o) ((saw ≡ false) × (now ≡ client)) (λ after. (saw ≡ true) × (now ≡ after)) →
          LeavesNoMoreIn client.entries now.entries) [
            | None ↦ λ none same. rw same.1 (λ slot is. is)
            | Some after ↦ λ less same. rw same.1 (with_seen-no_more notice client slot held after still is less)
          ] (seen-no_more notice held still)
    ] refl seen_so

any-at : (entries : List (Option HostEntry)) (slot : ℕ) → holds_left_over (held_at entries slot) ≡ true → have_left_over entries ≡ true
any-at [] slot is = absurd (cc)
any-at (held ∷ rest) zero is = or_left (holds_left_over held) (have_left_over rest) is
any-at (held ∷ rest) (suc slot) is = or_right (holds_left_over held) (have_left_over rest) (any-at rest slot is)

-- MARKS

-- no client of a new host is marked, and none has anything left over
pub AreMarked-none : (words : List ℕ) (clients : ℕ) → ((client : ℕ) → is_marked words client ≡ false) → AreMarked words (replicate clients new_client)
AreMarked-none words clients none = record {
  there = λ client is. let no : true ≡ false = sym is ∙ none client in absurd (cc);
  left_over = λ client slot within is.
      let here : ◌≡◌ {A = Bool} false true = sym (none-held clients client slot) ∙ is in absurd (cc);
}
  where
    none-at : (count slot : ℕ) → holds_left_over (held_at (replicate count None) slot) ≡ false
    none-at zero slot = refl
    none-at (suc count) zero = refl
    none-at (suc count) (suc slot) = none-at count slot

    none-held : (clients client slot : ℕ) → holds_left_over (held_at (slice_index_or (replicate clients new_client) client new_client).entries slot) ≡ false
    none-held zero client slot = none-at MOST_TAGS slot
    none-held (suc clients) zero slot = none-at MOST_TAGS slot
    none-held (suc clients) (suc client) slot = none-held clients client slot

-- a client changes, and it is marked exactly where a TD of it is left over; or no more of it is left over, and its mark stays
pub AreMarked-settled : (words after : List ℕ) (clients : List HostClient) (client : ℕ) (now : HostClient) (changed : Bool) → client < length clients →
    AreMarked words clients → is_marked after client ≡ (if changed then have_left_over now.entries else is_marked words client) →
    ((other : ℕ) → (other ≡ client → ⊥) → is_marked after other ≡ is_marked words other) →
    (changed ≡ false → LeavesNoMoreIn (slice_index_or clients client new_client).entries now.entries) → AreMarked after (slice_set clients client now)
AreMarked-settled words after clients client now changed there are here others less = record {
  there = λ other is.
      elim (cases_eq other client) as (λ _. other < length (slice_set clients client now)) [
        | inl same ↦ omega (arith, same, there, length-set clients client now)
        | inr apart ↦ let inside = are.there other (sym (others other apart) ∙ is) in omega (arith, inside, length-set clients client now)
      ];
  left_over = λ other slot within is.
      let inside : other < length clients = omega (arith, within, length-set clients client now) in
      elim (cases_eq other client) as (λ _. is_marked after other ≡ true) [
        | inl same ↦
            let held : holds_left_over (held_at now.entries slot) ≡ true =
            sym (ap (λ (c : HostClient). holds_left_over (held_at c.entries slot)) (get_or-set_same clients client now new_client there))
            ∙ (sym (ap (λ n. holds_left_over (held_at (slice_index_or (slice_set clients client now) n new_client).entries slot)) same) ∙ is) in
            ap (is_marked after) same ∙ (here ∙ marked-here slot changed held less)
        | inr apart ↦
            others other apart
            ∙ are.left_over other slot inside
            (sym (ap (λ (c : HostClient). holds_left_over (held_at c.entries slot)) (get_or-set_other clients client other now new_client apart)) ∙ is)
      ];
}
  where
    marked-here : (slot : ℕ) (changed : Bool) → holds_left_over (held_at now.entries slot) ≡ true →
        (changed ≡ false → LeavesNoMoreIn (slice_index_or clients client new_client).entries now.entries) →
        (if changed then have_left_over now.entries else is_marked words client) ≡ true
    marked-here slot true held less = any-at now.entries slot held
    marked-here slot false held less = are.left_over client slot there (less refl slot held)

-- the marks stay, where no more is left over
pub AreMarked-kept : (words : List ℕ) (clients : List HostClient) (client : ℕ) (now : HostClient) → client < length clients →
    AreMarked words clients → LeavesNoMoreIn (slice_index_or clients client new_client).entries now.entries → AreMarked words (slice_set clients client now)
AreMarked-kept words clients client now there are less =
    AreMarked-settled words words clients client now false there are refl (λ other apart. refl) (λ still. less)

-- the data TD of a command that was just submitted isn't left over
data_td-none : (bytes : ℕ) → option_map_or is_left_over (data_td_for bytes) false ≡ false
data_td-none bytes = elim (bytes == 0) as (λ b. option_map_or is_left_over (cond b None (Some Pending)) false ≡ false) [ true ↦ refl | false ↦ refl ]

-- a command that was just submitted has no TD that is left over
pub AreMarked-noted : (words : List ℕ) (host : HostState) (client slot ticket : ℕ) (op : Op) → client < length host.clients →
    AreMarked words host.clients →
    AreMarked words (noted host client slot ticket op).clients
AreMarked-noted words host client slot ticket op there are =
    AreMarked-kept words host.clients client (submitted_client (client_of host client) slot ticket op) there are
    (held-set (client_of host client).entries slot (Some (new_entry ticket op))
    (λ left. let no : true ≡ false = sym left ∙ data_td-none (moved_bytes op) in absurd (cc)))

-- nor has a task management
pub AreMarked-managed : (words : List ℕ) (host : HostState) (client ticket : ℕ) (task : Task) → client < length host.clients →
    AreMarked words host.clients →
    AreMarked words (managed host client ticket task).clients
AreMarked-managed words host client ticket task there are =
    AreMarked-kept words host.clients client (managed_client host.tags (client_of host client) ticket task) there are
    (held-set (client_of host client).entries (task_slot host.tags)
    (Some (task_entry ticket task (record { items = noted_by host.tags (client_of host client) task })))
    (λ left. absurd (cc)))

-- nor what is gone
pub AreMarked-released : (words : List ℕ) (host : HostState) (client slot : ℕ) (queue : List ℕ) → client < length host.clients →
    AreMarked words host.clients →
    AreMarked words (with_client host client (without (client_of host client) slot queue)).clients
AreMarked-released words host client slot queue there are =
    AreMarked-kept words host.clients client (without (client_of host client) slot queue) there are
    (held-set (client_of host client).entries slot None (λ left. absurd (cc)))

-- an event of a client was seen, or it waits for no such event
pub AreMarked-seen : (words after : List ℕ) (notice : Notice) (host : HostState) (client slot : ℕ) (now : HostClient) (saw : Bool)
    → client < length host.clients →
    AreMarked words host.clients → HasSeen notice (client_of host client) slot now saw →
    is_marked after client ≡ (if moves_left_over notice then have_left_over now.entries else is_marked words client) →
    ((other : ℕ) → (other ≡ client → ⊥) → is_marked after other ≡ is_marked words other) → AreMarked after (with_client host client now).clients
AreMarked-seen words after notice host client slot now saw there are seen_so here others =
    AreMarked-settled words after host.clients client now (moves_left_over notice) there are here others
    (λ still. has_seen-no_more notice (client_of host client) slot now saw still seen_so)

-- THE NEXT TD THAT IS LEFT OVER

-- what is under the tag of a place
under-place : (host : HostState) (pipe : Pipe) (tag : ℕ) (place : Place) → place_of host.tags (length host.clients) tag ≡ Some place →
    is_left_over_on host pipe tag ≡ is_held_left_over pipe (held_at (client_of host place.client).entries place.slot)
under-place host pipe tag place is = ap (λ at. option_map_or (is_td_left_over pipe)
    (option_and_then (λ (p : Place). held_at (client_of host p.client).entries p.slot) at) false) is

-- nothing is under a tag that names none
under-none : (host : HostState) (pipe : Pipe) (tag : ℕ) → place_of host.tags (length host.clients) tag ≡ None → is_left_over_on host pipe tag ≡ false
under-none host pipe tag is = ap (λ at. option_map_or (is_td_left_over pipe)
    (option_and_then (λ (p : Place). held_at (client_of host p.client).entries p.slot) at) false) is

-- the TD of a slot of a client that is there
pub left_over-found : (host : HostState) (pipe : Pipe) (place : Place) (tag : ℕ) → place.client < length host.clients → place.slot < host.tags →
    tag ≡ tag_of host.tags place → is_held_left_over pipe (held_at (client_of host place.client).entries place.slot) ≡ true →
    is_left_over_on host pipe tag ≡ true
left_over-found host pipe place tag there within is left =
    under-place host pipe tag place (ap (place_of host.tags (length host.clients)) is ∙ place-is_named host.tags (length host.clients) place there within)
    ∙ left

-- the TD of a place of a client that isn't marked
unmarked-none : (words : List ℕ) (host : HostState) (pipe : Pipe) (place : Place) → AreMarked words host.clients → place.client < length host.clients →
    is_marked words place.client ≡ false → is_held_left_over pipe (held_at (client_of host place.client).entries place.slot) ≡ false
unmarked-none words host pipe place are there unmarked =
    elim (cases_Bool (is_held_left_over pipe (held_at (client_of host place.client).entries place.slot))) as
    (λ _. is_held_left_over pipe (held_at (client_of host place.client).entries place.slot) ≡ false) [
      | inl left ↦
          let marked =
          are.left_over place.client place.slot there (pipe-held pipe (held_at (client_of host place.client).entries place.slot) left) in
          let no : true ≡ false = sym marked ∙ unmarked in absurd (cc)
      | inr none ↦ none
    ]

-- the tags of a client come before those of a later one
pub earlier-client : (tags client later upto slot : ℕ) → upto ≤ tags → client < later → client * tags + upto ≤ later * tags + slot
earlier-client tags client later upto slot most before =
    let next : suc client * tags ≡ client * tags + tags = omega arith in
    omega (arith, most, next, mul-le (suc client) tags later tags before (omega arith))

-- the first slot of a client from a place on: that of the place where it is of the client, and else 0
abbrev pub IsFirst : Place → ℕ → ℕ → Type 0
IsFirst from client first = ((client ≡ from.client) × (first ≡ from.slot)) ⊎ ((client ≡ from.client → ⊥) × (first ≡ 0))

-- the tags of the slots from it on are no earlier than the place's
pub first-later : (tags : ℕ) (from : Place) (client first slot : ℕ) → from.slot < tags → from.client ≤ client → IsFirst from client first → first ≤ slot →
    tag_of tags from ≤ client * tags + slot + 1
first-later tags from client first slot within up first_is low =
    elim first_is as (λ _. tag_of tags from ≤ client * tags + slot + 1) [
      | inl here ↦ let owner : client * tags ≡ from.client * tags = ap (λ c. c * tags) here.0 in omega (arith, owner, here.1, low)
      | inr there ↦ omega (arith, earlier-client tags from.client client (from.slot + 1) slot (omega (arith, within)) (omega (arith, up, there.0)))
    ]

-- where no TD of the places of these clients is left over, none of the tags that name them is
named-none : (host : HostState) (pipe : Pipe) (tag : ℕ) → 0 < host.tags →
    ((place : Place) → IsNamed host.tags (length host.clients) tag place →
    is_held_left_over pipe (held_at (client_of host place.client).entries place.slot) ≡ false) →
    is_left_over_on host pipe tag ≡ false
named-none host pipe tag some none =
    elim (place_of host.tags (length host.clients) tag) as (λ o. place_of host.tags (length host.clients) tag ≡ o → is_left_over_on host pipe tag ≡ false) [
      | None ↦ λ unnamed. under-none host pipe tag unnamed
      | Some place ↦ λ is.
          under-place host pipe tag place is ∙ none place (named-is_place host.tags (length host.clients) tag place some is)
    ] refl

-- where the clients from one on to another aren't marked, and of that one the TDs of the slots up to one aren't left over, no TD
-- of the tags between is
pub left_over-passed : (words : List ℕ) (host : HostState) (pipe : Pipe) (from : Place) (client first upto : ℕ) → AreMarked words host.clients →
    0 < host.tags → from.slot < host.tags → upto ≤ host.tags →
    ((other : ℕ) → from.client ≤ other → other < client → is_marked words other ≡ false) →
    ((slot : ℕ) → first ≤ slot → slot < upto → is_held_left_over pipe (held_at (client_of host client).entries slot) ≡ false) →
    IsFirst from client first →
    (other : ℕ) → tag_of host.tags from ≤ other → other < client * host.tags + upto + 1 → is_left_over_on host pipe other ≡ false
left_over-passed words host pipe from client first upto are some slot most unmarked none first_is other after within =
    named-none host pipe other some (λ place named.
    elim (cases_eq place.client client) as (λ _. is_held_left_over pipe (held_at (client_of host place.client).entries place.slot) ≡ false) [
      | inl same ↦
          let owner : place.client * host.tags ≡ client * host.tags = ap (λ c. c * host.tags) same in
          ap (λ c. is_held_left_over pipe (held_at (client_of host c).entries place.slot)) same
          ∙ none place.slot (lowest place named same) (omega (arith, named.is, within, owner))
      | inr apart ↦
          unmarked-none words host pipe place are named.client
          (unmarked place.client (lower place named) (upper place named apart))
    ])
  where
    lower : (place : Place) → IsNamed host.tags (length host.clients) other place → from.client ≤ place.client
    lower place named =
        elim (leb_tells from.client place.client) as (λ _. from.client ≤ place.client) [
          | inl up ↦ up.1
          | inr before ↦
              absurd (omega (
                arith,
                named.is,
                named.slot,
                after,
                earlier-client host.tags place.client from.client (place.slot + 1) from.slot (omega (arith, named.slot)) before.1,
              ))
        ]

    upper : (place : Place) → IsNamed host.tags (length host.clients) other place → (place.client ≡ client → ⊥) → place.client < client
    upper place named apart =
        elim (leb_tells client place.client) as (λ _. place.client < client) [
          | inl up ↦
              let past : client < place.client = omega (arith, up.1, apart) in
              absurd (omega (arith, named.is, within, earlier-client host.tags client place.client upto place.slot most past))
          | inr before ↦ before.1
        ]

    lowest : (place : Place) → IsNamed host.tags (length host.clients) other place → place.client ≡ client → first ≤ place.slot
    lowest place named same =
        elim first_is as (λ _. first ≤ place.slot) [
          | inl here ↦
              let owner : place.client * host.tags ≡ from.client * host.tags = ap (λ c. c * host.tags) (same ∙ here.0) in
              omega (arith, here.1, named.is, after, owner)
          | inr there ↦ omega (arith, there.1)
        ]

-- where no client from one on is marked, no TD of a later tag is left over
pub left_over-none : (words : List ℕ) (host : HostState) (pipe : Pipe) (from : Place) → AreMarked words host.clients → 0 < host.tags →
    from.slot < host.tags → ((other : ℕ) → from.client ≤ other → is_marked words other ≡ false) →
    (other : ℕ) → tag_of host.tags from ≤ other → is_left_over_on host pipe other ≡ false
left_over-none words host pipe from are some slot unmarked other after =
    named-none host pipe other some (λ place named. unmarked-none words host pipe place are named.client (unmarked place.client (lower place named)))
  where
    lower : (place : Place) → IsNamed host.tags (length host.clients) other place → from.client ≤ place.client
    lower place named =
        elim (leb_tells from.client place.client) as (λ _. from.client ≤ place.client) [
          | inl up ↦ up.1
          | inr before ↦
              absurd (omega (
                arith,
                named.is,
                named.slot,
                after,
                earlier-client host.tags place.client from.client (place.slot + 1) from.slot (omega (arith, named.slot)) before.1,
              ))
        ]

-- no TD is left over of the tags behind those of the clients
pub left_over-past : (host : HostState) (pipe : Pipe) (before : ℕ) → 0 < host.tags → 0 < before →
    place_of host.tags (length host.clients) before ≡ None → (other : ℕ) → before ≤ other → is_left_over_on host pipe other ≡ false
left_over-past host pipe before some tagged unnamed other past =
    named-none host pipe other some (λ place named.
    let least = unnamed-is_above host.tags (length host.clients) before tagged unnamed in
    let within = tags-within host.tags (length host.clients) place named.client named.slot in
    let turned : host.tags * length host.clients ≡ length host.clients * host.tags = omega arith in
    absurd (omega (arith, named.is, past, least, within.1, turned)))

-- of the tags before one no TD is left over, nor of the tags from there to another
pub left_over-further : (host : HostState) (pipe : Pipe) (tag from upto : ℕ) →
    ((other : ℕ) → tag < other → other < from → is_left_over_on host pipe other ≡ false) →
    ((other : ℕ) → from ≤ other → other < upto → is_left_over_on host pipe other ≡ false) →
    (other : ℕ) → tag < other → other < upto → is_left_over_on host pipe other ≡ false
left_over-further host pipe tag from upto before after other above within =
    elim (cases_Bool (nat_lt other from)) as (λ _. is_left_over_on host pipe other ≡ false) [
      | inl up ↦ before other above (ltb-true other from up)
      | inr past ↦ after other (ltb-false other from past) within
    ]
