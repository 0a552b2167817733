-- The desk, its seats and its claims as their calls see them.
use Rattle.std.specs.Prelude.{◌≡◌, ℕ, ◌+◌, ◌*◌, ◌-◌, ◌%◌, ◌^◌, ◌<◌, ◌≤◌, List, [], ◌∷◌, Option, Some, None, length, slice_get, slice_set}
use Rattle.std.specs.Prelude.{slice_index_or, if◌then◌else◌, nat_lt, ◌==◌}
use Rattle.std.proofs.Common.{zero, suc}
use Rattle.atomic_table.specs.Seated.{TableId}
use Rattle.tag_desk.specs.declared.Slip.{Slip}
use Rattle.tag_desk.specs.declared.rule.ClientView.{ClientView}
use Rattle.tag_desk.specs.declared.rule.ClientView.TheVariants.{Waiting, Free, Open}
use Rattle.tag_desk.specs.declared.rule.WorkView.{WorkView}
use Rattle.tag_desk.specs.declared.rule.WorkView.TheVariants.{Idle, Claimed, Finished}
use Rattle.tag_desk.specs.declared.rule.View.TheVariants.{Client, Work}
use Rattle.tag_desk.specs.declared.rule.TagCounts.{TagCounts}
use Rattle.tag_desk.specs.Rule.{Sat, IsAbove, noting, overlooked}
use Rattle.tag_desk.specs.Slips.{IsAsk, IsEnd, ticket_in}
use Rattle.uas_profile.specs.declared.TheConstants.{MAX_CLIENTS, STREAMS}
use Rattle.uas_profile.specs.Tags.{AreTags, client_of, slot_of}

-- Which desk it is, and for how many tags of a client, clients and pumps it was made
pub record MadeDesk : Type 0 where
  pub tags : ℕ
  pub table : TableId
  pub clients : ℕ
  pub pumps : ℕ

-- a desk's table has a word and a slot for each tag, and its key says how many they are
abbrev pub IsMade : MadeDesk → TagCounts → Type 0
IsMade desk key = (desk.table.words ≡ desk.tags * desk.clients) × (desk.table.slots ≡ desk.tags * desk.clients) × (key.all ≡ desk.tags * desk.clients)
    × (0 < desk.clients) × (desk.clients ≤ MAX_CLIENTS) × (0 < desk.pumps) × (key.each ≡ desk.tags) × AreTags desk.tags
    × (desk.tags * desk.clients ≤ STREAMS)

-- What a client knows of the tag at an index, which is the tag less 1
pub record ClientLine : Type 0 where
  pub table : TableId
  pub index : ℕ
  pub view : ClientView

-- What a pump knows of the tag at an index
pub record WorkLine : Type 0 where
  pub table : TableId
  pub index : ℕ
  pub view : WorkView

-- A claim: whose tag and ticket, and the slip until it is taken out
pub record HeldClaim : Type 0 where
  pub table : TableId
  pub tag : ℕ
  pub ticket : ℕ
  pub slip : Option Slip

abbrev pub IsFree : ClientView → Type 0
IsFree v = (last : ℕ) × (v ≡ Free last)

-- the slot is with the client's seat while its tag is free
abbrev pub slots_at : ℕ → ClientView → List (ℕ × Option Slip)
slots_at t Waiting = []
slots_at t (Free n) = (t, None) ∷ []
slots_at t (Open n x looks) = []

abbrev pub open_ticket : ClientView → Option ℕ
open_ticket Waiting = None
open_ticket (Free n) = None
open_ticket (Open n x looks) = Some n

-- the least number above all tickets that the client posted on its tag
abbrev pub next_ticket : ClientView → ℕ
next_ticket Waiting = 0
next_ticket (Free next) = next
next_ticket (Open n x looks) = n + 1

abbrev pub IsDealt : ClientView → Type 0
IsDealt Waiting = ⊥
IsDealt (Free n) = Unit {0}
IsDealt (Open n x looks) = n < 2 ^ 60

abbrev pub client_sat : ℕ → ClientView → Sat
client_sat t v = (Client t v, slots_at t v)

-- a client's seat of one tag, and the ticket that it has open there
abbrev pub IsLineOf : Sat → ℕ → ClientView → Option ℕ → Type 0
IsLineOf me t v posted = (me ≡ client_sat t v) × (posted ≡ open_ticket v) × IsDealt v

abbrev pub work_sat : ℕ → WorkView → Sat
work_sat t w = (Work t w, [])

abbrev pub claim_sat : ℕ → ℕ → Sat
claim_sat t n = (Work t (Claimed n), (t, None) ∷ [])

-- a pump's seat that isn't out with a claim
abbrev pub IsHome : WorkView → Type 0
IsHome (Idle missed) = Unit {0}
IsHome (Claimed n) = ⊥
IsHome (Finished n y missed) = Unit {0}

-- the slip is posted with the ticket, however often its end was looked for
abbrev pub IsOpenWith : ℕ → Slip → ClientView → Type 0
IsOpenWith n x view = (looks : ℕ) × (view ≡ Open n x looks)

-- a look that gave a slip: it ends the ticket that was open, and the tag is free after it
abbrev pub Reaps : ClientLine → ClientLine → Slip → Type 0
Reaps old new y = (n : ℕ) × (x : Slip) × IsOpenWith n x old.view × IsEnd (old.index + 1) n y × (new ≡ record old { view = Free (n + 1) })

abbrev pub IsClaimOf : ℕ → WorkLine → ℕ → HeldClaim → Type 0
IsClaimOf tags line ticket claim = (x : Slip) × IsAsk tags (line.index + 1) ticket x
    × (claim ≡ record { table = line.table; tag = line.index + 1; ticket = ticket; slip = Some x })

-- What a client has: how many tags, the least ticket that it may post next, and a line for each of its tags
pub record Customer : Type 0 where
  pub client : ℕ
  pub tags : ℕ
  pub least_ticket : ℕ
  pub lines : List ClientLine

-- What a pump has: a line for each tag of the desk, none where the tag is another pump's or its line is out with a claim
pub record Server : Type 0 where
  pub pump : ℕ
  pub lines : List (Option WorkLine)

-- line k of client c is that of tag tags c + k + 1, and no ticket on it is above the seat's least
abbrev pub IsCustomer : Customer → Type 0
IsCustomer seat = (length seat.lines ≡ seat.tags)
    × ((k : ℕ) (d : ClientLine) → k < seat.tags → (slice_index_or seat.lines k d).index ≡ seat.tags * seat.client + k)
    × (seat.client < MAX_CLIENTS)
    × ((k : ℕ) (d : ClientLine) → k < seat.tags → next_ticket (slice_index_or seat.lines k d).view ≤ seat.least_ticket)
    × AreTags seat.tags

abbrev pub HasIndex : ℕ → Option WorkLine → Type 0
HasIndex k None = Unit {0}
HasIndex k (Some line) = line.index ≡ k

-- the table of a line that is there
abbrev pub table_or : TableId → Option WorkLine → TableId
table_or table None = table
table_or table (Some line) = line.table

abbrev pub IsOnTable : TableId → Option WorkLine → Type 0
IsOnTable table line = table_or table line ≡ table

abbrev pub IsServer : Server → Type 0
IsServer seat = (k : ℕ) (d : Option WorkLine) → k < length seat.lines → HasIndex k (slice_index_or seat.lines k d)

abbrev pub IsClientOf : MadeDesk → Customer → Type 0
IsClientOf desk seat = (seat.client < desk.clients)
    × ((k : ℕ) (d : ClientLine) → k < seat.tags → (slice_index_or seat.lines k d).table ≡ desk.table)
    × (seat.tags ≡ desk.tags)

-- the ticket that a pump finished last on a tag, 0 where it finished none or its line is out
abbrev pub finished_in : WorkView → ℕ
finished_in (Idle missed) = 0
finished_in (Claimed n) = 0
finished_in (Finished n y missed) = n

abbrev pub finished_ticket : Option WorkLine → ℕ
finished_ticket None = 0
finished_ticket (Some line) = finished_in line.view

-- the ticket that the slip names with which it finished
abbrev pub ended_in : WorkView → ℕ
ended_in (Idle missed) = 0
ended_in (Claimed n) = 0
ended_in (Finished n y missed) = ticket_in y

abbrev pub ended_ticket : Option WorkLine → ℕ
ended_ticket None = 0
ended_ticket (Some line) = ended_in line.view

-- a pump's seat of the desk: its lines are of the desk's table, and what it finished it finished with an end of that ticket
abbrev pub IsPumpOf : MadeDesk → Server → Type 0
IsPumpOf desk seat = (length seat.lines ≡ desk.tags * desk.clients) × ((k : ℕ) (d : Option WorkLine) → k < length seat.lines
    → IsOnTable desk.table (slice_index_or seat.lines k d))
    × ((k : ℕ) (d : Option WorkLine) → k < length seat.lines → ended_ticket (slice_index_or seat.lines k d) ≡ finished_ticket (slice_index_or seat.lines k d))

-- the tags of client c begin at c times `tags`, plus 1: tag 33 is the first of client 2 with 16, and of client 4 with 8
abbrev pub IsTagOf : ℕ → ℕ → ℕ → Type 0
IsTagOf tags client tag = (1 ≤ tag) × (client_of tags tag ≡ client)

-- client c is served by pump c mod the number of pumps
abbrev pub IsServed : MadeDesk → Server → ℕ → Type 0
IsServed desk seat tag = (1 ≤ tag) × (tag ≤ desk.tags * desk.clients) × (client_of desk.tags tag % desk.pumps ≡ seat.pump)

abbrev pub IsFreeAt : Customer → ℕ → Type 0
IsFreeAt seat tag = (line : ClientLine) × (slice_get seat.lines (slot_of seat.tags tag) ≡ Some line) × IsFree line.view

-- all tags of the client are free
abbrev pub IsAllFree : Customer → Type 0
IsAllFree seat = (tag : ℕ) → IsTagOf seat.tags seat.client tag → IsFreeAt seat tag

abbrev pub with_view : List ClientLine → ℕ → ClientView → List ClientLine
with_view [] k v = []
with_view (line ∷ lines) zero v = record line { view = v } ∷ lines
with_view (line ∷ lines) (suc k) v = line ∷ with_view lines k v

-- the seat after a post
abbrev pub posting : Customer → ℕ → ℕ → Slip → Customer
posting seat tag ticket x = record seat { least_ticket = ticket + 1; lines = with_view seat.lines (slot_of seat.tags tag) (Open ticket x 0) }

-- a look that gave a slip: it ends the ticket that was open on the tag, and the tag is free after it
abbrev pub ReapsAt : Customer → Customer → ℕ → Slip → Type 0
ReapsAt old new tag y = (line : ClientLine) × (n : ℕ) × (x : Slip) × (slice_get old.lines (slot_of old.tags tag) ≡ Some line) × IsOpenWith n x line.view
    × IsEnd tag n y
    × (new ≡ record old { lines = with_view old.lines (slot_of old.tags tag) (Free (n + 1)) })

abbrev pub looked_lines : ℕ → List ClientLine → ℕ → List ClientLine
looked_lines looks [] k = []
looked_lines looks (line ∷ lines) zero = record line { view = overlooked looks line.view } ∷ lines
looked_lines looks (line ∷ lines) (suc k) = line ∷ looked_lines looks lines k

-- the seat after so many looks at a tag that gave nothing: where a ticket is open there, each of them found no end of it
abbrev pub overlooking : ℕ → Customer → ℕ → Customer
overlooking looks seat tag = record seat { lines = looked_lines looks seat.lines (slot_of seat.tags tag) }

abbrev pub missed_line : ℕ → Option WorkLine → Option WorkLine
missed_line ticket None = None
missed_line ticket (Some line) = Some (record line { view = noting ticket line.view })

-- the seat after a claim that wasn't given: where its line of the tag is home, it found the tag not posted with the ticket
abbrev pub missing : Server → ℕ → ℕ → Server
missing seat tag ticket = record seat { lines = slice_set seat.lines (tag - 1) (missed_line ticket (slice_index_or seat.lines (tag - 1) None)) }

-- a claim that was given: it holds an ask of the ticket, and the pump's line is out with it
abbrev pub ClaimsAt : ℕ → Server → Server → ℕ → ℕ → HeldClaim → Type 0
ClaimsAt tags old new tag ticket claim = (x : Slip) × IsAsk tags tag ticket x × (claim.slip ≡ Some x) × (claim.tag ≡ tag) × (claim.ticket ≡ ticket)
    × (new ≡ record old { lines = slice_set old.lines (tag - 1) None })

-- the pump's line of a tag is at home, and the ticket is above the one that it finished there last
abbrev pub IsAboveLast : Server → ℕ → ℕ → Type 0
IsAboveLast seat tag ticket = (line : WorkLine) × (slice_get seat.lines (tag - 1) ≡ Some (Some line)) × IsAbove line.view ticket

abbrev pub IsAway : Server → ℕ → Type 0
IsAway seat tag = slice_get seat.lines (tag - 1) ≡ Some None

-- the seat after a finish
abbrev pub finishing : Server → HeldClaim → Slip → Server
finishing seat claim y = record seat {
  lines = slice_set seat.lines (claim.tag - 1) (Some record {
    table = claim.table;
    index = claim.tag - 1;
    view =
        Finished claim.ticket y [];
  });
}

abbrev pub new_line : TableId → ℕ → ClientLine
new_line table t = record { table = table; index = t; view = Free 0 }

-- client c's seat of n tags on a new desk: it posted nothing, and all its tags are free
pub record IsNewCustomer (table : TableId) (n c : ℕ) (seat : Customer) : Type 0 where
  pub client : seat.client ≡ c
  pub tags : seat.tags ≡ n
  pub least_ticket : seat.least_ticket ≡ 0
  pub count : length seat.lines ≡ n
  pub lines : (k : ℕ) (d : ClientLine) → k < n → slice_index_or seat.lines k d ≡ new_line table (n * c + k)

-- what pump p has of the tag at index t once the tags below an index are dealt: a line that claimed nothing yet, where it serves the tag
abbrev pub server_line : MadeDesk → ℕ → ℕ → ℕ → Option WorkLine
server_line desk p below t = if nat_lt t below then (if client_of desk.tags (suc t) % desk.pumps == p then Some record {
  table = desk.table;
  index = t;
  view =
      Idle [];
} else None) else None

pub record IsServerBelow (desk : MadeDesk) (below p : ℕ) (seat : Server) : Type 0 where
  pub pump : seat.pump ≡ p
  pub count : length seat.lines ≡ desk.tags * desk.clients
  pub lines : (t : ℕ) (d : Option WorkLine) → t < desk.tags * desk.clients → slice_index_or seat.lines t d ≡ server_line desk p below t

-- a pump's seat before any tag is dealt
abbrev pub ServesNone : ℕ → ℕ → Server → Type 0
ServesNone p tags seat = (seat.pump ≡ p) × (length seat.lines ≡ tags) × ((t : ℕ) (d : Option WorkLine) → t < tags → slice_index_or seat.lines t d ≡ None)

-- a pump's seat on a new desk
abbrev pub IsNewServer : MadeDesk → ℕ → Server → Type 0
IsNewServer desk p seat = IsServerBelow desk (desk.tags * desk.clients) p seat

-- the pumps' seats once the tags below an index are dealt
pub record AreServersBelow (desk : MadeDesk) (below : ℕ) (seats : List Server) : Type 0 where
  pub count : length seats ≡ desk.pumps
  pub each : (p : ℕ) (d : Server) → p < desk.pumps → IsServerBelow desk below p (slice_index_or seats p d)

pub record AreNewCustomers (table : TableId) (tags clients : ℕ) (seats : List Customer) : Type 0 where
  pub count : length seats ≡ clients
  pub each : (c : ℕ) (d : Customer) → c < clients → IsNewCustomer table tags c (slice_index_or seats c d)
