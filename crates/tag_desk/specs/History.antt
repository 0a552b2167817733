-- What a client's seat did on a desk, and what becomes of each ticket that it posted.
use Rattle.std.specs.Prelude.{◌≡◌, ℕ, ◌+◌, ◌≤◌, ◌==◌, List, [], ◌∷◌, if◌then◌else◌, sum_by}
use Rattle.atomic_table.specs.Seated.{TableId}
use Rattle.tag_desk.specs.declared.Slip.{Slip}
use Rattle.tag_desk.specs.declared.remains.TagSlip.{TagSlip}
use Rattle.tag_desk.specs.declared.remains.TagTicket.{TagTicket}
use Rattle.tag_desk.specs.declared.remains.Left.{Left}
use Rattle.tag_desk.specs.Slips.{ticket_in, IsAsk}
use Rattle.tag_desk.specs.Seats.{Customer, IsTagOf, IsFreeAt, IsNewCustomer, ReapsAt, overlooking, posting}

-- a post of a slip on a tag, or a look at a tag that gave one, or none
pub data Deed : Type 0 where
  posts : ℕ → Slip → Deed
  reaps : ℕ → Slip → Deed
  overlooks : ℕ → Deed

-- a post, as it is asked for and done
pub record PostsAt (old new : Customer) (tag : ℕ) (x : Slip) : Type 0 where
  pub own : IsTagOf old.tags old.client tag
  pub free : IsFreeAt old tag
  pub later : old.least_ticket ≤ ticket_in x
  pub ask : IsAsk old.tags tag (ticket_in x) x
  pub is : new ≡ posting old tag (ticket_in x) x

-- client c's seat of a new desk, with so many tags, came to this one by these deeds, of which the last stands first
abbrev pub CameBy : TableId → ℕ → ℕ → List Deed → Customer → Type 0
CameBy table tags c [] seat = IsNewCustomer table tags c seat
CameBy table tags c (posts tag x ∷ before) seat = (old : Customer) × CameBy table tags c before old × PostsAt old seat tag x
CameBy table tags c (reaps tag y ∷ before) seat = (old : Customer) × CameBy table tags c before old × IsTagOf tags c tag × ReapsAt old seat tag y
CameBy table tags c (overlooks tag ∷ before) seat = (old : Customer) × CameBy table tags c before old × IsTagOf tags c tag × (seat ≡ overlooking 1 old tag)

-- one where the tag and the ticket are those that are counted: with tag 3 and ticket 7 counted, one for 3 and 7, none for 3 and 8
abbrev pub one_of : ℕ → ℕ → ℕ → ℕ → ℕ
one_of tag ticket t n = if t == tag then (if n == ticket then 1 else 0) else 0

-- how often a ticket was posted on a tag
abbrev pub posted_count : ℕ → ℕ → List Deed → ℕ
posted_count tag ticket [] = 0
posted_count tag ticket (posts t x ∷ before) = one_of tag ticket t (ticket_in x) + posted_count tag ticket before
posted_count tag ticket (reaps t y ∷ before) = posted_count tag ticket before
posted_count tag ticket (overlooks t ∷ before) = posted_count tag ticket before

-- how often an end of a ticket was looked up on a tag
abbrev pub reaped_count : ℕ → ℕ → List Deed → ℕ
reaped_count tag ticket [] = 0
reaped_count tag ticket (posts t x ∷ before) = reaped_count tag ticket before
reaped_count tag ticket (overlooks t ∷ before) = reaped_count tag ticket before
reaped_count tag ticket (reaps t y ∷ before) = one_of tag ticket t (ticket_in y) + reaped_count tag ticket before

abbrev pub slip_count : ℕ → ℕ → List TagSlip → ℕ
slip_count tag ticket slips = sum_by (λ (one : TagSlip). one_of tag ticket one.tag (ticket_in one.slip)) slips

abbrev pub ticket_count : ℕ → ℕ → List TagTicket → ℕ
ticket_count tag ticket tickets = sum_by (λ (one : TagTicket). one_of tag ticket one.tag one.ticket) tickets

-- how often a ticket of a tag stands in the three lists
abbrev pub left_count : ℕ → ℕ → Left → ℕ
left_count tag ticket left = slip_count tag ticket left.posted + slip_count tag ticket left.done + ticket_count tag ticket left.held

-- Whatever a client's seat did since its desk was new: a ticket that it posted was looked up or stands in one of the three lists, once, and
-- no ticket that it didn't post.
pub record KeepsTickets (table : TableId) (seat : Customer) (left : Left) : Type 0 where
  pub once : (deeds : List Deed) → CameBy table seat.tags seat.client deeds seat → (tag ticket : ℕ) → IsTagOf seat.tags seat.client tag
      → posted_count tag ticket deeds ≤ 1
  pub kept : (deeds : List Deed) → CameBy table seat.tags seat.client deeds seat → (tag ticket : ℕ) → IsTagOf seat.tags seat.client tag
      → posted_count tag ticket deeds ≡ reaped_count tag ticket deeds + left_count tag ticket left
