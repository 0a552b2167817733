-- The claims that a pump holds: when they are its own, and how they are finished.
use Rattle.std.specs.Prelude.{◌≡◌, ℕ, suc, ◌+◌, ◌-◌, ◌*◌, ◌%◌, ◌<◌, ◌==◌, Bool, ◌&&◌, if◌then◌else◌, List, [], Option, Some, None, All, length}
use Rattle.std.specs.Prelude.{slice_index_or, slice_set}
use Rattle.scsi_cmd.specs.declared.Reply.{Reply}
use Rattle.scsi_cmd.specs.Replies.{reply_tag, reply_ticket}
use Rattle.uas_profile.specs.declared.TheConstants.{MAX_CLIENTS}
use Rattle.uas_profile.specs.Tags.{client_of}
use Rattle.tag_desk.specs.declared.Slip.TheVariants.{Answer, Unserved}
use Rattle.tag_desk.specs.declared.rule.WorkView.TheVariants.{Finished}
use Rattle.tag_desk.specs.Seats.{MadeDesk, Server, WorkLine, HeldClaim, IsAway, IsHome, IsServed, finishing}

-- THE CLAIMS THAT A PUMP HOLDS

-- A pump: its seat, and the claims that it holds, by tag: place k has the claim of tag k + 1.
pub record Pump : Type 0 where
  pub seat : Server
  pub held : List (Option HeldClaim)

-- no claim is held
abbrev pub AreNone : List (Option HeldClaim) → Type 0
AreNone held = All (λ claim. claim ≡ None) held

-- a claim that is held at place k is of this desk and of tag k + 1, which the seat serves and whose line is out with the claim
abbrev pub IsHeldAt : MadeDesk → Server → ℕ → Option HeldClaim → Type 0
IsHeldAt desk seat k None = Unit {0}
IsHeldAt desk seat k (Some claim) = (claim.table ≡ desk.table) × (claim.tag ≡ k + 1) × IsServed desk seat claim.tag × IsAway seat claim.tag

-- all claims that are held are of the seat
pub record AreHeldBy (desk : MadeDesk) (seat : Server) (held : List (Option HeldClaim)) : Type 0 where
  pub count : length held ≡ desk.tags * desk.clients
  pub each : (k : ℕ) → k < desk.tags * desk.clients → IsHeldAt desk seat k (slice_index_or held k None)

-- client c is served by pump c mod the number of pumps
abbrev pub ServesClient : MadeDesk → Server → ℕ → Type 0
ServesClient desk seat client = (client < desk.clients) × (client < MAX_CLIENTS) × (client % desk.pumps ≡ seat.pump)

-- LINES THAT ARE HOME

-- a line is there, with no claim out
abbrev pub IsHomeLine : Option WorkLine → Type 0
IsHomeLine None = ⊥
IsHomeLine (Some line) = IsHome line.view

-- the line of each tag that the seat serves is home
abbrev pub AreAllHome : MadeDesk → Server → Type 0
AreAllHome desk seat = (k : ℕ) → k < desk.tags * desk.clients → client_of desk.tags (suc k) % desk.pumps ≡ seat.pump → IsHomeLine (slice_index_or seat.lines k None)

-- the line of each tag that the seat serves is home, or out with a claim that is held
abbrev pub AreAccounted : MadeDesk → Server → List (Option HeldClaim) → Type 0
AreAccounted desk seat held = (k : ℕ) → k < desk.tags * desk.clients → client_of desk.tags (suc k) % desk.pumps ≡ seat.pump → slice_index_or held k None ≡ None
    → IsHomeLine (slice_index_or seat.lines k None)

-- THE END OF ALL CLAIMS

-- a tag's line once the claim that was held of it is finished as unserved, with no buffer
abbrev pub unserved_line : Option HeldClaim → Option WorkLine → Option WorkLine
unserved_line None line = line
unserved_line (Some claim) line =
    Some (record { table = claim.table; index = claim.tag - 1; view = Finished claim.ticket (Unserved claim.ticket []) [] })

-- a seat once the claim that was held, or none, is finished as unserved
abbrev pub unserving : Option HeldClaim → Server → Server
unserving None seat = seat
unserving (Some claim) seat = finishing seat claim (Unserved claim.ticket [])

-- every claim that was held is finished as unserved, and the other tags are as they were
pub record AreUnserved (old : Server) (held : List (Option HeldClaim)) (new : Server) : Type 0 where
  pub pump : new.pump ≡ old.pump
  pub count : length new.lines ≡ length old.lines
  pub each : (k : ℕ) (d : Option WorkLine) → k < length old.lines
      → slice_index_or new.lines k d ≡ unserved_line (slice_index_or held k None) (slice_index_or old.lines k d)

-- A REPLY

-- the claim is that of the reply's tag and ticket
abbrev pub is_claim_of : Reply → HeldClaim → Bool
is_claim_of reply claim = (claim.tag == reply_tag reply) && (claim.ticket == reply_ticket reply)

-- the pump once a claim of a reply's tag is found, or none: it is finished with the reply where it is of its ticket too
abbrev pub answered_at : Option HeldClaim → Reply → Pump → Pump
answered_at None reply old = old
answered_at (Some claim) reply old =
    if is_claim_of reply claim then record { seat = finishing old.seat claim (Answer reply); held = slice_set old.held (claim.tag - 1) None } else old

-- the pump once a reply was taken, or none
abbrev pub answered : Option Reply → Pump → Pump
answered None old = old
answered (Some reply) old = answered_at (slice_index_or old.held (reply_tag reply - 1) None) reply old

-- nothing was taken, and every claim that was held is given back unserved
pub record GaveUp (old new : Pump) : Type 0 where
  pub ends : AreUnserved old.seat old.held new.seat
  pub none : AreNone new.held
