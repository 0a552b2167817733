-- The lines of a pump: each is home, or out with a claim that is held.
use Rattle.std.proofs.Common.{◌≡◌, ◌≢◌, ℕ, zero, suc, ◌-◌, ◌*◌, ◌%◌, ◌<◌, ◌==◌, Bool, true, false, List, [], ◌∷◌, Option, Some, None, Result, Ok, Err, IfOk, IfErr, length, set, get_or, if◌then◌else◌, refl, sym, ap, subst, ◌∙◌, arith, eq-eqb}
use Rattle.std.specs.Prelude.{nat_lt, slice_index_or}
use mathlib.Core.Logic.{dite}
use native.Mathlib.Decide.{ℕ_discrete}
use Rattle.std.proofs.Math.ListN.{length-set}
use Rattle.std.proofs.lemmas.Bool.{lt-ltb}
use Rattle.std.proofs.lemmas.Grind.{get_or-set_at}
use Rattle.std.proofs.lemmas.List.{get_or-set_other}
use Rattle.uas_profile.specs.Tags.{client_of, slot_of}
use Rattle.scsi_cmd.specs.declared.Reply.{Reply}
use Rattle.scsi_cmd.specs.Replies.{reply_tag}
use Rattle.shared_machine.specs.declared.Refusal.{Refusal}
use Rattle.tag_desk.specs.declared.Slip.{Slip}
use Rattle.tag_desk.specs.declared.Slip.TheVariants.{Answer, Unserved}
use Rattle.tag_desk.specs.declared.rule.WorkView.TheVariants.{Idle, Finished}
use Rattle.tag_desk.specs.Seats.{MadeDesk, Server, WorkLine, HeldClaim, IsServerBelow, finishing}
use Rattle.uas_work.specs.declared.Booking.{Booking}
use Rattle.uas_work.specs.Booked.{BookedState}
use Rattle.uas_work.specs.Held.{Pump, AreAccounted, AreAllHome, AreUnserved, GaveUp, IsHomeLine, answered, answered_at, is_claim_of, unserved_line}
use Rattle.uas_work.specs.Pumps.{GaveUpIn, TookInOrLeft, brought, asked, claiming, emptied, passing, submitted}
use Rattle.uas_work.proofs.Passing.{passed_accounted, passed_length}

-- LINES

-- a line that goes out and comes back is home, and the others are as they were
home_again : (lines : List (Option WorkLine)) (k j : ℕ) (x y : Option WorkLine) → IsHomeLine y → IsHomeLine (get_or lines j None)
    → IsHomeLine (get_or (set (set lines k x) k y) j None)
home_again [] k j x y here there = there
home_again (line ∷ lines) zero zero x y here there = here
home_again (line ∷ lines) zero (suc j) x y here there = there
home_again (line ∷ lines) (suc k) zero x y here there = there
home_again (line ∷ lines) (suc k) (suc j) x y here there = home_again lines k j x y here there

unserved_home : (claim : Option HeldClaim) (line : Option WorkLine) → (claim ≡ None → IsHomeLine line) → IsHomeLine (unserved_line claim line)
unserved_home None line home = home refl
unserved_home (Some claim) line home = tt

-- ALL CLAIMS ARE GIVEN BACK

pub home_accounted : (desk : MadeDesk) (seat : Server) (held : List (Option HeldClaim)) → AreAllHome desk seat → AreAccounted desk seat held
home_accounted desk seat held all k within serves none = all k within serves

-- what was out is home once every claim that was held is given back
pub given_back_home : (desk : MadeDesk) (old new : Server) (held : List (Option HeldClaim)) → length old.lines ≡ desk.tags * desk.clients
    → AreAccounted desk old held → AreUnserved old held new → AreAllHome desk new
given_back_home desk old new held count it ends k within serves =
    subst IsHomeLine (sym (ends.each k None (omega (arith, count, within))))
    (unserved_home (get_or held k None) (get_or old.lines k None) (λ none. it k within (serves ∙ ends.pump) none))

gave_up_accounted : (desk : MadeDesk) (old new : Pump) → length old.seat.lines ≡ desk.tags * desk.clients → AreAccounted desk old.seat old.held
    → GaveUp old new → AreAccounted desk new.seat new.held
gave_up_accounted desk old new count it gave =
    home_accounted desk new.seat new.held (given_back_home desk old.seat new.seat old.held count it gave.ends)

-- A CLAIM IS FINISHED AGAIN

finished_accounted : (desk : MadeDesk) (tag ticket : ℕ) (end : Slip) (old : Pump) → AreAccounted desk old.seat old.held
    → AreAccounted desk (finishing (claiming tag old).seat (emptied desk tag ticket) end) old.held
finished_accounted desk tag ticket end old it k within serves none =
    home_again old.seat.lines (tag - 1) k None (Some (record { table = desk.table; index = tag - 1; view = Finished ticket end [] })) tt
    (it k within serves none)

-- IT IS HELD

held_accounted : (desk : MadeDesk) (tag ticket : ℕ) (old : Pump) → length old.held ≡ desk.tags * desk.clients → AreAccounted desk old.seat old.held
    → AreAccounted desk (claiming tag old).seat (set old.held (tag - 1) (Some (emptied desk tag ticket)))
held_accounted desk tag ticket old count it k within serves none =
    dite (ℕ_discrete k (tag - 1))
    (λ (e : k ≡ tag - 1).
    let there : get_or (set old.held (tag - 1) (Some (emptied desk tag ticket))) k None ≡ Some (emptied desk tag ticket) =
    get_or-set_at old.held (tag - 1) k (Some (emptied desk tag ticket)) None e (omega (arith, e, count, within)) in
    absurd (let both : Some (emptied desk tag ticket) ≡ None = sym there ∙ none in cc))
    (λ (e : k ≢ tag - 1).
    let was : get_or old.held k None ≡ None = sym (get_or-set_other old.held (tag - 1) k (Some (emptied desk tag ticket)) None e) ∙ none in
    subst IsHomeLine (sym (get_or-set_other old.seat.lines (tag - 1) k None None e)) (it k within serves was))

submitted_accounted : (desk : MadeDesk) (tag ticket : ℕ) (refused : Option Refusal) (old : Pump) → length old.held ≡ desk.tags * desk.clients
    → AreAccounted desk old.seat old.held
    → AreAccounted desk (submitted refused (emptied desk tag ticket) (claiming tag old)).seat (submitted refused (emptied desk tag ticket) (claiming tag old)).held
submitted_accounted desk tag ticket None old count it = held_accounted desk tag ticket old count it
submitted_accounted desk tag ticket (Some refusal) old count it = finished_accounted desk tag ticket _ old it

took_accounted : (took : Bool) (desk : MadeDesk) (client ticket : ℕ) (before after : BookedState) (old new : Pump)
    → length old.held ≡ desk.tags * desk.clients → AreAccounted desk old.seat old.held → TookInOrLeft desk client ticket before after old new took
    → AreAccounted desk new.seat new.held
took_accounted true desk client ticket before after old new count it took =
    subst (λ (p : Pump). AreAccounted desk p.seat p.held) (sym took.pump)
    (submitted_accounted desk took.tag ticket _ (passing desk client ticket (slot_of desk.tags took.tag) old) count
    (passed_accounted desk client ticket (slot_of desk.tags took.tag) old it))
took_accounted false desk client ticket before after old new count it left =
    subst (λ (p : Pump). AreAccounted desk p.seat p.held) (sym left.1) (passed_accounted desk client ticket desk.tags old it)

gave_up_in_accounted : (desk : MadeDesk) (client ticket : ℕ) (old new : Pump) → length old.seat.lines ≡ desk.tags * desk.clients
    → AreAccounted desk old.seat old.held → GaveUpIn desk client ticket old new → AreAccounted desk new.seat new.held
gave_up_in_accounted desk client ticket old new count it gave =
    let claim : HeldClaim = emptied desk gave.tag ticket in
    let end : Slip = Unserved ticket (brought (asked client gave.tag gave.slip)) in
    let line : Option WorkLine = Some (record { table = desk.table; index = gave.tag - 1; view = Finished ticket end [] }) in
    let slots : ℕ = slot_of desk.tags gave.tag in
    let mid : Pump = passing desk client ticket slots old in
    let out : List (Option WorkLine) = set mid.seat.lines (gave.tag - 1) None in
    home_accounted desk new.seat new.held
    (given_back_home desk (finishing (claiming gave.tag mid).seat claim end) new.seat old.held
    (length-set out (gave.tag - 1) line ∙ length-set mid.seat.lines (gave.tag - 1) None ∙ passed_length desk client ticket slots old ∙ count)
    (finished_accounted desk gave.tag ticket end mid (passed_accounted desk client ticket slots old it)) gave.ends.ends)

-- what `pump_in` leaves
pub in_accounted : (result : Result Bool Booking) (desk : MadeDesk) (client ticket : ℕ) (before after : BookedState) (old new : Pump)
    → length old.seat.lines ≡ desk.tags * desk.clients → length old.held ≡ desk.tags * desk.clients → AreAccounted desk old.seat old.held
    → IfOk result (TookInOrLeft desk client ticket before after old new) → IfErr result (λ booking. GaveUpIn desk client ticket old new)
    → AreAccounted desk new.seat new.held
in_accounted (Ok took) desk client ticket before after old new lines count it done gave_up =
    took_accounted took desk client ticket before after old new count it done
in_accounted (Err booking) desk client ticket before after old new lines count it done gave_up =
    gave_up_in_accounted desk client ticket old new lines it gave_up

-- A REPLY

answered_claim : (desk : MadeDesk) (claim : HeldClaim) (end : Slip) (old : Pump) → length old.seat.lines ≡ desk.tags * desk.clients
    → AreAccounted desk old.seat old.held → AreAccounted desk (finishing old.seat claim end) (set old.held (claim.tag - 1) None)
answered_claim desk claim end old count it k within serves none =
    let line : Option WorkLine = Some (record { table = claim.table; index = claim.tag - 1; view = Finished claim.ticket end [] }) in
    dite (ℕ_discrete k (claim.tag - 1))
    (λ (e : k ≡ claim.tag - 1).
    subst IsHomeLine (sym (get_or-set_at old.seat.lines (claim.tag - 1) k line None e (omega (arith, e, count, within)))) tt)
    (λ (e : k ≢ claim.tag - 1).
    let was : get_or old.held k None ≡ None = sym (get_or-set_other old.held (claim.tag - 1) k None None e) ∙ none in
    subst IsHomeLine (sym (get_or-set_other old.seat.lines (claim.tag - 1) k line None e)) (it k within serves was))

if_accounted : (b : Bool) (desk : MadeDesk) (one other : Pump) → AreAccounted desk one.seat one.held → AreAccounted desk other.seat other.held
    → AreAccounted desk (if b then one else other).seat (if b then one else other).held
if_accounted true desk one other left right = left
if_accounted false desk one other left right = right

answered_at_accounted : (claim : Option HeldClaim) (desk : MadeDesk) (reply : Reply) (old : Pump) → length old.seat.lines ≡ desk.tags * desk.clients
    → AreAccounted desk old.seat old.held → AreAccounted desk (answered_at claim reply old).seat (answered_at claim reply old).held
answered_at_accounted None desk reply old count it = it
answered_at_accounted (Some claim) desk reply old count it =
    if_accounted (is_claim_of reply claim) desk
    (record { seat = finishing old.seat claim (Answer reply); held = set old.held (claim.tag - 1) None }) old
    (answered_claim desk claim (Answer reply) old count it) it

answered_accounted : (reply : Option Reply) (desk : MadeDesk) (old : Pump) → length old.seat.lines ≡ desk.tags * desk.clients
    → AreAccounted desk old.seat old.held → AreAccounted desk (answered reply old).seat (answered reply old).held
answered_accounted None desk old count it = it
answered_accounted (Some reply) desk old count it =
    answered_at_accounted (slice_index_or old.held (reply_tag reply - 1) None) desk reply old count it

-- what `pump_out` leaves
pub out_accounted : (result : Result Bool Booking) (desk : MadeDesk) (reply : Option Reply) (old new : Pump)
    → length old.seat.lines ≡ desk.tags * desk.clients → AreAccounted desk old.seat old.held → IfOk result (λ took. new ≡ answered reply old)
    → IfErr result (λ booking. GaveUp old new) → AreAccounted desk new.seat new.held
out_accounted (Ok took) desk reply old new count it done gave_up =
    subst (λ (p : Pump). AreAccounted desk p.seat p.held) (sym done) (answered_accounted reply desk old count it)
out_accounted (Err booking) desk reply old new count it done gave_up = gave_up_accounted desk old new count it gave_up

-- A NEW SEAT

if_lt : (a b : ℕ) (x y : Option WorkLine) → a < b → (if nat_lt a b then x else y) ≡ x
if_lt a b x y h = ap (λ c. if c then x else y) (lt-ltb a b h)

pub new_home : (desk : MadeDesk) (p : ℕ) (seat : Server) → IsServerBelow desk (desk.tags * desk.clients) p seat → AreAllHome desk seat
new_home desk p seat new k within serves =
    let mine : client_of desk.tags (suc k) % desk.pumps ≡ p = serves ∙ new.pump in
    let line : Option WorkLine = Some (record { table = desk.table; index = k; view = Idle [] }) in
    let here : (if client_of desk.tags (suc k) % desk.pumps == p then line else None) ≡ line =
    ap (λ b. if b then line else None) (eq-eqb (client_of desk.tags (suc k) % desk.pumps) p mine) in
    subst IsHomeLine
    (sym (new.lines k None within ∙ if_lt k (desk.tags * desk.clients) (if client_of desk.tags (suc k) % desk.pumps == p then line else None) None within ∙ here)) tt
