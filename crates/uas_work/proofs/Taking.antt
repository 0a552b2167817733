-- A client's slip is claimed and booked: from the claim to what `pump_in` tells.
use Rattle.std.proofs.Common.{◌≡◌, ℕ, ◌+◌, ◌-◌, ◌*◌, ◌%◌, ◌<◌, ◌≤◌, Bool, true, false, List, Option, Some, None, Result, Ok, Err, IfOk, IfErr, get_or, refl, sym, ap, subst, ◌∙◌, arith}
use Rattle.std.proofs.Common.{mul_comm, ◌≢◌}
use Rattle.uas_profile.specs.declared.Place.{Place}
use Rattle.uas_profile.specs.Tags.{client_of, slot_of, tag_of, task_slot}
use Rattle.uas_profile.proofs.TagLaws.{client-before, client-of_some, slot-before, slot-of_some, tag-of_its_place, tags-within}
use Rattle.shared_machine.specs.declared.Step.{Step}
use Rattle.tag_desk.specs.declared.Slip.{Slip}
use Rattle.tag_desk.specs.declared.Slip.TheVariants.{Ask, AskTask, Answer, Refused, Unserved}
use Rattle.tag_desk.specs.Slips.{IsAsk}
use Rattle.tag_desk.specs.Seats.{MadeDesk, Server, HeldClaim, ClaimsAt, IsAway, IsServed, IsTagOf}
use Rattle.uas_work.specs.declared.Booking.{Booking}
use Rattle.uas_work.specs.Booked.{BookedState, booked_step}
use Rattle.uas_work.specs.Held.{Pump, AreHeldBy, ServesClient}
use Rattle.uas_work.specs.Pumps.{Given, GaveUpIn, GaveUpWith, Submits, TookInOrLeft, asked, brought, claiming, emptied, passing, submitted}
use Rattle.uas_work.proofs.Holding.{held-given}

-- THE TAGS OF A CLIENT

-- a tag between the client's first and its last is the client's, and it is none for task management
pub command_own : (tags client tag : ℕ) → tags * client < tag → tag < tags * client + tags → IsTagOf tags client tag × (slot_of tags tag ≢ task_slot tags)
command_own tags client tag above below =
    let slot : ℕ = tag - 1 - tags * client in
    let turned : tags * client ≡ client * tags = mul_comm tags client in
    let short : slot < tags = omega arith in
    let is : tag - 1 ≡ client * tags + slot = omega arith in
    let place : slot_of tags tag ≡ slot = sym (slot-of_some tags tag (omega arith)) ∙ slot-before tags client (tag - 1) slot is short in (
      (omega arith, sym (client-of_some tags tag (omega arith)) ∙ client-before tags client (tag - 1) slot is short),
      λ last. omega (arith, place, last),
    )

-- so of the client and the number of a seat, where they are the range's
pub issued_own : (per client tags owner tag : ℕ) → tags ≡ per → owner ≡ client → per * client < tag → tag < per * client + per
    → IsTagOf tags owner tag × (slot_of tags tag ≢ task_slot tags)
issued_own per client tags owner tag number same above below =
    subst (λ (p : ℕ × ℕ). IsTagOf p.0 p.1 tag × (slot_of p.0 tag ≢ task_slot p.0)) (λ i. (sym number i, sym same i)) (command_own per client tag above below)

-- the tag of a client's slot is the client's, also where another name is known of the client and of how many tags it has
pub placed_own : (tags client each owner slot tag : ℕ) → tag ≡ tag_of tags (record { client = client; slot = slot }) → tags ≡ each → client ≡ owner → slot < tags
    → IsTagOf each owner tag
placed_own tags client each owner slot tag is number same within =
    subst (λ (p : ℕ × ℕ). IsTagOf p.0 p.1 tag) (λ i. (number i, same i))
    (subst (λ t. IsTagOf tags client t) (sym is) (omega arith, (tag-of_its_place tags (record { client = client; slot = slot }) within).0))

pub client_at : (tags client slot tag : ℕ) → slot < tags → tag ≡ tag_of tags (record { client = client; slot = slot }) → client_of tags tag ≡ client
client_at tags client slot tag within is = ap (client_of tags) is ∙ (tag-of_its_place tags (record { client = client; slot = slot }) within).0

pub slot_at : (tags client slot tag : ℕ) → slot < tags → tag ≡ tag_of tags (record { client = client; slot = slot }) → slot_of tags tag ≡ slot
slot_at tags client slot tag within is = ap (slot_of tags) is ∙ (tag-of_its_place tags (record { client = client; slot = slot }) within).1

pub served_at : (desk : MadeDesk) (seat : Server) (client slot tag : ℕ) → ServesClient desk seat client → slot < desk.tags
    → tag ≡ tag_of desk.tags (record { client = client; slot = slot }) → IsServed desk seat tag
served_at desk seat client slot tag serves within is =
    let place : Place = record { client = client; slot = slot } in
    let all = tags-within desk.tags desk.clients place serves.0 within in (
      omega (arith, all.0),
      subst (λ n. n ≤ desk.tags * desk.clients) (sym is) all.1,
      ap (λ c. c % desk.pumps) (client_at desk.tags client slot tag within is) ∙ serves.2,
    )

-- a tag of a desk is a number of 16 bits
pub tag_small : (tags clients client slot : ℕ) → client < clients → slot < tags → tags * clients ≤ 248 → client * tags + slot + 1 < 65536
tag_small tags clients client slot below within few =
    let all = tags-within tags clients (record { client = client; slot = slot }) below within in
    omega (arith, all.1)

-- THE CLAIM

pub asks_submits : (tags tag ticket : ℕ) (slip : Slip) → IsAsk tags tag ticket slip → Submits ticket slip
asks_submits tags tag ticket (Ask n command) asks = asks.0
asks_submits tags tag ticket (AskTask n task) asks = asks.0
asks_submits tags tag ticket (Answer reply) asks = asks
asks_submits tags tag ticket (Refused n fault buffer) asks = asks
asks_submits tags tag ticket (Unserved n buffer) asks = asks

pub given_at : (desk : MadeDesk) (ticket tag : ℕ) (full empty : HeldClaim) (slip : Slip) (seat new : Server) (held : List (Option HeldClaim))
    → IsServed desk seat tag → get_or held (tag - 1) None ≡ None → full.table ≡ desk.table → ClaimsAt desk.tags seat new tag ticket full → IsAway new tag
    → full.slip ≡ Some slip → empty ≡ record full { slip = None }
    → Given desk (client_of desk.tags tag) ticket empty slip (record { seat = seat; held = held }) new
given_at desk ticket tag full empty slip seat new held served free table claims away has is =
    let named : empty.tag ≡ tag = ap (λ (k : HeldClaim). k.tag) is ∙ claims.3 in
    let same : claims.0 ≡ slip = let e : Some claims.0 ≡ Some slip = sym claims.2 ∙ has in cc in
    record {
      is =
          is ∙ (λ i. record { table = table i; tag = claims.3 i; ticket = claims.4 i; slip = None })
          ∙ ap (λ t. emptied desk t ticket) (sym named);
      asks = record {
        own = subst (λ t. IsTagOf desk.tags (client_of desk.tags tag) t) (sym named) (served.0, refl);
        free = subst (λ t. get_or held (t - 1) None ≡ None) (sym named) free;
        ask = subst (λ t. IsAsk desk.tags t ticket slip) (sym named) (subst (λ (x : Slip). IsAsk desk.tags tag ticket x) same claims.1);
      };
      served = subst (IsServed desk seat) (sym named) served;
      away = subst (IsAway new) (sym named) away;
      seat = claims.5 ∙ ap (λ t. (claiming t (record { seat = seat; held = held })).seat) (sym named);
    }

-- of the same client, and of the seat as it was
pub given_of : (desk : MadeDesk) (one client ticket : ℕ) (claim : HeldClaim) (slip : Slip) (was seat : Server) (held : List (Option HeldClaim))
    (new : Server) → one ≡ client → was ≡ seat → Given desk one ticket claim slip (record { seat = was; held = held }) new
    → Given desk client ticket claim slip (record { seat = seat; held = held }) new
given_of desk one client ticket claim slip was seat held new named same it =
    subst (λ (c : ℕ). Given desk c ticket claim slip (record { seat = seat; held = held }) new) named
    (subst (λ (s : Server). Given desk one ticket claim slip (record { seat = s; held = held }) new) same it)

-- the seat's other claims stay its own
pub given_held : (desk : MadeDesk) (client ticket : ℕ) (claim : HeldClaim) (slip : Slip) (old : Pump) (new : Server)
    → Given desk client ticket claim slip old new → AreHeldBy desk old.seat old.held → AreHeldBy desk new old.held
given_held desk client ticket claim slip old new it are =
    subst (λ (seat : Server). AreHeldBy desk seat old.held) (sym it.seat) (held-given desk old.seat old.held (claim.tag - 1) are)

pub given_served : (desk : MadeDesk) (client ticket : ℕ) (claim : HeldClaim) (slip : Slip) (old : Pump) (new : Server)
    → Given desk client ticket claim slip old new → IsServed desk new claim.tag
given_served desk client ticket claim slip old new it = subst (λ (seat : Server). IsServed desk seat claim.tag) (sym it.seat) it.served

pub given_table : (desk : MadeDesk) (client ticket : ℕ) (claim : HeldClaim) (slip : Slip) (old : Pump) (new : Server)
    → Given desk client ticket claim slip old new → claim.table ≡ desk.table
given_table desk client ticket claim slip old new it = ap (λ (k : HeldClaim). k.table) it.is

-- WHAT CAME OF IT

-- the claim's own pump, by what it was before the claim
pump_is : (desk : MadeDesk) (client ticket : ℕ) (claim : HeldClaim) (slip : Slip) (old : Pump) (mid : Server)
    → Given desk client ticket claim slip old mid → record { seat = mid; held = old.held } ≡ claiming claim.tag old
pump_is desk client ticket claim slip old mid it = λ i. record { seat = it.seat i; held = old.held }

pub took_in : (desk : MadeDesk) (client ticket : ℕ) (claim : HeldClaim) (slip : Slip) (step : Step) (before after : BookedState) (old new : Pump)
    (mid : Server) (result : Result Bool Booking) → Given desk client ticket claim slip (passing desk client ticket (slot_of desk.tags claim.tag) old) mid → step ≡ asked client claim.tag slip
    → IfOk result (λ took. took ≡ true) → IfOk result (λ took. after ≡ (booked_step before step).0)
    → IfOk result (λ took. new ≡ submitted (booked_step before step).1.refused claim (record { seat = mid; held = old.held }))
    → IfOk result (TookInOrLeft desk client ticket before after old new)
took_in desk client ticket claim slip step before after old new mid (Ok true) it is told books pump = record {
  tag = claim.tag;
  slip = slip;
  asks = record { own = it.asks.own; free = it.asks.free; ask = it.asks.ask };
  booked = books ∙ ap (λ (s : Step). (booked_step before s).0) is;
  pump =
      pump ∙ ap (λ (s : Step). submitted (booked_step before s).1.refused claim (record { seat = mid; held = old.held })) is
      ∙ ap (λ (p : Pump). submitted (booked_step before (asked client claim.tag slip)).1.refused claim p) (pump_is desk client ticket claim slip (passing desk client ticket (slot_of desk.tags claim.tag) old) mid it)
      ∙ ap (λ (k : HeldClaim). submitted (booked_step before (asked client claim.tag slip)).1.refused k (claiming claim.tag (passing desk client ticket (slot_of desk.tags claim.tag) old))) it.is;
}
took_in desk client ticket claim slip step before after old new mid (Ok false) it is told books pump = absurd (let e : false ≡ true = told in cc)
took_in desk client ticket claim slip step before after old new mid (Err booking) it is told books pump = tt

pub gave_up_in : (desk : MadeDesk) (client ticket : ℕ) (claim : HeldClaim) (slip : Slip) (step : Step) (old new : Pump)
    (mid : Server) (result : Result Bool Booking) → Given desk client ticket claim slip (passing desk client ticket (slot_of desk.tags claim.tag) old) mid → step ≡ asked client claim.tag slip
    → IfErr result (λ booking. GaveUpWith claim (brought step) (record { seat = mid; held = old.held }) new)
    → IfErr result (λ booking. GaveUpIn desk client ticket old new)
gave_up_in desk client ticket claim slip step old new mid (Ok took) it is gave = tt
gave_up_in desk client ticket claim slip step old new mid (Err booking) it is gave = record {
  tag = claim.tag;
  slip = slip;
  asks = record { own = it.asks.own; free = it.asks.free; ask = it.asks.ask };
  ends =
      subst (λ (k : HeldClaim). GaveUpWith k (brought (asked client claim.tag slip)) (claiming claim.tag (passing desk client ticket (slot_of desk.tags claim.tag) old)) new) it.is
      (subst (λ (p : Pump). GaveUpWith claim (brought (asked client claim.tag slip)) p new) (pump_is desk client ticket claim slip (passing desk client ticket (slot_of desk.tags claim.tag) old) mid it)
      (subst (λ (s : Step). GaveUpWith claim (brought s) (record { seat = mid; held = old.held }) new) is gave));
}
