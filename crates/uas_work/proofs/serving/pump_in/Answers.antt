use Rattle.std.proofs.Common.{ℕ, refl, sym, ap, subst, ◌∙◌}
use Rattle.uas_profile.specs.Tags.{slot_of}
use Rattle.tag_desk.specs.Seats.{Server}
use Rattle.uas_work.specs.Booked.{turns_in}
use Rattle.uas_work.specs.Held.{Pump, AreHeldBy}
use Rattle.uas_work.specs.Pumps.{Given, asked, passed, passing}
use Rattle.uas_work.proofs.Passing.{passed_held_by}
use Rattle.uas_work.proofs.Taking.{asks_submits, given_held, given_served, given_table, took_in, gave_up_in}
use Rattle.uas_work.proofs.serving.pump_in.Goals as goal

pub asked-step-requires-clause-ask : goal.asked-step-requires-clause-ask
asked-step-requires-clause-ask c =
    asks_submits _ _ _ _ c.in-Some.ensures.given.asks.ask

pub submit-requires-clause-held : goal.submit-requires-clause-held
submit-requires-clause-held c =
    let old : Pump = record { seat = c.args.seat.now; held = c.args.held.now } in
    given_held _ _ _ _ _ _ _ c.in-Some.ensures.given
    (passed_held_by c.args.desk.now c.args.client c.turn-ticket.result (slot_of c.args.desk.now.tags c.in-Some.claim.tag) old c.requires.held)

pub submit-requires-clause-served : goal.submit-requires-clause-served
submit-requires-clause-served c = given_served _ _ _ _ _ _ _ c.in-Some.ensures.given

pub submit-requires-clause-away : goal.submit-requires-clause-away
submit-requires-clause-away c = c.in-Some.ensures.given.away

pub submit-requires-clause-desk : goal.submit-requires-clause-desk
submit-requires-clause-desk c = given_table _ _ _ _ _ _ _ c.in-Some.ensures.given

pub submit-requires-clause-free : goal.submit-requires-clause-free
submit-requires-clause-free c = c.in-Some.ensures.given.asks.free

pub returns-in-Some-clause-took : goal.returns-in-Some-clause-took
returns-in-Some-clause-took c =
    let old : Pump = record { seat = c.args.seat.now; held = c.args.held.now } in
    let desk = c.args.desk.now in
    let it : Given desk c.args.client (turns_in c.args.client c.args.booked.now.log.steps) c.in-Some.claim c.in-Some.slip
    (passing desk c.args.client (turns_in c.args.client c.args.booked.now.log.steps) (slot_of desk.tags c.in-Some.claim.tag) old) c.claimed.new.seat =
    subst (λ (t : ℕ). Given desk c.args.client t c.in-Some.claim c.in-Some.slip (passing desk c.args.client t (slot_of desk.tags c.in-Some.claim.tag) old)
    c.claimed.new.seat) c.turn-ticket.ensures.turns c.in-Some.ensures.given in
    took_in c.args.desk.now c.args.client (turns_in c.args.client c.args.booked.now.log.steps) c.in-Some.claim c.in-Some.slip c.asked-step.result
    c.args.booked.now c.submit.new.booked old (record { seat = c.submit.new.seat; held = c.submit.new.held }) c.claimed.new.seat c.submit.result it
    (c.asked-step.ensures.step ∙ ap (λ (t : ℕ). asked c.args.client t c.in-Some.slip) c.tag.ensures) c.submit.ensures.took c.submit.ensures.booked
    c.submit.ensures.pump

pub returns-in-Some-clause-gave_up : goal.returns-in-Some-clause-gave_up
returns-in-Some-clause-gave_up c =
    let old : Pump = record { seat = c.args.seat.now; held = c.args.held.now } in
    let desk = c.args.desk.now in
    let it : Given desk c.args.client (turns_in c.args.client c.args.booked.now.log.steps) c.in-Some.claim c.in-Some.slip
    (passing desk c.args.client (turns_in c.args.client c.args.booked.now.log.steps) (slot_of desk.tags c.in-Some.claim.tag) old) c.claimed.new.seat =
    subst (λ (t : ℕ). Given desk c.args.client t c.in-Some.claim c.in-Some.slip (passing desk c.args.client t (slot_of desk.tags c.in-Some.claim.tag) old)
    c.claimed.new.seat) c.turn-ticket.ensures.turns c.in-Some.ensures.given in
    gave_up_in c.args.desk.now c.args.client (turns_in c.args.client c.args.booked.now.log.steps) c.in-Some.claim c.in-Some.slip c.asked-step.result
    old (record { seat = c.submit.new.seat; held = c.submit.new.held }) c.claimed.new.seat c.submit.result it
    (c.asked-step.ensures.step ∙ ap (λ (t : ℕ). asked c.args.client t c.in-Some.slip) c.tag.ensures) c.submit.ensures.gave_up

pub returns-in-None-clause-took : goal.returns-in-None-clause-took
returns-in-None-clause-took c =
    let desk = c.args.desk.now in
    let old : Pump = record { seat = c.args.seat.now; held = c.args.held.now } in
    let seat = c.in-None.ensures.none ∙ ap (λ (t : ℕ). passed desk c.args.client t desk.tags old) c.turn-ticket.ensures.turns in
    (refl, λ i. record { seat = seat i; held = c.args.held.now })

pub returns-in-None-clause-held : goal.returns-in-None-clause-held
returns-in-None-clause-held c =
    let desk = c.args.desk.now in
    let old : Pump = record { seat = c.args.seat.now; held = c.args.held.now } in
    subst (λ (s : Server). AreHeldBy desk s c.args.held.now) (sym c.in-None.ensures.none)
    (passed_held_by desk c.args.client c.turn-ticket.result desk.tags old c.requires.held)
