use Rattle.std.proofs.Common.{◌≡◌, ◌+◌, ◌-◌, ◌*◌, ◌<◌, ◌^◌, ℕ, None, get_or, add-one, ap, subst, sym, ◌∙◌, arith}
use Rattle.uas_profile.specs.Tags.{slot_of, tag_of}
use Rattle.tag_desk.specs.Seats.{Server}
use Rattle.uas_work.specs.Held.{Pump}
use Rattle.uas_work.specs.Pumps.{passed, passed_at}
use Rattle.uas_work.proofs.Passing.{number_at}
use Rattle.uas_work.proofs.Taking.{served_at, client_at, slot_at, given_of, tag_small}
use Rattle.uas_work.proofs.serving.claimed.Goals as goal

pub tag_of-tag-requires : goal.tag_of-tag-requires
tag_of-tag-requires c =
    subst (λ (n : ℕ). c.args.client * n + c.loop-slot.slot + 1 < 2 ^ 16) (sym c.tags-tags.ensures.tags)
    (tag_small c.args.desk.now.tags c.args.desk.now.clients c.args.client c.loop-slot.slot c.requires.client.0
    (omega (arith, c.tags-tags.ensures.tags, c.loop-slot-test.true)) c.tags-tags.ensures.streams)

pub claimed_at-requires-clause-served : goal.claimed_at-requires-clause-served
claimed_at-requires-clause-served c =
    served_at c.args.desk.now c.loop-slot.seat c.args.client c.loop-slot.slot c.tag_of-tag.result c.loop-slot.invariant.serves
    (omega (arith, c.tags-tags.ensures.tags, c.loop-slot-test.true))
    (c.tag_of-tag.ensures ∙ ap (λ (n : ℕ). tag_of n (record { client = c.args.client; slot = c.loop-slot.slot })) c.tags-tags.ensures.tags)

pub returns-in-Some-clause-given : goal.returns-in-Some-clause-given
returns-in-Some-clause-given c =
    let desk = c.args.desk.now in
    let old : Pump = record { seat = c.args.seat.now; held = c.args.held.now } in
    let within : c.loop-slot.slot < desk.tags = omega (arith, c.tags-tags.ensures.tags, c.loop-slot-test.true) in
    let tag : c.tag_of-tag.result ≡ tag_of desk.tags (record { client = c.args.client; slot = c.loop-slot.slot }) =
    c.tag_of-tag.ensures ∙ ap (λ (n : ℕ). tag_of n (record { client = c.args.client; slot = c.loop-slot.slot })) c.tags-tags.ensures.tags in
    let slot : c.loop-slot.slot ≡ slot_of desk.tags c.in-Some.given.0.tag =
    sym (slot_at desk.tags c.args.client c.loop-slot.slot c.in-Some.given.0.tag within (c.in-Some.ensures.tag ∙ tag)) in
    given_of _ _ _ _ _ _ _ _ _ _
    (client_at desk.tags c.args.client c.loop-slot.slot c.tag_of-tag.result within tag)
    (c.loop-slot.invariant.same ∙ ap (λ (n : ℕ). passed desk c.args.client c.args.ticket n old) slot) c.in-Some.ensures.given

pub loop-slot-preserved : goal.loop-slot-preserved
loop-slot-preserved c =
    let was = c.loop-slot.invariant in
    let desk = c.args.desk.now in
    let held = c.args.held.now in
    let old : Pump = record { seat = c.args.seat.now; held = held } in
    let tag : c.tag_of-tag.result ≡ tag_of desk.tags (record { client = c.args.client; slot = c.loop-slot.slot }) =
    c.tag_of-tag.ensures ∙ ap (λ (n : ℕ). tag_of n (record { client = c.args.client; slot = c.loop-slot.slot })) c.tags-tags.ensures.tags in
    let none = c.in-None.ensures.none in
    record {
      same =
          none ∙ (λ i. passed_at (tag i) c.args.ticket (get_or held (tag i - 1) None) (was.same i))
          ∙ sym (ap (λ (n : ℕ). passed desk c.args.client c.args.ticket n old) (add-one c.loop-slot.slot));
      own = c.in-None.ensures.own;
      serves = (
        was.serves.0,
        was.serves.1,
        was.serves.2
            ∙ sym (ap (λ (s : Server). s.pump) none ∙ number_at c.tag_of-tag.result c.args.ticket (get_or held (c.tag_of-tag.result - 1) None) c.loop-slot.seat),
      );
    }

pub returns-clause-none : goal.returns-clause-none
returns-clause-none c =
    let old : Pump = record { seat = c.args.seat.now; held = c.args.held.now } in
    let all : c.loop-slot.slot ≡ c.args.desk.now.tags = omega (arith, c.tags-tags.ensures.tags, c.loop-slot-test.false) in
    c.loop-slot.invariant.same ∙ ap (λ (n : ℕ). passed c.args.desk.now c.args.client c.args.ticket n old) all
