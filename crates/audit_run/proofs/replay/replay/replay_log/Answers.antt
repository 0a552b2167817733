-- What the booked steps come to is the replay of the saved log.
use Rattle.std.proofs.Common.{◌≡◌, ℕ, ◌*◌, ◌/◌, ◌≤◌, arith, List, [], ◌∷◌, map, Result, Ok, Err, Option, length, vec_len, refl, ap, sym, subst, ◌∙◌}
use Rattle.std.specs.Prelude.{IsErrAnd}
use Rattle.std.proofs.lemmas.List.{length-map}
use Rattle.std.proofs.lemmas.Nat.{mul-le, div-add-mod'}
use Rattle.uas_profile.specs.declared.TheConstants.{MAX_CLIENTS, STREAMS}
use Rattle.uas_profile.specs.Tags.{AreTags, most_clients}
use Rattle.shared_machine.specs.declared.Step.{Step}
use Rattle.shared_machine.specs.Bus.{AllTicketed}
use Rattle.shared_machine.specs.Replay.{replay}
use Rattle.shared_machine.specs.Shared.{Shared, opening}
use Rattle.uas_log.specs.declared.FirstUnit.{FirstUnit}
use Rattle.uas_log.specs.Booking.{first_maps, replies_of}
use Rattle.log_text.specs.declared.Version.TheVariants.{Second}
use Rattle.log_text.specs.Kept.{with_client}
use Rattle.log_text.specs.Plain.{Plain}
use Rattle.uas_work.specs.Booked.{BookedState, first_unit}
use Rattle.audit_run.specs.declared.replay.ReplayFault.{ReplayFault}
use Rattle.audit_run.specs.declared.replay.ReplayFault.TheVariants.{NotDue, Refused, OtherReplies, NoMemory}
use Rattle.audit_run.specs.replay.Replaying.{IsReplayed, StopsBy, first_fault, steps_fault}
use Rattle.audit_run.proofs.Replayed.{all-ticketed}
use Rattle.audit_run.proofs.replay.replay.replay_log.Goals as goal

-- the first fault of the steps is the replay's
stops-replayed : (log : Plain) (fault : ReplayFault) → StopsBy (steps_fault log) fault → IsReplayed log (Err fault)
stops-replayed log (NotDue number) is = is
stops-replayed log (Refused number) is = is
stops-replayed log (OtherReplies number) is = absurd is
stops-replayed log NoMemory is = tt

err-replayed : (log : Plain) (fault : ReplayFault) (result : Result BookedState ReplayFault) → IsErrAnd result (λ given. given ≡ fault)
    → IsReplayed log (Err fault) → IsReplayed log result
err-replayed log fault (Ok booked) is holds = absurd is
err-replayed log fault (Err given) is holds = subst (λ one. IsReplayed log (Err one)) (sym is) holds

-- a unit's maps keep what a log has of it
kept-again : (firsts : List FirstUnit) → map first_unit (map first_maps firsts) ≡ firsts
kept-again [] = refl
kept-again (first ∷ rest) = ap (λ others. first ∷ others) (kept-again rest)

pub book_all-requires-clause-ticketed : goal.book_all-requires-clause-ticketed
book_all-requires-clause-ticketed c =
    subst AllTicketed (sym c.steps-2.ensures) (all-ticketed Second (length c.args.log.now.units) c.args.log.now.steps
    c.units.ensures.plain.steps_fit)

-- as many clients as can have so many tags are few, and so are all their tags
few-clients : (tags clients : ℕ) → AreTags tags → clients ≤ most_clients tags → clients ≤ MAX_CLIENTS
few-clients tags clients are most = omega (arith, most)

few-tags : (tags clients : ℕ) → AreTags tags → clients ≤ most_clients tags → clients * tags ≤ STREAMS
few-tags tags clients are most =
    let all : clients ≤ STREAMS / tags = omega (arith, most) in
    omega (arith, mul-le clients tags (STREAMS / tags) tags all (omega arith), div-add-mod' STREAMS tags)

pub with_tags-requires-clause-number : goal.with_tags-requires-clause-number
with_tags-requires-clause-number c = subst AreTags (sym c.tags-tags.ensures) c.units.ensures.plain.are_tags

pub with_tags-requires-clause-most : goal.with_tags-requires-clause-most
with_tags-requires-clause-most c =
    let log = c.args.log.now in
    let count : length c.in_ok-units.units.items ≡ length log.units =
    ap length c.in_ok-units.ensures.units ∙ ap (λ (firsts : List FirstUnit). length (map first_maps firsts)) c.units.ensures.units
    ∙ length-map log.units first_maps in
    omega (arith, count, c.in_ok-units.units.ok.0, few-clients log.tags (length log.units) c.units.ensures.plain.are_tags c.units.ensures.plain.most)

pub with_tags-requires-clause-streams : goal.with_tags-requires-clause-streams
with_tags-requires-clause-streams c =
    let log = c.args.log.now in
    let count : length c.in_ok-units.units.items ≡ length log.units =
    ap length c.in_ok-units.ensures.units ∙ ap (λ (firsts : List FirstUnit). length (map first_maps firsts)) c.units.ensures.units
    ∙ length-map log.units first_maps in
    let same : vec_len c.in_ok-units.units ≡ length log.units = omega (arith, count, c.in_ok-units.units.ok.0) in
    subst (λ (p : ℕ × ℕ). p.0 * p.1 ≤ STREAMS) (λ i. (sym same i, sym c.tags-tags.ensures i))
    (few-tags log.tags (length log.units) c.units.ensures.plain.are_tags c.units.ensures.plain.most)

pub returns-in_err-book_all : goal.returns-in_err-book_all
returns-in_err-book_all c =
    let maps = c.in_ok-units.ensures.units ∙ ap (map first_maps) c.units.ensures.units in
    let begins = ap (λ (b : BookedState). b.bus) c.in_ok-booked.ensures ∙ (λ i. opening (c.tags-tags.ensures i) (maps i)) in
    let first = ap (λ (state : Shared). first_fault 0 state c.steps-2.result.now) begins
    ∙ ap (first_fault 0 (opening c.args.log.now.tags (map first_maps c.args.log.now.units))) c.steps-2.ensures in
    let stops = subst (λ (one : Option ReplayFault). StopsBy one c.in_err-book_all.field-0.0) first c.in_err-book_all.ensures.fault in
    err-replayed c.args.log.now c.in_err-book_all.field-0.0 c.from_residual-in_err-book_all.result c.from_residual-in_err-book_all.ensures.1
    (stops-replayed c.args.log.now c.in_err-book_all.field-0.0 stops)

pub returns-in-None : goal.returns-in-None
returns-in-None c =
    let maps = c.in_ok-units.ensures.units ∙ ap (map first_maps) c.units.ensures.units in
    let begins = ap (λ (b : BookedState). b.bus) c.in_ok-booked.ensures ∙ (λ i. opening (c.tags-tags.ensures i) (maps i)) in
    let first = ap (λ (state : Shared). first_fault 0 state c.steps-2.result.now) begins
    ∙ ap (first_fault 0 (opening c.args.log.now.tags (map first_maps c.args.log.now.units))) c.steps-2.ensures in
    let tags = c.in_ok-book_all.ensures.tags ∙ ap (λ (b : BookedState). b.log.tags) c.in_ok-booked.ensures ∙ c.tags-tags.ensures in
    let units = c.in_ok-book_all.ensures.units ∙ ap (λ (b : BookedState). b.log.units) c.in_ok-booked.ensures ∙ ap (map first_unit) maps
    ∙ kept-again c.args.log.now.units in
    let steps = c.in_ok-book_all.ensures.steps ∙ c.steps-2.ensures in
    let booked = c.log.ensures.booked.log.replies in
    let replies = ap (map (with_client c.args.log.now.tags)) (ap (λ log. log.replies) (sym c.log.ensures.log) ∙ sym c.as_slice.ensures)
    ∙ ap (λ (n : ℕ). map (with_client n) c.as_slice.result.now) (sym c.tags-tags.ensures) ∙ c.in-None.ensures.none ∙ c.replies.ensures in
    record {
      tags = tags;
      units = units;
      steps = steps;
      faultless = sym first ∙ c.in_ok-book_all.ensures.ok;
      told =
          sym
          (ap (map (with_client c.args.log.now.tags))
          (booked
          ∙ ap (λ (n : ℕ). replies_of (replay n (map first_maps c.book_all.new.booked.log.units) c.book_all.new.booked.log.steps).1) tags
          ∙ ap (λ (firsts : List FirstUnit). replies_of (replay c.args.log.now.tags (map first_maps firsts) c.book_all.new.booked.log.steps).1) units
          ∙ ap (λ (taken : List Step). replies_of (replay c.args.log.now.tags (map first_maps c.args.log.now.units) taken).1) steps))
          ∙ replies;
      replies = replies;
      limit = c.in_ok-book_all.ensures.limit ∙ ap (λ (b : BookedState). b.limit) c.in_ok-booked.ensures ∙ ap (λ (taken : List Step). length taken) c.steps.ensures;
    }
