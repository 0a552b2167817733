use Rattle.std.proofs.Common.{◌≡◌, ◌*◌, ◌≤◌, List, length, vec_len, refl, ap, sym, subst, ◌∙◌, arith}
use Rattle.block_unit.specs.BlockMaps.{BlockMaps}
use Rattle.shared_machine.specs.Shared.{Shared, opening}
use Rattle.uas_log.specs.declared.Log.{Log}
use Rattle.uas_log.specs.Booking.{empty_log}
use Rattle.uas_profile.specs.declared.TheConstants.{MAX_CLIENTS, STREAMS}
use Rattle.uas_work.specs.Booked.{IsBooked, turns_in}
use Rattle.uas_work.proofs.Openings.{empty_log-booked, zeros-index}
use Rattle.uas_work.proofs.Booked.with_tags.Goals as goal

pub invariant_of-result : goal.invariant_of-result
invariant_of-result c =
    let units : List BlockMaps = c.args.units.items in
    let whole = c.in_ok-firsts.ensures.whole ∙ c.as_slice.ensures.value in
    let long : length units ≡ vec_len c.args.units = sym (ap length c.as_slice.ensures.value) ∙ c.as_slice.ensures.len in
    let tags = c.args.tags in
    let began : IsBooked (record { bus = opening tags units; log = empty_log tags c.in_ok-firsts.firsts.items; limit = c.args.limit }) =
    empty_log-booked tags units c.in_ok-firsts.firsts.items c.args.limit c.requires.number whole (omega arith) (omega arith)
    (subst (λ n. n * tags ≤ STREAMS) (sym long) c.requires.streams) c.requires.limit in
    let bus : c.in_ok-bus.bus ≡ opening tags units = c.in_ok-bus.ensures in
    let log : c.in_ok-log.log ≡ empty_log tags c.in_ok-firsts.firsts.items = c.in_ok-log.ensures in (
      subst (λ (state : Shared). IsBooked (record { bus = state; log = c.in_ok-log.log; limit = c.args.limit })) (sym bus)
          (subst (λ (list : Log). IsBooked (record { bus = opening tags units; log = list; limit = c.args.limit })) (sym log) began),
      (refl, λ client within. zeros-index MAX_CLIENTS client ∙ sym (ap (λ (list : Log). turns_in client list.steps) log)),
    )
