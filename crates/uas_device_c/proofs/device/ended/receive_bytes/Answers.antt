use Rattle.std.proofs.Common.{◌≡◌, false, ap, rules, sym, ◌∙◌}
use Rattle.std.specs.Prelude.{◌==◌}
use Rattle.uas_iu.specs.Faults.{identifier}
use Rattle.uas_device_c.specs.DeviceCall.{has_ended}
use Rattle.uas_device_c.proofs.Ended.{mask_none, none_ended}
use Rattle.uas_device_c.proofs.device.ended.receive_bytes.Goals as goal

pub returns-clause-ended : goal.returns-clause-ended
returns-clause-ended c =
    let other : (identifier c.args.bytes.now == 5) ≡ false = search rules in
    sym (mask_none (has_ended c.args.target.now c.receive.new.self)
    (λ tag.
    ap (λ after. has_ended c.args.target.now after tag) (ap (λ pair. pair.0) c.receive.ensures)
    ∙ none_ended c.other_tags_are_kept.ensures.tags c.args.target.now c.args.bytes.now other tag))
