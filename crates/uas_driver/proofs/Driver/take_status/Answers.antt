use Rattle.std.proofs.Common.{ℕ, ◌+◌, ◌*◌, Some, ap, ◌∙◌}
use Rattle.uas_profile.specs.declared.TheConstants.{BUFFER_SPAN, SHORT_PACKET, STATUS_BUFFERS}
use Rattle.uas_driver.specs.Driver.{DriverState}
use Rattle.uas_driver.specs.Endings.{stand_in}
use Rattle.uas_driver.specs.Recovery.{with_told_end, wrote}
use Rattle.uas_driver.specs.Taking.{handed}
use Rattle.uas_driver.proofs.Driver.take_status.Goals as goal

pub returns : goal.returns
returns c =
    c.hand_status.ensures
    ∙ ap (λ (driver : DriverState). with_told_end c.args.tag (handed driver (Some (record { pointer = c.args.last; residual = c.put_stand_in-residual.result; code = SHORT_PACKET }))))
    c.put_stand_in-residual.ensures.wrote
    ∙ ap (λ (left : ℕ). with_told_end c.args.tag (handed (wrote c.args.self.now (STATUS_BUFFERS + BUFFER_SPAN * c.args.tag) (stand_in c.args.self.now.host.tags c.args.tag))
    (Some (record { pointer = c.args.last; residual = left; code = SHORT_PACKET })))) c.put_stand_in-residual.ensures.left
