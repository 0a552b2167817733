use Rattle.std.proofs.Common.{ap, ◌∙◌}
use Rattle.bulk_only.specs.Command.{cbw_in}
use Rattle.guest_bulk.specs.Commands.{cbw_taken}
use Rattle.guest_bulk.proofs.bulk.Bulk.receive.Goals as goal

pub returns : goal.returns
returns g c =
    let read = c.read_cbw-read.ensures ∙ ap cbw_in c.bytes.ensures in
    record {
      step = λ ring. c.take_cbw.ensures.step ring
          ∙ ap (λ r. cbw_taken g.D.UasDevice.kind r (record { ring = ring; bulk = c.args.self.now; device = g.D.UasDevice.state c.args.device.now })) read;
    }
