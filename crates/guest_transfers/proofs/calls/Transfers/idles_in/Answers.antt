-- What a step of data-in would do, by what it would find.
use Rattle.std.proofs.Common.{sym, ◌∙◌}
use Rattle.guest_transfers.specs.State.{TransfersWorld}
use Rattle.guest_transfers.proofs.Idle.{idles}
use Rattle.guest_transfers.proofs.calls.Transfers.idles_in.Goals as goal

pub returns : goal.returns
returns g c =
    let w : TransfersWorld g.D.UasDevice.State = record {
      memory = g.M.GuestMemory.contents c.args.memory.now;
      events = c.args.events.now;
      transfers = c.args.self.now;
      device = g.D.UasDevice.state c.args.device.now;
    } in
    c.idles_by_look.ensures ∙ sym (idles g.D.UasDevice.kind w c.args.tag)
