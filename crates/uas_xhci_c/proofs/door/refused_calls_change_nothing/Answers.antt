use Rattle.uas_xhci_c.specs.CallLaws.{calls_are_whole}
use Rattle.uas_xhci_c.proofs.door.refused_calls_change_nothing.Goals as goal

pub returns : goal.returns
returns c = calls_are_whole c.args.machine.now c.args.door.now c.args.bytes.now
