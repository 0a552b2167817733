use Rattle.std.proofs.Common.{arith}
use Rattle.usb_descriptors.proofs.DeviceBytes.{eighteen}
use Rattle.usb_descriptors.proofs.device.read_device.Goals as goal

pub returns-clause-all : goal.returns-clause-all
returns-clause-all c =
    eighteen c.args.bytes.now c.word.result c.word-2.result c.word-3.result c.word-4.result (grind arith) (λ k. omega (arith, c.type_inv.bytes k))
    c.word.ensures c.word-2.ensures c.word-3.ensures c.word-4.ensures
