use Rattle.std.proofs.Common.{◌-◌}
use Rattle.std.specs.Prelude.{min}
use Rattle.std.specs.Prelude.{length}
use Rattle.guest_bulk.proofs.Counted.{counted}
use Rattle.guest_bulk.proofs.laws.bytes_are_counted.Goals as goal

pub returns-clause-to_host : goal.returns-clause-to_host
returns-clause-to_host g c = λ w command coming buffer. counted (min coming (buffer.length - w.ring.consumer.progress.moved)) command.left

pub returns-clause-to_device : goal.returns-clause-to_device
returns-clause-to_device g c = λ w command count buffer.
    counted (min (count - length w.bulk.taken) (buffer.length - w.ring.consumer.progress.moved)) command.left
