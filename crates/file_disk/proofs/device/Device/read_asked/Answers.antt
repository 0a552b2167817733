use Rattle.std.proofs.Common.{◌≡◌, ◌/◌, ℕ, Some, length, subst, sym}
use Rattle.uas_tasks.specs.declared.JobKind.TheVariants.{Reads}
use Rattle.file_disk.specs.Device.{IsAt, asking}
use Rattle.file_disk.proofs.Answered.{read_done, read_failed, whole_same}
use Rattle.file_disk.proofs.device.Device.read_asked.Goals as goal

pub returns-in-Ok-clause-done : goal.returns-in-Ok-clause-done
returns-in-Ok-clause-done g c =
    let same : length c.read_at.new.into ≡ length c.args.into.now = c.read_at.auto.into in
    let device = c.args.self.now in
    (read_done device.blocks c.in-Asks.number c.args.block c.in-Asks.request c.read_at.new.into device.tasks c.next.new.self c.answered.new.self
    c.answered.result (subst (λ (n : ℕ). IsAt device.blocks device.tasks (Some (asking Reads c.args.block (n / 512)))) (sym same) c.requires.asks)
    c.in-Asks.ensures c.answered.ensures (whole_same c.args.into.now c.read_at.new.into same c.requires.whole)).0

pub returns-in-Ok-clause-given : goal.returns-in-Ok-clause-given
returns-in-Ok-clause-given g c =
    let same : length c.read_at.new.into ≡ length c.args.into.now = c.read_at.auto.into in
    let device = c.args.self.now in
    (read_done device.blocks c.in-Asks.number c.args.block c.in-Asks.request c.read_at.new.into device.tasks c.next.new.self c.answered.new.self
    c.answered.result (subst (λ (n : ℕ). IsAt device.blocks device.tasks (Some (asking Reads c.args.block (n / 512)))) (sym same) c.requires.asks)
    c.in-Asks.ensures c.answered.ensures (whole_same c.args.into.now c.read_at.new.into same c.requires.whole)).1

pub returns-in-Err-clause-failed : goal.returns-in-Err-clause-failed
returns-in-Err-clause-failed g c =
    read_failed c.args.self.now.blocks c.in-Asks.number c.args.block _ c.in-Asks.request c.args.self.now.tasks c.next.new.self
    c.answered-in-Err.new.self c.answered-in-Err.result c.requires.asks c.in-Asks.ensures c.answered-in-Err.ensures
