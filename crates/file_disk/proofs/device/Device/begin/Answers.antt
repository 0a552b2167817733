use Rattle.std.proofs.Common.{ℕ, List, ap, ◌∙◌}
use Rattle.uas_iu.specs.Units.{unit_text}
use Rattle.uas_iu.specs.declared.Iu.TheVariants.{Command}
use Rattle.uas_tasks.specs.Machine.{received}
use Rattle.file_disk.proofs.Begun.{begun_task}
use Rattle.file_disk.proofs.device.Device.begin.Goals as goal

pub returns-clause-begun : goal.returns-clause-begun
returns-clause-begun c =
    begun_task c.args.operation c.args.self.now.blocks c.args.block c.args.count c.cdb.result c.args.self.now.tasks c.receive.new.self c.receive.result
    c.requires.ready c.requires.may c.write.ensures.fits.2 c.cdb.ensures.code c.cdb.ensures.flags c.cdb.ensures.block c.cdb.ensures.count
    (c.receive.ensures ∙ ap (received c.args.self.now.tasks)
    (c.deref.ensures.0 ∙ c.write.ensures.text ∙ ap (λ (lun : List ℕ). unit_text (Command 1 lun c.cdb.result)) c.lun_bytes.ensures))
