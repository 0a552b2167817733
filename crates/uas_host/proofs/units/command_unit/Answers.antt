use Rattle.std.proofs.Common.{◌∙◌, ap, length}
use Rattle.uas_host.proofs.Texts.{command_text-length}
use Rattle.uas_host.proofs.units.command_unit.Goals as goal

pub returns-clause-bytes : goal.returns-clause-bytes
returns-clause-bytes c = ap length c.write.ensures.text ∙ command_text-length c.args.tag c.lun_bytes.result c.cdb.result c.write.ensures.fits
