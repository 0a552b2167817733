-- The fields of a CDB and of a text have as many bytes.
use Rattle.scsi_cmd.specs.declared.Op.{Op}
use Rattle.scsi_cmd.specs.declared.Op.TheVariants.{TestUnitReady, Inquiry, ReadCapacity, Read, Write, Sync, Read16, Write16, ReadCapacity16}
use Rattle.scsi_cmd.specs.Op.{FitsCdb}
use Rattle.log_text.specs.Text.{OpFits}
use Rattle.booked_limits.proofs.fields.fields_fit.Goals as goal

op-fits : (op : Op) → FitsCdb op → OpFits op
op-fits TestUnitReady fits = fits
op-fits (Inquiry allocation) fits = fits
op-fits ReadCapacity fits = fits
op-fits (Read lba count fua) fits = fits
op-fits (Write lba count fua) fits = fits
op-fits (Sync lba count) fits = fits
op-fits (Read16 lba count fua) fits = fits
op-fits (Write16 lba count fua) fits = fits
op-fits (ReadCapacity16 allocation) fits = fits

pub returns : goal.returns
returns c = op-fits c.args.op.now c.cdb.ensures.fits
