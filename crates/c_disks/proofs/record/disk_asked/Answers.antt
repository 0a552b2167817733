use Rattle.std.proofs.Common.{◌≡◌, ℕ, true, List, refl, sym, ap, ◌∙◌}
use Rattle.c_disks.specs.declared.fields.DiskRecord.{DiskRecord}
use Rattle.c_disks.specs.Records.{disk_asked, has_size, record_of, shape_asked}
use Rattle.c_disks.proofs.record.disk_asked.Goals as goal

whole : (number : ℕ) (bytes : List ℕ) → has_size bytes ≡ true → shape_asked number (record_of bytes) ≡ disk_asked number bytes
whole number bytes sized = rw sized refl

pub returns : goal.returns
returns c =
    c.shape_asked.ensures ∙ ap (λ (disk : DiskRecord). shape_asked c.args.number disk) c.read.ensures
    ∙ whole c.args.number c.args.record.now (sym c.has_size.ensures ∙ c.if-not-has_size.false)
