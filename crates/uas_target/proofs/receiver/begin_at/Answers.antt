use Rattle.std.proofs.lemmas.Option.{slice_get-get_or}
use Rattle.uas_target.proofs.Counts.{counts_of-set, slice_get-counts_of}
use Rattle.uas_target.proofs.receiver.begin_at.Goals as goal

pub returns-clause-counts : goal.returns-clause-counts
returns-clause-counts c = counts_of-set c.args.units.now c.args.number _ _ c.begin_on.ensures.count

pub returns-clause-sound : goal.returns-clause-sound
returns-clause-sound c =
    rw (counts_of-set c.args.units.now c.args.number c.index-units-number.result c.begin_on.new.unit c.begin_on.ensures.count)
    (c.begin_on.ensures.sound _
    (slice_get-counts_of c.args.units.now c.args.number _ (slice_get-get_or c.args.units.now c.args.number c.index-units-number.result c.requires)))
