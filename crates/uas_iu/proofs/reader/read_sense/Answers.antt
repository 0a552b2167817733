use Rattle.std.proofs.Common.{◌≡◌, ◌+◌, ◌*◌, ◌≤◌, arith, length, slice_index}
use Rattle.std.proofs.lemmas.Grind.{common_steps}
use Rattle.uas_iu.specs.Faults.{reserved_places}
use Rattle.uas_iu.specs.Units.{unit_text}
use Rattle.uas_iu.proofs.reader.read_sense.Goals as goal
use Rattle.uas_iu.proofs.Texts.{first_eight, none_set}
use Rattle.uas_profile.specs.declared.TheConstants.{STATUS_BYTES}

pub returns-clause-found : goal.returns-clause-found
unfolding unit_text
returns-clause-found c =
    let bytes = c.args.bytes.now in
    let least : 16 ≤ length bytes = c.in_default.ensures.size.0 in
    let most : length bytes ≤ STATUS_BYTES = c.in_default.ensures.size.1 in
    let whole : 16 + (slice_index bytes 14 * 256 + slice_index bytes 15) ≡ length bytes = c.in_default.ensures.size.2 in
    let header = first_eight bytes (omega (arith, least)) in
    let zeros = none_set bytes (reserved_places 3) c.in_default.ensures.zeros in
    grind (arith, common_steps)
