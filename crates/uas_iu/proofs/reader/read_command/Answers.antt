use Rattle.std.proofs.Common.{arith, rules, sym, ◌∙◌, slice_index}
use Rattle.uas_iu.specs.Faults.{reserved_places}
use Rattle.uas_iu.specs.Units.{unit_text}
use Rattle.uas_iu.proofs.reader.read_command.Goals as goal
use Rattle.uas_iu.proofs.Texts.{first_eight, last_part, none_set, number_bytes}
use Rattle.uas_profile.specs.declared.TheConstants.{COMMAND_BYTES}

pub returns-clause-found : goal.returns-clause-found
unfolding unit_text
returns-clause-found c =
    let bytes = c.args.bytes.now in
    let header = first_eight bytes (omega arith) in
    let zeros = none_set bytes (reserved_places 1) (sym c.is_any_set.ensures ∙ c.if-is_any_set.false) in
    let tag_bytes = number_bytes (slice_index bytes 2) (slice_index bytes 3) _ (omega (arith, c.type_inv.bytes 2))
    (omega (arith, c.type_inv.bytes 3)) c.number_at.ensures in
    let rest = last_part bytes _ 16 COMMAND_BYTES c.array_at-2.ensures (omega arith) in
    (search rules, cc)
