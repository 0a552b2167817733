use Rattle.std.proofs.Common.{rules, inl, inr, sym, arith}
use Rattle.usbredir.specs.Kinds.{kind_of}
use Rattle.usbredir.proofs.Guests.{wrong_length}
use Rattle.usbredir.proofs.packets.GuestPacket.from_bytes.Goals as goal
use Rattle.usbredir.proofs.packets.GuestPacket.from_bytes.Goals.{then-head-gt-MOST_BYTES-via-then-head-gt-MOST_BYTES, then-head-gt-MOST_BYTES-via-else-head-gt-MOST_BYTES+then-bytes-count}

pub returns-then-head-gt-MOST_BYTES : goal.returns-then-head-gt-MOST_BYTES
returns-then-head-gt-MOST_BYTES c =
    sym (wrong_length c.args.head.now.length c.in-Some.count (kind_of c.args.head.now.kind) c.args.bytes.now (search rules)
    (elim c.then-head-gt-MOST_BYTES.branch [
      | then-head-gt-MOST_BYTES-via-then-head-gt-MOST_BYTES w ↦ inl (search (rules, arith))
      | then-head-gt-MOST_BYTES-via-else-head-gt-MOST_BYTES+then-bytes-count w ↦ inr (search (rules, arith))
    ]))
