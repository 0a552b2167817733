use Rattle.std.proofs.Common.{◌≡◌, ◌-◌, ◌<◌, ◌*◌, ◌==◌, false, arith, refl, ap}
use Rattle.std.proofs.lemmas.Nat.Bits.{shr_and_one}
use Rattle.std.proofs.lemmas.Bool.{le-ltb}
use Rattle.tag_range.specs.Tags.{ClientTags, flags}
use Rattle.tag_range.proofs.Flags.{get_or-flags, length-flags}
use Rattle.tag_range.proofs.Least.{is_issued-command, is_issued-past}
use Rattle.tag_range.proofs.client_range.ClientRange.is_issued.Goals as goal

pub returns-then-index-self-2 : goal.returns-then-index-self-2
returns-then-index-self-2 c =
    let tags : ClientTags =
    record { client = c.self.inside.client; next = c.self.inside.next; out = flags (c.self.inside.tags - 1) c.self.inside.out; task_out = c.self.inside.task_out } in
    let entry : c.args.tag - c.tag_at-before.result - 1 ≡ c.args.tag - c.self.inside.tags * c.self.inside.client - 1 = omega arith in
    let within : c.args.tag - c.self.inside.tags * c.self.inside.client - 1 < c.self.inside.tags - 1 = omega arith in
    rw (
      ← c.self.view_is,
      is_issued-command c.self.inside.tags tags c.args.tag (omega arith) (omega arith),
      get_or-flags
          (c.self.inside.tags - 1) c.self.inside.out _ false within,
      entry,
    )
    (ap (λ bit. bit == 1) (shr_and_one c.self.inside.out _))

pub returns-else-index-self-2 : goal.returns-else-index-self-2
returns-else-index-self-2 c =
    let tags : ClientTags =
    record { client = c.self.inside.client; next = c.self.inside.next; out = flags (c.self.inside.tags - 1) c.self.inside.out; task_out = c.self.inside.task_out } in
    rw (
      ← c.self.view_is,
      is_issued-past c.self.inside.tags tags c.args.tag (length-flags (c.self.inside.tags - 1) c.self.inside.out) (omega arith),
      le-ltb
          (c.args.tag - c.tag_at-before.result) c.self.inside.tags (omega arith),
    ) refl
