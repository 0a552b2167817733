use Rattle.std.proofs.Common.{◌≡◌, ◌-◌, ◌<◌, ◌*◌, arith, refl}
use Rattle.tag_range.specs.Tags.{ClientTags, task_tag, flags}
use Rattle.tag_range.proofs.Flags.{flags-clear, length-flags}
use Rattle.tag_range.proofs.Least.{entry_of-issued, free-command}
use Rattle.tag_range.proofs.client_range.ClientRange.free.Goals as goal

pub overflow_shl-self : goal.overflow_shl-self
overflow_shl-self c =
    let tags : ClientTags =
    record { client = c.self.inside.client; next = c.self.inside.next; out = flags (c.self.inside.tags - 1) c.self.inside.out; task_out = c.self.inside.task_out } in
    let inside = entry_of-issued c.self.inside.tags tags c.args.tag (rw (← c.self.view_is) at c.requires) (λ e. c.if-index-self.false (omega arith)) in
    omega (arith, inside.0, inside.1, length-flags (c.self.inside.tags - 1) c.self.inside.out)

pub returns-else-index-self : goal.returns-else-index-self
returns-else-index-self c =
    let tags : ClientTags =
    record { client = c.self.inside.client; next = c.self.inside.next; out = flags (c.self.inside.tags - 1) c.self.inside.out; task_out = c.self.inside.task_out } in
    let command : c.args.tag ≡ task_tag c.self.inside.tags c.self.inside.client → ⊥ = λ e. c.if-index-self.false (omega arith) in
    let inside = entry_of-issued c.self.inside.tags tags c.args.tag (rw (← c.self.view_is) at c.requires) command in
    let entry : c.args.tag - c.tag_at.result - 1 ≡ c.args.tag - c.self.inside.tags * c.self.inside.client - 1 = omega arith in
    let within : c.args.tag - c.self.inside.tags * c.self.inside.client - 1 < c.self.inside.tags - 1 = omega (arith, inside.1, length-flags (c.self.inside.tags - 1) c.self.inside.out) in
    rw (← c.self.view_is, free-command c.self.inside.tags tags c.args.tag command, entry, flags-clear (c.self.inside.tags - 1) c.self.inside.out _ within (omega arith)) refl
