use Rattle.std.proofs.Common.{◌-◌, arith, refl, sym}
use Rattle.tag_range.specs.Tags.{ClientTags, flags}
use Rattle.tag_range.proofs.Flags.{flags-or, or-lt, length-flags}
use Rattle.tag_range.proofs.Least.{least-free, issue-entry}
use Rattle.tag_range.proofs.client_range.ClientRange.issue.Goals as goal

pub invariant_of-self-2 : goal.invariant_of-self-2
invariant_of-self-2 c = (
  c.self.invariant.0,
  c.self.invariant.1,
  omega (arith, c.in_ok-ticket.ensures.given),
  or-lt (c.self.inside.tags - 1) c.self.inside.out c.in-Some.entry c.in-Some.ensures.bound (omega arith) c.self.invariant.3,
)

pub returns-clause-step : goal.returns-clause-step
returns-clause-step c =
    let tags : ClientTags =
    record { client = c.self.inside.client; next = c.self.inside.next; out = flags (c.self.inside.tags - 1) c.self.inside.out; task_out = c.self.inside.task_out } in
    let given = c.in_ok-ticket.ensures.given in
    rw (
      ← c.self.view_is,
      issue-entry c.self.inside.tags tags c.in-Some.entry (sym c.in-Some.ensures.value) given.1,
      flags-or (c.self.inside.tags - 1) c.self.inside.out c.in-Some.entry c.in-Some.ensures.bound (omega arith),
      c.tag_at.ensures,
      given.0,
      given.2,
    ) refl

pub returns-clause-least_tag : goal.returns-clause-least_tag
returns-clause-least_tag c =
    let tags : ClientTags =
    record { client = c.self.inside.client; next = c.self.inside.next; out = flags (c.self.inside.tags - 1) c.self.inside.out; task_out = c.self.inside.task_out } in
    rw (c.tag_at.ensures, ← c.self.view_is)
    (least-free c.self.inside.tags tags c.in-Some.entry (length-flags (c.self.inside.tags - 1) c.self.inside.out) (sym c.in-Some.ensures.value))
