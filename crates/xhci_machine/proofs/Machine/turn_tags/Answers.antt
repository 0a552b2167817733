use Rattle.std.proofs.Common.{rules, ◌≡◌, ◌+◌, ◌≤◌, false, is_ok, refl, ◌∙◌, arith}
use Rattle.xhci_machine.proofs.Tags.{advance, all_idle, all_over, no_tags}
use Rattle.xhci_machine.proofs.Machine.turn_tags.Goals as goal

pub loop-tag-init : goal.loop-tag-init
loop-tag-init g c = (omega arith, no_tags _, refl)

pub returns-then-tag-ge-TAGS-clause-turned : goal.returns-then-tag-ge-TAGS-clause-turned
returns-then-tag-ge-TAGS-clause-turned g c =
    let past : 241 ≤ c.in-Some.tag = search rules in
    let found = c.in-Some.ensures.next in
    all_idle _ _ c.loop-tag.from 241 c.loop-tag.invariant.0 c.loop-tag.invariant.1 (λ other low high. found.3 other low (omega (arith, high, past)))

pub returns-in_err-turn_tag-clause-turned : goal.returns-in_err-turn_tag-clause-turned
returns-in_err-turn_tag-clause-turned g c =
    let below : c.in-Some.tag + 1 ≤ 241 = search rules in
    let found = c.in-Some.ensures.next in
    let over : is_ok c.from_residual.result ≡ false = search rules in
    let done = advance _ _ _ c.loop-tag.from c.in-Some.tag found.0 c.loop-tag.invariant.1 found.3 found.2 c.in_err-turn_tag.ensures.turned in
    all_over _ _ _ (c.in-Some.tag + 1) 241 over below done

pub loop-tag-preserved : goal.loop-tag-preserved
loop-tag-preserved g c =
    let below : c.in-Some.tag + 1 ≤ 241 = search rules in
    let found = c.in-Some.ensures.next in
    let done = advance _ _ _ c.loop-tag.from c.in-Some.tag found.0 c.loop-tag.invariant.1 found.3 found.2 c.in_ok-turn_tag.ensures.turned in
    (below, done, c.turn_tag.ensures.same_loan ∙ c.loop-tag.invariant.2)

pub returns-clause-turned : goal.returns-clause-turned
returns-clause-turned g c =
    all_idle _ _ c.loop-tag.from 241 c.loop-tag.invariant.0 c.loop-tag.invariant.1 (λ other low high. c.in_default.ensures.none other low)
