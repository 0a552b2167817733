use Rattle.std.proofs.Common.{rules, ◌≡◌, ◌+◌, ◌≤◌, Err, sym, ◌∙◌, arith}
use Rattle.xhci_machine.proofs.Looks.{goes_on, goes_past, looks_up, no_tags}
use Rattle.xhci_machine.proofs.Machine.look_tags.Goals as goal

pub loop-tag-init : goal.loop-tag-init
loop-tag-init g c = (omega arith, no_tags _ _ _)

pub returns-then-tag-ge-TAGS : goal.returns-then-tag-ge-TAGS
returns-then-tag-ge-TAGS g c =
    let past : 241 ≤ c.in-Some.tag = search rules in
    let found = c.in-Some.ensures.next in
    sym (goes_past _ _ _ c.loop-tag.from 241 c.loop-tag.invariant.0 c.loop-tag.invariant.1 (λ other low high. found.3 other low (omega (arith, high, past))))

pub returns-in_err-look_busy : goal.returns-in_err-look_busy
returns-in_err-look_busy g c =
    let below : c.in-Some.tag + 1 ≤ 241 = search rules in
    let found = c.in-Some.ensures.next in
    let same : c.from_residual.result ≡ Err c.in_err-look_busy.field-0.0 = search rules in
    same ∙ sym (looks_up _ _ _ c.loop-tag.from c.in-Some.tag _ found.0 c.loop-tag.invariant.1 found.3 found.2 c.in_err-look_busy.ensures below)

pub loop-tag-preserved : goal.loop-tag-preserved
loop-tag-preserved g c =
    let below : c.in-Some.tag + 1 ≤ 241 = search rules in
    let found = c.in-Some.ensures.next in
    (below, goes_on _ _ _ c.loop-tag.from c.in-Some.tag found.0 c.loop-tag.invariant.1 found.3 found.2 c.in_ok-look_busy.ensures)

pub returns : goal.returns
returns g c =
    sym (goes_past _ _ _ c.loop-tag.from 241 c.loop-tag.invariant.0 c.loop-tag.invariant.1 (λ other low high. c.in_default.ensures.none other low))
