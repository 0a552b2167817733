use Rattle.std.proofs.Common.{rules, ◌≡◌, false, is_ok, ap, ◌∙◌, arith}
use Rattle.xhci_machine.specs.Worked.{tags_turned}
use Rattle.xhci_machine.proofs.Tags.{all_over, no_tags}
use Rattle.xhci_machine.proofs.Machine.round.Goals as goal

pub returns-in_err-turn_front-clause-turned : goal.returns-in_err-turn_front-clause-turned
returns-in_err-turn_front-clause-turned g c =
    let over : is_ok c.from_residual.result ≡ false = search rules in
    all_over _ _ _ 0 241 over (omega arith) (no_tags _) ∙ ap (tags_turned 241) c.in_err-turn_front.ensures.turned

pub returns-clause-turned : goal.returns-clause-turned
returns-clause-turned g c = c.turn_tags.ensures.turned ∙ ap (tags_turned 241) c.in_ok-turn_front.ensures.turned
