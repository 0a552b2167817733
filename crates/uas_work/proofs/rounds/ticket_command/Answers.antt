use Rattle.std.specs.Prelude.{◌≡◌, ◌/◌, IfOk}
use Rattle.std.proofs.Common.{subst}
use Rattle.uas_work.specs.declared.rounds.Half.{Half}
use Rattle.uas_work.specs.Rounds.{round_command}
use Rattle.uas_work.proofs.rounds.ticket_command.Goals as goal

pub returns : goal.returns
returns c = subst (λ (half : Half). IfOk c.command.result (λ command. command ≡ round_command c.args.client (c.args.ticket / 2) half)) c.half_at.ensures
    c.command.ensures
