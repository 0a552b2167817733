use Rattle.std.proofs.Common.{refl}
use Rattle.std.proofs.lemmas.Result.{IfOk-weaker}
use Rattle.uas_words.proofs.CommandLineFacts.{added}
use Rattle.uas_words.proofs.commands.with.Goals as goal

pub returns : goal.returns
returns c = IfOk-weaker c.subcommand.result _ _ (λ new adds mine is plain. added _ _ new _ mine refl (rw c.in_ok-sub.was at is) plain adds) c.subcommand.ensures
