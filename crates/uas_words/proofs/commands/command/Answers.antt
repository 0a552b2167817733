use Rattle.std.proofs.Common.{◌∙◌, ap, refl}
use Rattle.std.proofs.lemmas.Result.{IfOk-weaker}
use Rattle.clap.specs.Words.{App, with_subcommand}
use Rattle.uas_words.specs.Subcommands.{audit_app, capture_app, decode_app, draw_app, dump_app, fill_app, info_app, make_app, replay_app, trace_app, work_app}
use Rattle.uas_words.proofs.commands.command.Goals as goal

pub returns : goal.returns
returns c =
    let one = c.in_ok-command.ensures replay_app c.replay_command.ensures refl ∙ ap (λ (a : App). with_subcommand a replay_app.top) c.in_ok-top.ensures in
    let two = c.in_ok-command-2.ensures trace_app c.trace_command.ensures refl ∙ ap (λ (a : App). with_subcommand a trace_app.top) one in
    let three = c.in_ok-command-3.ensures work_app c.work_command.ensures refl ∙ ap (λ (a : App). with_subcommand a work_app.top) two in
    let four = c.in_ok-command-4.ensures decode_app c.decode_command.ensures refl ∙ ap (λ (a : App). with_subcommand a decode_app.top) three in
    let five = c.in_ok-command-5.ensures make_app c.make_command.ensures refl ∙ ap (λ (a : App). with_subcommand a make_app.top) four in
    let six = c.in_ok-command-6.ensures info_app c.info_command.ensures refl ∙ ap (λ (a : App). with_subcommand a info_app.top) five in
    let seven = c.in_ok-command-7.ensures dump_app c.dump_command.ensures refl ∙ ap (λ (a : App). with_subcommand a dump_app.top) six in
    let eight = c.in_ok-command-8.ensures fill_app c.fill_command.ensures refl ∙ ap (λ (a : App). with_subcommand a fill_app.top) seven in
    let nine = c.in_ok-command-9.ensures audit_app c.audit_command.ensures refl ∙ ap (λ (a : App). with_subcommand a audit_app.top) eight in
    let ten = c.in_ok-command-10.ensures draw_app c.draw_command.ensures refl ∙ ap (λ (a : App). with_subcommand a draw_app.top) nine in
    IfOk-weaker c.with-11.result _ _ (λ command is. is capture_app c.capture_command.ensures refl ∙ ap (λ (a : App). with_subcommand a capture_app.top) ten) c.with-11.ensures
