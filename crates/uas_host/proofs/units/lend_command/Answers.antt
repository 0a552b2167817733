use Rattle.uas_host.proofs.Texts.{lent-written}
use Rattle.uas_host.proofs.units.lend_command.Goals as goal

pub returns : goal.returns
returns c =
    let lends = rw c.unwrap.ensures at c.lend.ensures.lent in
    rw (← c.into_vec.ensures, ← c.command_unit.ensures.text, ← c.deref.ensures.0)
    (lent-written c.args.frames.now c.write_command.new.frames c.lend.new.self c.args.tag c.deref.result.now c.into_vec.result.items
    c.write_command.ensures lends)
