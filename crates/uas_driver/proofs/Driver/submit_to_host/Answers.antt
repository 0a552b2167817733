use Rattle.uas_driver.specs.Driver.{DriverState}
use Rattle.uas_driver.proofs.Refusing.{refusal-told}
use Rattle.uas_driver.proofs.Driver.submit_to_host.Goals as goal

pub returns-in-Err-clause-submitted : goal.returns-in-Err-clause-submitted
returns-in-Err-clause-submitted c =
    let inside = c.self.inside in
    let driver : DriverState = record {
      host = inside.host;
      lines = inside.lines;
      frames = inside.frames;
      moved = inside.moved;
      strays = inside.strays;
      ends = inside.ends;
      ending = inside.ending;
      endpoints = inside.endpoints;
      recovery = inside.recovery;
      given_up = inside.given_up;
    } in
    rw (← c.self.view_is) (refusal-told driver c.args.command c.in-Err.command c.in-Err.fault _ c.submit.new.self c.submit.new.lines
    c.submit.new.frames c.args.doors.now c.submit.new.doors c.submit.result _ _ _ _ _ c.submit.ensures c.requires.doors c.in-Err.is)
