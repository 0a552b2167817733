use Rattle.std.proofs.Common.{rules, ◌≤◌, ◌<◌, length, take, arith}
use Rattle.std.proofs.lemmas.List.{length-take-le}
use Rattle.usb_serve.proofs.link.read_head.Goals as goal

pub returns-in-Ok-clause-cut : goal.returns-in-Ok-clause-cut
returns-in-Ok-clause-cut g c =
    let few : c.in-Ok.count < length c.read_whole.new.buffer = search rules in
    let some : 1 ≤ c.in-Ok.count = search rules in
    record {
      gave = record {
        bytes = take c.in-Ok.count c.read_whole.new.buffer;
        read = c.in-Ok.ensures.bytes;
        few = search rules;
      };
      why = c.in-Ok.ensures.end few;
      some = λ ended. omega (arith, some, length-take-le c.in-Ok.count c.read_whole.new.buffer (omega arith));
    }
