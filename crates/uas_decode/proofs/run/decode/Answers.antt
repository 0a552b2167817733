use Rattle.std.proofs.Common.{rules, ◌≡◌, ◌∙◌, ◌||◌, ◌++◌, [], List, ℕ, take, Ok, arith, sym}
use Rattle.std.specs.Io.KnownBytes.{Consumes, IsAtEnd, ReadConsumes}
use Rattle.uas_decode.specs.Printed.{answered, is_refused}
use Rattle.uas_decode.specs.Runs.{decoded_from, refused_from}
use Rattle.uas_decode.proofs.Ends.{known_at_end, known_goes_on, known_stopped, known_stopped-keeps}
use Rattle.uas_decode.proofs.run.decode.Goals as goal

pub returns-in_err-map_err-clause-memory : goal.returns-in_err-map_err-clause-memory
returns-in_err-map_err-clause-memory g c = λ _.
    known_stopped (g.S.Source.left c.args.input.now) (g.S.Source.left c.loop.input) (g.O.Sink.written c.args.output.now) _ c.loop.lines.line.items
    c.loop.lines.refused c.loop.invariant.goes

pub returns-in_err-map_err-2-clause-memory : goal.returns-in_err-map_err-2-clause-memory
returns-in_err-map_err-2-clause-memory g c = λ _.
    known_stopped (g.S.Source.left c.args.input.now) (g.S.Source.left c.loop.input) (g.O.Sink.written c.args.output.now) _ c.loop.lines.line.items
    c.loop.lines.refused c.loop.invariant.goes

pub returns-clause-memory : goal.returns-clause-memory
returns-clause-memory g c = λ _.
    known_stopped (g.S.Source.left c.args.input.now) (g.S.Source.left c.loop.input) (g.O.Sink.written c.args.output.now) _ c.loop.lines.line.items
    c.loop.lines.refused c.loop.invariant.goes

pub returns-in_err-write-clause-memory : goal.returns-in_err-write-clause-memory
returns-in_err-write-clause-memory g c = λ no_memory.
    known_stopped-keeps (g.S.Source.left c.args.input.now) (g.S.Source.left c.loop.input) (g.O.Sink.written c.args.output.now)
    (g.O.Sink.written c.loop.output) (g.O.Sink.written c.write.new.output) c.loop.lines.line.items c.loop.lines.refused c.loop.invariant.goes
    (search (rules, c.in_err-write.ensures.memory))

pub returns-in_err-write-2-clause-memory : goal.returns-in_err-write-2-clause-memory
returns-in_err-write-2-clause-memory g c = λ no_memory.
    known_stopped-keeps (g.S.Source.left c.args.input.now) (g.S.Source.left c.loop.input) (g.O.Sink.written c.args.output.now)
    (g.O.Sink.written c.loop.output) (g.O.Sink.written c.write-in-loop.new.output) c.loop.lines.line.items c.loop.lines.refused
    c.loop.invariant.goes (search (rules, c.in_err-write-2.ensures.memory))

pub returns-then-count-eq0-clause-decoded : goal.returns-then-count-eq0-clause-decoded
returns-then-count-eq0-clause-decoded g c =
    let read : Consumes (g.S.Source.left c.loop.input) (g.S.Source.left c.read.new.self) [] = search rules in
    let ended : IsAtEnd (g.S.Source.left c.read.new.self) = search rules in
    let text : c.end.new.self.text.items ≡ c.loop.lines.text.items ++ answered c.loop.lines.line.items = search rules in
    let now : c.end.new.self.refused ≡ (c.loop.lines.refused || is_refused c.loop.lines.line.items) = search rules in
    known_at_end (g.S.Source.left c.args.input.now) (g.S.Source.left c.loop.input) (g.S.Source.left c.read.new.self)
    (g.O.Sink.written c.args.output.now) (g.O.Sink.written c.loop.output) (g.O.Sink.written c.write.new.output) c.loop.lines.line.items
    c.loop.lines.text.items c.end.new.self.text.items c.loop.lines.refused c.write.new.self.refused c.loop.invariant.goes read ended
    c.loop.invariant.waits text (c.write.ensures.refused ∙ now) c.in_ok-write.ensures.bytes

pub loop-preserved : goal.loop-preserved
loop-preserved g c =
    let part = take c.in_ok-count.count c.read.new.buffer in
    let read : Consumes (g.S.Source.left c.loop.input) (g.S.Source.left c.read.new.self) part = search rules in
    let texts : (rest : List ℕ) → c.loop.lines.text.items ++ decoded_from c.loop.lines.line.items (part ++ rest)
    ≡ c.take.new.self.text.items ++ decoded_from c.take.new.self.line.items rest = search rules in
    let refusals : (rest : List ℕ) → (c.loop.lines.refused || refused_from c.loop.lines.line.items (part ++ rest))
    ≡ (c.take.new.self.refused || refused_from c.take.new.self.line.items rest) = search rules in
    record {
      waits = c.in_ok-write-2.ensures.text;
      goes = known_goes_on (g.S.Source.left c.args.input.now) (g.S.Source.left c.loop.input) (g.S.Source.left c.read.new.self)
          (g.O.Sink.written c.args.output.now) (g.O.Sink.written c.loop.output) (g.O.Sink.written c.write-in-loop.new.output)
          c.loop.lines.line.items c.take.new.self.line.items c.write-in-loop.new.self.line.items part c.loop.lines.text.items
          c.take.new.self.text.items c.loop.lines.refused c.take.new.self.refused c.write-in-loop.new.self.refused c.loop.invariant.goes read
          c.loop.invariant.waits texts refusals c.in_ok-write-2.ensures.bytes c.write-in-loop.ensures.line c.write-in-loop.ensures.refused;
      input = c.read.ensures.same ∙ c.loop.invariant.input;
      output = c.write-in-loop.ensures.same ∙ c.loop.invariant.output;
      stays = c.read.ensures.stays ∙ c.loop.invariant.stays;
    }
