use Rattle.std.proofs.Common.{◌∙◌, ◌++◌, sym, arith}
use Rattle.std.proofs.lemmas.List.{length-append, take_at}
use Rattle.std.proofs.KnownBytes.{Consumes-trans}
use Rattle.usb_serve.proofs.Gathering.{on_ok}
use Rattle.usb_serve.proofs.Reading.{cut_behind, on_err_of}
use Rattle.usb_serve.proofs.packets.read_data.Goals as goal

pub returns-clause-whole : goal.returns-clause-whole
returns-clause-whole g c =
    let taken = c.read_front-2.new.bytes.items in
    on_ok c.drop_rest.result (λ gave. record {
      text = taken ++ gave.bytes;
      read = Consumes-trans (g.S.Source.left c.args.input.now) (g.S.Source.left c.read_front-2.new.input) (g.S.Source.left c.drop_rest.new.input)
          taken gave.bytes c.in_ok-read_front.ensures.bytes gave.read;
      len = omega (arith, length-append taken gave.bytes, gave.len, c.in_ok-read_front.ensures.len, c.if-count-most.false);
      taken = sym (take_at taken gave.bytes _ (c.in_ok-read_front.ensures.len ∙ c.most_taken-most.ensures.result));
    }) c.drop_rest.ensures.bytes

pub returns-clause-cut : goal.returns-clause-cut
returns-clause-cut g c =
    on_err_of c.drop_rest.result (λ reason cut. cut_behind reason (g.S.Source.can_fail c.args.input.now) (g.S.Source.can_fail c.read_front-2.new.input)
    c.args.count _ (g.S.Source.left c.args.input.now) (g.S.Source.left c.read_front-2.new.input) (g.S.Source.left c.drop_rest.new.input)
    c.read_front-2.new.bytes.items c.in_ok-read_front.ensures.same (omega (arith, c.in_ok-read_front.ensures.len, c.if-count-most.false))
    c.in_ok-read_front.ensures.bytes cut) c.drop_rest.ensures.cut
