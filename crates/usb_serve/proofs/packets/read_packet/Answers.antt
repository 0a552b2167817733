use Rattle.std.proofs.Common.{Bool, inl, inr, subst}
use Rattle.std.proofs.lemmas.Result.{err_from_is_err_and}
use Rattle.usb_serve.specs.Packets.{FieldsUnread}
use Rattle.usb_serve.proofs.packets.read_packet.Goals as goal

pub returns-in_err-packet-clause-unread : goal.returns-in_err-packet-clause-unread
returns-in_err-packet-clause-unread g c =
    let p = err_from_is_err_and c.from_residual-in_err-packet.result c.from_residual-in_err-packet.ensures.1 in
    rw (p.1, p.2) (inr (inl (record {
      head = c.in-Some.head;
      left_head = g.S.Source.left c.read_next_head.new.input;
      first = rw c.in-Some.is at c.in_ok-head.ensures.head;
      fails = subst (λ (b : Bool). FieldsUnread c.in_err-packet.field-0.0 b c.in-Some.head (g.S.Source.left c.read_next_head.new.input)
          (g.S.Source.left c.read_fields.new.input)) c.in_ok-head.ensures.same c.in_err-packet.ensures.unread;
    })))
