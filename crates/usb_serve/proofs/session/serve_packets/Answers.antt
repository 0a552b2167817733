use Rattle.std.proofs.Common.{◌∙◌, map, refl, subst}
use Rattle.std.proofs.lemmas.Result.{err_from_is_err_and}
use Rattle.usb_tags.specs.declared.UsbTags.{UsbTags}
use Rattle.usb_serve.specs.Files.{filed}
use Rattle.usb_serve.specs.Packets.{ReadsPacket}
use Rattle.usb_serve.specs.Steps.{IsBroken, IsSent, world}
use Rattle.usb_serve.proofs.Serving.{broken_packet, broken_unread, fails_at, served_none, served_then}
use Rattle.usb_serve.proofs.session.serve_packets.Goals as goal

pub loop-turn-init : goal.loop-turn-init
loop-turn-init g c = record { idle = c.requires; read = refl; written = refl; served = served_none _ _ _ }

pub loop-turn-preserved : goal.loop-turn-preserved
loop-turn-preserved g c =
    let files = map (filed g.B.Blocks.tells g.B.Blocks.can_fail g.B.Blocks.holds g.B.Blocks.synced g.B.Blocks.is_spoiled) in
    let read : ReadsPacket c.in-Some.came c.read_packet.new.bytes.items (g.S.Source.left c.loop-turn.input) (g.S.Source.left c.read_packet.new.input) =
    rw c.in-Some.is at c.in_ok-came.ensures.came in
    record {
      idle = c.in_ok-serve_packet.ensures.rooms;
      read = c.in_ok-came.ensures.same ∙ c.loop-turn.invariant.read;
      written = c.in_ok-serve_packet.ensures.same ∙ c.loop-turn.invariant.written;
      served = served_then c.loop-turn.turn _ (world c.loop-turn.usb (files c.loop-turn.units)) _ _ _ _ _ _ _ c.in-Some.came
          c.read_packet.new.bytes.items c.loop-turn.invariant.served read
          (subst (λ (d : UsbTags). IsSent (world d (files c.loop-turn.units)) (world c.serve_packet.new.usb (files c.serve_packet.new.units))
          (g.O.Output.written c.loop-turn.output) (g.O.Output.written c.serve_packet.new.output)) c.receive.ensures.device
          c.in_ok-serve_packet.ensures.sent);
    }

pub returns-in_err-came-clause-broken : goal.returns-in_err-came-clause-broken
returns-in_err-came-clause-broken g c =
    let p = err_from_is_err_and c.from_residual.result c.from_residual.ensures.1 in
    rw (p.1, p.2) (broken_unread _ _ _ _ _ _ _ _ _ _ _ _ c.loop-turn.invariant.read c.loop-turn.invariant.served c.in_err-came.ensures.unread)

pub returns-in_err-serve_packet-clause-broken : goal.returns-in_err-serve_packet-clause-broken
returns-in_err-serve_packet-clause-broken g c =
    let files = map (filed g.B.Blocks.tells g.B.Blocks.can_fail g.B.Blocks.holds g.B.Blocks.synced g.B.Blocks.is_spoiled) in
    let p = err_from_is_err_and c.from_residual-in_err-serve_packet.result c.from_residual-in_err-serve_packet.ensures.1 in
    let read : ReadsPacket c.in-Some.came c.read_packet.new.bytes.items (g.S.Source.left c.loop-turn.input) (g.S.Source.left c.read_packet.new.input) =
    rw c.in-Some.is at c.in_ok-came.ensures.came in
    rw (p.1, p.2) (broken_packet _ _ _ _ c.loop-turn.turn _ (world c.loop-turn.usb (files c.loop-turn.units)) _ _ _ _ _ _ _ c.in-Some.came
    c.read_packet.new.bytes.items c.loop-turn.invariant.written c.loop-turn.invariant.served read
    (subst (λ (d : UsbTags). IsBroken (world d (files c.loop-turn.units)) (world c.serve_packet.new.usb (files c.serve_packet.new.units))
    (g.O.Output.written c.loop-turn.output) (g.O.Output.written c.serve_packet.new.output)) c.receive.ensures.device
    c.in_err-serve_packet.ensures.broken)
    (fails_at _ _ _ _ (files c.loop-turn.units) _ c.receive.ensures.device c.in_err-serve_packet.ensures.cause))
