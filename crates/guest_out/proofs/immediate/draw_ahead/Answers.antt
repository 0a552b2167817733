use Rattle.guest_out.proofs.Drawn.{drawn_length}
use Rattle.guest_out.proofs.immediate.draw_ahead.Goals as goal

-- src/immediate.rt:29:1
pub returns-in_ok-draw-in-Some-clause-len : goal.returns-in_ok-draw-in-Some-clause-len
returns-in_ok-draw-in-Some-clause-len g c =
    drawn_length (g.M.GuestMemory.contents c.args.memory.now) c.in-Some.at c.args.count c.args.taken.now c.draw.new.self c.in_ok-draw-in-Some.ensures.drawn
