use Rattle.std.proofs.Common.{refl}
use Rattle.uas_block_c.proofs.door.serve_named.Goals as goal

pub returns-in-Next : goal.returns-in-Next
returns-in-Next c = rw c.in-Next.is (c.show_next.ensures.told, c.show_next.ensures.inside)

pub returns-in-Answer : goal.returns-in-Answer
returns-in-Answer c = rw c.in-Answer.is (c.answer.ensures, refl, refl)

pub returns-in-Interrupted : goal.returns-in-Interrupted
returns-in-Interrupted c = rw c.in-Interrupted.is (refl, c.interrupted.ensures.is, refl, refl)

pub returns-in-State : goal.returns-in-State
returns-in-State c = rw c.in-State.is (c.tell_state.ensures.none, refl, c.tell_state.ensures.shown, refl)

pub returns-in-Lend : goal.returns-in-Lend
returns-in-Lend c = rw c.in-Lend.is (c.lend.ensures, refl, refl)

pub returns-in-Reply : goal.returns-in-Reply
returns-in-Reply c = rw c.in-Reply.is c.take_reply.ensures

pub returns-in-Restart : goal.returns-in-Restart
returns-in-Restart c = rw c.in-Restart.is (c.restart.ensures, refl, refl)

pub returns-in-Refusal : goal.returns-in-Refusal
returns-in-Refusal c = rw c.in-Refusal.is (c.show_refusal.ensures, refl)

pub returns-in-Abort : goal.returns-in-Abort
returns-in-Abort c = rw c.in-Abort.is (c.abort.ensures, refl, refl)

pub returns-in-ShutDown : goal.returns-in-ShutDown
returns-in-ShutDown c = rw c.in-ShutDown.is (c.shut_down.ensures, refl, refl)
