use Rattle.serve_run.proofs.Answering.{flush_replies}
use Rattle.serve_run.proofs.transmission.make_safe.Goals as goal

pub returns-clause-answered : goal.returns-clause-answered
returns-clause-answered g c =
    flush_replies _ _ _ _ _ c.args.request.now c.flush-flushed.result _ c.requires.served c.requires.command c.flush-flushed.ensures.bytes
    c.flush-flushed.ensures.safe c.flush-flushed.ensures.kept c.flush-flushed.ensures.len c.flush-flushed.ensures.fault
    (rw c.error_of.ensures at c.tell.ensures.sent)
