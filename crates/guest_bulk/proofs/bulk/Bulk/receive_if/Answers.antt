use Rattle.guest_bulk.proofs.bulk.Bulk.receive_if.Goals as goal

pub returns-then-last : goal.returns-then-last
returns-then-last g c = record { step = λ ring. rw c.if-last.true (c.receive.ensures.step ring) }
