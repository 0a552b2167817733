use Rattle.td_laws.proofs.BuffersHeld.{buffers_hold_what_was_given}
use Rattle.td_laws.proofs.Ordered.{given_in_order}
use Rattle.td_laws.proofs.Buffered.{parts_are_buffers}
use Rattle.td_laws.proofs.OutBuffered.{buffers_are_taken}
use Rattle.td_laws.proofs.OutOrdered.{taken_in_order}
use Rattle.td_laws.proofs.bytes_in_order.Goals as goal

pub returns : goal.returns
returns g c = record {
  filled = λ kind number home. buffers_hold_what_was_given kind number home;
  given = λ kind number home. given_in_order kind number home;
  buffers = λ kind number home. parts_are_buffers kind number home;
  taken = λ kind number home. taken_in_order kind number home;
  buffers_out = λ kind number home. buffers_are_taken kind number home;
}
