-- States that meet what the laws of steps ask.
use Rattle.guest_profile.proofs.Opening.{answer_is_due, command_is_in_front}
use Rattle.guest_profile.proofs.opening_laws.steps_have_states.Goals as goal

pub returns : goal.returns
returns c = record { command = command_is_in_front; answer = answer_is_due }
