-- A step of the command pipe.
use Rattle.guest_profile.proofs.Commands.{commands_are_taken}
use Rattle.guest_profile.proofs.Links.{command_links_are_followed, no_command_empties}
use Rattle.guest_profile.proofs.step_laws.commands_agree.Goals as goal

pub returns : goal.returns
returns c = record { taken = commands_are_taken; link = command_links_are_followed; none = no_command_empties }
