-- A step of a status stream.
use Rattle.guest_profile.proofs.Statuses.{answers_are_sent, answers_are_sent_alike}
use Rattle.guest_profile.proofs.Links.{no_answer_empties, status_links_are_followed}
use Rattle.guest_profile.proofs.step_laws.answers_agree.Goals as goal

pub returns : goal.returns
returns c = record { sent = answers_are_sent; alike = answers_are_sent_alike; link = status_links_are_followed; none = no_answer_empties }
