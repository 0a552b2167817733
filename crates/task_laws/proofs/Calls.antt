-- Each call leaves both devices the same and shows the same, and so does a list of calls. Cited by the laws.
use Rattle.std.proofs.Common.{List, [], ◌∷◌, None, refl, ap, ap₂}
use Rattle.uas_profile.specs.declared.TheConstants.{GREATEST_TAG}
use Rattle.uas_target.specs.Device.{Receive, Give, Take, Send, called, opening}
use Rattle.uas_tasks.specs.Machine.{slot_of}
use Rattle.uas_tasks.specs.Slots.{with_task}
use Rattle.task_laws.specs.Backed.{backed_called}
use Rattle.task_laws.specs.Laws.{CallsAreSame, Given, OneDevice, Received, RunsAreSame, Seen, Sent, StaysOneDevice, Taken}
use Rattle.task_laws.proofs.Devices.{same_tag}
use Rattle.task_laws.proofs.Opening.{openings_same}
use Rattle.task_laws.proofs.ReadsGiven.{given_alike}
use Rattle.task_laws.proofs.Received.{received_alike}
use Rattle.task_laws.proofs.Taken.{fits_alike, taken_alike}
use Rattle.task_laws.proofs.Wanted.{answers_alike}

pub calls_alike : CallsAreSame
calls_alike device backed (Receive bytes) same wants =
    let both = received_alike device backed bytes same in
    (both.0, ap Received both.1)
calls_alike device backed (Give tag) same wants =
    let both = given_alike device backed tag same wants in
    (both.0, ap Given both.1)
calls_alike device backed (Take tag bytes) same wants = (taken_alike device backed tag bytes same wants, ap Taken (fits_alike device backed tag bytes same wants))
calls_alike device backed (Send tag) same wants = (
  same_tag device backed tag None (with_task (slot_of backed.machine tag) None) same (λ was. record { chunk = was.chunk; room = was.room; out = was.out; task = refl }),
  ap Sent (answers_alike device backed tag same),
)

-- from any two that are the same
pub run_alike : RunsAreSame
run_alike device backed [] same wants = (refl, same)
run_alike device backed (call ∷ calls) same wants =
    let first = calls_alike device backed call same wants.0 in
    let rest = run_alike (called device call) (backed_called backed call) calls first.0 wants.1 in
    (ap₂ (λ (one : Seen) (others : List Seen). one ∷ others) first.1 rest.0, rest.1)

pub one_device : OneDevice
one_device units shapes calls new wants = (run_alike (opening GREATEST_TAG units) _ calls (openings_same units shapes new) wants).0

pub stays_one : StaysOneDevice
stays_one units shapes calls new wants = (run_alike (opening GREATEST_TAG units) _ calls (openings_same units shapes new) wants).1
