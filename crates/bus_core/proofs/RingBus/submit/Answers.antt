use Rattle.std.proofs.Common.{◌≡◌, [], MatchOption, Err, arith, ap, length, ◌∙◌}
use Rattle.scsi_cmd.specs.declared.Command.{Command}
use Rattle.scsi_cmd.specs.declared.SubmitFault.{SubmitFault}
use Rattle.uas_host.specs.Submit.{host_fault}
use Rattle.bus_core.specs.Owners.{submitted_as}
use Rattle.bus_core.specs.World.{world_of}
use Rattle.bus_core.specs.WorldSteps.{rung_all}
use Rattle.bus_core.specs.Decoded.{decoded}
use Rattle.bus_core.proofs.common.BusFields.{fits-in, world_in}
use Rattle.bus_core.proofs.submit.Submitting.{submissions-fit}
use Rattle.bus_core.proofs.submit.Submitted.{Accepts, Refuses, IsSubmitted, submitted-on, cleared, few-rung, none-rung}
use Rattle.bus_core.specs.WholeStep.{submit_after}
use Rattle.bus_core.proofs.common.WholeSteps.{submit-answered}
use Rattle.bus_core.proofs.RingBus.submit.Goals as goal
use Rattle.bus_core.proofs.RingBus.submit.Goals.{After-stand}

pub submit-submitted-requires-clause-room : goal.submit-submitted-requires-clause-room
submit-submitted-requires-clause-room c = λ none.
    (submissions-fit (decoded c.args.self.now) (world_in c.self.inside) c.args.client c.args.tag c.args.ticket c.args.command
    (fits-in c.self.inside c.self.view_is c.self.invariant) c.requires.ticket none).room

-- what the host answers, on the doorbells alone that it names
abbrev HostAnswers : After-stand → Type 0
HostAnswers c =
    MatchOption (host_fault c.self.inside.host c.args.client c.args.tag c.args.ticket c.args.command)
    (Accepts (world_in c.self.inside) c.args.client c.args.tag c.args.ticket c.args.command c.submit-submitted.new.self c.submit-submitted.new.lines
    c.submit-submitted.new.frames c.submit-submitted.new.doors.items c.submit-submitted.result)
    (Refuses (world_in c.self.inside) c.args.command c.submit-submitted.new.self c.submit-submitted.new.lines c.submit-submitted.new.frames
    c.submit-submitted.new.doors.items c.submit-submitted.result)

host-answers : (c : After-stand) → HostAnswers c
host-answers c =
    cleared (world_in c.self.inside) c.args.client c.args.tag c.args.ticket c.args.command
    c.submit-submitted.new.self c.submit-submitted.new.lines c.submit-submitted.new.frames c.clear.new.self c.submit-submitted.new.doors
    c.submit-submitted.result _ c.clear.ensures c.submit-submitted.ensures

-- the submission is the shared machine's
submission : (c : After-stand) → IsSubmitted (decoded c.args.self.now) c.args.client c.args.tag c.args.ticket c.args.command
    (world_of c.submit-submitted.new.self (rung_all c.self.inside.controller c.submit-submitted.new.doors.items) c.self.inside.target
    c.submit-submitted.new.lines c.submit-submitted.new.frames)
    (submitted_as (decoded c.args.self.now).tags c.args.client c.args.tag c.submit-submitted.new.doors.items c.submit-submitted.result)
submission c =
    submitted-on (decoded c.args.self.now) (world_in c.self.inside) c.args.client c.args.tag c.args.ticket c.args.command
    c.submit-submitted.new.self c.submit-submitted.new.lines c.submit-submitted.new.frames c.submit-submitted.new.doors.items c.submit-submitted.result
    (fits-in c.self.inside c.self.view_is c.self.invariant) c.requires.ticket (host-answers c)
    c.stand.ensures.host c.stand.ensures.lines c.stand.ensures.frames

-- a refused one rings nothing, so the controller is as it was
refused-rings-none : (c : After-stand) (refused : SubmitFault × Command) → c.submit-submitted.result ≡ Err refused
    → c.submit-submitted.new.doors.items ≡ []
refused-rings-none c refused is =
    none-rung (world_in c.self.inside) c.args.client c.args.tag c.args.ticket c.args.command
    c.submit-submitted.new.self c.submit-submitted.new.lines c.submit-submitted.new.frames c.submit-submitted.new.doors.items c.submit-submitted.result
    refused _ is (host-answers c)

pub invariant_of-self : goal.invariant_of-self
invariant_of-self c =
    let stood : After-stand = (goal.at.invariant_of-self c).After-stand in
    (rw (refused-rings-none stood c.in-Err.refused c.in-Err.is) at (submission stood)).fits

pub invariant_of-self-2 : goal.invariant_of-self-2
invariant_of-self-2 c = rw (c.ring.ensures, c.deref.ensures.0) (submission (goal.at.invariant_of-self-2 c).After-stand).fits

pub returns-in-Err-clause-shared : goal.returns-in-Err-clause-shared
returns-in-Err-clause-shared c =
    let stood : After-stand = (goal.at.returns-in-Err-clause-shared c).After-stand in
    (rw (refused-rings-none stood c.in-Err.refused c.in-Err.is, c.in-Err.is) at (submission stood)).shared

pub returns-clause-shared : goal.returns-clause-shared
returns-clause-shared c =
    rw (c.note.ensures, c.deref-2.ensures.0, c.ring.ensures, c.deref.ensures.0)
    (rw c.in_default.is at (submission (goal.at.returns-clause-shared c).After-stand)).shared

-- the world is that after the submission
after : (c : After-stand)
    → world_of c.submit-submitted.new.self (rung_all c.self.inside.controller c.submit-submitted.new.doors.items) c.self.inside.target
    c.submit-submitted.new.lines c.submit-submitted.new.frames
    ≡ submit_after c.args.self.now c.args.client c.args.tag c.args.ticket c.args.command
after c =
    submit-answered (world_in c.self.inside) c.args.client c.args.tag c.args.ticket c.args.command
    c.submit-submitted.new.self c.submit-submitted.new.lines c.submit-submitted.new.frames c.submit-submitted.new.doors.items c.submit-submitted.result _
    (host-answers c)
    ∙ ap (λ world. submit_after world c.args.client c.args.tag c.args.ticket c.args.command) c.self.view_is

pub returns-in-Err-clause-world : goal.returns-in-Err-clause-world
returns-in-Err-clause-world c =
    let stood : After-stand = (goal.at.returns-in-Err-clause-world c).After-stand in
    rw (refused-rings-none stood c.in-Err.refused c.in-Err.is) at (after stood)

pub returns-clause-world : goal.returns-clause-world
returns-clause-world c = rw (c.ring.ensures, c.deref.ensures.0) (after (goal.at.returns-clause-world c).After-stand)

pub note-requires-clause-few : goal.note-requires-clause-few
note-requires-clause-few c =
    let few = few-rung (world_in c.self.inside) c.args.client c.args.tag c.args.ticket c.args.command
    c.submit-submitted.new.self c.submit-submitted.new.lines c.submit-submitted.new.frames c.submit-submitted.new.doors.items c.submit-submitted.result _
    (host-answers (goal.at.note-requires-clause-few c).After-stand) in
    omega (arith, ap length c.deref-2.ensures.0, few)
