use Rattle.std.proofs.Common.{◌≡◌, ◌∙◌, ap, List, [], ◌∷◌}
use Rattle.block_unit.specs.BlockMaps.{BlockMaps}
use Rattle.scsi_cmd.specs.declared.Command.{Command}
use Rattle.shared_machine.specs.declared.Outcome.{Outcome}
use Rattle.shared_machine.specs.declared.Step.TheVariants as step
use Rattle.shared_machine.specs.Drain.{drained}
use Rattle.shared_machine.specs.Shared.{Shared, opening, shared_step}
use Rattle.uas_replay.specs.Told.{step_of, drained_machine, drain_limit, command_of}
use Rattle.uas_script.specs.declared.Request.{Request}
use Rattle.uas_profile.specs.declared.TheConstants.{TAGS}
use Rattle.disk_image.specs.Alone.{answered}
use Rattle.disk_image.proofs.alone.answered.Goals as goal

-- the four states of a bus, each by the one before it
answered-by : (unit : BlockMaps) (request : Request) (units : List BlockMaps) (command : Command) (first second third : Shared) (sent : Outcome)
    (last : Shared × Outcome) → units ≡ unit ∷ [] → command ≡ command_of request → first ≡ opening TAGS units
    → (second, sent) ≡ shared_step first (step.Submit 0 1 0 command) → third ≡ (drained second drain_limit).state
    → last ≡ shared_step third (step.Take 0) → last ≡ answered unit request
unfolding answered step_of drained_machine
answered-by unit request units command first second third sent last one asks opens submits drains takes =
    let after : List BlockMaps → Command → Shared = λ all asked. (shared_step (opening TAGS all) (step.Submit 0 1 0 asked)).0 in
    let now : second ≡ after (unit ∷ []) (command_of request) =
    ap (λ step. step.0) submits ∙ (ap (λ state. (shared_step state (step.Submit 0 1 0 command)).0) opens
    ∙ (ap (λ all. after all command) one ∙ ap (after (unit ∷ [])) asks)) in
    takes ∙ ap (λ state. shared_step state (step.Take 0)) (drains ∙ ap (λ state. (drained state drain_limit).state) now)

pub returns-clause-bus : goal.returns-clause-bus
returns-clause-bus c = ap (λ pair. pair.0) (answered-by c.args.unit c.args.request c.in_ok-vec.field-0.items c.in_ok-command.command c.in_ok-bus.bus c.step.new.self c.drain.new.self c.step.result
    (c.step-reply.new.self, c.step-reply.result) c.in_ok-vec.ensures.items c.in_ok-command.ensures c.in_ok-bus.ensures c.step.ensures.shared
    c.drain.ensures.state c.step-reply.ensures.shared)

pub returns-clause-reply : goal.returns-clause-reply
returns-clause-reply c = ap (λ pair. pair.1.reply) (answered-by c.args.unit c.args.request c.in_ok-vec.field-0.items c.in_ok-command.command c.in_ok-bus.bus c.step.new.self c.drain.new.self c.step.result
    (c.step-reply.new.self, c.step-reply.result) c.in_ok-vec.ensures.items c.in_ok-command.ensures c.in_ok-bus.ensures c.step.ensures.shared
    c.drain.ensures.state c.step-reply.ensures.shared)
