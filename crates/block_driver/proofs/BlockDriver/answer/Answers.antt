-- Whether a disk is used says whose answer it is.
use Rattle.std.proofs.Common.{◌≡◌, ◌↔◌, Bool, true, false, Err, sym, subst, ap, ◌∙◌, if◌then◌else◌}
use Rattle.bring_up.specs.declared.bring_up.AnswerFault.TheVariants.{Length}
use Rattle.bring_up.specs.Calls.{fits}
use Rattle.disk_ready.specs.declared.DiskReady.{DiskReady}
use Rattle.disk_ready.specs.Calls.{answered as ready_answered, asked_access as ready_asked, is_asked as is_ready_asked}
use Rattle.block_driver.specs.declared.BlockDriver.{BlockDriver}
use Rattle.block_driver.specs.Calls.{driver_access, is_open, met, own_answered}
use Rattle.block_driver.proofs.BlockDriver.answer.Goals as goal

pub returns-then-is_some-clause-state : goal.returns-then-is_some-clause-state
returns-then-is_some-clause-state c =
    let d = c.args.self.now in
    let bytes = c.args.bytes.now in
    let open_is : is_open d ≡ true = sym c.is_some.ensures ∙ c.if-is_some.true in
    let By : Bool → Type 0 =
    λ is. c.own_answer.new.self ≡ (if is then own_answered d bytes else met (record d { ready = ready_answered d.ready bytes })) in
    subst By (sym open_is) c.own_answer.ensures.state

pub returns-then-is_some-clause-length : goal.returns-then-is_some-clause-length
returns-then-is_some-clause-length c =
    let d = c.args.self.now in
    let bytes = c.args.bytes.now in
    let open_is : is_open d ≡ true = sym c.is_some.ensures ∙ c.if-is_some.true in
    let By : Bool → Type 0 =
    λ is. (c.own_answer.result ≡ Err Length) ↔ (((if is then d.is_asked else is_ready_asked d.ready) ≡ true)
    × (fits (if is then driver_access d else ready_asked d.ready) bytes ≡ false)) in
    subst By (sym open_is) c.own_answer.ensures.length

pub returns-else-is_some-clause-state : goal.returns-else-is_some-clause-state
returns-else-is_some-clause-state c =
    let d = c.args.self.now in
    let bytes = c.args.bytes.now in
    let closed_is : is_open d ≡ false = sym c.is_some.ensures ∙ c.if-is_some.false in
    let By : Bool → Type 0 =
    λ is. c.meet.new.self ≡ (if is then own_answered d bytes else met (record d { ready = ready_answered d.ready bytes })) in
    let Ready : DiskReady → BlockDriver = λ r. met (record d { ready = r }) in
    subst By (sym closed_is) (c.meet.ensures.is ∙ ap Ready c.answer-answered.ensures.state)
