use Rattle.std.proofs.Common.{◌≡◌, ◌∙◌, get_or, length-set, map, refl, arith}
use Rattle.std.specs.Prelude.{IsTrue}
use Rattle.std.proofs.lemmas.Option.{slice_get-get_or}
use Rattle.usb_serve.specs.Files.{IsLeft, filed}
use Rattle.usb_serve.proofs.Filing.{all_safe, all_synced, done_safe, none_synced, safe_more, synced_more}
use Rattle.usb_serve.proofs.files.sync_all.Goals as goal

pub loop-number-init : goal.loop-number-init
loop-number-init g c =
    let view = filed g.B.Blocks.tells g.B.Blocks.can_fail g.B.Blocks.holds g.B.Blocks.synced g.B.Blocks.is_spoiled in
    record { len = refl; synced = none_synced (map view c.args.units.now); safe = λ k lt. absurd (omega (arith, lt)) }

pub loop-number-preserved : goal.loop-number-preserved
loop-number-preserved g c =
    let view = filed g.B.Blocks.tells g.B.Blocks.can_fail g.B.Blocks.holds g.B.Blocks.synced g.B.Blocks.is_spoiled in
    let units = c.loop-number.units in
    let number = c.loop-number.number in
    let lt = c.loop-number-test.true in
    let old = get_or units number c.index-units-number.result in
    let left : IsLeft (view old) (view c.sync.new.unit) c.sync.result = record { synced = c.sync.ensures.synced; same = c.sync.ensures.same } in
    record {
      len = length-set units number c.sync.new.unit ∙ c.loop-number.invariant.len;
      synced = synced_more view number c.loop-number.first c.first_fault-first.result c.args.units.now units old c.sync.new.unit c.sync.result
          (omega (arith, lt, c.loop-number.invariant.len)) c.loop-number.invariant.len (slice_get-get_or units number c.index-units-number.result lt)
          left c.first_fault-first.ensures.first c.loop-number.invariant.synced;
      safe = safe_more (λ unit. IsTrue (g.B.Blocks.tells unit.file) → g.B.Blocks.synced unit.file ≡ g.B.Blocks.holds unit.file)
          c.loop-number.first c.first_fault-first.result units number c.sync.new.unit c.sync.result c.first_fault-first.ensures.done
          (done_safe (view old) (view c.sync.new.unit) c.sync.result left) c.loop-number.invariant.safe;
    }

pub returns-clause-safe : goal.returns-clause-safe
returns-clause-safe g c =
    all_safe (λ unit. IsTrue (g.B.Blocks.tells unit.file) → g.B.Blocks.synced unit.file ≡ g.B.Blocks.holds unit.file) c.loop-number.first
    c.loop-number.units c.loop-number.number (omega (arith, c.loop-number-test.false)) c.loop-number.invariant.safe

pub returns-clause-synced : goal.returns-clause-synced
returns-clause-synced g c =
    let view = filed g.B.Blocks.tells g.B.Blocks.can_fail g.B.Blocks.holds g.B.Blocks.synced g.B.Blocks.is_spoiled in
    all_synced view c.loop-number.number c.loop-number.first c.args.units.now c.loop-number.units (omega (arith, c.loop-number-test.false))
    c.loop-number.invariant.len c.loop-number.invariant.synced
