use Rattle.std.proofs.Common.{◌∙◌, ap, sym}
use Rattle.stream_array.specs.Map.{places_of}
use Rattle.stream_array.specs.Rings.{ring_of}
use Rattle.uas_host.specs.Retirement.{emptied}
use Rattle.uas_host.proofs.Emptying.{emptied-none, emptied-step, none-freed}
use Rattle.uas_host.proofs.Freeing.{oldest-known}
use Rattle.uas_host.proofs.retirements.empty.Goals as goal

pub loop-pointer-preserved : goal.loop-pointer-preserved
loop-pointer-preserved c =
    ap (λ lines. emptied lines c.args.pipe c.args.tag) (c.reclaim.ensures 0 c.in-Some.ensures.known)
    ∙ (emptied-step c.one_ring_is_changed.ensures.changed c.loop-pointer.lines c.args.pipe c.args.tag c.in-Some.field-0-1 c.in-Some.ensures.lines c.requires.ring
    c.requires.streams c.in-Some.ensures.known.0
    (oldest-known (places_of c.args.pipe) (ring_of c.loop-pointer.lines c.args.pipe c.args.tag) (c.in-Some.pointer, c.in-Some.field-0-1) c.in-Some.ensures.oldest)
    ∙ c.loop-pointer.invariant)

pub returns : goal.returns
returns c =
    let lines = c.loop-pointer.lines in
    let none =
    none-freed (places_of c.args.pipe) (ring_of lines c.args.pipe c.args.tag) (sym c.in_default.is ∙ c.oldest.ensures.oldest) in
    sym (emptied-none lines c.args.pipe c.args.tag none) ∙ c.loop-pointer.invariant
