-- The context that is written was one of a stream with a ring, so it isn't context 0.
use Rattle.std.proofs.Common.{◌≡◌, Some, true, is_some, slice_set, refl, sym, ap, ◌∙◌}
use Rattle.stream_array.specs.Contexts.{Contexts, entry_of}
use Rattle.stream_array.specs.Stored.{shown}
use Rattle.stream_array.proofs.Stored.{IsStored-set, shown-set}
use Rattle.stream_array.proofs.contexts.StreamArray.set.Goals as goal

pub invariant_of-self : goal.invariant_of-self
invariant_of-self g c =
    let items = c.self.inside.contexts.items in
    let was = ap (λ (entries : Contexts). entry_of entries c.args.stream) c.self.view_is in
    let had : is_some (entry_of (shown items) c.args.stream) ≡ true =
    ap is_some (was ∙ sym c.in_ok-context.ensures.entry ∙ sym c.read.ensures) ∙ c.if-is_none.ensures in
    let within = (c.in_ok-context.ensures.valid.0 refl).1 in
    IsStored-set g.row.S items c.args.stream c.text.result _ c.self.invariant within had c.ranges.pointer.fits c.requires c.text.ensures

pub returns-clause-set : goal.returns-clause-set
returns-clause-set g c =
    let items = c.self.inside.contexts.items in
    let was = ap (λ (entries : Contexts). slice_set entries c.args.stream (Some (record { pointer = c.args.pointer; cycle = c.args.cycle }))) c.self.view_is in
    shown-set items c.args.stream c.text.result _ c.ranges.pointer.fits c.requires c.text.ensures ∙ was
