-- The context that is written was one of a stream with a ring, so it isn't context 0.
use Rattle.std.proofs.Common.{◌≡◌, ◌<◌, Some, true, is_some, slice_set, ap, ◌∙◌, arith}
use Rattle.stream_array.specs.Contexts.{Contexts, entry_of}
use Rattle.stream_array.specs.Stored.{shown}
use Rattle.stream_array.proofs.Entries.{within-some}
use Rattle.stream_array.proofs.Stored.{IsStored-set, shown-set}
use Rattle.stream_array.proofs.contexts.StreamArray.write.Goals as goal

pub invariant_of-self : goal.invariant_of-self
invariant_of-self g c =
    let items = c.self.inside.contexts.items in
    let had : is_some (entry_of (shown items) c.args.stream) ≡ true =
    ap (λ (entries : Contexts). is_some (entry_of entries c.args.stream)) c.self.view_is ∙ c.requires.ring in
    let within : c.args.stream < g.row.S = omega (arith, within-some (shown items) c.args.stream had, c.self.invariant.array.entries) in
    IsStored-set g.row.S items c.args.stream c.text.result _ c.self.invariant within had c.ranges.pointer.fits c.requires.aligned c.text.ensures

pub returns : goal.returns
returns g c =
    let items = c.self.inside.contexts.items in
    let was = ap (λ (entries : Contexts). slice_set entries c.args.stream (Some (record { pointer = c.args.pointer; cycle = c.args.cycle }))) c.self.view_is in
    shown-set items c.args.stream c.text.result _ c.ranges.pointer.fits c.requires.aligned c.text.ensures ∙ was
