use Rattle.std.proofs.Common.{ap, sym, ◌∙◌, slice_set}
use Rattle.std.proofs.lemmas.List.Edits.{map_over_more}
use Rattle.usb_places.specs.States.{forgotten_tag}
use Rattle.usb_places.proofs.Holders.{map-all}
use Rattle.usb_places.proofs.keeping.forget_each.Goals as goal

pub loop-places-preserved : goal.loop-places-preserved
loop-places-preserved c =
    ap (slice_set c.loop-places.tags c.loop-places.places-index) (c.forget.ensures ∙ ap forgotten_tag (sym c.places-item.is))
    ∙ map_over_more forgotten_tag c.args.tags.now c.loop-places.tags c.loop-places.places-index c.places-item.result c.loop-places-test.true
    c.loop-places.invariant c.places-item.is

pub returns : goal.returns
returns c = map-all forgotten_tag c.args.tags.now c.loop-places.tags c.loop-places.places-index c.loop-places.invariant c.loop-places-test.false
