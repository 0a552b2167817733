use Rattle.std.proofs.Common.{◌≡◌, ◌++◌, map, take, drop}
use Rattle.usb_places.specs.States.{lost_tag}
use Rattle.usb_places.proofs.keeping.lose_all.Given as goal

-- the tags so far are changed, and the others are as they were
abbrev pub invariant-loop-places : goal.invariant-loop-places
invariant-loop-places l =
    l.tags ≡ map (lost_tag l.id) (take l.places-index l.initial.tags) ++ drop l.places-index l.initial.tags
