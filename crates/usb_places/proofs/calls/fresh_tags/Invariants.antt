use Rattle.std.proofs.Common.{◌≡◌, replicate}
use Rattle.usb_places.specs.States.{fresh_tag}
use Rattle.usb_places.proofs.calls.fresh_tags.Given as goal

abbrev pub invariant-loop-tag : goal.invariant-loop-tag
invariant-loop-tag l = l.tags.items ≡ replicate l._tag fresh_tag
