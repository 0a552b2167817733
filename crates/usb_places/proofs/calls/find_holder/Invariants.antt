use Rattle.std.proofs.Common.{◌≡◌, drop}
use Rattle.usb_places.specs.Places.{holder}
use Rattle.usb_places.proofs.Holders.{further_by}
use Rattle.usb_places.proofs.calls.find_holder.Given as goal

-- the tags so far hold none of this id
abbrev pub invariant-loop-places : goal.invariant-loop-places
invariant-loop-places l = record {
  counted : l.tag ≡ l.places-index;
  rest : holder l.id l.fn.tags ≡ further_by l.places-index (holder l.id (drop l.places-index l.fn.tags));
}
