use Rattle.std.proofs.Common.{◌&&◌, nat_lt}
use Rattle.std.proofs.lemmas.Bool.{and_parts, ltb-true}
use Rattle.host_layout.specs.Places.{has_area}
use Rattle.host_layout.specs.Rings.{area_of, places_of, segments_of}
use Rattle.host_layout.proofs.Blocks.{segment_block}
use Rattle.host_layout.proofs.laws.segments_in_blocks.Goals as goal

pub returns : goal.returns
returns c = λ has.
    let layout = c.args.layout.now in
    let at = c.args.at in
    let parts = and_parts (has_area layout.shape (area_of at.ring) && nat_lt at.segment (segments_of at.ring)) (nat_lt at.place (places_of layout.shape at.ring)) has in
    let inner = and_parts (has_area layout.shape (area_of at.ring)) (nat_lt at.segment (segments_of at.ring)) parts.0 in
    segment_block layout at.ring at.segment (ltb-true _ _ inner.1)
