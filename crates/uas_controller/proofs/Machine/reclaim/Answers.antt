use Rattle.std.proofs.Common.{sym, ◌∙◌, ap}
use Rattle.std.specs.Prelude.{is_some, Option, Bool}
use Rattle.stream_array.specs.Map.{places_of}
use Rattle.stream_array.specs.Rings.{ring_of}
use Rattle.uas_controller.proofs.Consumed.{chain-consumed}
use Rattle.uas_controller.proofs.Machine.reclaim.Goals as goal

pub reclaim-requires-clause-consumed : goal.reclaim-requires-clause-consumed
reclaim-requires-clause-consumed c =
    chain-consumed (places_of c.args.pipe) (ring_of c.self.inside.lines c.args.pipe c.args.stream) c.args.address
    c.addresses_name_items.ensures.items_only c.room.ensures.standing.least_places
    (ap (λ (chain : Option Bool). is_some chain) (sym c.consumed_chain.ensures) ∙ c.if-is_none.ensures)
