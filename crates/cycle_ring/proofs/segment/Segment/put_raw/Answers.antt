-- The bytes that were put are an item with bytes.
use Rattle.std.proofs.Common.{◌≡◌, ◌+◌, ◌-◌, ◌*◌, ℕ, [], ◌∷◌, length, subst, sym, ap, ◌∙◌, arith}
use Rattle.cycle_ring.proofs.Chains.{All-one}
use Rattle.cycle_ring.specs.Items.{ItemRing, item_read}
use Rattle.cycle_ring.specs.Segment.{IsConsumer}
use Rattle.cycle_ring.proofs.Consumers.{IsConsumer-put}
use Rattle.cycle_ring.proofs.Held.{put-shown}
use Rattle.cycle_ring.proofs.segment.Segment.put_raw.Goals as goal

pub invariant_of-self : goal.invariant_of-self
invariant_of-self g c =
    let item = item_read c.args.bytes.now in
    (put-shown g.row.N _ _ _ _ _ _ _ (item ∷ []) _ c.self.view_is c.self.invariant (All-one item c.put_raw_back-self-inside.ensures.has_bytes)
    c.room.ensures.room (omega arith)
    (λ at put holds room is. c.put_raw_back-self-inside.ensures.holds at put holds (omega (arith, c.room.ensures.room)) is)
    (λ at put holds room is. c.put_raw_back-self-inside.ensures.end at put is)).1

pub returns-clause-put : goal.returns-clause-put
returns-clause-put g c =
    let item = item_read c.args.bytes.now in
    (put-shown g.row.N _ _ _ _ _ _ _ (item ∷ []) _ c.self.view_is c.self.invariant (All-one item c.put_raw_back-self-inside.ensures.has_bytes)
    c.room.ensures.room (omega arith)
    (λ at put holds room is. c.put_raw_back-self-inside.ensures.holds at put holds (omega (arith, c.room.ensures.room)) is)
    (λ at put holds room is. c.put_raw_back-self-inside.ensures.end at put is)).0

pub returns-clause-consumer : goal.returns-clause-consumer
returns-clause-consumer g c end consumer =
    let item = item_read c.args.bytes.now in
    let Kept : ItemRing → Type 0 = λ r. IsConsumer g.row.N r end in
    subst Kept (sym (returns-clause-put g c))
    (IsConsumer-put g.row.N c.args.self.now (item ∷ []) end consumer (All-one item c.put_raw_back-self-inside.ensures.has_bytes)
    (omega (arith, c.room.ensures.room)))

pub returns-clause-address : goal.returns-clause-address
returns-clause-address g c =
    let segment = rw c.self.view_is at c.self.invariant in
    c.pointer-address.ensures ∙ ap (λ (place : ℕ). c.args.self.now.base + 16 * place) segment.producer.place
