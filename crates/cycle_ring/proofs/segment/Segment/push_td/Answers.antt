-- The TRBs that were put are items with bytes.
use Rattle.std.proofs.Common.{◌≡◌, ◌+◌, ◌-◌, ◌*◌, ◌≤◌, ◌%◌, ℕ, length, map, refl, subst, sym, ap, ◌∙◌, arith}
use Rattle.std.proofs.Math.Nat.{mod-add-mod}
use Rattle.std.proofs.lemmas.List.{length-map}
use Rattle.cycle_ring.proofs.Chains.{All-known, IsTd-some}
use Rattle.cycle_ring.specs.Items.{ItemRing, known}
use Rattle.cycle_ring.specs.Segment.{IsConsumer}
use Rattle.cycle_ring.proofs.Consumers.{IsConsumer-put}
use Rattle.cycle_ring.proofs.Held.{put-shown}
use Rattle.cycle_ring.proofs.segment.Segment.push_td.Goals as goal

pub invariant_of-self : goal.invariant_of-self
invariant_of-self g c =
    let trbs = c.args.trbs.now in
    let size = length-map trbs known in
    (put-shown g.row.N _ _ _ _ _ _ _ (map known trbs) _ c.self.view_is c.self.invariant (All-known trbs c.requires.texts) c.room.ensures.room
    (omega (arith, size, c.if-room-trbs.false)) (rw (← size) at c.put_back-self-inside.ensures.holds) (rw (← size) at c.put_back-self-inside.ensures.end)).1

pub returns-clause-put : goal.returns-clause-put
returns-clause-put g c =
    let trbs = c.args.trbs.now in
    let size = length-map trbs known in
    (put-shown g.row.N _ _ _ _ _ _ _ (map known trbs) _ c.self.view_is c.self.invariant (All-known trbs c.requires.texts) c.room.ensures.room
    (omega (arith, size, c.if-room-trbs.false)) (rw (← size) at c.put_back-self-inside.ensures.holds) (rw (← size) at c.put_back-self-inside.ensures.end)).0

pub returns-clause-consumer : goal.returns-clause-consumer
returns-clause-consumer g c end consumer =
    let trbs = c.args.trbs.now in
    let Kept : ItemRing → Type 0 = λ r. IsConsumer g.row.N r end in
    subst Kept (sym (returns-clause-put g c))
    (IsConsumer-put g.row.N c.args.self.now (map known trbs) end consumer (All-known trbs c.requires.texts)
    (omega (arith, length-map trbs known, c.room.ensures.room)))

pub returns-clause-td : goal.returns-clause-td
returns-clause-td g c =
    let segment = rw c.self.view_is at c.self.invariant in
    let r = c.args.self.now in
    let start = c.self.inside.enqueue in
    let some = IsTd-some c.args.trbs.now c.requires.td in
    let first = c.pointer.ensures ∙ ap (λ (place : ℕ). r.base + 16 * place) segment.producer.place in
    let count : r.at + length r.put + (length c.args.trbs.now - 1) ≡ r.at + (length r.put + length c.args.trbs.now - 1) = omega arith in
    let stands : (start.place + (length c.args.trbs.now - 1)) % (g.row.N - 1) ≡ (r.at + (length r.put + length c.args.trbs.now - 1)) % (g.row.N - 1) =
    rw (segment.producer.place, mod-add-mod (r.at + length r.put) (g.row.N - 1) (length c.args.trbs.now - 1), count) refl in
    let last : c.ahead-last.result ≡ (r.at + (length r.put + length c.args.trbs.now - 1)) % (g.row.N - 1) = c.ahead-last.ensures ∙ stands in
    let behind = c.pointer-2.ensures ∙ ap (λ (place : ℕ). r.base + 16 * place) last in
    rw (first, behind) refl
