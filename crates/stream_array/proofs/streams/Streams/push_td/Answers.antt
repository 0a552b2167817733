-- The TD is on the stream's segment, and its context names the consumer's end as before.
use Rattle.std.proofs.Common.{◌≡◌, ◌↔◌, ◌+◌, ◌-◌, ◌≤◌, length, map, IsOk, IfOk, subst, sym}
use Rattle.cycle_ring.specs.declared.Td.{Td}
use Rattle.cycle_ring.specs.Ring.{pointer_of}
use Rattle.cycle_ring.specs.Items.{ItemRing, known}
use Rattle.uas_profile.specs.declared.TheConstants.{STREAM_RING_PLACES}
use Rattle.stream_array.proofs.Named.{AreStreams-with, AtStream-read, base-pushed, named-at, ring-at, rings-pushed}
use Rattle.stream_array.proofs.Marking.{marked-set}
use Rattle.stream_array.proofs.streams.Streams.push_td.Goals as goal

pub invariant_of-self : goal.invariant_of-self
invariant_of-self c =
    let at = AtStream-read c.self.inside.segments.items c.self.inside.contexts c.args.self.now c.args.stream c.index_mut-segment.result.now c.self.invariant.0 c.self.view_is
    c.requires.some c.requires.last c.index_mut-segment.ensures.value in
    let base = base-pushed _ _ _ c.push_td.result c.push_td.ensures.put c.push_td.ensures.full in
    let with = AreStreams-with _ _ _ _ _ c.push_td.new.self at base (c.push_td.ensures.consumer _ (named-at _ _ _ _ _ at).consumer) in
    (with.0, marked-set _ _ _ _ _ _ _ _ _ at c.self.invariant.1 with.1 c.set.ensures.here c.set.ensures.others)

pub returns-clause-room : goal.returns-clause-room
returns-clause-room c =
    let at = AtStream-read c.self.inside.segments.items c.self.inside.contexts c.args.self.now c.args.stream c.index_mut-segment.result.now c.self.invariant.0 c.self.view_is
    c.requires.some c.requires.last c.index_mut-segment.ensures.value in
    let Room : ItemRing → Type 0 = λ r. IsOk c.push_td.result ↔ (length r.put + length c.args.trbs.now ≤ STREAM_RING_PLACES - 2) in
    subst Room (sym (ring-at _ _ _ _ _ at)) c.push_td.ensures.room

pub returns-clause-put : goal.returns-clause-put
returns-clause-put c =
    let at = AtStream-read c.self.inside.segments.items c.self.inside.contexts c.args.self.now c.args.stream c.index_mut-segment.result.now c.self.invariant.0 c.self.view_is
    c.requires.some c.requires.last c.index_mut-segment.ensures.value in
    let base = base-pushed _ _ _ c.push_td.result c.push_td.ensures.put c.push_td.ensures.full in
    let changed = (AreStreams-with _ _ _ _ _ c.push_td.new.self at base (c.push_td.ensures.consumer _ (named-at _ _ _ _ _ at).consumer)).1 in
    rings-pushed _ _ _ _ _ c.push_td.new.self (map known c.args.trbs.now) c.push_td.result at changed c.push_td.ensures.put

pub returns-clause-td : goal.returns-clause-td
returns-clause-td c =
    let at = AtStream-read c.self.inside.segments.items c.self.inside.contexts c.args.self.now c.args.stream c.index_mut-segment.result.now c.self.invariant.0 c.self.view_is
    c.requires.some c.requires.last c.index_mut-segment.ensures.value in
    let Told : ItemRing → Type 0 = λ r. IfOk c.push_td.result (λ (td : Td). td ≡ record {
      first = pointer_of STREAM_RING_PLACES r (length r.put);
      last = pointer_of STREAM_RING_PLACES r (length r.put + length c.args.trbs.now - 1);
    }) in
    subst Told (sym (ring-at _ _ _ _ _ at)) c.push_td.ensures.td
