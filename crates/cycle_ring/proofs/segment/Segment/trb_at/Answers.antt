-- The bytes of an item's place decode to it, where it is a TRB.
use Rattle.std.proofs.Common.{length, sym, ap, ◌∙◌, arith, inl, inr}
use Rattle.std.proofs.lemmas.Bool.{cases_lt, false≢true}
use Rattle.std.proofs.lemmas.Option.{slice_get_past}
use Rattle.std.specs.Prelude.{option_and_then}
use Rattle.cycle_ring.specs.Items.{known_of}
use Rattle.cycle_ring.proofs.Held.{item-there}
use Rattle.cycle_ring.proofs.Read.{item-decoded, item-undecoded}
use Rattle.cycle_ring.proofs.segment.Segment.trb_at.Goals as goal

pub returns-in-Ok : goal.returns-in-Ok
returns-in-Ok g c k below is =
    let used = (c.is_in_use.ensures k below is).0 c.if-not-is_in_use.false in
    let item = item-there g.row.N _ _ _ c.args.end _ k _ (rw c.self.view_is at c.self.invariant) is used (omega arith) c.index.ensures in
    let known = item-decoded c.index.result.now item.0 c.in-Ok.trb _ item.2.reads c.in-Ok.ensures.no_fault c.in-Ok.ensures.reader in
    sym (ap (option_and_then known_of) item.1 ∙ ap known_of known)

pub returns-in-Err : goal.returns-in-Err
returns-in-Err g c k below is =
    let used = (c.is_in_use.ensures k below is).0 c.if-not-is_in_use.false in
    let item = item-there g.row.N _ _ _ c.args.end _ k _ (rw c.self.view_is at c.self.invariant) is used (omega arith) c.index.ensures in
    let foreign = item-undecoded c.index.result.now item.0 c.in-Err.field-0 item.2.reads c.in-Err.ensures.first_fault in
    sym (ap (option_and_then known_of) item.1 ∙ ap known_of foreign)

pub returns-then-not-is_in_use : goal.returns-then-not-is_in_use
returns-then-not-is_in_use g c k below is = elim (cases_lt k (length c.args.self.now.put)) [
  | inl used ↦ absurd (false≢true (sym c.if-not-is_in_use.true ∙ (c.is_in_use.ensures k below is).1 used))
  | inr behind ↦ sym (ap (option_and_then known_of) (slice_get_past c.args.self.now.put k behind))
]
