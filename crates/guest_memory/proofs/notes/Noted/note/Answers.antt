use Rattle.std.proofs.Common.{◌≡◌, ℕ, ◌+◌, true, false, length, nat_lt, sym, subst, ◌∙◌, arith}
use Rattle.std.proofs.lemmas.Bool.{ltb-true}
use Rattle.guest_memory.specs.notes.Notes.{AreNoted, notes}
use Rattle.guest_memory.proofs.NotesLaws.{full_noted, noted_ahead, put_noted}
use Rattle.guest_memory.proofs.notes.Noted.note.Goals as goal

pub invariant_of-self : goal.invariant_of-self
invariant_of-self g c =
    let had = c.args.self.now in
    let contents = g.M.GuestMemory.contents had.memory.now in
    let room : nat_lt had.used (length had.ranges.now) ≡ true = sym c.put.ensures.room ∙ c.if-put.true in
    record {
      noted =
          subst (λ (n : ℕ). AreNoted g.B.Beginning.memory contents n (notes c.put.new.ranges (had.used + 1) had.lost)) (sym c.put.ensures.same_room)
          (noted_ahead g.B.Beginning.memory contents (length had.ranges.now) (notes had.ranges.now had.used had.lost)
          (notes c.put.new.ranges (had.used + 1) had.lost) c.args.address c.args.count had.noted c.requires
          (put_noted had.ranges.now c.put.new.ranges had.used had.lost c.args.address c.args.count had.within room (c.put.ensures.there c.if-put.true)));
      within = omega (arith, ltb-true had.used (length had.ranges.now) room, c.put.ensures.same_room);
    }

pub invariant_of-self-else-put : goal.invariant_of-self-else-put
invariant_of-self-else-put g c =
    let had = c.args.self.now in
    let contents = g.M.GuestMemory.contents had.memory.now in
    let full : nat_lt had.used (length had.ranges.now) ≡ false = sym c.put.ensures.room ∙ c.if-put.false in
    record {
      noted =
          subst (λ (n : ℕ). AreNoted g.B.Beginning.memory contents n (notes c.put.new.ranges had.used true)) (sym c.put.ensures.same_room)
          (noted_ahead g.B.Beginning.memory contents (length had.ranges.now) (notes had.ranges.now had.used had.lost)
          (notes c.put.new.ranges had.used true) c.args.address c.args.count had.noted c.requires
          (full_noted had.ranges.now c.put.new.ranges had.used had.lost c.args.address c.args.count had.within full (c.put.ensures.full c.if-put.false)));
      within = omega (arith, had.within, c.put.ensures.same_room);
    }
