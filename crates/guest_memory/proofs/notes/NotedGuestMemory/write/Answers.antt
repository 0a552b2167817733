use Rattle.std.proofs.Common.{◌≡◌, ℕ, true, length, ap, sym, subst, ◌∙◌}
use Rattle.guest_memory.specs.Bytes.{Memory, is_there}
use Rattle.guest_memory.specs.notes.Notes.{AreNoted, notes}
use Rattle.guest_memory.proofs.NotesLaws.{done_noted}
use Rattle.guest_memory.proofs.notes.NotedGuestMemory.write.Goals as goal

pub invariant_of-self-2 : goal.invariant_of-self-2
invariant_of-self-2 g c =
    let began = g.B.Beginning.memory in
    let had = c.args.self.now in
    let has = c.note.new.self in
    let at = c.args.at in
    let bytes = c.args.bytes.now in
    let before = g.M.GuestMemory.contents had.memory.now in
    let now = g.M.GuestMemory.contents has.memory.now in
    let after = g.M.GuestMemory.contents c.write.new.self in
    let room = length had.ranges.now in
    let were = notes had.ranges.now had.used had.lost in
    let told = notes has.ranges.now has.used has.lost in
    let same : before ≡ now = ap (λ memory. g.M.GuestMemory.contents memory.now) (sym c.note.ensures.memory) in
    let there : is_there before at (length bytes) ≡ true = sym c.has.ensures ∙ c.if-not-has.false in
    record {
      noted =
          subst (λ (n : ℕ). AreNoted began after n told) (sym c.note.ensures.same_room)
          (done_noted c.write.result began now after room were told at bytes
          (subst (λ (memory : Memory). AreNoted began memory room were) same had.noted)
          (subst (λ (memory : Memory). is_there memory at (length bytes) ≡ true) same there)
          c.note.ensures.noted c.write.ensures.written c.write.ensures.as_before);
      within = has.within;
    }
