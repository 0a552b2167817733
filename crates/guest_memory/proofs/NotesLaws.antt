-- What is noted of a memory, from one write to the next.
use Rattle.std.proofs.Common.{◌≡◌, ℕ, suc, ◌+◌, ◌≤◌, Bool, true, false, Option, Some, None, Ok, Err, List, [], ◌∷◌, ◌++◌, length, map, take, refl, ap, sym, subst, ◌∙◌, arith, inl, inr}
use Rattle.std.proofs.Math.Logic.{∥∥₁_elim, ∥∥₁_map}
use Rattle.std.proofs.Math.Path.{fun_ext}
use Rattle.std.proofs.Props.{props}
use Rattle.std.proofs.lemmas.Bool.{cases_lt, false≢true, le-ltb, lt-ltb, ltb-false}
use Rattle.std.proofs.lemmas.List.{length-map, length-take-le, length_push, map_push, take-append-le, take_all}
use Rattle.std.specs.Prelude.{All, OnErr, OnOk, Result, is_some, nat_lt}
use Rattle.guest_memory.specs.declared.Outside.{Outside}
use Rattle.guest_memory.specs.Bytes.{Memory, bytes_from, is_there, written}
use Rattle.guest_memory.specs.Ranges.{each_of, range_cases, size_of, written_ahead, written_beside}
use Rattle.guest_memory.specs.declared.notes.WrittenRange.{WrittenRange}
use Rattle.guest_memory.specs.notes.Notes.{AreNoted, IsBeside, Notes, Write, all_written, noted, notes, notes_of, range_of}

written_more : (memory : Memory) (writes : List Write) (write : Write)
    → all_written memory (writes ++ write ∷ []) ≡ written (all_written memory writes) write.at write.bytes
unfolding all_written
written_more memory [] write = refl
written_more memory (first ∷ writes) write = written_more (written memory first.at first.bytes) writes write

noted_more : (room : ℕ) (writes : List Write) (write : Write)
    → noted room (notes_of room writes) write.at (length write.bytes) ≡ notes_of room (writes ++ write ∷ [])
noted_more room writes write =
    let ranges : List WrittenRange = map range_of writes in
    let count : length ranges ≡ length writes = length-map writes range_of in
    let more : length (writes ++ write ∷ []) ≡ length writes + 1 = length_push writes write in
    let ranges_more : length (ranges ++ range_of write ∷ []) ≡ length ranges + 1 = length_push ranges (range_of write) in
    elim (cases_lt (length writes) room) [
      | inl below ↦ rw (
        take_all room ranges (omega (arith, count, below)),
        lt-ltb (length ranges) room (omega (arith, count, below)),
        map_push range_of writes write,
        take_all room (ranges ++ range_of write ∷ []) (omega (arith, ranges_more, count, below)),
        le-ltb room (length writes) (omega (arith, below)),
        le-ltb room (length (writes ++ write ∷ [])) (omega (arith, more, below)),
      ) refl
      | inr reach ↦ rw (
        length-take-le room ranges (omega (arith, count, reach)),
        le-ltb room room (omega arith),
        map_push range_of writes write,
        take-append-le room ranges (range_of write ∷ []) (omega (arith, count, reach)),
        lt-ltb room (length (writes ++ write ∷ [])) (omega (arith, more, reach)),
      ) refl
    ]

-- and with a write more
pub more_noted : (began now after : Memory) (room : ℕ) (had has : Notes) (at : ℕ) (bytes : List ℕ) → AreNoted began now room had
    → after ≡ written now at bytes → has ≡ noted room had at (length bytes) → AreNoted began after room has
more_noted began now after room had has at bytes told done notes =
    let write : Write = record { at = at; bytes = bytes } in
    ∥∥₁_map told (λ t. (
      t.0 ++ write ∷ [],
      done ∙ ap (λ (memory : Memory). written memory at bytes) t.1 ∙ sym (written_more began t.0 write),
      notes ∙ ap (λ (before : Notes). noted room before at (length bytes)) t.2 ∙ noted_more room t.0 write,
    ))

-- BEFORE THE WRITE IS DONE: a range that is noted already is one where the bytes that stand there were written

found : {A : Type 0} (o : Option A) → is_some o ≡ true → (x : A) × (o ≡ Some x)
found None is = absurd (false≢true is)
found (Some x) is = (x, refl)

as_it_was : (memory : Memory) (at n : ℕ) (bytes : List ℕ) → bytes_from memory at n ≡ Some bytes → written memory at bytes ≡ memory
as_it_was memory at n bytes has =
    let size : length bytes ≡ n = size_of memory at n bytes has in
    fun_ext (λ a. elim (range_cases at (length bytes) a) [
      | inl inside ↦
          ap (written memory at bytes) inside.2 ∙ written_ahead memory at bytes inside.0 inside.1
          ∙ sym (each_of memory at n bytes has inside.0 (omega (arith, size, inside.1))) ∙ ap memory (sym inside.2)
      | inr outside ↦ written_beside memory at bytes a outside
    ])

pub noted_ahead : (began now : Memory) (room : ℕ) (had has : Notes) (at n : ℕ) → AreNoted began now room had → is_there now at n ≡ true
    → has ≡ noted room had at n → AreNoted began now room has
noted_ahead began now room had has at n told there notes =
    let stands = found (bytes_from now at n) there in
    let size : length stands.0 ≡ n = size_of now at n stands.0 stands.1 in
    more_noted began now now room had has at stands.0 told (sym (as_it_was now at n stands.0 stands.1))
    (notes ∙ ap (noted room had at) (sym size))

-- once the write is done or refused
pub done_noted : (result : Result (Unit {0}) Outside) (began now after : Memory) (room : ℕ) (had has : Notes) (at : ℕ) (bytes : List ℕ)
    → AreNoted began now room had → is_there now at (length bytes) ≡ true → has ≡ noted room had at (length bytes)
    → OnOk result (after ≡ written now at bytes) → OnErr result (after ≡ now) → AreNoted began after room has
done_noted (Ok done) began now after room had has at bytes told there notes is was = more_noted began now after room had has at bytes told is notes
done_noted (Err outside) began now after room had has at bytes told there notes is was =
    subst (λ (memory : Memory). AreNoted began memory room has) (sym was) (noted_ahead began now room had has at (length bytes) told there notes)

-- ROOM

pub put_noted : (ranges after : List WrittenRange) (used : ℕ) (lost : Bool) (at n : ℕ) → used ≤ length ranges → nat_lt used (length ranges) ≡ true
    → take (used + 1) after ≡ take used ranges ++ record { address = at; length = n } ∷ []
    → notes after (used + 1) lost ≡ noted (length ranges) (notes ranges used lost) at n
put_noted ranges after used lost at n within room there =
    rw (length-take-le used ranges within, room) (ap (λ (noted : List WrittenRange). (noted, lost)) there)

pub full_noted : (ranges after : List WrittenRange) (used : ℕ) (lost : Bool) (at n : ℕ) → used ≤ length ranges → nat_lt used (length ranges) ≡ false
    → after ≡ ranges → notes after used true ≡ noted (length ranges) (notes ranges used lost) at n
full_noted ranges after used lost at n within full same =
    rw (length-take-le used ranges within, full) (ap (λ (noted : List WrittenRange). (take used noted, true)) same)

-- A BYTE BESIDE WHAT IS NOTED

written_beside_all : (memory : Memory) (writes : List Write) (a : ℕ) → All (IsBeside a) (map range_of writes) → all_written memory writes a ≡ memory a
unfolding all_written
written_beside_all memory [] a beside = refl
written_beside_all memory (write ∷ writes) a beside =
    written_beside_all (written memory write.at write.bytes) writes a (λ k d below. beside (suc k) d (omega (arith, below)))
    ∙ written_beside memory write.at write.bytes a (beside 0 (range_of write) (omega arith))

-- where all is noted, a byte beside the noted ranges is as it was
pub unnoted_stay : (began now : Memory) (room : ℕ) (ranges : List WrittenRange) (a : ℕ) → AreNoted began now room (ranges, false) → All (IsBeside a) ranges
    → now a ≡ began a
unnoted_stay began now room ranges a told beside =
    ∥∥₁_elim told (hlevel props) (λ t.
    let few : length t.0 ≤ room = ltb-false room (length t.0) (sym (ap (λ (notes : Notes). notes.1) t.2)) in
    let count : length (map range_of t.0) ≡ length t.0 = length-map t.0 range_of in
    let all : ranges ≡ map range_of t.0 =
    ap (λ (notes : Notes). notes.0) t.2 ∙ take_all room (map range_of t.0) (omega (arith, count, few)) in
    ap (λ (memory : Memory). memory a) t.1
    ∙ written_beside_all began t.0 a (subst (λ (noted : List WrittenRange). All (IsBeside a) noted) all beside))
