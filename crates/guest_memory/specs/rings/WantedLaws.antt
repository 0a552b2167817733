-- What follows where a range is missing, and where none is.
use Rattle.std.proofs.Common.{◌≡◌, ℕ, zero, suc, ◌+◌, ◌≤◌, ◌^◌, nat_lt, ◌==◌, Bool, true, false, Option, Some, None, List, refl, sym, ap, ◌∙◌, arith}
use Rattle.std.proofs.lemmas.Bool.{eqb-true, false≢true}
use Rattle.std.proofs.lemmas.Option.{none-some}
use Rattle.std.specs.Prelude.{is_some, option_map, if◌then◌else◌}
use Rattle.byteorder.specs.Endian.{little_number}
use Rattle.guest_memory.specs.Bytes.{Memory, bytes_from, is_there, ◌>>=◌}
use Rattle.guest_memory.specs.Ranges.{there_by_each, there_each}
use Rattle.guest_memory.specs.declared.rings.context.Home.{Home}
use Rattle.guest_memory.specs.declared.rings.context.Found.{Found}
use Rattle.guest_memory.specs.declared.rings.wanting.Range.{Range}
use Rattle.guest_memory.specs.rings.Ends.{cursor_in, fetched, found_at, found_of, front_of, home_at, home_size, is_ring, looked, owned}
use Rattle.guest_memory.specs.rings.Wanted.{LacksIt, end_wanted, look_wanted, missing, part_wanted, range_ahead, trb_range, trb_wanted}

-- an empty range is there
pub empty_there : (memory : Memory) (at : ℕ) → is_there memory at 0 ≡ true
unfolding bytes_from
empty_there memory at = refl

pub some_lacking : (memory : Memory) (at n : ℕ) → is_there memory at n ≡ false → 1 ≤ n
some_lacking memory at zero lacks = absurd (false≢true (sym lacks ∙ empty_there memory at))
some_lacking memory at (suc n) lacks = omega arith

pub map_some : {A B : Type 0} (f : A → B) (o : Option A) → is_some (option_map f o) ≡ is_some o
map_some f None = refl
map_some f (Some x) = refl

-- a test that chooses between a range and what is missing behind it
pub there_if : (there : Bool) (range : Range) (rest : Option Range) → (if there then rest else Some range) ≡ None → (there ≡ true) × (rest ≡ None)
there_if true range rest none = (refl, none)
there_if false range rest none = absurd (none-some range (sym none))

-- one that isn't there is lacking
pub missing_lacks : (memory : Memory) (range : Range) (rest : Option Range) → LacksIt memory rest → LacksIt memory (missing memory range rest)
missing_lacks memory range rest behind = by_test (is_there memory range.at range.count) refl
  where
    by_test : (there : Bool) → is_there memory range.at range.count ≡ there → LacksIt memory (if there then rest else Some range)
    by_test true is = behind
    by_test false is = (some_lacking memory range.at range.count is, is)

-- what lies behind the front of a range that is there
pub behind_there : (memory : Memory) (at ahead n : ℕ) → is_there memory at (ahead + n) ≡ true → is_there memory (at + ahead) n ≡ true
behind_there memory at ahead n there = there_by_each memory (at + ahead) n (λ k below.
    let e : at + ahead + k ≡ at + (ahead + k) = omega arith in
    ap (λ a. is_some (memory a)) e ∙ there_each memory at (ahead + n) there (ahead + k) (omega (arith, below)))

-- the part of a buffer is there where it isn't asked for
pub part_there : (memory : Memory) (pointer moved count : ℕ) → part_wanted memory pointer moved count ≡ None → is_there memory (pointer + moved) count ≡ true
part_there memory pointer moved count none = by_count (count == 0) refl none
  where
    by_end : (below : Bool) → missing memory (if below then record { at = pointer + moved; count = count } else record { at = pointer; count = moved + count }) None ≡ None
        → is_there memory (pointer + moved) count ≡ true
    by_end true none = (there_if (is_there memory (pointer + moved) count) _ None none).0
    by_end false none = behind_there memory pointer moved count (there_if (is_there memory pointer (moved + count)) _ None none).0

    by_count : (nought : Bool) → (count == 0) ≡ nought → (if nought then None else missing memory (range_ahead pointer moved count) None) ≡ None
        → is_there memory (pointer + moved) count ≡ true
    by_count true is none = let e : count ≡ 0 = eqb-true count 0 is in rw e (empty_there memory (pointer + moved))
    by_count false is none = by_end (nat_lt (pointer + moved) (2 ^ 64)) none

pub part_lacks : (memory : Memory) (pointer moved count : ℕ) → LacksIt memory (part_wanted memory pointer moved count)
part_lacks memory pointer moved count = by_count (count == 0)
  where
    by_count : (nought : Bool) → LacksIt memory (if nought then None else missing memory (range_ahead pointer moved count) None)
    by_count true = tt
    by_count false = missing_lacks memory (range_ahead pointer moved count) None tt

trb_there : (memory : Memory) (home : Home) (number : ℕ) → trb_wanted memory home number ≡ None → is_some (found_at memory home number) ≡ true
unfolding found_at fetched
trb_there memory home number none = by_kind (is_ring home number) none
  where
    by_kind : (ring : Bool) → (if ring then missing memory (trb_range number) None else None) ≡ None
        → is_some (if ring then option_map found_of (option_map (owned (cursor_in number).cycle) (bytes_from memory (cursor_in number).place 16)) else Some Found.WrongKind) ≡ true
    by_kind true none =
        map_some found_of _ ∙ map_some (owned (cursor_in number).cycle) _ ∙ (there_if (is_there memory (cursor_in number).place 16) (trb_range number) None none).0
    by_kind false none = refl

trb_lacks : (memory : Memory) (home : Home) (number : ℕ) → LacksIt memory (trb_wanted memory home number)
trb_lacks memory home number = by_kind (is_ring home number)
  where
    by_kind : (ring : Bool) → LacksIt memory (if ring then missing memory (trb_range number) None else None)
    by_kind true = missing_lacks memory (trb_range number) None tt
    by_kind false = tt

bind_some : {A B : Type 0} (o : Option A) (f : A → B) → is_some o ≡ true → is_some (o >>= (λ x. Some (f x))) ≡ true
bind_some None f none = absurd (false≢true none)
bind_some (Some x) f some = refl

-- where nothing is missing, what stands at the end is found
pub look_there : (memory : Memory) (home : Home) → look_wanted memory home ≡ None → is_some (looked memory home) ≡ true
unfolding look_wanted looked
look_there memory home none = by_bytes (bytes_from memory (home_at home) (home_size home)) none
  where
    by_bytes : (bytes : Option (List ℕ)) → end_wanted memory home (option_map (little_number 8) bytes) ≡ None
        → is_some (bytes >>= (λ bytes. found_at memory home (little_number 8 bytes) >>= (λ found. Some (front_of home (little_number 8 bytes) found)))) ≡ true
    by_bytes None none = absurd (none-some _ (sym none))
    by_bytes (Some bytes) none =
        bind_some (found_at memory home (little_number 8 bytes)) (front_of home (little_number 8 bytes)) (trb_there memory home (little_number 8 bytes) none)

pub look_lacks : (memory : Memory) (home : Home) → LacksIt memory (look_wanted memory home)
unfolding look_wanted
look_lacks memory home = by_bytes (bytes_from memory (home_at home) (home_size home)) refl
  where
    by_bytes : (bytes : Option (List ℕ)) → bytes_from memory (home_at home) (home_size home) ≡ bytes
        → LacksIt memory (end_wanted memory home (option_map (little_number 8) bytes))
    by_bytes None is = let lacks : is_there memory (home_at home) (home_size home) ≡ false = ap is_some is in (some_lacking memory (home_at home) (home_size home) lacks, lacks)
    by_bytes (Some bytes) is = trb_lacks memory home (little_number 8 bytes)
