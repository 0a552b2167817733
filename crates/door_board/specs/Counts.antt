-- Fresh rings and collections of the places of a board.
use Rattle.std.specs.Prelude.{◌≡◌, ℕ, ◌+◌, ◌-◌, ◌*◌, ◌/◌, ◌%◌, Bool, true, false, List, [], ◌∷◌, ◌++◌, if◌then◌else◌, ◌==◌, count_by, sum_by}
use Rattle.std.specs.Int.{bit_at}
use Rattle.atomic_table.specs.Seated.{TableId}
use Rattle.door_board.specs.declared.Haul.{Haul}

-- The place of index i of a client; by hand, of 16 tags: index 1 of client 0 has place 0, and index 16 of client 14, which is in word 2, has
-- 64 * 2 + 16 * 3 + 15 = 191; of 8 tags index 8 of client 30, which is in word 2 + 4, has 64 * 6 + 8 * 3 + 7 = 415
abbrev pub place_of : ℕ → ℕ → ℕ → ℕ
place_of tags client i = 64 * (client % 4 + 4 * (client / 16)) + tags * (client / 4 % 4) + i - 1

-- A board as its calls see it: which one it is, and how many seats were made for it
pub record MadeBoard : Type 0 where
  pub table : TableId
  pub seats : ℕ

-- A seat as its calls see it: whose it is, the places of its fresh rings in order, those of its rings that merged, and its collections in order
pub record Sitting : Type 0 where
  pub table : TableId
  pub fresh : List ℕ
  pub merged : List ℕ
  pub hauls : List Haul

abbrev pub unused_seat : TableId → Sitting
unused_seat table = record { table = table; fresh = []; merged = []; hauls = [] }

abbrev pub IsSeatOf : MadeBoard → Sitting → Type 0
IsSeatOf board seat = seat.table ≡ board.table

-- the place's bit in the bits of a collection: 1 where the collection was of the place's word and gave the bit, else 0
abbrev pub taken_at : ℕ → Haul → ℕ
taken_at place haul = if haul.word == place / 64 then bit_at haul.bits (place % 64) else 0

-- how many fresh rings of a place are in a list of them: 2 of place 5 in 5, 7, 5
abbrev pub times_rung : ℕ → List ℕ → ℕ
times_rung place places = count_by (λ rung. rung == place) places

-- how many collections gave the place's bit
abbrev pub times_taken : ℕ → List Haul → ℕ
times_taken place hauls = sum_by (taken_at place) hauls

abbrev pub fresh_rings : ℕ → Sitting → ℕ
fresh_rings place seat = times_rung place seat.fresh

abbrev pub collections : ℕ → Sitting → ℕ
collections place seat = times_taken place seat.hauls

-- a ring is noted once, as fresh or as merged
abbrev pub rung_too : List ℕ → ℕ → Bool → List ℕ
rung_too places place true = places ++ place ∷ []
rung_too places place false = places

abbrev pub merged_too : List ℕ → ℕ → Bool → List ℕ
merged_too places place true = places
merged_too places place false = places ++ place ∷ []

-- the seat after a ring that answered so
abbrev pub rang : Sitting → ℕ → Bool → Sitting
rang seat place is_fresh = record seat { fresh = rung_too seat.fresh place is_fresh; merged = merged_too seat.merged place is_fresh }

-- the seat after a collection that answered so
abbrev pub collected : Sitting → ℕ → ℕ → Sitting
collected seat word bits = record seat { hauls = seat.hauls ++ record { word = word; bits = bits } ∷ [] }
