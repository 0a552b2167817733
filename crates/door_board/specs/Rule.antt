-- The rule of the table of words: for each place the fresh rings of all seats are the collections of all seats plus the standing bit.
use Rattle.std.specs.Prelude.{◌≡◌, ℕ, ◌+◌, ◌-◌, ◌*◌, ◌/◌, ◌%◌, ◌^◌, ◌<◌, List, [], ◌∷◌, ◌++◌, ◌==◌, length, slice_index, sum_by}
use mathlib.Core.Option.{some}
use lib.ListN.{get_elem?}
use Rattle.std.specs.Int.{bit_at}
use Rattle.atomic_table.specs.Table.{State, Me, Step}
use Rattle.door_board.specs.declared.Past.{Past}
use Rattle.door_board.specs.Counts.{times_rung, times_taken, rung_too, merged_too, Sitting}
use Rattle.door_board.specs.declared.TheConstants.{PLACES}

abbrev pub past : ℕ → Past
past shares = record { shares = shares; fresh = []; merged = []; hauls = [] }

abbrev pub all_shares : ℕ → Past
all_shares seats = past seats

abbrev pub shares_of : Past → ℕ
shares_of v = v.shares

abbrev pub rung_of : ℕ → Past → ℕ
rung_of place v = times_rung place v.fresh

abbrev pub taken_of : ℕ → Past → ℕ
taken_of place v = times_taken place v.hauls

-- the place's bit in the words
abbrev pub standing : List ℕ → ℕ → ℕ
standing words place = bit_at (slice_index words (place / 64)) (place % 64)

-- The shares are those of the seats that were made. A view with no share has done nothing
pub record IsCounted (seats : ℕ) (s : State (Unit {0}) Past) : Type 0 where
  pub width : length s.words ≡ 8
  pub shares : sum_by shares_of s.views ≡ seats
  pub counts : (place : ℕ) → place < PLACES → sum_by (rung_of place) s.views ≡ sum_by (taken_of place) s.views + standing s.words place
  pub idle : (k : ℕ) (v : Past) → get_elem? s.views k ≡ some v → v.shares ≡ 0 → (v.fresh ≡ []) × (v.hauls ≡ [])

-- a bit k of the word was rung, fresh where it was clear in what was found, else merged: only this step notes a ring
abbrev pub Rings : Step (Unit {0}) → Me (Unit {0}) Past → ℕ → Me (Unit {0}) Past → Type 0
Rings s me found w = (k : ℕ) × (k < 64) × (s.first ≡ 2 ^ k) × (w ≡ (
  record me.0 {
    fresh = rung_too me.0.fresh (64 * s.word + k) (bit_at found k == 0);
    merged = merged_too me.0.merged (64 * s.word + k) (bit_at found k == 0);
  },
  me.1,
))

abbrev pub Collects : Step (Unit {0}) → Me (Unit {0}) Past → ℕ → Me (Unit {0}) Past → Type 0
Collects s me found w = w ≡ (record me.0 { hauls = me.0.hauls ++ record { word = s.word; bits = found } ∷ [] }, me.1)

abbrev pub one_share_less : Past → Past
one_share_less v = record v { shares = v.shares - 1 }

abbrev pub one_share : Past → Past
one_share v = past 1

abbrev pub both : Past → Past → Past
both v w = record { shares = v.shares + w.shares; fresh = v.fresh ++ w.fresh; merged = v.merged ++ w.merged; hauls = v.hauls ++ w.hauls }

abbrev pub spent : Past
spent = past 0

-- what a seat knows that took in another, which has one share
abbrev pub taking_in : Past → Sitting → Past
taking_in v seat = record { shares = v.shares + 1; fresh = v.fresh ++ seat.fresh; merged = v.merged ++ seat.merged; hauls = v.hauls ++ seat.hauls }
