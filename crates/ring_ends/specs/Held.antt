-- What the places of a segment hold: items, as TRBs are, with the Cycle bits of their turns, and behind them what is stale (xHCI 1.2, 4.9.2).
use Rattle.std.specs.Prelude.{◌≡◌, ℕ, zero, suc, ◌+◌, ◌%◌, ◌<◌, ◌≤◌, Bool, not, List, [], ◌∷◌, length, Some, slice_get, slice_index_or}
use Rattle.xhci_trb.specs.declared.Trb.{Trb}
use Rattle.xhci_trb.specs.Words.{words_in}
use Rattle.xhci_trb.specs.Text.{text}
use Rattle.xhci_trb.specs.Reader.{trb_in, bit_in, cycle_in}
use Rattle.xhci_trb.specs.declared.words.Words.{Words}
use Rattle.ring_ends.specs.Counted.{turn_bit}

-- The form of an item: its bytes with a Cycle bit, and the item that bytes are read as.
pub record Form (A : Type 0) : Type 0 where
  pub look : A → Bool → List ℕ
  pub read : List ℕ → A

-- that of a TRB: its text
abbrev pub trb_form : Form Trb
trb_form = record { look = text; read = λ bytes. trb_in (words_in bytes) }

-- the Chain bit, control bit 4: that of a TRB that has one, and what stands there in other bytes
abbrev pub chain_in : Words → Bool
chain_in w = bit_in w.control 4

-- the bytes at the counted place j, on turns of m places
abbrev pub bytes_at : ℕ → List (List ℕ) → ℕ → List ℕ
bytes_at m places j = slice_index_or places (j % m) []

-- the items that so many places hold from the counted place j on
unfoldable pub items_from : {A : Type 0} → Form A → ℕ → List (List ℕ) → ℕ → ℕ → List A
items_from form m places j zero = []
items_from form m places j (suc count) = form.read (bytes_at m places j) ∷ items_from form m places (j + 1) count

-- these bytes are the item's with this Cycle bit, and are read as it
pub record IsText {A : Type 0} (form : Form A) (bytes : List ℕ) (item : A) (cycle : Bool) : Type 0 where
  pub bytes_are : bytes ≡ form.look item cycle
  pub reads : form.read bytes ≡ item
  pub bit : cycle_in (words_in bytes) ≡ cycle

-- Items stand from the counted place `at` on, each at its place with the Cycle bit of its turn. Every other place of the
-- turn has the other bit, left from the turn before or 0 from the start, so that the consumer stops there.
pub record Holds {A : Type 0} (form : Form A) (m : ℕ) (places : List (List ℕ)) (at : ℕ) (put : List A) : Type 0 where
  pub item : (k : ℕ) (item : A) → slice_get put k ≡ Some item → IsText form (bytes_at m places (at + k)) item (turn_bit m (at + k))
  pub stale : (k : ℕ) → length put ≤ k → k < m → cycle_in (words_in (bytes_at m places (at + k))) ≡ not (turn_bit m (at + k))
