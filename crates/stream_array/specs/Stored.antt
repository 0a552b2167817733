-- The bytes of a stream array, and the entries that they hold (xHCI 1.2, 6.2.4.1).
use Rattle.std.specs.Prelude.{◌≡◌, ℕ, ◌*◌, ◌/◌, ◌%◌, ◌<◌, ◌==◌, List, [], map, take, length, Option, Some, None, slice_index_or, if◌then◌else◌}
use Rattle.std.specs.Int.{w64, from_le_bytes}
use Rattle.stream_array.specs.declared.Dequeue.{Dequeue}
use Rattle.stream_array.specs.Contexts.{Contexts, IsArray, entry_of, context_text}

-- the word in bytes 0 to 7 of a context, low byte first
abbrev pub word_in : List ℕ → ℕ
word_in bytes = from_le_bytes w64 (take 8 bytes)

-- the fields of that word: DCS bit 0, the dequeue pointer in 63:4
abbrev pub dequeue_of_word : ℕ → Dequeue
dequeue_of_word word = record { pointer = word / 16 * 16; cycle = word % 2 == 1 }

-- What a context says: DCS bit 0, SCT bits 3:1, the dequeue pointer in 63:4. There is a ring where SCT is 1.
-- Worked: 33h 20h 01h 43h and twelve zeros are 43012030h with cycle state 1.
abbrev pub entry_in : List ℕ → Option Dequeue
entry_in bytes =
    let word = word_in bytes in
    if word / 2 % 8 == 1 then Some (dequeue_of_word word) else None

-- the entries of an array's contexts
abbrev pub shown : List (List ℕ) → Contexts
shown contexts = map entry_in contexts

-- the contexts hold an array's entries, each as its 16 bytes
pub record IsStored (size : ℕ) (contexts : List (List ℕ)) (entries : Contexts) : Type 0 where
  pub array : IsArray size entries
  pub count : length contexts ≡ size
  pub text : (stream : ℕ) → stream < size → slice_index_or contexts stream [] ≡ context_text (entry_of entries stream)
