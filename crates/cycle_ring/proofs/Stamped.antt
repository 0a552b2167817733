-- 16 bytes and their Cycle bit: what it leaves as it is, and that it doesn't decide which item they are.
use Rattle.std.proofs.Common.{◌≡◌, ◌≢◌, ℕ, ◌+◌, ◌*◌, ◌/◌, ◌%◌, ◌^◌, ◌<◌, Bool, true, false, ◌==◌, List, length, length-set, slice_index, None, Some, Option}
use Rattle.std.proofs.Common.{get_or, get_or-set_same, get_or-set_other, get_or-drop, set, refl, sym, ap, ap₂, ◌∙◌, arith, inl, inr}
use Rattle.std.proofs.lemmas.Bool.{cases_eq}
use Rattle.std.proofs.lemmas.List.{set-set}
use Rattle.std.specs.Int.{byte_at}
use Rattle.xhci_trb.specs.declared.Trb.{Trb}
use Rattle.xhci_trb.specs.declared.Trb.TheVariants.{Normal, Link, StopEndpoint, SetDequeue, TransferEvent, CommandEvent}
use Rattle.xhci_trb.specs.declared.TrbFault.{TrbFault}
use Rattle.xhci_trb.specs.declared.words.Words.{Words}
use Rattle.xhci_trb.specs.Words.{bytes_of, words_in}
use Rattle.xhci_trb.specs.Text.{HasText, bit, control_of, fault_in, text, words_of}
use Rattle.xhci_trb.specs.Reader.{cycle_in, trb_in}
use Rattle.xhci_trb.proofs.Bytes.{words_in-bytes_of}
use Rattle.xhci_trb.proofs.Fields.{bit-lt, words_of-fits, fault_in-words_of, trb_in-words_of}
use Rattle.ring_ends.specs.Held.{chain_in}
use Rattle.ring_ends.specs.EndLaws.{chain_in-byte, cycle_in-byte}
use Rattle.cycle_ring.specs.Items.{stamped}

-- as many bytes, of which byte 12 alone has the bit
pub length-stamped : (bytes : List ℕ) (cycle : Bool) → length (stamped bytes cycle) ≡ length bytes
unfolding stamped
length-stamped bytes cycle = length-set bytes 12 _

byte_12 : (bytes : List ℕ) (cycle : Bool) → length bytes ≡ 16 → slice_index (stamped bytes cycle) 12 ≡ slice_index bytes 12 / 2 * 2 + bit cycle
unfolding stamped
byte_12 bytes cycle size = get_or-set_same bytes 12 _ 0 (omega arith)

byte_beside : (bytes : List ℕ) (cycle : Bool) (k : ℕ) → k ≢ 12 → slice_index (stamped bytes cycle) k ≡ slice_index bytes k
unfolding stamped
byte_beside bytes cycle k apart = get_or-set_other bytes 12 k _ 0 apart

-- bytes with a bit have it, and have another one in its place
as_bit : (n : ℕ) (cycle : Bool) → ((n / 2 * 2 + bit cycle) % 2 == 1) ≡ cycle
as_bit n true = let one : (n / 2 * 2 + bit true) % 2 ≡ 1 = omega arith in ap (λ (x : ℕ). x == 1) one
as_bit n false = let none : (n / 2 * 2 + bit false) % 2 ≡ 0 = omega arith in ap (λ (x : ℕ). x == 1) none

pub cycle_in-stamped : (bytes : List ℕ) (cycle : Bool) → length bytes ≡ 16 → cycle_in (words_in (stamped bytes cycle)) ≡ cycle
cycle_in-stamped bytes cycle size =
    cycle_in-byte (stamped bytes cycle) ∙ ap (λ (x : ℕ). x % 2 == 1) (byte_12 bytes cycle size) ∙ as_bit (slice_index bytes 12) cycle

pub stamped-stamped : (bytes : List ℕ) (was cycle : Bool) → length bytes ≡ 16 → stamped (stamped bytes was) cycle ≡ stamped bytes cycle
unfolding stamped
stamped-stamped bytes was cycle size =
    let less = bit-lt was in
    let low : (slice_index bytes 12 / 2 * 2 + bit was) / 2 * 2 + bit cycle ≡ slice_index bytes 12 / 2 * 2 + bit cycle = omega arith in
    set-set bytes 12 _ _ ∙ ap (λ (x : ℕ). set bytes 12 x) (ap (λ (x : ℕ). x / 2 * 2 + bit cycle) (byte_12 bytes was size) ∙ low)

pub below-stamped : (bytes : List ℕ) (cycle : Bool) → length bytes ≡ 16 → ((k : ℕ) → slice_index bytes k < 256)
    → (k : ℕ) → slice_index (stamped bytes cycle) k < 256
below-stamped bytes cycle size below k = elim (cases_eq k 12) [
  | inl there ↦ let less = bit-lt cycle in rw (there, byte_12 bytes cycle size) (omega (arith, below 12))
  | inr beside ↦ rw (byte_beside bytes cycle k beside) (below k)
]

-- the Chain bit is another bit
pub chain_in-stamped : (bytes : List ℕ) (cycle : Bool) → length bytes ≡ 16 → chain_in (words_in (stamped bytes cycle)) ≡ chain_in (words_in bytes)
chain_in-stamped bytes cycle size =
    let less = bit-lt cycle in
    let same : (slice_index bytes 12 / 2 * 2 + bit cycle) / 16 % 2 ≡ slice_index bytes 12 / 16 % 2 = omega arith in
    chain_in-byte (stamped bytes cycle)
    ∙ ap (λ (x : ℕ). x / 16 % 2 == 1) (byte_12 bytes cycle size)
    ∙ ap (λ (x : ℕ). x == 1) same
    ∙ sym (chain_in-byte bytes)

-- words that differ in the Cycle bit at most: they have the same fault and the same TRB
pub record SameButCycle (w v : Words) : Type 0 where
  pub parameter : w.parameter ≡ v.parameter
  pub status : w.status ≡ v.status
  pub control : w.control / 2 ≡ v.control / 2

fault_in-same : (w v : Words) → SameButCycle w v → fault_in w ≡ fault_in v
fault_in-same w v same =
    let one = same.control in
    let two : w.control / 2 ^ 2 ≡ v.control / 2 ^ 2 = omega arith in
    let six : w.control / 2 ^ 6 ≡ v.control / 2 ^ 6 = omega arith in
    let seven : w.control / 2 ^ 7 ≡ v.control / 2 ^ 7 = omega arith in
    let ten : w.control / 2 ^ 10 ≡ v.control / 2 ^ 10 = omega arith in
    let sixteen : w.control / 2 ^ 16 ≡ v.control / 2 ^ 16 = omega arith in
    let reserved : w.control / 2 ^ 21 ≡ v.control / 2 ^ 21 = omega arith in
    rw (same.parameter, same.status, one, two, six, seven, ten, sixteen, reserved) refl

trb_in-same : (w v : Words) → SameButCycle w v → trb_in w ≡ trb_in v
unfolding trb_in
trb_in-same w v same =
    let one = same.control in
    let four : w.control / 2 ^ 4 ≡ v.control / 2 ^ 4 = omega arith in
    let five : w.control / 2 ^ 5 ≡ v.control / 2 ^ 5 = omega arith in
    let nine : w.control / 2 ^ 9 ≡ v.control / 2 ^ 9 = omega arith in
    let ten : w.control / 2 ^ 10 ≡ v.control / 2 ^ 10 = omega arith in
    let sixteen : w.control / 2 ^ 16 ≡ v.control / 2 ^ 16 = omega arith in
    let slot : w.control / 2 ^ 24 ≡ v.control / 2 ^ 24 = omega arith in
    rw (same.parameter, same.status, one, four, five, nine, ten, sixteen, slot) refl

words_in-stamped : (bytes : List ℕ) (cycle : Bool) → length bytes ≡ 16 → SameButCycle (words_in (stamped bytes cycle)) (words_in bytes)
unfolding words_in
words_in-stamped bytes cycle size =
    let at = byte_beside bytes cycle in
    let less = bit-lt cycle in
    let low = byte_12 bytes cycle size in
    let now = stamped bytes cycle in
    record {
      parameter = omega (
        arith,
        at 0 (λ e. absurd (omega arith)),
        at 1 (λ e. absurd (omega arith)),
        at 2 (λ e. absurd (omega arith)),
        at 3 (λ e. absurd (omega arith)),
        at 4 (λ e. absurd (omega arith)),
        at 5 (λ e. absurd (omega arith)),
        at 6 (λ e. absurd (omega arith)),
        at 7 (λ e. absurd (omega arith)),
      );
      status = omega (
        arith,
        at 8 (λ e. absurd (omega arith)),
        at 9 (λ e. absurd (omega arith)),
        at 10 (λ e. absurd (omega arith)),
        at 11 (λ e. absurd (omega arith)),
        get_or-drop 8 now 0 0,
        get_or-drop 8 now 1 0,
        get_or-drop 8 now 2 0,
        get_or-drop 8 now 3 0,
        get_or-drop 8 bytes 0 0,
        get_or-drop 8 bytes 1 0,
        get_or-drop 8 bytes 2 0,
        get_or-drop 8 bytes 3 0,
      );
      control = omega (
        arith,
        at 13 (λ e. absurd (omega arith)),
        at 14 (λ e. absurd (omega arith)),
        at 15 (λ e. absurd (omega arith)),
        get_or-drop 12 now 0 0,
        get_or-drop 12 now 1 0,
        get_or-drop 12 now 2 0,
        get_or-drop 12 now 3 0,
        get_or-drop 12 bytes 0 0,
        get_or-drop 12 bytes 1 0,
        get_or-drop 12 bytes 2 0,
        get_or-drop 12 bytes 3 0,
      );
    }

-- the Cycle bit doesn't decide whether bytes are a TRB's text, nor which TRB's
pub fault_in-stamped : (bytes : List ℕ) (cycle : Bool) → length bytes ≡ 16 → fault_in (words_in (stamped bytes cycle)) ≡ fault_in (words_in bytes)
fault_in-stamped bytes cycle size = fault_in-same _ _ (words_in-stamped bytes cycle size)

pub trb_in-stamped : (bytes : List ℕ) (cycle : Bool) → length bytes ≡ 16 → trb_in (words_in (stamped bytes cycle)) ≡ trb_in (words_in bytes)
trb_in-stamped bytes cycle size = trb_in-same _ _ (words_in-stamped bytes cycle size)

-- a TRB's text with another Cycle bit
even : (trb : Trb) → control_of trb % 2 ≡ 0
even (Normal pointer length td_size flags) = omega arith
even (Link pointer toggle chain ioc) = omega arith
even (StopEndpoint endpoint slot) = omega arith
even (SetDequeue pointer cycle stream endpoint slot) = omega arith
even (TransferEvent pointer residual code endpoint slot) = omega arith
even (CommandEvent pointer code slot) = omega arith

pub stamped-text : (trb : Trb) (was cycle : Bool) → stamped (text trb was) cycle ≡ text trb cycle
unfolding stamped bytes_of
stamped-text trb was cycle =
    let whole = even trb in
    let less = bit-lt was in
    let less_now = bit-lt cycle in
    let old = control_of trb + bit was in
    let new = control_of trb + bit cycle in
    let low : old % 256 / 2 * 2 + bit cycle ≡ new % 256 = omega arith in
    let second : old / 256 % 256 ≡ new / 256 % 256 = omega arith in
    let third : old / 256 ^ 2 % 256 ≡ new / 256 ^ 2 % 256 = omega arith in
    let fourth : old / 256 ^ 3 % 256 ≡ new / 256 ^ 3 % 256 = omega arith in
    rw (low, second, third, fourth) refl
