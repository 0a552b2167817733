-- Words and bytes, TRBs and words: each gives the other back.
use Rattle.std.proofs.Common.{◌≡◌, ℕ, ◌+◌, ◌*◌, ◌/◌, ◌%◌, ◌^◌, ◌<◌, ◌≤◌, Bool, true, false, None, ◌==◌, refl, ap, ◌∙◌, arith, inl, inr}
use Rattle.std.proofs.lemmas.Bool.{cases_lt}
use Rattle.std.proofs.lemmas.Bool.Decides.{nat_tests}
use Rattle.xhci_trb.specs.declared.Trb.{Trb}
use Rattle.xhci_trb.specs.declared.Trb.TheVariants.{Normal, Link, StopEndpoint, SetDequeue, TransferEvent, CommandEvent}
use Rattle.xhci_trb.specs.declared.words.Words.{Words}
use Rattle.xhci_trb.specs.Words.{FitsWords}
use Rattle.xhci_trb.specs.Text.{bit, Fits, HasText, control_of, words_of, type_in, reserved_in_normal, reserved_in_link, reserved_in_stop}
use Rattle.xhci_trb.specs.Text.{reserved_beside_endpoint, reserved_in_set_dequeue, reserved_in_command_event, fault_in, Holds}
use Rattle.xhci_trb.proofs.Bytes.{same_words}
use Rattle.xhci_trb.specs.Reader.{bit_in, cycle_in, endpoint_in, slot_in, trb_in}

-- a bit is below 2
pub bit-lt : (b : Bool) → bit b < 2
bit-lt true = omega arith
bit-lt false = omega arith

-- the lowest bit, tested and made a bit again
bit-parity : (n : ℕ) → bit (n % 2 == 1) ≡ n % 2
bit-parity n = elim (cases_lt (n % 2) 1) [
  | inl low ↦ let e : n % 2 ≡ 0 = omega arith in rw e refl
  | inr high ↦ let e : n % 2 ≡ 1 = omega arith in rw e refl
]

-- each word of a TRB whose fields fit
pub words_of-fits : (trb : Trb) (cycle : Bool) → Fits trb → FitsWords (words_of trb cycle)
words_of-fits (Normal p l t f) c h = let b = bit-lt c in record { parameter = omega arith; status = omega arith; control = omega arith }
words_of-fits (Link p t h i) c f = let b = bit-lt c in let b1 = bit-lt t in let b2 = bit-lt h in let b3 =
    bit-lt i in record { parameter = omega arith; status = omega arith; control = omega arith }
words_of-fits (StopEndpoint e s) c h = let b = bit-lt c in record { parameter = omega arith; status = omega arith; control = omega arith }
words_of-fits (SetDequeue p d m e s) c h = let b = bit-lt c in let b1 =
    bit-lt d in record { parameter = omega arith; status = omega arith; control = omega arith }
words_of-fits (TransferEvent p r k e s) c h = let b = bit-lt c in record { parameter = omega arith; status = omega arith; control = omega arith }
words_of-fits (CommandEvent p k s) c h = let b = bit-lt c in record { parameter = omega arith; status = omega arith; control = omega arith }

-- a text of each type has no fault
no_fault_1 : (w : Words) → type_in w ≡ 1 → w.status % 2 ^ 17 ≤ 65536 → reserved_in_normal w ≡ 0 → fault_in w ≡ None
no_fault_1 w t l r = grind (arith, nat_tests)

no_fault_6 : (w : Words) → type_in w ≡ 6 → reserved_in_link w ≡ 0 → fault_in w ≡ None
no_fault_6 w t r = grind (arith, nat_tests)

no_fault_15 : (w : Words) → type_in w ≡ 15 → reserved_in_stop w ≡ 0 → fault_in w ≡ None
no_fault_15 w t r = grind (arith, nat_tests)

no_fault_16 : (w : Words) → type_in w ≡ 16 → w.parameter / 2 % 2 ^ 3 ≡ 1 → reserved_in_set_dequeue w ≡ 0 → fault_in w ≡ None
no_fault_16 w t l r = grind (arith, nat_tests)

no_fault_32 : (w : Words) → type_in w ≡ 32 → reserved_beside_endpoint w ≡ 0 → fault_in w ≡ None
no_fault_32 w t r = grind (arith, nat_tests)

no_fault_33 : (w : Words) → type_in w ≡ 33 → reserved_in_command_event w ≡ 0 → fault_in w ≡ None
no_fault_33 w t r = grind (arith, nat_tests)

pub fault_in-words_of : (trb : Trb) (cycle : Bool) → HasText trb → fault_in (words_of trb cycle) ≡ None
fault_in-words_of (Normal p l t f) c h = let b = bit-lt c in no_fault_1 (words_of (Normal p l t f) c) (omega arith) (omega arith) (omega arith)
fault_in-words_of (Link p t h i) c f = let b = bit-lt c in let b1 = bit-lt t in let b2 = bit-lt h in let b3 = bit-lt i in
    no_fault_6 (words_of (Link p t h i) c) (omega arith) (omega arith)
fault_in-words_of (StopEndpoint e s) c h = let b = bit-lt c in no_fault_15 (words_of (StopEndpoint e s) c) (omega arith) (omega arith)
fault_in-words_of (SetDequeue p d m e s) c h = let b = bit-lt c in let b1 = bit-lt d in
    no_fault_16 (words_of (SetDequeue p d m e s) c) (omega arith) (omega arith) (omega arith)
fault_in-words_of (TransferEvent p r k e s) c h = let b = bit-lt c in no_fault_32 (words_of (TransferEvent p r k e s) c) (omega arith) (omega arith)
fault_in-words_of (CommandEvent p k s) c h = let b = bit-lt c in no_fault_33 (words_of (CommandEvent p k s) c) (omega arith) (omega arith)

-- a bit that is read and tested
pub bit-test : (n : ℕ) (b : Bool) → n ≡ bit b → (n == 1) ≡ b
bit-test n true e = rw e refl
bit-test n false e = rw e refl

-- the Cycle bit of a TRB's words
pub cycle_in-words_of : (trb : Trb) (cycle : Bool) → Fits trb → cycle_in (words_of trb cycle) ≡ cycle
cycle_in-words_of (Normal p l t f) c h = let b = bit-lt c in bit-test _ c (omega arith)
cycle_in-words_of (Link p t h i) c f = let b = bit-lt c in bit-test _ c (omega arith)
cycle_in-words_of (StopEndpoint e s) c h = let b = bit-lt c in bit-test _ c (omega arith)
cycle_in-words_of (SetDequeue p d m e s) c h = let b = bit-lt c in bit-test _ c (omega arith)
cycle_in-words_of (TransferEvent p r k e s) c h = let b = bit-lt c in bit-test _ c (omega arith)
cycle_in-words_of (CommandEvent p k s) c h = let b = bit-lt c in bit-test _ c (omega arith)

-- the reader at each type
trb_in-1 : (w : Words) → type_in w ≡ 1
    → trb_in w ≡ Normal w.parameter (w.status % 2 ^ 17) (w.status / 2 ^ 17 % 2 ^ 5) (record { 0 = w.control / 2 % 2 ^ 6 + 2 ^ 6 * (w.control / 2 ^ 9 % 2) })
unfolding trb_in
trb_in-1 w t = rw t refl

trb_in-6 : (w : Words) → type_in w ≡ 6 → trb_in w ≡ Link w.parameter (bit_in w.control 1) (bit_in w.control 4) (bit_in w.control 5)
unfolding trb_in
trb_in-6 w t = rw t refl

trb_in-15 : (w : Words) → type_in w ≡ 15 → trb_in w ≡ StopEndpoint (endpoint_in w) (slot_in w)
unfolding trb_in
trb_in-15 w t = rw t refl

trb_in-16 : (w : Words) → type_in w ≡ 16
    → trb_in w ≡ SetDequeue (16 * (w.parameter / 16)) (w.parameter % 2 == 1) (w.status / 2 ^ 16) (endpoint_in w) (slot_in w)
unfolding trb_in
trb_in-16 w t = rw t refl

trb_in-32 : (w : Words) → type_in w ≡ 32 → trb_in w ≡ TransferEvent w.parameter (w.status % 2 ^ 24) (w.status / 2 ^ 24) (endpoint_in w) (slot_in w)
unfolding trb_in
trb_in-32 w t = rw t refl

trb_in-33 : (w : Words) → type_in w ≡ 33 → trb_in w ≡ CommandEvent w.parameter (w.status / 2 ^ 24) (slot_in w)
unfolding trb_in
trb_in-33 w t = rw t refl

-- the reader gives each TRB back
pub trb_in-words_of : (trb : Trb) (cycle : Bool) → Fits trb → trb_in (words_of trb cycle) ≡ trb
trb_in-words_of (Normal p l t f) c h =
    let b = bit-lt c in
    let w = words_of (Normal p l t f) c in
    let read = trb_in-1 w (omega arith) in
    let length : w.status % 2 ^ 17 ≡ l = omega arith in
    let size : w.status / 2 ^ 17 % 2 ^ 5 ≡ t = omega arith in
    let flags : w.control / 2 % 2 ^ 6 + 2 ^ 6 * (w.control / 2 ^ 9 % 2) ≡ f.0 = omega arith in
    read ∙ rw (length, size, flags) refl
trb_in-words_of (Link p t h i) c f =
    let b = bit-lt c in let b1 = bit-lt t in let b2 = bit-lt h in let b3 = bit-lt i in
    let w = words_of (Link p t h i) c in
    let read = trb_in-6 w (omega arith) in
    let toggle : bit_in w.control 1 ≡ t = bit-test _ t (omega arith) in
    let chain : bit_in w.control 4 ≡ h = bit-test _ h (omega arith) in
    let ioc : bit_in w.control 5 ≡ i = bit-test _ i (omega arith) in
    read ∙ rw (toggle, chain, ioc) refl
trb_in-words_of (StopEndpoint e s) c h =
    let b = bit-lt c in
    let w = words_of (StopEndpoint e s) c in
    let read = trb_in-15 w (omega arith) in
    let endpoint : endpoint_in w ≡ e = omega arith in
    let slot : slot_in w ≡ s = omega arith in
    read ∙ rw (endpoint, slot) refl
trb_in-words_of (SetDequeue p d m e s) c h =
    let b = bit-lt c in let b1 = bit-lt d in
    let w = words_of (SetDequeue p d m e s) c in
    let read = trb_in-16 w (omega arith) in
    let pointer : 16 * (w.parameter / 16) ≡ p = omega arith in
    let cycle : (w.parameter % 2 == 1) ≡ d = bit-test _ d (omega arith) in
    let stream : w.status / 2 ^ 16 ≡ m = omega arith in
    let endpoint : endpoint_in w ≡ e = omega arith in
    let slot : slot_in w ≡ s = omega arith in
    read ∙ rw (pointer, cycle, stream, endpoint, slot) refl
trb_in-words_of (TransferEvent p r k e s) c h =
    let b = bit-lt c in
    let w = words_of (TransferEvent p r k e s) c in
    let read = trb_in-32 w (omega arith) in
    let residual : w.status % 2 ^ 24 ≡ r = omega arith in
    let code : w.status / 2 ^ 24 ≡ k = omega arith in
    let endpoint : endpoint_in w ≡ e = omega arith in
    let slot : slot_in w ≡ s = omega arith in
    read ∙ rw (residual, code, endpoint, slot) refl
trb_in-words_of (CommandEvent p k s) c h =
    let b = bit-lt c in
    let w = words_of (CommandEvent p k s) c in
    let read = trb_in-33 w (omega arith) in
    let code : w.status / 2 ^ 24 ≡ k = omega arith in
    let slot : slot_in w ≡ s = omega arith in
    read ∙ rw (code, slot) refl

-- words that hold a TRB are its words
pub words_of-held : (w : Words) (trb : Trb) → Holds w trb (w.control % 2) → words_of trb (cycle_in w) ≡ w
words_of-held w trb h =
    let parity = bit-parity w.control in
    same_words _ _ _ w h.parameter h.status (ap (λ (b : ℕ). control_of trb + b) parity ∙ h.control)
