-- Words and TRBs of one controller as those of the other.
use Rattle.std.proofs.Common.{◌≡◌, ℕ, ◌*◌, ◌/◌, ◌%◌, ◌^◌, ◌≤◌, ◌==◌, Bool, false, List, refl, ap, ◌∙◌, arith}
use Rattle.std.proofs.lemmas.Bool.Decides.{nat_tests}
use Rattle.xhci_trb.specs.declared.Trb.{Trb}
use Rattle.xhci_trb.specs.declared.Trb.TheVariants.{Normal as NormalTrb, Link as LinkTrb, StopEndpoint, SetDequeue, TransferEvent, CommandEvent}
use Rattle.xhci_trb.specs.declared.words.Words.{Words as ProfileWords}
use Rattle.xhci_trb.specs.Words.{words_in as profile_words_in}
use Rattle.xhci_trb.specs.Text.{HasText, text, words_of}
use Rattle.xhci_trb.proofs.Bytes.{words_in-bytes_of}
use Rattle.xhci_trb.proofs.Fields.{bit-lt, bit-test, words_of-fits}
use Rattle.guest_memory.specs.declared.rings.words.Words.{Words}
use Rattle.guest_memory.specs.declared.rings.trb.PipeTrb.TheVariants.{Normal, Link, Foreign}
use Rattle.guest_memory.specs.rings.Words.{bit_in, type_in, words_in}
use Rattle.guest_memory.specs.rings.Trbs.{flags_in, normal_in, trb_in}
use Rattle.guest_profile.specs.Rings.{TrbsAreRead, pipe_trb}

-- the same three words
abbrev pub same : ProfileWords → Words
same w = record { parameter = w.parameter; status = w.status; control = w.control }

pub words_in-same : (bytes : List ℕ) → words_in bytes ≡ same (profile_words_in bytes)
unfolding words_in profile_words_in
words_in-same bytes = refl

-- a text's words
pub words_in-text : (trb : Trb) (cycle : Bool) → HasText trb → words_in (text trb cycle) ≡ same (words_of trb cycle)
words_in-text trb cycle has = words_in-same (text trb cycle) ∙ ap same (words_in-bytes_of (words_of trb cycle) (words_of-fits trb cycle has.0))

-- the reader at each type
trb_in-1 : (w : Words) → type_in w ≡ 1 → w.status % 2 ^ 17 ≤ 65536 → trb_in w ≡ Normal w.parameter (w.status % 2 ^ 17) (flags_in w)
unfolding trb_in normal_in
trb_in-1 w t l = rw t (grind (arith, nat_tests))

trb_in-6 : (w : Words) → type_in w ≡ 6 → trb_in w ≡ Link (16 * (w.parameter / 16)) (bit_in w.control 1) (flags_in w)
unfolding trb_in
trb_in-6 w t = rw t refl

trb_in-15 : (w : Words) → type_in w ≡ 15 → trb_in w ≡ Foreign
unfolding trb_in
trb_in-15 w t = rw t refl

trb_in-16 : (w : Words) → type_in w ≡ 16 → trb_in w ≡ Foreign
unfolding trb_in
trb_in-16 w t = rw t refl

trb_in-32 : (w : Words) → type_in w ≡ 32 → trb_in w ≡ Foreign
unfolding trb_in
trb_in-32 w t = rw t refl

trb_in-33 : (w : Words) → type_in w ≡ 33 → trb_in w ≡ Foreign
unfolding trb_in
trb_in-33 w t = rw t refl

same_test : (a b : ℕ) → a ≡ b → (a == 1) ≡ (b == 1)
same_test a b e = rw e refl

trb_in-words : (trb : Trb) (cycle : Bool) → HasText trb → trb_in (same (words_of trb cycle)) ≡ pipe_trb trb
trb_in-words (NormalTrb p l t f) c h =
    let b = bit-lt c in
    let w = same (words_of (NormalTrb p l t f) c) in
    let length : w.status % 2 ^ 17 ≡ l = omega arith in
    let read = trb_in-1 w (omega arith) (omega arith) in
    let chain : bit_in w.control 4 ≡ (f.0 / 8 % 2 == 1) = same_test _ _ (omega arith) in
    let ioc : bit_in w.control 5 ≡ (f.0 / 16 % 2 == 1) = same_test _ _ (omega arith) in
    let isp : bit_in w.control 2 ≡ (f.0 / 2 % 2 == 1) = same_test _ _ (omega arith) in
    let bei : bit_in w.control 9 ≡ (f.0 / 64 % 2 == 1) = same_test _ _ (omega arith) in
    let idt : bit_in w.control 6 ≡ (f.0 / 32 % 2 == 1) = same_test _ _ (omega arith) in
    read ∙ rw (length, chain, ioc, isp, bei, idt) refl
trb_in-words (LinkTrb p t h i) c f =
    let b = bit-lt c in let b1 = bit-lt t in let b2 = bit-lt h in let b3 = bit-lt i in
    let w = same (words_of (LinkTrb p t h i) c) in
    let read = trb_in-6 w (omega arith) in
    let pointer : 16 * (w.parameter / 16) ≡ p = omega arith in
    let toggle : bit_in w.control 1 ≡ t = bit-test _ t (omega arith) in
    let chain : bit_in w.control 4 ≡ h = bit-test _ h (omega arith) in
    let ioc : bit_in w.control 5 ≡ i = bit-test _ i (omega arith) in
    let isp : bit_in w.control 2 ≡ false = bit-test _ false (omega arith) in
    let bei : bit_in w.control 9 ≡ false = bit-test _ false (omega arith) in
    let idt : bit_in w.control 6 ≡ false = bit-test _ false (omega arith) in
    read ∙ rw (pointer, toggle, chain, ioc, isp, bei, idt) refl
trb_in-words (StopEndpoint e s) c h = let b = bit-lt c in trb_in-15 _ (omega arith)
trb_in-words (SetDequeue p d m e s) c h = let b = bit-lt c in let b1 = bit-lt d in trb_in-16 _ (omega arith)
trb_in-words (TransferEvent p r k e s) c h = let b = bit-lt c in trb_in-32 _ (omega arith)
trb_in-words (CommandEvent p k s) c h = let b = bit-lt c in trb_in-33 _ (omega arith)

pub trbs_are_read : TrbsAreRead
trbs_are_read trb cycle has = ap trb_in (words_in-text trb cycle has) ∙ trb_in-words trb cycle has
