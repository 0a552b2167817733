-- The Chain bit by the one byte that has it: bit 4 of the control word, in the TRBs that have no such field 0.
use Rattle.std.proofs.Common.{◌≡◌, ℕ, ◌+◌, ◌*◌, ◌/◌, ◌%◌, ◌^◌, ◌<◌, ◌≤◌, Bool, true, false, ◌==◌, List, slice_index, refl, ap, ◌∙◌, arith}
use Rattle.xhci_trb.specs.declared.Trb.{Trb}
use Rattle.xhci_trb.specs.declared.Trb.TheVariants.{Normal, Link, StopEndpoint, SetDequeue, TransferEvent, CommandEvent}
use Rattle.xhci_trb.specs.declared.words.Words.{Words}
use Rattle.xhci_trb.specs.Words.{bytes_of}
use Rattle.xhci_trb.specs.Text.{HasText, bit, control_of, has_chain, text, words_of}

control_byte : (w : Words) → slice_index (bytes_of w) 12 ≡ w.control % 256
unfolding bytes_of
control_byte w = refl

small : (b : Bool) → bit b ≤ 1
small true = omega arith
small false = omega arith

as_bit : (b : Bool) → (bit b == 1) ≡ b
as_bit true = refl
as_bit false = refl

chain_in : (trb : Trb) (cycle : Bool) → ((control_of trb + bit cycle) % 256 / 16 % 2 == 1) ≡ has_chain trb
chain_in (Normal pointer length td_size flags) cycle =
    let less = small cycle in
    let same : (control_of (Normal pointer length td_size flags) + bit cycle) % 256 / 16 % 2 ≡ flags.0 / 8 % 2 = omega arith in
    ap (λ (x : ℕ). x == 1) same
chain_in (Link pointer toggle chain ioc) cycle =
    let less = small cycle in
    let toggles = small toggle in
    let chains = small chain in
    let completes = small ioc in
    let same : (control_of (Link pointer toggle chain ioc) + bit cycle) % 256 / 16 % 2 ≡ bit chain = omega arith in
    ap (λ (x : ℕ). x == 1) same ∙ as_bit chain
chain_in (StopEndpoint endpoint slot) cycle =
    let less = small cycle in
    let none : (control_of (StopEndpoint endpoint slot) + bit cycle) % 256 / 16 % 2 ≡ 0 = omega arith in
    ap (λ (x : ℕ). x == 1) none
chain_in (SetDequeue pointer state stream endpoint slot) cycle =
    let less = small cycle in
    let none : (control_of (SetDequeue pointer state stream endpoint slot) + bit cycle) % 256 / 16 % 2 ≡ 0 = omega arith in
    ap (λ (x : ℕ). x == 1) none
chain_in (TransferEvent pointer residual code endpoint slot) cycle =
    let less = small cycle in
    let none : (control_of (TransferEvent pointer residual code endpoint slot) + bit cycle) % 256 / 16 % 2 ≡ 0 = omega arith in
    ap (λ (x : ℕ). x == 1) none
chain_in (CommandEvent pointer code slot) cycle =
    let less = small cycle in
    let none : (control_of (CommandEvent pointer code slot) + bit cycle) % 256 / 16 % 2 ≡ 0 = omega arith in
    ap (λ (x : ℕ). x == 1) none

pub chain-byte : (trb : Trb) (cycle : Bool) (bytes : List ℕ) → bytes ≡ text trb cycle → (slice_index bytes 12 / 16 % 2 == 1) ≡ has_chain trb
chain-byte trb cycle bytes is =
    ap (λ (b : List ℕ). slice_index b 12 / 16 % 2 == 1) is
    ∙ ap (λ (x : ℕ). x / 16 % 2 == 1) (control_byte (words_of trb cycle))
    ∙ chain_in trb cycle
