-- The words that were read hold the TRB; a text's words have no fault, and read back as its TRB.
use Rattle.std.proofs.Common.{◌≡◌, ℕ, Bool, Some, None, List, refl, sym, ap, ◌∙◌, rules}
use Rattle.xhci_trb.specs.declared.Trb.{Trb}
use Rattle.xhci_trb.specs.declared.words.Words.{Words}
use Rattle.xhci_trb.specs.Words.{words_in, bytes_of}
use Rattle.xhci_trb.specs.Text.{HasText, text, words_of, fault_in}
use Rattle.xhci_trb.specs.Reader.{trb_in, cycle_in}
use Rattle.xhci_trb.specs.declared.TrbFault.{TrbFault}
use Rattle.xhci_trb.proofs.Bytes.{bytes_of-words_in, words_in-bytes_of}
use Rattle.xhci_trb.proofs.Fields.{words_of-fits, words_of-held, fault_in-words_of, trb_in-words_of, cycle_in-words_of}
use Rattle.xhci_trb.proofs.decode.Goals as goal

-- the words of a text
words_in-text : (trb : Trb) (cycle : Bool) → HasText trb → words_in (text trb cycle) ≡ words_of trb cycle
words_in-text trb cycle has = words_in-bytes_of (words_of trb cycle) (words_of-fits trb cycle has.0)

-- a fault is in no text
no_fault : (bytes : List ℕ) (w : Words) (fault : TrbFault) (trb : Trb) (cycle : Bool) → w ≡ words_in bytes → fault_in w ≡ Some fault
    → HasText trb → bytes ≡ text trb cycle → ⊥
no_fault bytes w fault trb cycle read faulty has is_text =
    let same : w ≡ words_of trb cycle = read ∙ ap words_in is_text ∙ words_in-text trb cycle has in
    let none : fault_in w ≡ None = ap fault_in same ∙ fault_in-words_of trb cycle has in
    cc

pub returns-in_err-trb-clause-every_text : goal.returns-in_err-trb-clause-every_text
returns-in_err-trb-clause-every_text c trb cycle has is_text =
    absurd (no_fault c.args.bytes.now c.read_words-words.result _ trb cycle c.read_words-words.ensures c.in_err-trb.ensures has is_text)

pub returns-clause-found : goal.returns-clause-found
returns-clause-found c =
    let w = c.read_words-words.result in
    let held = words_of-held w c.in_ok-trb.trb c.in_ok-trb.ensures.held in (
      c.in_ok-trb.ensures.has_text,
      sym (ap bytes_of (held ∙ c.read_words-words.ensures) ∙ bytes_of-words_in c.args.bytes.now (search rules) (search rules)),
    )

pub returns-clause-every_text : goal.returns-clause-every_text
returns-clause-every_text c trb cycle has is_text =
    let w = c.read_words-words.result in
    let held = words_of-held w c.in_ok-trb.trb c.in_ok-trb.ensures.held in
    let same : w ≡ words_of trb cycle = c.read_words-words.ensures ∙ ap words_in is_text ∙ words_in-text trb cycle has in
    let read : c.in_ok-trb.trb ≡ trb =
    sym (trb_in-words_of c.in_ok-trb.trb _ c.in_ok-trb.ensures.has_text.0) ∙ ap trb_in (held ∙ same) ∙ trb_in-words_of trb cycle has.0 in
    let bit : cycle_in w ≡ cycle = ap cycle_in same ∙ cycle_in-words_of trb cycle has.0 in
    rw (read, bit) refl

pub returns-clause-reader : goal.returns-clause-reader
returns-clause-reader c =
    let w = c.read_words-words.result in
    let held = words_of-held w c.in_ok-trb.trb c.in_ok-trb.ensures.held in
    let read : c.in_ok-trb.trb ≡ trb_in w =
    sym (trb_in-words_of c.in_ok-trb.trb _ c.in_ok-trb.ensures.has_text.0) ∙ ap trb_in held in
    rw (read, ← c.read_words-words.ensures) refl
