-- The item that bytes are read as.
use Rattle.std.proofs.Common.{◌≡◌, ◌≢◌, ℕ, ◌<◌, Bool, false, List, length, slice_index, None, Some, Option, refl, sym, ap, subst, ◌∙◌}
use Rattle.std.proofs.lemmas.Option.{none-some}
use Rattle.xhci_trb.specs.declared.Trb.{Trb}
use Rattle.xhci_trb.specs.declared.TrbFault.{TrbFault}
use Rattle.xhci_trb.specs.Words.{words_in}
use Rattle.xhci_trb.specs.Text.{HasText, fault_in, text, words_of, has_chain}
use Rattle.xhci_trb.specs.Reader.{cycle_in, trb_in}
use Rattle.xhci_trb.proofs.Bytes.{words_in-bytes_of}
use Rattle.xhci_trb.proofs.Fields.{words_of-fits, fault_in-words_of, trb_in-words_of, cycle_in-words_of}
use Rattle.ring_ends.specs.Held.{IsText, chain_in}
use Rattle.ring_ends.specs.EndLaws.{chain_in-byte}
use Rattle.ring_ends.proofs.ChainByte.{chain-byte}
use Rattle.cycle_ring.specs.Items.{Item, HasBytes, IsForeign, foreign, item_chain, item_form, item_read, item_text, item_with, known, stamped}
use Rattle.cycle_ring.specs.Items.{AnyCycleBitIsRead, TextsAreTheirTrbs}
use Rattle.cycle_ring.proofs.Stamped.{length-stamped, below-stamped, cycle_in-stamped, stamped-stamped, chain_in-stamped, fault_in-stamped, trb_in-stamped}
use Rattle.cycle_ring.proofs.Stamped.{stamped-text}

-- what a text's words are
words_in-text : (trb : Trb) (cycle : Bool) → HasText trb → words_in (text trb cycle) ≡ words_of trb cycle
words_in-text trb cycle has = words_in-bytes_of (words_of trb cycle) (words_of-fits trb cycle has.0)

-- bytes without a fault, and with one
pub item_read-known : (bytes : List ℕ) → fault_in (words_in bytes) ≡ None → item_read bytes ≡ known (trb_in (words_in bytes))
unfolding item_read
item_read-known bytes clean = ap (λ (fault : Option TrbFault). item_with fault bytes) clean

pub item_read-foreign : (bytes : List ℕ) (fault : TrbFault) → fault_in (words_in bytes) ≡ Some fault → item_read bytes ≡ foreign (stamped bytes false)
unfolding item_read
item_read-foreign bytes fault faulty = ap (λ (fault : Option TrbFault). item_with fault bytes) faulty

-- an item by what its bytes decode to
pub item-decoded : (bytes : List ℕ) (item : Item) (trb : Trb) (cycle : Bool) → item_read bytes ≡ item → fault_in (words_in bytes) ≡ None
    → ◌≡◌ {A = Trb × Bool} (trb, cycle) (trb_in (words_in bytes), cycle_in (words_in bytes)) → item ≡ known trb
item-decoded bytes item trb cycle reads clean found =
    sym reads ∙ item_read-known bytes clean ∙ ap (λ (read : Trb × Bool). known read.0) (sym found)

pub item-undecoded : (bytes : List ℕ) (item : Item) (fault : TrbFault) → item_read bytes ≡ item → fault_in (words_in bytes) ≡ Some fault
    → item ≡ foreign (stamped bytes false)
item-undecoded bytes item fault reads faulty = sym reads ∙ item_read-foreign bytes fault faulty

-- a TRB's text is read as it
pub IsText-trb : (trb : Trb) (bytes : List ℕ) (cycle : Bool) → HasText trb → bytes ≡ text trb cycle → IsText item_form bytes (known trb) cycle
IsText-trb trb bytes cycle has is =
    let words : words_in bytes ≡ words_of trb cycle = ap words_in is ∙ words_in-text trb cycle has in
    let clean : fault_in (words_in bytes) ≡ None = ap fault_in words ∙ fault_in-words_of trb cycle has in
    record {
      bytes_are = is;
      reads = item_read-known bytes clean ∙ ap known (ap trb_in words ∙ trb_in-words_of trb cycle has.0);
      bit = ap cycle_in words ∙ cycle_in-words_of trb cycle has.0;
    }

pub item_read-text : TextsAreTheirTrbs
item_read-text trb cycle has = (IsText-trb trb (text trb cycle) cycle has refl).reads

-- bytes with another Cycle bit
pub item_read-stamped : AnyCycleBitIsRead
unfolding item_read
item_read-stamped bytes cycle size =
    ap (λ (fault : Option TrbFault). item_with fault (stamped bytes cycle)) (fault_in-stamped bytes cycle size) ∙ same (fault_in (words_in bytes))
  where
    same : (fault : Option TrbFault) → item_with fault (stamped bytes cycle) ≡ item_with fault bytes
    same None = ap known (trb_in-stamped bytes cycle size)
    same (Some fault) = ap foreign (stamped-stamped bytes cycle false size)

-- an item that 16 bytes are, put with a Cycle bit
pub record IsRaw (bytes : List ℕ) (cycle : Bool) (item : Item) : Type 0 where
  pub has_bytes : HasBytes item
  pub text : IsText item_form (stamped bytes cycle) item cycle
  pub chain : item_chain item ≡ chain_in (words_in bytes)

-- bytes that are a TRB's text
pub IsRaw-text : (trb : Trb) (bytes : List ℕ) (was cycle : Bool) → HasText trb → bytes ≡ text trb was → IsRaw bytes cycle (item_read bytes)
IsRaw-text trb bytes was cycle has is =
    let reads : item_read bytes ≡ known trb = (IsText-trb trb bytes was has is).reads in
    let now : stamped bytes cycle ≡ text trb cycle = ap (λ (b : List ℕ). stamped b cycle) is ∙ stamped-text trb was cycle in
    subst (IsRaw bytes cycle) (sym reads) (record {
      has_bytes = has;
      text = IsText-trb trb (stamped bytes cycle) cycle has now;
      chain = sym (chain_in-byte bytes ∙ chain-byte trb was bytes is);
    })

-- bytes that are none
pub IsRaw-foreign : (bytes : List ℕ) (fault : TrbFault) (cycle : Bool) → length bytes ≡ 16 → ((k : ℕ) → slice_index bytes k < 256)
    → fault_in (words_in bytes) ≡ Some fault → IsRaw bytes cycle (item_read bytes)
IsRaw-foreign bytes fault cycle size below faulty =
    let held = fault_in-stamped bytes false size ∙ faulty in
    let now = fault_in-stamped bytes cycle size ∙ faulty in
    subst (IsRaw bytes cycle) (sym (item_read-foreign bytes fault faulty)) (record {
      has_bytes = record {
        size = length-stamped bytes false ∙ size;
        below = below-stamped bytes false size below;
        cycle = cycle_in-stamped bytes false size;
        fault = λ clean. none-some fault (sym clean ∙ held);
      };
      text = record {
        bytes_are = sym (stamped-stamped bytes false cycle size);
        reads = item_read-foreign (stamped bytes cycle) fault now ∙ ap foreign (stamped-stamped bytes cycle false size);
        bit = cycle_in-stamped bytes cycle size;
      };
      chain = chain_in-stamped bytes false size;
    })

-- the Chain bit of an item's bytes
pub chain_in-item : (item : Item) (cycle : Bool) → HasBytes item → chain_in (words_in (item_text item cycle)) ≡ item_chain item
chain_in-item (known trb) cycle has = chain_in-byte (text trb cycle) ∙ chain-byte trb cycle (text trb cycle) refl
chain_in-item (foreign bytes) cycle is = chain_in-stamped bytes cycle is.size
