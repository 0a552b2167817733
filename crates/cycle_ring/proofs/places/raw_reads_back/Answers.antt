-- Bytes that decode are that TRB's text, and the others are held as they are.
use Rattle.std.proofs.Common.{◌≡◌, ℕ, ◌<◌, Bool, List, length, slice_index, Some, Result, Ok, Err, IfOk, IfErr}
use Rattle.xhci_trb.specs.declared.Trb.{Trb}
use Rattle.xhci_trb.specs.declared.TrbFault.{TrbFault}
use Rattle.xhci_trb.specs.Words.{words_in}
use Rattle.xhci_trb.specs.Text.{HasText, fault_in, text}
use Rattle.cycle_ring.specs.Items.{item_read}
use Rattle.cycle_ring.proofs.Read.{IsRaw, IsRaw-text, IsRaw-foreign}
use Rattle.cycle_ring.proofs.places.raw_reads_back.Goals as goal

raw-of : (bytes : List ℕ) (found : Result (Trb × Bool) TrbFault) (cycle : Bool) → length bytes ≡ 16 → ((k : ℕ) → slice_index bytes k < 256)
    → IfOk found (λ read. HasText read.0 × (bytes ≡ text read.0 read.1)) → IfErr found (λ fault. fault_in (words_in bytes) ≡ Some fault)
    → IsRaw bytes cycle (item_read bytes)
raw-of bytes (Ok read) cycle size below is faulty = IsRaw-text read.0 bytes read.1 cycle is.0 is.1
raw-of bytes (Err fault) cycle size below is faulty = IsRaw-foreign bytes fault cycle size below faulty

pub returns : goal.returns
returns c =
    let raw = raw-of c.args.bytes.now c.decode-read.result c.args.cycle c.told-bytes c.fits-bytes c.decode-read.ensures.found
    c.decode-read.ensures.first_fault in
    record { has_bytes = raw.has_bytes; text = raw.text; chain = raw.chain }
