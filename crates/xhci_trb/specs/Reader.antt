-- A reader of three words: the TRB and the Cycle bit that stand in them, where they hold a text.
use Rattle.std.specs.Prelude.{ℕ, ◌+◌, ◌*◌, ◌/◌, ◌%◌, ◌^◌, Bool, ◌==◌, if◌then◌else◌}
use Rattle.xhci_trb.specs.declared.Trb.{Trb}
use Rattle.xhci_trb.specs.declared.Trb.TheVariants.{Normal, Link, StopEndpoint, SetDequeue, TransferEvent, CommandEvent}
use Rattle.xhci_trb.specs.declared.words.Words.{Words}
use Rattle.xhci_trb.specs.Text.{type_in}

-- bit k of a word
abbrev pub bit_in : ℕ → ℕ → Bool
bit_in n k = n / 2 ^ k % 2 == 1

-- the Cycle bit, control bit 0
abbrev pub cycle_in : Words → Bool
cycle_in w = w.control % 2 == 1

-- the endpoint and the slot of the TRBs that have them
abbrev pub endpoint_in : Words → ℕ
endpoint_in w = w.control / 2 ^ 16 % 2 ^ 5

abbrev pub slot_in : Words → ℕ
slot_in w = w.control / 2 ^ 24

-- the TRB of each type
unfoldable pub trb_in : Words → Trb
trb_in w =
    if type_in w == 1 then
    Normal w.parameter (w.status % 2 ^ 17) (w.status / 2 ^ 17 % 2 ^ 5) (record { 0 = w.control / 2 % 2 ^ 6 + 2 ^ 6 * (w.control / 2 ^ 9 % 2) })
    else if type_in w == 6 then Link w.parameter (bit_in w.control 1) (bit_in w.control 4) (bit_in w.control 5)
    else if type_in w == 15 then StopEndpoint (endpoint_in w) (slot_in w)
    else if type_in w == 16 then
    SetDequeue (16 * (w.parameter / 16)) (w.parameter % 2 == 1) (w.status / 2 ^ 16) (endpoint_in w) (slot_in w)
    else if type_in w == 32 then
    TransferEvent w.parameter (w.status % 2 ^ 24) (w.status / 2 ^ 24) (endpoint_in w) (slot_in w)
    else CommandEvent w.parameter (w.status / 2 ^ 24) (slot_in w)
