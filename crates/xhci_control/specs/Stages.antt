-- Where a control transfer is (xHCI 4.11.2.2), and what its Data Stage gives.
use Rattle.std.specs.Prelude.{ℕ, ◌+◌, ◌-◌, ◌^◌, ◌==◌, min, Bool, true, false, if◌then◌else◌, List, [], drop}
use Rattle.usb_disk.specs.declared.Answer.{Answer}
use Rattle.usb_disk.specs.declared.Answer.TheVariants.{Data as DataAnswer, Done, Restarted, BulkReset, Stall as StallAnswer}
use Rattle.xhci_control.specs.declared.stage.Given.{Given}
use Rattle.xhci_control.specs.declared.stage.Given.TheVariants.{Bytes, Nothing, Taken, Stall}
use Rattle.xhci_control.specs.declared.stage.Stage.{Stage}
use Rattle.xhci_control.specs.declared.stage.Stage.TheVariants.{Setup, Data, Status}

abbrev pub given_of : Answer → Given
given_of (DataAnswer bytes) = Bytes bytes 0
given_of Done = Nothing
given_of Restarted = Nothing
given_of BulkReset = Nothing
given_of StallAnswer = Stall

-- whether it ends every task of the disk
abbrev pub is_restarted : Answer → Bool
is_restarted (DataAnswer bytes) = false
is_restarted Done = false
is_restarted Restarted = true
is_restarted BulkReset = false
is_restarted StallAnswer = false

-- whether it ends the command of Bulk-Only Transport
abbrev pub is_bulk_reset : Answer → Bool
is_bulk_reset (DataAnswer bytes) = false
is_bulk_reset Done = false
is_bulk_reset Restarted = false
is_bulk_reset BulkReset = true
is_bulk_reset StallAnswer = false

abbrev pub given_stalls : Given → Bool
given_stalls (Bytes bytes gone) = false
given_stalls Nothing = false
given_stalls Taken = false
given_stalls Stall = true

abbrev pub given_takes : Given → Bool
given_takes (Bytes bytes gone) = false
given_takes Nothing = false
given_takes Taken = true
given_takes Stall = false

abbrev pub given_left : Given → List ℕ
given_left (Bytes bytes gone) = drop gone bytes.items
given_left Nothing = []
given_left Taken = []
given_left Stall = []

abbrev pub given_advanced : Given → ℕ → Given
given_advanced (Bytes bytes gone) count = Bytes bytes (min (gone + count) (2 ^ 64 - 1))
given_advanced Nothing count = Nothing
given_advanced Taken count = Taken
given_advanced Stall count = Stall

-- after a Setup Stage that is answered so, and asks for so many bytes of data
abbrev pub after_setup : Answer → ℕ → Stage
after_setup answer asked = if asked == 0 then Status (given_stalls (given_of answer)) else Data (given_of answer)

abbrev pub stalls : Stage → Bool
stalls Setup = false
stalls (Data given) = given_stalls given
stalls (Status refused) = refused

abbrev pub is_setup : Stage → Bool
is_setup Setup = true
is_setup (Data given) = false
is_setup (Status refused) = false

abbrev pub is_data : Stage → Bool
is_data Setup = false
is_data (Data given) = true
is_data (Status refused) = false

abbrev pub takes : Stage → Bool
takes Setup = false
takes (Data given) = given_takes given
takes (Status refused) = false

abbrev pub left : Stage → List ℕ
left Setup = []
left (Data given) = given_left given
left (Status refused) = []

abbrev pub advanced : Stage → ℕ → Stage
advanced Setup count = Setup
advanced (Data given) count = Data (given_advanced given count)
advanced (Status refused) count = Status refused

-- behind a TRB of a Data Stage: at the last one the Status Stage is to come
abbrev pub behind_data : Bool → Stage → Stage
behind_data true stage = stage
behind_data false stage = Status false

abbrev pub behind_data_if : Bool → Bool → Stage → Stage
behind_data_if true chain stage = behind_data chain stage
behind_data_if false chain stage = stage

-- bytes to the device are taken, and none are given
abbrev pub directed : Bool → Stage → Stage
directed true stage = stage
directed false stage = Data Taken
