-- What was read of a controller, as what it is of.
use Rattle.controller_bytes.specs.BulkTexts.{FitsBulk, bulk_of}
use Rattle.controller_bytes.specs.PipesTexts.{FitsPipes, pipes_of}
use Rattle.xhci_machine.specs.declared.kept.KeptText.{KeptText}
use Rattle.xhci_machine.specs.declared.kept.RingsText.{RingsText}
use Rattle.xhci_machine.specs.Kept.{KeptState, RingsState}

abbrev pub rings_text_of : RingsText → RingsState
rings_text_of t = record { registers = t.registers; commands = t.commands; interrupts = t.interrupts; slot = t.slot; told = t.told }

abbrev pub kept_text_of : KeptText → KeptState
kept_text_of t = record { rings = rings_text_of t.rings; control = t.control; pipes = pipes_of t.pipes; bulk = bulk_of t.bulk }

-- what was read has room in them
pub record FitsKept (t : KeptText) : Type 0 where
  pub pipes : FitsPipes t.pipes
  pub bulk : FitsBulk t.bulk
