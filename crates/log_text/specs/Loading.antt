-- What a caller gets of a text.
use Rattle.std.specs.Prelude.{◌≡◌, Result, Ok, Err}
use Rattle.log_text.specs.declared.LogFault.{LogFault}
use Rattle.log_text.specs.declared.LogFault.TheVariants.{BadHeader, Truncated, BadField, TrailingBytes, NoMemory}
use Rattle.log_text.specs.declared.Parts.{Parts}
use Rattle.log_text.specs.Text.{Saved}

-- it is told this fault, or that there is no memory
abbrev pub Tells : LogFault → Result Saved LogFault → Type 0
Tells BadHeader read = read ≡ Err BadHeader
Tells Truncated read = read ≡ Err Truncated
Tells BadField read = read ≡ Err BadField
Tells TrailingBytes read = read ≡ Err TrailingBytes
Tells NoMemory read = Unit {0}

-- it gets what reading gives, want of memory apart
abbrev pub Loads : Result Saved LogFault → Result Saved LogFault → Type 0
Loads (Ok log) read = read ≡ Ok log
Loads (Err fault) read = Tells fault read

-- the parts of a log as one
abbrev pub saved_of : Parts → Saved
saved_of parts = record { version = parts.version; units = parts.units; steps = parts.steps; replies = parts.replies }
