-- What a run that is drawn writes, and when it gives up.
use Rattle.std.specs.Prelude.{ℕ, Bool, IsTrue, List, Option, Result, Ok, Err}
use Rattle.std.specs.Io.KnownBytes.{Appends, Keeps}
use Rattle.uas_replay.specs.declared.status.RunFault.{RunFault}
use Rattle.uas_replay.specs.declared.status.RunFault.TheVariants.{Image, ImageFile, Script, ScriptFile, NoMemory}
use Rattle.block_unit.specs.BlockMaps.{BlockMaps}
use Rattle.uas_script.specs.declared.Line.{Line}
use Rattle.uas_script.specs.declared.ScriptFault.{ScriptFault}
use Rattle.uas_trace.specs.Texts.{traced_text}
use Rattle.draw_run.specs.picture.Picture.{picture_of}
use Rattle.draw_run.specs.page.Page.{page_of}
use Rattle.draw_run.specs.declared.Form.{Form}
use Rattle.draw_run.specs.declared.Form.TheVariants.{Picture, Page}

-- what is drawn of a trace of so many clients with so many tags each: its picture or its page
abbrev pub drawn_of : Form → ℕ → ℕ → List ℕ → List ℕ
drawn_of Picture clients tags trace = picture_of clients tags trace
drawn_of Page clients tags trace = page_of clients tags trace

-- what is drawn of a trace, of so many clients with so many tags each, was added
pub record AppendsDrawn (form : Form) (clients tags : ℕ) (old new : Option (List ℕ)) : Type 0 where
  pub trace : List ℕ
  pub added : Appends old new (drawn_of form clients tags trace)

-- what is drawn of the trace of a script's lines on these units, of so many clients with so many tags each, was added
abbrev pub DrawsScript : Form → ℕ → ℕ → List BlockMaps → Result (List Line) ScriptFault → Option (List ℕ) → Option (List ℕ) → Type 0
DrawsScript form clients tags units (Ok lines) old new = Appends old new (drawn_of form clients tags (traced_text tags units lines))
DrawsScript form clients tags units (Err fault) old new = ⊥

-- a call that writes what is drawn gives up for want of memory, which leaves nothing written, or at a fault of the writer
abbrev pub StopsDrawing : Bool → Option (List ℕ) → Option (List ℕ) → RunFault → Type 0
StopsDrawing can_fail old new NoMemory = Keeps old new
StopsDrawing can_fail old new ScriptFile = IsTrue can_fail
StopsDrawing can_fail old new (Image fault) = ⊥
StopsDrawing can_fail old new ImageFile = ⊥
StopsDrawing can_fail old new (Script fault) = ⊥
