-- How a command line ends: the exit status, what was printed, and what the files hold, on a host that tells its bytes.
use Rattle.std.specs.Prelude.{◌≡◌, ℕ, ◌<◌, ◌≤◌, Bool, true, false, IsTrue, IsErr, List, [], ◌∷◌, length, map, ◌⊎◌, ⊤, Option, None, Some, IfSome}
use Rattle.std.specs.Io.KnownBytes.{Appends, Keeps, IsAtEnd}
use Rattle.clap.specs.Words.{Kinds, Text}
use Rattle.clap.specs.declared.error.kind.ErrorKind.{ErrorKind}
use Rattle.uas_words.specs.CommandLine.{Asked, replay, trace, work, keep, decode, make, info, dump, fill, audit, draw, page, capture, IsRequest, EndsRefused}
use Rattle.disk_image.specs.Images.{blocks_in, made_image, made_text}
use Rattle.uas_script.specs.Script.{script}
use Rattle.uas_replay.specs.Told.{zeroed_units}
use Rattle.uas_replay.specs.Runs.{Tells}
use Rattle.disk_image.specs.Stops.{InfoPrints, AnswersOf}
use Rattle.disk_image.specs.Alone.{blocks_at, dump_lines, dumped, filled, filled_image, filled_medium}
use Rattle.block_unit.specs.BlockMaps.{imaged}
use Rattle.uas_trace.specs.Traced.{Traces}
use Rattle.uas_trace.specs.Texts.{TracesScript}
use Rattle.work_run.specs.WorkEnds.{Told, work_units}
use Rattle.work_run.specs.SavedEnds.{NotSaved, Saved, Unsaved}
use Rattle.uas_work.specs.Booked.{first_unit}
use Rattle.work_run.specs.KeptEnds.{HasLeft, KeptTold}
use Rattle.uas_decode.specs.Runs.{Begins, Decodes}
use Rattle.audit_run.specs.Ends.{IsRefused, Tells as AuditTells}
use Rattle.draw_run.specs.Draws.{AppendsDrawn, DrawsScript}
use Rattle.draw_run.specs.declared.Form.{Form}
use Rattle.draw_run.specs.declared.Form.TheVariants.{Picture, Page}
use Rattle.capture_run.specs.Ends.{CapturesScript, IsCapture}

-- What is known of a host: whether it tells what its files hold; of the file of a name, whether it can be opened, can
-- be created and can fail; of the file of a log that is kept, whether it can fail, and whether what it holds is told; whether standard input
-- is there, and whether it and standard output can fail.
pub record Host : Type 0 where
  pub tells : Bool
  pub can_open : Text → Bool
  pub can_create : Text → Bool
  pub file_can_fail : Text → Bool
  pub tells_kept : Bool
  pub kept_can_fail : Text → Bool
  pub has_input : Bool
  pub input_can_fail : Bool
  pub output_can_fail : Bool

-- The bytes outside of the program, where they are known: what the file of a name holds, and what was synced of one that is kept; what
-- standard input has left, and what standard output has taken.
pub record World : Type 0 where
  pub holds : Text → Option (List ℕ)
  pub kept : Text → Option (List ℕ)
  pub input : Option (List ℕ)
  pub output : Option (List ℕ)

-- The script on standard input is faulty or couldn't be read, and standard output got nothing; or it couldn't be written.
abbrev pub ScriptStops : ℕ → ℕ → Host → World → World → Type 0
ScriptStops clients tags host old new =
    ((IfSome old.input (λ bytes. IsErr (script clients tags bytes)) ⊎ IsTrue host.input_can_fail) × Keeps old.output new.output)
    ⊎ IsTrue host.output_can_fail

-- The file of this name holds no image or failed, and standard output got nothing; or it couldn't be written.
abbrev pub ImageStops : Text → Host → World → World → Type 0
ImageStops file host old new =
    (((IsTrue host.tells → IfSome (old.holds file) (λ bytes. IsErr (blocks_in bytes))) ⊎ IsTrue (host.file_can_fail file))
    × Keeps old.output new.output) ⊎ IsTrue host.output_can_fail

-- `replay CLIENTS BLOCKS [--bad LBA] [--tags N]`: the script on standard input is told on standard output, of so many clients, tags of each
-- and blocks, and of the block that is bad in every unit, if one is.
pub record ReplayEnds (clients tags blocks : ℕ) (bad : Option ℕ) (host : Host) (old new : World) (status : ℕ) : Type 0 where
  pub statuses : (status ≤ 1) ⊎ ((status ≡ 3) ⊎ (status ≡ 4))
  pub told : status ≤ 1 → IfSome old.input (λ bytes.
      Tells tags (zeroed_units clients blocks bad) (script clients tags bytes) old.output new.output status)
  pub read : status ≤ 1 → IsTrue host.has_input × IsAtEnd new.input
  pub fault : status ≡ 3 → ScriptStops clients tags host old new
  pub memory : status ≡ 4 → Keeps old.output new.output
  pub files : new.holds ≡ old.holds

-- `trace CLIENTS BLOCKS [--bad LBA] [--tags N]`: as `replay`, but that standard output gets its text while the script runs: each step, what it wrote, and
-- what the run told by it.
pub record TraceEnds (clients tags blocks : ℕ) (bad : Option ℕ) (host : Host) (old new : World) (status : ℕ) : Type 0 where
  pub statuses : (status ≤ 1) ⊎ ((status ≡ 3) ⊎ (status ≡ 4))
  pub traced : status ≤ 1 → IfSome old.input (λ bytes.
      Traces tags (zeroed_units clients blocks bad) (script clients tags bytes) status)
  pub text : status ≤ 1 → IfSome old.input (λ bytes.
      TracesScript tags (zeroed_units clients blocks bad) (script clients tags bytes) old.output new.output)
  pub read : status ≤ 1 → IsTrue host.has_input × IsAtEnd new.input
  pub fault : status ≡ 3 → ScriptStops clients tags host old new
  pub files : new.holds ≡ old.holds

-- `work CLIENTS ROUNDS [--tags N] [--depth D]`: standard output has got the lines of so many clients that worked in threads; no file is opened, and standard
-- input isn't read.
pub record WorkEnds (clients tags depth rounds : ℕ) (host : Host) (old new : World) (status : ℕ) : Type 0 where
  pub statuses : (status ≤ 1) ⊎ ((status ≡ 3) ⊎ (status ≡ 4))
  pub told : status ≤ 1 → Told clients tags depth rounds false old.output new.output status
  pub fault : status ≡ 3 → IsTrue host.output_can_fail
  pub memory : status ≡ 4 → Keeps old.output new.output
  pub files : new.holds ≡ old.holds
  pub input : new.input ≡ old.input

-- `work CLIENTS ROUNDS LOG [--tags N] [--depth D]`: standard output has got the lines of so many clients that worked in threads, and behind them whether each
-- of their audits is true; and the file of this name holds the text of the log of their bus. Where the run gave up, every file holds
-- what it held.
pub record SavedWorkEnds (clients tags depth rounds : ℕ) (file : Text) (host : Host) (old new : World) (status : ℕ) : Type 0 where
  pub statuses : (status ≤ 1) ⊎ ((status ≡ 3) ⊎ (status ≡ 4))
  pub saved : status ≤ 1 → Saved clients tags depth rounds host.tells (new.holds file) old.output new.output status
  pub created : status ≤ 1 → IsTrue (host.can_create file)
  pub fault : status ≡ 3 → IsTrue host.output_can_fail
      ⊎ NotSaved clients tags depth rounds (host.file_can_fail file) old.output new.output
  pub memory : status ≡ 4 → Keeps old.output new.output ⊎ Unsaved clients tags depth rounds (λ log. ⊤) old.output new.output
  pub held : 3 ≤ status → IsTrue host.tells → new.holds ≡ old.holds
  pub input : new.input ≡ old.input

-- `work CLIENTS ROUNDS LOG --sync N [--tags N] [--depth D]`: standard output has got the lines of so many clients that worked in threads, and behind them whether
-- each of their audits is true; and the file of this name holds the whole text of a log, with all that the log of their bus has behind
-- some place. At statuses 3 and 4 it holds a beginning of a log, with an end or without, what it held before, or nothing.
pub record KeptWorkEnds (clients tags depth rounds : ℕ) (file : Text) (host : Host) (old new : World) (status : ℕ) : Type 0 where
  pub statuses : (status ≤ 1) ⊎ ((status ≡ 3) ⊎ (status ≡ 4))
  pub told : status ≤ 1 → KeptTold clients tags depth rounds host.tells_kept (new.kept file) old.output new.output status
  pub fault : status ≡ 3 → IsTrue host.output_can_fail ⊎ (IsTrue (host.kept_can_fail file) × Keeps old.output new.output)
  pub memory : status ≡ 4 → Keeps old.output new.output
  pub left : 3 ≤ status → IsTrue host.tells_kept → ∥ HasLeft tags (map first_unit (work_units clients)) (old.kept file) (new.kept file) ∥₁
  pub input : new.input ≡ old.input

-- `decode`: standard output has got each line of standard input, with what its bytes say.
pub record DecodeEnds (host : Host) (old new : World) (status : ℕ) : Type 0 where
  pub statuses : (status ≤ 1) ⊎ ((status ≡ 3) ⊎ (status ≡ 4))
  pub decoded : status ≤ 1 → IfSome old.input (λ bytes. Decodes bytes old.output new.output status)
  pub read : status ≤ 1 → IsTrue host.has_input × IsAtEnd new.input
  pub fault : status ≡ 3 → IsTrue host.input_can_fail ⊎ IsTrue host.output_can_fail
  pub memory : status ≡ 4 → IfSome old.input (λ bytes. Begins bytes old.output new.output)
  pub files : new.holds ≡ old.holds

-- `make FILE BLOCKS [--force]`: the file of this name holds the image of so many blocks, and standard output has got its line.
pub record MakeEnds (file : Text) (blocks : ℕ) (host : Host) (old new : World) (status : ℕ) : Type 0 where
  pub statuses : (status ≡ 0) ⊎ ((status ≡ 3) ⊎ (status ≡ 4))
  pub image : status ≡ 0 → IsTrue host.tells → new.holds file ≡ Some (made_image blocks)
  pub told : status ≡ 0 → IsTrue (host.can_create file) × Appends old.output new.output (made_text blocks)
  pub fault : status ≡ 3 → (IsTrue (host.file_can_fail file) × Keeps old.output new.output)
      ⊎ (IsTrue host.output_can_fail × (IsTrue host.tells → new.holds file ≡ Some (made_image blocks)))
  pub memory : status ≡ 4 → Keeps old.output new.output
  pub input : new.input ≡ old.input

-- `info FILE`: standard output has got the line of the image that the file of this name holds.
pub record InfoEnds (file : Text) (host : Host) (old new : World) (status : ℕ) : Type 0 where
  pub statuses : (status ≡ 0) ⊎ ((status ≡ 3) ⊎ (status ≡ 4))
  pub told : status ≡ 0 → IsTrue host.tells → IfSome (old.holds file) (λ bytes. InfoPrints (blocks_in bytes) old.output new.output)
  pub read : status ≡ 0 → IsTrue (host.can_open file)
  pub fault : status ≡ 3 → ImageStops file host old new
  pub memory : status ≡ 4 → Keeps old.output new.output
  pub files : new.holds ≡ old.holds
  pub input : new.input ≡ old.input

-- `dump FILE LBA COUNT`: standard output has got what is told of the blocks of the image that the file of this name holds; with 0
-- these are the lines of the image's own bytes there.
pub record DumpEnds (file : Text) (lba count : ℕ) (host : Host) (old new : World) (status : ℕ) : Type 0 where
  pub statuses : (status ≤ 1) ⊎ ((status ≡ 3) ⊎ (status ≡ 4))
  pub told : status ≤ 1 → IsTrue host.tells → IfSome (old.holds file) (λ bytes.
      AnswersOf (blocks_in bytes) (dumped (imaged bytes []) lba count) old.output new.output status)
  pub blocks : status ≡ 0 → IsTrue host.tells → IfSome (old.holds file) (λ bytes.
      Appends old.output new.output (dump_lines lba (blocks_at bytes lba count)))
  pub read : status ≤ 1 → IsTrue (host.can_open file)
  pub fault : status ≡ 3 → ImageStops file host old new
  pub memory : status ≡ 4 → Keeps old.output new.output
  pub files : new.holds ≡ old.holds
  pub input : new.input ≡ old.input

-- `fill FILE LBA COUNT BYTE`: standard output has got what is told of the WRITE, and after a GOOD the file of this name holds the
-- medium that it left: the image with these blocks of that byte. Where it ended with a CHECK CONDITION, every file holds what it held; what
-- the files hold after a fault or for want of memory isn't said.
pub record FillEnds (file : Text) (lba count byte : ℕ) (host : Host) (old new : World) (status : ℕ) : Type 0 where
  pub statuses : (status ≤ 1) ⊎ ((status ≡ 3) ⊎ (status ≡ 4))
  pub told : status ≤ 1 → IsTrue host.tells → IfSome (old.holds file) (λ bytes.
      AnswersOf (blocks_in bytes) (filled (imaged bytes []) lba count byte) old.output new.output status)
  pub image : status ≡ 0 → IsTrue host.tells → IfSome (old.holds file) (λ bytes.
      new.holds file ≡ Some (filled_medium (imaged bytes []) lba count byte))
  pub blocks : status ≡ 0 → IsTrue host.tells → IfSome (old.holds file) (λ bytes.
      new.holds file ≡ Some (filled_image bytes lba count byte))
  pub kept : status ≡ 1 → new.holds ≡ old.holds
  pub read : status ≤ 1 → IsTrue (host.can_open file)
  pub created : status ≡ 0 → IsTrue (host.can_create file)
  pub fault : status ≡ 3 → ImageStops file host old new
  pub memory : status ≡ 4 → Keeps old.output new.output
  pub input : new.input ≡ old.input

-- `audit LOG [--head HEX]`: standard output has got a line for each client of the log that the file of this name holds, whose account is
-- true, and behind which step the checksum stands that is asked for.
pub record AuditEnds (file : Text) (head : Option ℕ) (host : Host) (old new : World) (status : ℕ) : Type 0 where
  pub statuses : (status ≡ 0) ⊎ ((status ≡ 3) ⊎ (status ≡ 4))
  pub told : status ≡ 0 → IsTrue host.tells → IfSome (old.holds file) (λ bytes. AuditTells head bytes old.output new.output)
  pub read : status ≡ 0 → IsTrue (host.can_open file)
  pub fault : status ≡ 3 → (((IsTrue host.tells → IfSome (old.holds file) (IsRefused head)) ⊎ IsTrue (host.file_can_fail file))
      × Keeps old.output new.output) ⊎ IsTrue host.output_can_fail
  pub memory : status ≡ 4 → Keeps old.output new.output
  pub files : new.holds ≡ old.holds
  pub input : new.input ≡ old.input

-- `draw CLIENTS BLOCKS [--page] [--bad LBA] [--tags N]`: the script on standard input was run as `trace` runs it, and standard output has got a
-- picture of that trace, or a page.
pub record DrawEnds (form : Form) (clients tags blocks : ℕ) (bad : Option ℕ) (host : Host) (old new : World) (status : ℕ) : Type 0 where
  pub statuses : (status ≤ 1) ⊎ ((status ≡ 3) ⊎ (status ≡ 4))
  pub traced : status ≤ 1 → IfSome old.input (λ bytes.
      Traces tags (zeroed_units clients blocks bad) (script clients tags bytes) status)
  pub drawn : status ≤ 1 → AppendsDrawn form clients tags old.output new.output
  pub of : status ≤ 1 → IfSome old.input (λ bytes.
      DrawsScript form clients tags (zeroed_units clients blocks bad) (script clients tags bytes) old.output new.output)
  pub read : status ≤ 1 → IsTrue host.has_input × IsAtEnd new.input
  pub fault : status ≡ 3 → ScriptStops clients tags host old new
  pub memory : status ≡ 4 → Keeps old.output new.output
  pub files : new.holds ≡ old.holds

-- `capture CLIENTS BLOCKS FILE [--bad LBA] [--tags N]`: the script on standard input is told on standard output as `replay` tells it, and the file of
-- this name holds a capture of its trace.
pub record CaptureEnds (clients tags blocks : ℕ) (file : Text) (bad : Option ℕ) (host : Host) (old new : World) (status : ℕ) : Type 0 where
  pub statuses : (status ≤ 1) ⊎ ((status ≡ 3) ⊎ (status ≡ 4))
  pub told : status ≤ 1 → IfSome old.input (λ bytes.
      Tells tags (zeroed_units clients blocks bad) (script clients tags bytes) old.output new.output status)
  pub captured : status ≤ 1 → IsTrue host.tells → IsCapture (new.holds file)
  pub of : status ≤ 1 → IfSome old.input (λ bytes. IsTrue host.tells →
      CapturesScript tags (zeroed_units clients blocks bad) (script clients tags bytes) (new.holds file))
  pub created : status ≤ 1 → IsTrue (host.can_create file)
  pub fault : status ≡ 3 → ((IfSome old.input (λ bytes. IsErr (script clients tags bytes)) ⊎ (IsTrue host.input_can_fail
      ⊎ IsTrue (host.file_can_fail file))) × Keeps old.output new.output) ⊎ IsTrue host.output_can_fail
  pub memory : status ≡ 4 → Keeps old.output new.output

-- how what the words ask for ends
abbrev pub Ends : Asked → Host → World → World → ℕ → Type 0
Ends (replay clients tags blocks bad) host old new status = ReplayEnds clients tags blocks bad host old new status
Ends (trace clients tags blocks bad) host old new status = TraceEnds clients tags blocks bad host old new status
Ends (work clients tags depth rounds None) host old new status = WorkEnds clients tags depth rounds host old new status
Ends (work clients tags depth rounds (Some file)) host old new status = SavedWorkEnds clients tags depth rounds file host old new status
Ends (keep clients tags depth rounds file every) host old new status = KeptWorkEnds clients tags depth rounds file host old new status
Ends decode host old new status = DecodeEnds host old new status
Ends (make file blocks replaces) host old new status = MakeEnds file blocks host old new status
Ends (info file) host old new status = InfoEnds file host old new status
Ends (dump file lba count) host old new status = DumpEnds file lba count host old new status
Ends (fill file lba count byte) host old new status = FillEnds file lba count byte host old new status
Ends (audit file head) host old new status = AuditEnds file head host old new status
Ends (draw clients tags blocks bad) host old new status = DrawEnds Picture clients tags blocks bad host old new status
Ends (page clients tags blocks bad) host old new status = DrawEnds Page clients tags blocks bad host old new status
Ends (capture clients tags blocks file bad) host old new status = CaptureEnds clients tags blocks file bad host old new status

-- Words that are refused with an error of this kind: help and the version go to standard output, nothing else does.
pub record RefusalEnds (kind : ErrorKind) (can_fail : Bool) (old new : Option (List ℕ)) (status : ℕ) : Type 0 where
  pub ended : EndsRefused kind status
  pub shown : IsRequest kind → status ≡ 0 → (text : List ℕ) × Appends old new text × (0 < length text)
  pub failed : status ≡ 3 → IsTrue can_fail
  pub memory : status ≡ 4 → Keeps old new
  pub kept : ¬ (IsRequest kind) → Keeps old new

-- one of the kinds has this
abbrev pub HoldsOfOne : (ErrorKind → Type 0) → Kinds → Type 0
HoldsOfOne P [] = ⊥
HoldsOfOne P (kind ∷ kinds) = P kind ⊎ HoldsOfOne P kinds
