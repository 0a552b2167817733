-- What becomes of the disk and its files by a packet, and what is sent of it.
use Rattle.std.specs.Prelude.{◌≡◌, ◌≢◌, ℕ, ◌⊎◌, List, [], ◌∷◌, ◌++◌, length, Bool, true, false, IsTrue, Option, None, Some}
use Rattle.std.specs.Io.KnownBytes.{Appends}
use Rattle.byte_io.specs.Streams.{Began}
use Rattle.uas_tasks.specs.declared.Outcome.{Outcome}
use Rattle.uas_tasks.specs.declared.Request.{Request}
use Rattle.uas_tasks.specs.Machine.{bytes_out}
use Rattle.usb_tags.specs.declared.Answer.{Answer}
use Rattle.usb_tags.specs.declared.Next.{Next}
use Rattle.usb_tags.specs.declared.Next.TheVariants.{Quiet, Moved, Asks, Sends}
use Rattle.usb_tags.specs.declared.UsbTags.{UsbTags}
use Rattle.usb_tags.specs.Calls.{answered, next_of, received}
use Rattle.usbredir.specs.Device.{data_of_device}
use Rattle.usb_serve.specs.declared.fault.UsbFault.{UsbFault}
use Rattle.usb_serve.specs.declared.fault.UsbFault.TheVariants as fault
use Rattle.usb_serve.specs.declared.packets.Came.{Came}
use Rattle.usb_serve.specs.Files.{Asked, Filed}
use Rattle.usb_serve.specs.Sending.{Gathers, answer_text, data_text}

-- the disk, and the files of its logical units
pub record World : Type 0 where
  pub device : UsbTags
  pub files : List Filed

abbrev pub world : UsbTags → List Filed → World
world device files = record { device = device; files = files }

-- ONE STEP

-- the bytes that a request brings: of a Write and of a Compare those of its blocks
abbrev pub bytes_of : Option (List ℕ) → List ℕ
bytes_of None = []
bytes_of (Some bytes) = bytes

abbrev pub brought_by : UsbTags → ℕ → List ℕ
brought_by device number = bytes_of (bytes_out device.tasks number)

-- A request is done on the file of its logical unit, and answered by what came of it.
pub record IsAnswered (number : ℕ) (request : Request) (old new : World) : Type 0 where
  pub outcome : Outcome
  pub given : List ℕ
  pub asked : Asked request old.files new.files (brought_by old.device number) outcome given
  pub answers : new.device ≡ (answered old.device number outcome given).0

-- by what the disk does next: `text` is sent of it
abbrev pub StepBy : UsbTags × Next → List Filed → List ℕ → World → Type 0
StepBy (device, Quiet) files text new = ⊥
StepBy (device, Moved) files text new = (text ≡ []) × (new ≡ world device files)
StepBy (device, Asks number request) files text new = (text ≡ []) × IsAnswered number request (world device files) new
StepBy (device, Sends answer) files text new = (text ≡ answer_text device answer) × (new ≡ world device files)

abbrev pub Step : World → List ℕ → World → Type 0
Step old text new = StepBy (next_of old.device) old.files text new

-- ALL STEPS OF A PACKET

-- each step: what was sent of it, and the disk and its files behind it
unfoldable pub Steps : World → List (List ℕ × World) → World → Type 0
Steps old [] new = new ≡ old
Steps old (step ∷ others) new = Step old step.0 step.1 × Steps step.1 others new

abbrev pub texts : List (List ℕ × World) → List ℕ
texts [] = []
texts (step ∷ others) = step.0 ++ texts others

-- so many steps, of which `text` was sent
pub record Stepped (count : ℕ) (old : World) (text : List ℕ) (new : World) : Type 0 where
  pub trace : List (List ℕ × World)
  pub many : length trace ≡ count
  pub steps : Steps old trace new
  pub whole : text ≡ texts trace

-- nothing is left to do
abbrev pub IsQuiet : World → World → Type 0
IsQuiet old new = (next_of old.device ≡ (new.device, Quiet)) × (new.files ≡ old.files)

-- a step was made and what is sent of it gathered, or nothing was left to do
abbrev pub Goes : Bool → (old new : World) → (gathered gathered_new : List ℕ) → (written written_new : Option (List ℕ)) → Type 0
Goes true old new gathered gathered_new written written_new =
    (text : List ℕ) × Step old text new × Gathers gathered gathered_new written written_new text
Goes false old new gathered gathered_new written written_new =
    IsQuiet old new × (gathered_new ≡ gathered) × (written_new ≡ written)

-- a step was made, and of what was gathered a beginning was written
abbrev pub Stops : (old new : World) → List ℕ → (written written_new : Option (List ℕ)) → Type 0
Stops old new gathered written written_new = (text : List ℕ) × Step old text new × Began written written_new (gathered ++ text)

-- A packet was served: the disk received it, made its steps until nothing was left, and `text` was sent.
pub record IsDone (old : World) (text : List ℕ) (new : World) : Type 0 where
  pub count : ℕ
  pub last : World
  pub steps : Stepped count old text last
  pub quiet : IsQuiet last new

-- and `text` was written
abbrev pub IsSent : (old new : World) → (written written_new : Option (List ℕ)) → Type 0
IsSent old new written written_new = (text : List ℕ) × IsDone old text new × Appends written written_new text

abbrev pub arrived : World → Came → List ℕ → World
arrived old came bytes = world (received old.device came.id came.packet bytes) old.files

-- A packet was served up to some step: a beginning of what was to be sent by then was written.
pub record IsBroken (old new : World) (written written_new : Option (List ℕ)) : Type 0 where
  pub count : ℕ
  pub text : List ℕ
  pub last : World
  pub steps : Stepped count old text last
  pub ends : (new ≡ last) ⊎ IsQuiet last new
  pub began : Began written written_new text

-- WHY ITS STEPS ENDED

-- a step sends an answer that says other than how many data it has
pub record Misstates (old new : World) : Type 0 where
  pub answer : Answer
  pub sends : next_of old.device ≡ (new.device, Sends answer)
  pub other : data_of_device answer.packet ≢ length (data_text new.device answer.body)

-- the last step made does so
pub record IsMisstated (old new : World) : Type 0 where
  pub count : ℕ
  pub text : List ℕ
  pub last : World
  pub steps : Stepped count old text last
  pub misstates : Misstates last new

-- 2^32 - 1 steps were made
abbrev pub IsEndless : (old new : World) → Type 0
IsEndless old new = (text : List ℕ) × Stepped 4294967295 old text new

-- a write failed, an answer was misstated, or there were too many steps
abbrev pub StepsFail : UsbFault → Bool → (old new : World) → Type 0
StepsFail reason can_write old new =
    ((reason ≡ fault.Stream) × IsTrue can_write)
    ⊎ (((reason ≡ fault.Answer) × IsMisstated old new) ⊎ ((reason ≡ fault.TooMany) × IsEndless old new))
