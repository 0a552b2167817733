-- Why a session ends by a fault, and how that is told.
use Rattle.std.specs.Prelude.{◌≡◌, ℕ, ◌≤◌, ◌⊎◌, Bool, IsTrue, List, length, Option, Result, Ok, Err, codes}
use Rattle.std.specs.Io.KnownBytes.{Appends, Consumes, IsAtEnd}
use Rattle.block_unit.specs.declared.ImageFault.{ImageFault}
use Rattle.block_unit.specs.declared.ImageFault.TheVariants as image
use Rattle.byte_io.specs.Streams.{Began, GaveFewer}
use Rattle.serve_run.specs.declared.fault.ServeFault.{ServeFault}
use Rattle.serve_run.specs.declared.fault.ServeFault.TheVariants as fault

-- HOW IT IS TOLD

-- 4 for want of memory, else 3
abbrev pub status_of : ServeFault → ℕ
status_of (fault.Image is) = 3
status_of fault.File = 3
status_of fault.NoMemory = 4
status_of fault.Handshake = 3
status_of fault.Request = 3
status_of fault.Ended = 3
status_of fault.Stream = 3
status_of fault.TooMany = 3

-- a file of a length that isn't served
abbrev pub image_line : ImageFault → List ℕ
image_line image.NotWhole = codes "image: NotWhole\n"
image_line image.TooLarge = codes "image: TooLarge\n"
image_line image.NoMemory = codes "image: NoMemory\n"

abbrev pub line_of : ServeFault → List ℕ
line_of (fault.Image is) = image_line is
line_of fault.File = codes "image: file\n"
line_of fault.NoMemory = codes "no memory\n"
line_of fault.Handshake = codes "nbd: bad handshake\n"
line_of fault.Request = codes "nbd: bad request\n"
line_of fault.Ended = codes "nbd: end of input\n"
line_of fault.Stream = codes "nbd: file\n"
line_of fault.TooMany = codes "nbd: too many messages\n"

-- READING

-- the input ended there, or a read failed
abbrev pub EndsReading : ServeFault → Bool → Option (List ℕ) → Type 0
EndsReading (fault.Image is) can_fail left_new = ⊥
EndsReading fault.File can_fail left_new = ⊥
EndsReading fault.NoMemory can_fail left_new = ⊥
EndsReading fault.Handshake can_fail left_new = ⊥
EndsReading fault.Request can_fail left_new = ⊥
EndsReading fault.Ended can_fail left_new = IsAtEnd left_new
EndsReading fault.Stream can_fail left_new = IsTrue can_fail
EndsReading fault.TooMany can_fail left_new = ⊥

-- Of a message of `count` bytes fewer were read. Where the input ended, at least `least` of them were: an end before a message is no fault.
pub record IsCut (reason : ServeFault) (can_fail : Bool) (least count : ℕ) (left left_new : Option (List ℕ)) : Type 0 where
  pub gave : GaveFewer left left_new count
  pub why : EndsReading reason can_fail left_new
  pub some : reason ≡ fault.Ended → least ≤ length gave.bytes

-- `count` bytes were read that are refused
pub record IsForeign (refuses : List ℕ → Type 0) (count : ℕ) (left left_new : Option (List ℕ)) : Type 0 where
  pub bytes : List ℕ
  pub len : length bytes ≡ count
  pub read : Consumes left left_new bytes
  pub refused : refuses bytes

-- No message of `count` bytes was read: fewer came, or those that came are refused.
abbrev pub Misses : ServeFault → (List ℕ → Type 0) → ℕ → ServeFault → Bool → Option (List ℕ) → Option (List ℕ) → Type 0
Misses refusal refuses count reason can_fail left left_new =
    IsCut reason can_fail 1 count left left_new ⊎ ((reason ≡ refusal) × IsForeign refuses count left left_new)

-- 2^64 - 1 messages of one client were answered, and no more are
abbrev pub most_messages : ℕ
most_messages = 18446744073709551615

-- behind so many messages that were answered no further one was read
abbrev pub EndsBehind : ServeFault → (List ℕ → Type 0) → ℕ → ServeFault → Bool → ℕ → Option (List ℕ) → Option (List ℕ) → Type 0
EndsBehind refusal refuses count reason can_fail messages left left_new =
    Misses refusal refuses count reason can_fail left left_new
    ⊎ ((reason ≡ fault.TooMany) × (messages ≡ most_messages) × (left_new ≡ left))

-- WRITING

-- Bytes were written, as a call that answers this says: all of them, or, where a write failed, a beginning.
abbrev pub Sends : Result (Unit {0}) ServeFault → Bool → Option (List ℕ) → Option (List ℕ) → List ℕ → Type 0
Sends (Ok done) can_fail written written_new bytes = Appends written written_new bytes
Sends (Err reason) can_fail written written_new bytes = (reason ≡ fault.Stream) × IsTrue can_fail × Began written written_new bytes
