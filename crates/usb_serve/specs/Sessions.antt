-- What a session reads of the guest and writes to it, and what becomes of the disk and its files.
use Rattle.std.specs.Prelude.{◌≡◌, ℕ, ◌⊎◌, Bool, true, false, IsTrue, List, [], ◌∷◌, ◌++◌, length, Option, Result, Ok, Err, ⊤}
use Rattle.std.specs.Io.KnownBytes.{Appends}
use Rattle.byte_io.specs.Streams.{Began}
use Rattle.usb_serve.specs.declared.fault.UsbFault.{UsbFault}
use Rattle.usb_serve.specs.declared.fault.UsbFault.TheVariants as fault
use Rattle.usb_serve.specs.declared.packets.Came.{Came}
use Rattle.usb_serve.specs.Faults.{IsReported}
use Rattle.usb_serve.specs.Files.{AreSynced, Filed}
use Rattle.usb_serve.specs.Greeting.{GreetingBroken, Said, our_text}
use Rattle.usb_serve.specs.Packets.{Leaves, ReadsPacket, Unread}
use Rattle.usb_serve.specs.Sending.{disk_text}
use Rattle.usb_serve.specs.Steps.{IsBroken, IsDone, StepsFail, World, arrived, world}

-- PACKETS

-- A packet that was served: what came, what was taken of its data, what was sent of it, and what was left to read and the disk behind it.
pub record Exchange : Type 0 where
  pub came : Came
  pub bytes : List ℕ
  pub text : List ℕ
  pub left : Option (List ℕ)
  pub after : World

-- one after the other was read and served
unfoldable pub Exchanges : (left : Option (List ℕ)) → (old : World) → List Exchange → (left_new : Option (List ℕ)) → (new : World) → Type 0
Exchanges left old [] left_new new = (left_new ≡ left) × (new ≡ old)
Exchanges left old (exchange ∷ others) left_new new =
    ReadsPacket exchange.came exchange.bytes left exchange.left
    × IsDone (arrived old exchange.came exchange.bytes) exchange.text exchange.after
    × Exchanges exchange.left exchange.after others left_new new

abbrev pub sent_text : List Exchange → List ℕ
sent_text [] = []
sent_text (exchange ∷ others) = exchange.text ++ sent_text others

-- so many packets were served, and what was written is what was sent of them
pub record Served (count : ℕ) (old new : World) (left left_new written written_new : Option (List ℕ)) : Type 0 where
  pub exchanges : List Exchange
  pub many : length exchanges ≡ count
  pub are : Exchanges left old exchanges left_new new
  pub sent : Appends written written_new (sent_text exchanges)

-- packets were served until the guest left
pub record ServedAll (old new : World) (left left_new written written_new : Option (List ℕ)) : Type 0 where
  pub count : ℕ
  pub left_last : Option (List ℕ)
  pub served : Served count old new left left_last written written_new
  pub leaves : Leaves left_last left_new

-- THE SESSION

-- the guest left before its hello: nothing but ours was written
pub record Unheard (old new : World) (left left_new written written_new : Option (List ℕ)) : Type 0 where
  pub said : Said false left left_new
  pub same : new ≡ old
  pub sent : Appends written written_new our_text

-- the hellos were said, what the disk is was told, and packets were served until the guest left
pub record Lent (old new : World) (left left_new written written_new : Option (List ℕ)) : Type 0 where
  pub left_said : Option (List ℕ)
  pub written_said : Option (List ℕ)
  pub written_told : Option (List ℕ)
  pub said : Said true left left_said
  pub hello : Appends written written_said our_text
  pub told : Appends written_said written_told disk_text
  pub served : ServedAll old new left_said left_new written_told written_new

-- A session that the guest ended.
abbrev pub Talked : (old new : World) → (left left_new written written_new : Option (List ℕ)) → Type 0
Talked old new left left_new written written_new =
    Unheard old new left left_new written written_new ⊎ Lent old new left left_new written written_new

-- ONE THAT A FAULT ENDED

-- a packet was read, and served up to some step
pub record PacketBroken (reason : UsbFault) (can_write : Bool) (old new : World) (left left_new written written_new : Option (List ℕ)) : Type 0 where
  pub came : Came
  pub bytes : List ℕ
  pub read : ReadsPacket came bytes left left_new
  pub broken : IsBroken (arrived old came bytes) new written written_new
  pub why : StepsFail reason can_write (arrived old came bytes) new

-- no further packet was read: none came whole, or 2^64 - 1 were served. The disk and its files stay, and nothing more was written.
pub record NoPacket (reason : UsbFault) (can_read : Bool) (count : ℕ) (old new : World) (left left_new written written_new : Option (List ℕ))
    : Type 0 where
  pub same : new ≡ old
  pub silent : written_new ≡ written
  pub why : Unread reason can_read left left_new ⊎ ((reason ≡ fault.TooMany) × (count ≡ 18446744073709551615))

-- packets were served, and then none was read, or one was served up to some step
pub record ServeBroken (reason : UsbFault) (can_read can_write : Bool) (old new : World) (left left_new written written_new : Option (List ℕ))
    : Type 0 where
  pub count : ℕ
  pub last : World
  pub left_last : Option (List ℕ)
  pub written_last : Option (List ℕ)
  pub served : Served count old last left left_last written written_last
  pub ends : NoPacket reason can_read count last new left_last left_new written_last written_new
      ⊎ PacketBroken reason can_write last new left_last left_new written_last written_new

-- what the disk is wasn't told whole
pub record Untold (reason : UsbFault) (can_write : Bool) (old new : World) (left left_new written written_new : Option (List ℕ)) : Type 0 where
  pub written_said : Option (List ℕ)
  pub said : Said true left left_new
  pub hello : Appends written written_said our_text
  pub began : Began written_said written_new disk_text
  pub same : new ≡ old
  pub why : (reason ≡ fault.Stream) × IsTrue can_write

-- it was, and packets were served until a fault
pub record LentBroken (reason : UsbFault) (can_read can_write : Bool) (old new : World) (left left_new written written_new : Option (List ℕ))
    : Type 0 where
  pub left_said : Option (List ℕ)
  pub written_said : Option (List ℕ)
  pub written_told : Option (List ℕ)
  pub said : Said true left left_said
  pub hello : Appends written written_said our_text
  pub told : Appends written_said written_told disk_text
  pub broken : ServeBroken reason can_read can_write old new left_said left_new written_told written_new

-- A session that a fault ended: at the hellos, or behind them.
abbrev pub TalkBroken : UsbFault → (can_read can_write : Bool) → (old new : World) → (left left_new written written_new : Option (List ℕ)) → Type 0
TalkBroken reason can_read can_write old new left left_new written written_new =
    ((new ≡ old) × GreetingBroken reason can_read can_write left left_new written written_new)
    ⊎ (Untold reason can_write old new left left_new written written_new
    ⊎ LentBroken reason can_read can_write old new left left_new written written_new)

-- THE RUN

-- The guest left, and each file was synced; `last` are the files before that.
pub record Ended (old new : World) (left left_new written written_new : Option (List ℕ)) : Type 0 where
  pub last : List Filed
  pub talked : Talked old (world new.device last) left left_new written written_new
  pub synced : AreSynced (Ok tt) last new.files

-- for want of memory nothing was done
pub record IsUnbegun (reason : UsbFault) (old new : World) (left left_new written written_new : Option (List ℕ)) : Type 0 where
  pub why : reason ≡ fault.NoMemory
  pub same : new ≡ old
  pub unread : left_new ≡ left
  pub silent : written_new ≡ written

-- A fault ended the session, or the guest left; then each file was synced, and where the guest left one of them failed.
pub record IsCutOff (reason : UsbFault) (can_read can_write : Bool) (old new : World) (left left_new written written_new : Option (List ℕ))
    : Type 0 where
  pub last : List Filed
  pub told : Result ⊤ UsbFault
  pub synced : AreSynced told last new.files
  pub how : TalkBroken reason can_read can_write old (world new.device last) left left_new written written_new
      ⊎ ((told ≡ Err reason) × Talked old (world new.device last) left left_new written written_new)

abbrev pub Failed : UsbFault → (can_read can_write : Bool) → (old new : World) → (left left_new written written_new : Option (List ℕ)) → Type 0
Failed reason can_read can_write old new left left_new written written_new =
    IsUnbegun reason old new left left_new written written_new
    ⊎ IsCutOff reason can_read can_write old new left left_new written written_new

-- A run that ended with this exit status: the fault behind it.
pub record Fails (exit : ℕ) (can_read can_write can_report : Bool) (old new : World)
    (left left_new written written_new faults faults_new : Option (List ℕ)) : Type 0 where
  pub reason : UsbFault
  pub reported : IsReported reason exit can_report faults faults_new
  pub failed : Failed reason can_read can_write old new left left_new written written_new
