-- The hellos: ours is written unasked, and the guest's is read.
use Rattle.std.specs.Prelude.{◌≡◌, ℕ, ◌⊎◌, Bool, true, false, List, [], ◌++◌, length, Option, Result, Ok, Err, if◌then◌else◌}
use Rattle.std.specs.Io.KnownBytes.{Appends, Consumes, IsAtEnd}
use Rattle.usbredir.specs.declared.PacketFault.{PacketFault}
use Rattle.usbredir.specs.declared.PacketFault.TheVariants as packet
use Rattle.usbredir.specs.declared.hello.Hello.{Hello}
use Rattle.usbredir.specs.Hello.{hello_head, hello_in, hello_room, hello_text, is_enough, our_hello}
use Rattle.usbredir.specs.Kinds.{hello_head_in, hello_head_text}
use Rattle.usb_serve.specs.declared.fault.UsbFault.{UsbFault}
use Rattle.usb_serve.specs.declared.fault.UsbFault.TheVariants as fault
use Rattle.usb_serve.specs.Faults.{IsCut, Sends}

-- our hello, as it is written
abbrev pub our_text : List ℕ
our_text = hello_head_text (hello_head our_hello) ++ hello_text our_hello

-- what a hello lacks
abbrev pub judged_hello : Result Hello PacketFault → Result (Unit {0}) PacketFault
judged_hello (Ok hello) = if is_enough hello then Ok tt else Err packet.MissingCapability
judged_hello (Err refusal) = Err refusal

abbrev pub judged : List ℕ → Result (Unit {0}) PacketFault
judged bytes = judged_hello (hello_in bytes)

-- a hello was read: 12 bytes of head, and as many behind it as that says
pub record ReadsHello (head bytes : List ℕ) (left left_new : Option (List ℕ)) : Type 0 where
  pub left_read : Option (List ℕ)
  pub first : Consumes left left_read head
  pub behind : Consumes left_read left_new bytes
  pub len : length head ≡ 12
  pub room : hello_room (hello_head_in head) ≡ Ok (length bytes)

-- the guest left before its hello, or said one that is enough
abbrev pub Said : Bool → (left left_new : Option (List ℕ)) → Type 0
Said false left left_new = Consumes left left_new [] × IsAtEnd left_new
Said true left left_new = (head : List ℕ) × (bytes : List ℕ) × ReadsHello head bytes left left_new × (judged bytes ≡ Ok tt)

-- its head says no hello
pub record IsNoHello (reason : UsbFault) (left left_new : Option (List ℕ)) : Type 0 where
  pub head : List ℕ
  pub refusal : PacketFault
  pub read : Consumes left left_new head
  pub len : length head ≡ 12
  pub refused : hello_room (hello_head_in head) ≡ Err refusal
  pub is : reason ≡ fault.Packet refusal

-- it wasn't read whole behind its head
pub record IsCutHello (reason : UsbFault) (can_fail : Bool) (left left_new : Option (List ℕ)) : Type 0 where
  pub head : List ℕ
  pub count : ℕ
  pub left_read : Option (List ℕ)
  pub read : Consumes left left_read head
  pub len : length head ≡ 12
  pub room : hello_room (hello_head_in head) ≡ Ok count
  pub cut : IsCut reason can_fail 0 count left_read left_new

-- it was read, and isn't enough
pub record IsPoorHello (reason : UsbFault) (left left_new : Option (List ℕ)) : Type 0 where
  pub head : List ℕ
  pub bytes : List ℕ
  pub refusal : PacketFault
  pub read : ReadsHello head bytes left left_new
  pub refused : judged bytes ≡ Err refusal
  pub is : reason ≡ fault.Packet refusal

abbrev pub Unsaid : UsbFault → Bool → (left left_new : Option (List ℕ)) → Type 0
Unsaid reason can_fail left left_new =
    IsCut reason can_fail 1 12 left left_new
    ⊎ (IsNoHello reason left left_new ⊎ (IsCutHello reason can_fail left left_new ⊎ IsPoorHello reason left left_new))

-- our hello wasn't written whole, or was, and the guest's hello wasn't said
abbrev pub GreetingBroken : UsbFault → (can_read can_write : Bool) → (left left_new written written_new : Option (List ℕ)) → Type 0
GreetingBroken reason can_read can_write left left_new written written_new =
    ((left_new ≡ left) × Sends (Err reason) can_write written written_new our_text)
    ⊎ (Appends written written_new our_text × Unsaid reason can_read left left_new)
