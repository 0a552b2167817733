-- What a session that a fault ended had read, done and told, and what the file is behind it.
use Rattle.std.specs.Prelude.{◌≡◌, ℕ, ◌⊎◌, Bool, true, false, IsTrue, List, length, Option, Some, Result, Err, ⊤}
use Rattle.std.specs.Io.KnownBytes.{Appends, Consumes}
use Rattle.nbd.specs.declared.handshake.OptionHead.{OptionHead}
use Rattle.nbd.specs.declared.transmission.Command.TheVariants.{Read, Write}
use Rattle.nbd.specs.declared.transmission.Request.{Request}
use Rattle.nbd.specs.Handshake.{greeting_text, option_in}
use Rattle.nbd.specs.Transmission.{IsCommand, request_in, request_text}
use Rattle.byte_io.specs.Streams.{Began}
use Rattle.serve_run.specs.declared.fault.ServeFault.{ServeFault}
use Rattle.serve_run.specs.declared.fault.ServeFault.TheVariants as fault
use Rattle.serve_run.specs.declared.handshake.Next.{Next}
use Rattle.serve_run.specs.Faults.{EndsBehind, IsCut, Misses, Sends, line_of, status_of}
use Rattle.serve_run.specs.Filed.{Filed, IsFlushed, IsKept}
use Rattle.serve_run.specs.Handshake.{OptionAnswered, ReadsHead, Shaken, Shaking, may_take, offered}
use Rattle.serve_run.specs.Sessions.{Answers, Talked, Turns}
use Rattle.serve_run.specs.Sizes.{blocks_in}

-- WHAT ISN'T OF THE PROTOCOL

abbrev pub AreNoFlags : List ℕ → Type 0
AreNoFlags bytes = may_take bytes ≡ false

abbrev pub IsNoOption : List ℕ → Type 0
IsNoOption bytes = option_in bytes ≡ Err (record {})

abbrev pub IsNoRequest : List ℕ → Type 0
IsNoRequest bytes = request_in bytes ≡ Err (record {})

-- THE HANDSHAKE

-- an option wasn't answered: its data weren't read whole, or what it is told wasn't written whole
abbrev pub Unanswered : ServeFault → (can_read can_write : Bool) → ℕ → Bool → OptionHead
    → (left left_new written written_new : Option (List ℕ)) → Type 0
Unanswered reason can_read can_write size lacks head left left_new written written_new =
    ((written_new ≡ written) × IsCut reason can_read 0 head.length left left_new)
    ⊎ ((onward : Next) × OptionAnswered size lacks head onward left left_new (Sends (Err reason) can_write written written_new))

pub record OptionBroken (reason : ServeFault) (can_read can_write : Bool) (size : ℕ) (lacks : Bool)
    (left left_new written written_new : Option (List ℕ)) : Type 0 where
  pub head : OptionHead
  pub left_read : Option (List ℕ)
  pub read : ReadsHead (Some head) left left_read
  pub ends : Unanswered reason can_read can_write size lacks head left_read left_new written written_new

-- options were answered, and then none was read, or one wasn't answered
pub record OptionsBroken (reason : ServeFault) (can_read can_write : Bool) (size : ℕ)
    (left left_new written written_new : Option (List ℕ)) : Type 0 where
  pub lacks : Bool
  pub count : ℕ
  pub left_told : Option (List ℕ)
  pub written_told : Option (List ℕ)
  pub shaking : Shaking size lacks count left left_told written written_told
  pub ends : ((written_new ≡ written_told) × EndsBehind fault.Handshake IsNoOption 16 reason can_read count left_told left_new)
      ⊎ OptionBroken reason can_read can_write size lacks left_told left_new written_told written_new

-- A fault ended a handshake: at the greeting, at the client's flags, or behind them.
abbrev pub HandshakeBroken : ServeFault → (can_read can_write : Bool) → ℕ → (left left_new written written_new : Option (List ℕ)) → Type 0
HandshakeBroken reason can_read can_write size left left_new written written_new =
    ((left_new ≡ left) × Sends (Err reason) can_write written written_new (greeting_text offered))
    ⊎ ((Appends written written_new (greeting_text offered) × Misses fault.Handshake AreNoFlags 4 reason can_read left left_new)
    ⊎ OptionsBroken reason can_read can_write size left left_new written written_new)

-- ONE REQUEST

-- memory for the bytes of a READ or a WRITE is wanting, or the data of a WRITE weren't read whole
abbrev pub LacksBytes : ServeFault → Bool → Request → (left left_new : Option (List ℕ)) → Type 0
LacksBytes reason can_read request left left_new =
    ((reason ≡ fault.NoMemory) × ((request.command ≡ Read) ⊎ (request.command ≡ Write)) × (left_new ≡ left))
    ⊎ ((request.command ≡ Write) × IsCut reason can_read 0 request.length left left_new)

-- a call that answers this didn't do the request, and told nothing of it
pub record Undone (result : Result (Unit {0}) ServeFault) (can_read : Bool) (request : Request)
    (left left_new written written_new : Option (List ℕ)) : Type 0 where
  pub reason : ServeFault
  pub is : result ≡ Err reason
  pub silent : written_new ≡ written
  pub lacks : LacksBytes reason can_read request left left_new

-- A request that was read is served by a call that answers this: it is done and its reply sent, or it isn't done, and the file stays.
abbrev pub Serves : Result (Unit {0}) ServeFault → (can_read can_write can_fail tells : Bool) → ℕ → (old new : Filed) → Request
    → (left left_new written written_new : Option (List ℕ)) → Type 0
Serves result can_read can_write can_fail tells size old new request left left_new written written_new =
    ((new ≡ old) × Undone result can_read request left left_new written written_new)
    ⊎ Answers can_fail tells size old new request left left_new (Sends result can_write written written_new)

-- THE TRANSMISSION

pub record RequestBroken (reason : ServeFault) (can_read can_write can_fail tells : Bool) (size : ℕ) (old new : Filed)
    (left left_new written written_new : Option (List ℕ)) : Type 0 where
  pub request : Request
  pub left_read : Option (List ℕ)
  pub read : Consumes left left_read (request_text request)
  pub named : IsCommand request.command
  pub serves : Serves (Err reason) can_read can_write can_fail tells size old new request left_read left_new written written_new

-- nothing of a request was read that is one: the file stays, and nothing more was written
pub record Unread (reason : ServeFault) (can_read : Bool) (count : ℕ) (old new : Filed)
    (left left_new written written_new : Option (List ℕ)) : Type 0 where
  pub same : new ≡ old
  pub silent : written_new ≡ written
  pub ends : EndsBehind fault.Request IsNoRequest 28 reason can_read count left left_new

-- A fault ended a transmission: requests were answered, and then none was read, or one wasn't done, or was done and wasn't told whole.
pub record TransmissionBroken (reason : ServeFault) (can_read can_write can_fail tells : Bool) (size : ℕ) (old new : Filed)
    (left left_new written written_new : Option (List ℕ)) : Type 0 where
  pub count : ℕ
  pub told : Filed
  pub left_told : Option (List ℕ)
  pub written_told : Option (List ℕ)
  pub turns : Turns can_fail tells size count old told left left_told written written_told
  pub ends : Unread reason can_read count told new left_told left_new written_told written_new
      ⊎ RequestBroken reason can_read can_write can_fail tells size told new left_told left_new written_told written_new

-- THE SESSION

pub record BrokenBehind (reason : ServeFault) (can_read can_write can_fail tells : Bool) (size : ℕ) (old new : Filed)
    (left left_new written written_new : Option (List ℕ)) : Type 0 where
  pub left_greeted : Option (List ℕ)
  pub written_greeted : Option (List ℕ)
  pub shaken : Shaken size true left left_greeted written written_greeted
  pub broken : TransmissionBroken reason can_read can_write can_fail tells size old new left_greeted left_new written_greeted written_new

-- A fault ended a session in its handshake, or behind it.
abbrev pub TalkBroken : ServeFault → (can_read can_write can_fail tells : Bool) → ℕ → (old new : Filed)
    → (left left_new written written_new : Option (List ℕ)) → Type 0
TalkBroken reason can_read can_write can_fail tells size old new left left_new written written_new =
    ((new ≡ old) × HandshakeBroken reason can_read can_write size left left_new written written_new)
    ⊎ BrokenBehind reason can_read can_write can_fail tells size old new left left_new written written_new

-- Behind a session the file was flushed: that was done, or the file can fail, and what was safe stays so.
pub record Broken (reason : ServeFault) (can_read can_write can_fail tells : Bool) (old new : Filed)
    (left left_new written written_new : Option (List ℕ)) : Type 0 where
  pub size : ℕ
  pub sized : IsTrue tells → length old.holds ≡ size
  pub last : Filed
  pub talked : TalkBroken reason can_read can_write can_fail tells size old last left left_new written written_new
      ⊎ ((reason ≡ fault.File) × IsTrue can_fail × Talked can_fail tells size old last left left_new written written_new)
  pub flushed : IsTrue tells → IsFlushed last new ⊎ (IsTrue can_fail × IsKept last new)

-- a file isn't served for its length, or for want of memory
abbrev pub IsUnserved : ServeFault → Bool → List ℕ → Type 0
IsUnserved (fault.Image is) tells holds = IsTrue tells → blocks_in (length holds) ≡ Err is
IsUnserved fault.File tells holds = ⊥
IsUnserved fault.NoMemory tells holds = ⊤
IsUnserved fault.Handshake tells holds = ⊥
IsUnserved fault.Request tells holds = ⊥
IsUnserved fault.Ended tells holds = ⊥
IsUnserved fault.Stream tells holds = ⊥
IsUnserved fault.TooMany tells holds = ⊥

-- no session began
pub record Unbegun (reason : ServeFault) (tells : Bool) (old new : Filed) (left left_new written written_new : Option (List ℕ)) : Type 0 where
  pub why : IsUnserved reason tells old.holds
  pub same : new ≡ old
  pub unread : left_new ≡ left
  pub silent : written_new ≡ written

-- A run that a fault ended.
abbrev pub Failed : ServeFault → (can_read can_write can_fail tells : Bool) → (old new : Filed)
    → (left left_new written written_new : Option (List ℕ)) → Type 0
Failed reason can_read can_write can_fail tells old new left left_new written written_new =
    Unbegun reason tells old new left left_new written written_new
    ⊎ Broken reason can_read can_write can_fail tells old new left left_new written written_new

-- A fault is reported by its exit status and its line: whole, where that can be written.
pub record IsReported (reason : ServeFault) (exit : ℕ) (can_fail : Bool) (faults faults_new : Option (List ℕ)) : Type 0 where
  pub status : exit ≡ status_of reason
  pub began : Began faults faults_new (line_of reason)
  pub line : can_fail ≡ false → Appends faults faults_new (line_of reason)

-- A run that ended with this exit status: the fault behind it.
pub record Fails (exit : ℕ) (can_read can_write can_report can_fail tells : Bool) (old new : Filed)
    (left left_new written written_new faults faults_new : Option (List ℕ)) : Type 0 where
  pub reason : ServeFault
  pub reported : IsReported reason exit can_report faults faults_new
  pub failed : Failed reason can_read can_write can_fail tells old new left left_new written written_new
