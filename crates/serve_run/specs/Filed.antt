-- What a file that is served holds, what a request is told of it, and what the file is then.
use Rattle.std.specs.Prelude.{◌≡◌, ◌≢◌, ℕ, ◌⊎◌, Bool, true, false, IsTrue, List, [], ◌∷◌, length, take, drop}
use Rattle.file_disk.specs.Written.{written_over}
use Rattle.nbd.specs.declared.transmission.Command.{Command}
use Rattle.nbd.specs.declared.transmission.Command.TheVariants.{Read, Write, Disconnect, Flush, Other}
use Rattle.nbd.specs.declared.transmission.ErrorNumber.TheVariants as error
use Rattle.serve_run.specs.Serves.{refusal_of}
use Rattle.serve_run.specs.Transcript.{Answered, brought_bytes, has_fua}

-- what a file holds, and what of it is safe: the bytes that it held when it was last made safe
pub record Filed : Type 0 where
  pub holds : List ℕ
  pub synced : List ℕ

abbrev pub filed : List ℕ → List ℕ → Filed
filed holds synced = record { holds = holds; synced = synced }

-- ONE REQUEST

-- A request failed, as only the file can: it is told EIO, and given nothing.
pub record HasFailed (can_fail : Bool) (answered : Answered) : Type 0 where
  pub can : IsTrue can_fail
  pub told : answered.error ≡ error.Io
  pub given : answered.given ≡ []

-- A READ was done: it is given as many bytes as it asks for, and where the file tells its bytes, those that it holds there.
pub record IsRead (tells : Bool) (old : Filed) (answered : Answered) : Type 0 where
  pub told : answered.error ≡ error.None
  pub len : length answered.given ≡ answered.request.length
  pub given : IsTrue tells → answered.given ≡ take answered.request.length (drop answered.request.offset old.holds)

-- A WRITE or a FLUSH was done: it is given nothing.
pub record IsDone (answered : Answered) : Type 0 where
  pub told : answered.error ≡ error.None
  pub given : answered.given ≡ []

-- a WRITE that was done changed just the bytes that it names, and with FUA what the file holds is safe
pub record IsWritten (old new : Filed) (answered : Answered) : Type 0 where
  pub holds : new.holds ≡ written_over old.holds answered.request.offset answered.brought
  pub safe : has_fua answered.request ≡ true → new.synced ≡ new.holds

-- a FLUSH that was done made safe what the file held
pub record IsFlushed (old new : Filed) : Type 0 where
  pub holds : new.holds ≡ old.holds
  pub safe : new.synced ≡ old.holds

-- a write or a sync that failed made nothing safe, and what was safe stays so
pub record IsKept (old new : Filed) : Type 0 where
  pub len : length new.holds ≡ length old.holds
  pub safe : new.synced ≡ old.synced

-- What a request that is served is told, by its command, and what the file is then. A WRITE without FUA makes nothing safe. A disconnection
-- is never answered.
abbrev pub IsTold : (can_fail tells : Bool) → (old new : Filed) → Answered → Command → Type 0
IsTold can_fail tells old new answered Read = (new ≡ old) × (IsRead tells old answered ⊎ HasFailed can_fail answered)
IsTold can_fail tells old new answered Write =
    (has_fua answered.request ≡ false → new.synced ≡ old.synced)
    × ((IsDone answered × (IsTrue tells → IsWritten old new answered))
    ⊎ (HasFailed can_fail answered × (IsTrue tells → IsKept old new)))
IsTold can_fail tells old new answered Disconnect = ⊥
IsTold can_fail tells old new answered Flush =
    (IsDone answered × (IsTrue tells → IsFlushed old new))
    ⊎ (HasFailed can_fail answered × (IsTrue tells → IsKept old new))
IsTold can_fail tells old new answered (Other number) = ⊥

-- A request is refused for this reason: it is given nothing, and changes nothing.
pub record IsRefused (size : ℕ) (old new : Filed) (answered : Answered) : Type 0 where
  pub told : answered.error ≡ refusal_of size answered.request
  pub given : answered.given ≡ []
  pub same : new ≡ old

-- A request was answered, by a file of so many bytes: `can_fail` says whether the file can fail, and `tells` whether it tells its bytes.
pub record IsAnswered (can_fail tells : Bool) (size : ℕ) (old new : Filed) (answered : Answered) : Type 0 where
  pub brought : length answered.brought ≡ brought_bytes answered.request answered.request.command
  pub served : refusal_of size answered.request ≡ error.None → IsTold can_fail tells old new answered answered.request.command
  pub refused : refusal_of size answered.request ≢ error.None → IsRefused size old new answered

-- ALL REQUESTS

-- Requests were answered, one after the other, each by the file as the ones before it left it; `new` is the file behind the last.
unfoldable pub Exports : (can_fail tells : Bool) → (size : ℕ) → (old : Filed) → List Answered → (new : Filed) → Type 0
Exports can_fail tells size old [] new = new ≡ old
Exports can_fail tells size old (answered ∷ others) new =
    (middle : Filed) × IsAnswered can_fail tells size old middle answered × Exports can_fail tells size middle others new
