-- How a run ends.
use Rattle.std.specs.Prelude.{◌≡◌, ℕ, ◌<◌, ◌≤◌, Bool, false, IsTrue, List, ◌++◌, length, Option, Some, IfSome}
use Rattle.std.specs.Io.KnownBytes.{Appends, Keeps}
use Rattle.audit_run.specs.declared.TheConstants.{MAX_LOG_BYTES}
use Rattle.log_text.specs.Plain.{Plain}
use Rattle.audit_run.specs.declared.AuditFault.{AuditFault}
use Rattle.audit_run.specs.declared.HeadAt.{HeadAt}
use Rattle.audit_run.specs.declared.KeptState.{KeptState}
use Rattle.audit_run.specs.declared.AuditFault.TheVariants.{File, TooLarge, Text, Kept, Old, OtherHead, Replay, Output, NoMemory}
use Rattle.audit_run.specs.Audits.{IsAnswered, IsFileLog, IsRefusedBy, found_text, head_text, is_kept}
use Rattle.audit_run.specs.Faults.{status_of}

-- a log's text of the first or second version that has more bytes than one may have
abbrev pub IsTooLarge : List ℕ → Type 0
IsTooLarge bytes = (is_kept bytes ≡ false) × (MAX_LOG_BYTES < length bytes)

-- a file is answered, where this checksum is asked for, and that was written
pub record Tells (head : Option ℕ) (bytes : List ℕ) (old new : Option (List ℕ)) : Type 0 where
  pub within : is_kept bytes ≡ false → length bytes ≤ MAX_LOG_BYTES
  pub told : List ℕ
  pub is : IsAnswered head bytes told
  pub text : Appends old new told

-- what is wrong with a file's bytes that are known: there are too many, or what is wrong with their text
abbrev pub IsFaulty : Option ℕ → List ℕ → AuditFault → Type 0
IsFaulty head bytes File = ⊥
IsFaulty head bytes TooLarge = IsTooLarge bytes
IsFaulty head bytes (Text fault) = IsRefusedBy head bytes (Text fault)
IsFaulty head bytes (Kept fault) = IsRefusedBy head bytes (Kept fault)
IsFaulty head bytes (Old fault) = IsRefusedBy head bytes (Old fault)
IsFaulty head bytes OtherHead = IsRefusedBy head bytes OtherHead
IsFaulty head bytes (Replay fault) = IsRefusedBy head bytes (Replay fault)
IsFaulty head bytes Output = ⊥
IsFaulty head bytes NoMemory = ⊥

-- something is wrong with a file's bytes, other than want of memory
pub record IsRefused (head : Option ℕ) (bytes : List ℕ) : Type 0 where
  pub fault : AuditFault
  pub is : IsFaulty head bytes fault
  pub status : status_of fault ≡ 3

-- a file's bytes are a log's, and this is told of the checksum that is asked for
pub record IsFileOf (head : Option ℕ) (bytes : List ℕ) (log : Plain) (state : Option KeptState) (at : Option HeadAt) : Type 0 where
  pub within : is_kept bytes ≡ false → length bytes ≤ MAX_LOG_BYTES
  pub is : IsFileLog bytes log state
  pub found : head_text head bytes ≡ Some (found_text at)

-- Bytes of a text of the first or second version were read behind these: all that are left of it, or more than one may have.
pub record IsOlder (front bytes : List ℕ) (left : Option (List ℕ)) : Type 0 where
  pub older : is_kept bytes ≡ false
  pub whole : length bytes ≤ MAX_LOG_BYTES → IfSome left (λ back. bytes ≡ front ++ back)
  pub large : MAX_LOG_BYTES < length bytes → IfSome left (λ back. IsTooLarge (front ++ back))

-- what is told of a file's bytes
pub record IsTold (head : Option ℕ) (bytes told : List ℕ) : Type 0 where
  pub within : is_kept bytes ≡ false → length bytes ≤ MAX_LOG_BYTES
  pub is : IsAnswered head bytes told

-- a read gives up: the file's fault, where it can fail, or want of memory
abbrev pub CantRead : Bool → AuditFault → Type 0
CantRead can_fail File = IsTrue can_fail
CantRead can_fail TooLarge = ⊥
CantRead can_fail (Text fault) = ⊥
CantRead can_fail (Kept fault) = ⊥
CantRead can_fail (Old fault) = ⊥
CantRead can_fail OtherHead = ⊥
CantRead can_fail (Replay fault) = ⊥
CantRead can_fail Output = ⊥
CantRead can_fail NoMemory = Unit {0}

-- Nothing can be told of a file of which these bytes are the front: the file's fault, where it can fail, or what is wrong with its bytes,
-- where it is there and they are known; want of memory.
abbrev pub CantTell : Option ℕ → List ℕ → Option (List ℕ) → Bool → Bool → AuditFault → Type 0
CantTell head front left is_there can_fail File = IsTrue can_fail
CantTell head front left is_there can_fail TooLarge = IfSome left (λ back. IsTooLarge (front ++ back)) × IsTrue is_there
CantTell head front left is_there can_fail (Text fault) = IfSome left (λ back. IsRefusedBy head (front ++ back) (Text fault)) × IsTrue is_there
CantTell head front left is_there can_fail (Kept fault) = IfSome left (λ back. IsRefusedBy head (front ++ back) (Kept fault)) × IsTrue is_there
CantTell head front left is_there can_fail (Old fault) = IfSome left (λ back. IsRefusedBy head (front ++ back) (Old fault)) × IsTrue is_there
CantTell head front left is_there can_fail OtherHead = IfSome left (λ back. IsRefusedBy head (front ++ back) OtherHead) × IsTrue is_there
CantTell head front left is_there can_fail (Replay fault) = IfSome left (λ back. IsRefusedBy head (front ++ back) (Replay fault)) × IsTrue is_there
CantTell head front left is_there can_fail Output = ⊥
CantTell head front left is_there can_fail NoMemory = Unit {0}

-- The whole: the file's fault, where it can fail, or what is wrong with its bytes, where it is there and they are known, and nothing was
-- written; the writer's fault, where that can fail; want of memory, and nothing was written.
abbrev pub GivesUp : Option ℕ → Option (List ℕ) → Bool → Bool → Bool → Option (List ℕ) → Option (List ℕ) → AuditFault → Type 0
GivesUp head left is_there can_read_fail can_write_fail old new File = IsTrue can_read_fail × Keeps old new
GivesUp head left is_there can_read_fail can_write_fail old new TooLarge =
    IfSome left IsTooLarge × IsTrue is_there × Keeps old new
GivesUp head left is_there can_read_fail can_write_fail old new (Text fault) =
    IfSome left (λ bytes. IsRefusedBy head bytes (Text fault)) × IsTrue is_there × Keeps old new
GivesUp head left is_there can_read_fail can_write_fail old new (Kept fault) =
    IfSome left (λ bytes. IsRefusedBy head bytes (Kept fault)) × IsTrue is_there × Keeps old new
GivesUp head left is_there can_read_fail can_write_fail old new (Old fault) =
    IfSome left (λ bytes. IsRefusedBy head bytes (Old fault)) × IsTrue is_there × Keeps old new
GivesUp head left is_there can_read_fail can_write_fail old new OtherHead =
    IfSome left (λ bytes. IsRefusedBy head bytes OtherHead) × IsTrue is_there × Keeps old new
GivesUp head left is_there can_read_fail can_write_fail old new (Replay fault) =
    IfSome left (λ bytes. IsRefusedBy head bytes (Replay fault)) × IsTrue is_there × Keeps old new
GivesUp head left is_there can_read_fail can_write_fail old new Output = IsTrue can_write_fail
GivesUp head left is_there can_read_fail can_write_fail old new NoMemory = Keeps old new
