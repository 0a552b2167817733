-- What a session with one client does: the bytes that it reads of the client and writes to it, and what becomes of the file.
use Rattle.std.specs.Prelude.{◌≡◌, ℕ, ◌⊎◌, Bool, true, false, IsTrue, List, [], ◌++◌, length, Option}
use Rattle.std.specs.Io.KnownBytes.{Appends, Consumes, IsAtEnd}
use Rattle.nbd.specs.declared.transmission.Command.TheVariants.{Disconnect}
use Rattle.nbd.specs.declared.transmission.Request.{Request}
use Rattle.nbd.specs.Transmission.{request_text}
use Rattle.serve_run.specs.Filed.{Exports, Filed, IsAnswered}
use Rattle.serve_run.specs.Handshake.{Shaken}
use Rattle.serve_run.specs.Transcript.{Answered, AreNamed, replies_text, requests_text, told_text}

-- a client leaves by the end of its bytes, or by a disconnection; what stands behind that isn't read
abbrev pub IsLeaving : List ℕ → Option (List ℕ) → Type 0
IsLeaving ending left_new =
    ((ending ≡ []) × IsAtEnd left_new) ⊎ ((request : Request) × (request.command ≡ Disconnect) × (ending ≡ request_text request))

pub record Leaves (left left_new : Option (List ℕ)) : Type 0 where
  pub ending : List ℕ
  pub read : Consumes left left_new ending
  pub how : IsLeaving ending left_new

-- a request that brought these bytes is answered, and its reply is sent
pub record Replies (can_fail tells : Bool) (size : ℕ) (old new : Filed) (request : Request) (brought : List ℕ) (Sent : List ℕ → Type 0)
    : Type 0 where
  pub answered : Answered
  pub asks : answered.request ≡ request
  pub brings : answered.brought ≡ brought
  pub is : IsAnswered can_fail tells size old new answered
  pub sent : Sent (told_text answered)

-- a request that was read is answered: what it brings is read, and its reply is sent
pub record Answers (can_fail tells : Bool) (size : ℕ) (old new : Filed) (request : Request) (left left_new : Option (List ℕ))
    (Sent : List ℕ → Type 0) : Type 0 where
  pub brought : List ℕ
  pub read : Consumes left left_new brought
  pub replies : Replies can_fail tells size old new request brought Sent

-- so many requests were read and answered
pub record Turns (can_fail tells : Bool) (size count : ℕ) (old new : Filed) (left left_new written written_new : Option (List ℕ)) : Type 0 where
  pub answers : List Answered
  pub many : length answers ≡ count
  pub named : AreNamed answers
  pub read : Consumes left left_new (requests_text answers)
  pub sent : Appends written written_new (replies_text answers)
  pub exports : Exports can_fail tells size old answers new

-- Requests were read and answered until the client left: what was read is their bytes and how it left, what was written are the replies.
pub record Transmitted (can_fail tells : Bool) (size : ℕ) (old new : Filed) (left left_new written written_new : Option (List ℕ)) : Type 0 where
  pub answers : List Answered
  pub ending : List ℕ
  pub named : AreNamed answers
  pub how : IsLeaving ending left_new
  pub read : Consumes left left_new (requests_text answers ++ ending)
  pub sent : Appends written written_new (replies_text answers)
  pub exports : Exports can_fail tells size old answers new

-- the client left in the handshake: behind that nothing was read or written, and the file stays
pub record Left (old new : Filed) (left left_new written written_new : Option (List ℕ)) : Type 0 where
  pub same : new ≡ old
  pub read : left_new ≡ left
  pub sent : written_new ≡ written

-- Behind a handshake that began a transmission the client's requests were answered until it left.
abbrev pub Went : Bool → (can_fail tells : Bool) → ℕ → (old new : Filed) → (left left_new written written_new : Option (List ℕ)) → Type 0
Went true can_fail tells size old new left left_new written written_new = Transmitted can_fail tells size old new left left_new written written_new
Went false can_fail tells size old new left left_new written written_new = Left old new left left_new written written_new

-- A session, from the handshake on.
pub record Talked (can_fail tells : Bool) (size : ℕ) (old new : Filed) (left left_new written written_new : Option (List ℕ)) : Type 0 where
  pub begins : Bool
  pub left_greeted : Option (List ℕ)
  pub written_greeted : Option (List ℕ)
  pub shaken : Shaken size begins left left_greeted written written_greeted
  pub went : Went begins can_fail tells size old new left_greeted left_new written_greeted written_new

-- A file was served, with its own length as the export's: it holds what the session left in it, and all of that is safe.
pub record Served (can_fail tells : Bool) (old new : Filed) (left left_new written written_new : Option (List ℕ)) : Type 0 where
  pub size : ℕ
  pub sized : IsTrue tells → length old.holds ≡ size
  pub last : Filed
  pub talked : Talked can_fail tells size old last left left_new written written_new
  pub holds : IsTrue tells → new.holds ≡ last.holds
  pub safe : IsTrue tells → new.synced ≡ new.holds
