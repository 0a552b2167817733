-- What a session that a fault ended has told is a beginning of what it tells.
use Rattle.std.specs.Prelude.{ℕ, Bool, List, [], ◌∷◌, ◌++◌, Option, ⊤}
use Rattle.std.specs.Io.KnownBytes.{Consumes}
use Rattle.nbd.specs.Handshake.{greeting_text}
use Rattle.byte_io.specs.Streams.{Began}
use Rattle.serve_run.specs.declared.fault.ServeFault.{ServeFault}
use Rattle.serve_run.specs.Broken.{TalkBroken}
use Rattle.serve_run.specs.Filed.{Exports, Filed}
use Rattle.serve_run.specs.Handshake.{Asked, IsAsked, answers_text, lacks_zeros, offered, options_text}
use Rattle.serve_run.specs.Transcript.{Answered, AreNamed, replies_text, requests_text}

abbrev pub AreAsked : List Asked → Type 0
AreAsked [] = ⊤
AreAsked (asked ∷ others) = IsAsked asked × AreAsked others

-- Of a client flags, options and requests were read, and `rest` behind them. What was written is a beginning of the greeting, of what the
-- options are told, and of the replies to the requests. These were done, each by the file as the ones before it left it.
pub record Begins (can_fail tells : Bool) (size : ℕ) (old new : Filed) (left left_new written written_new : Option (List ℕ)) : Type 0 where
  pub flags : List ℕ
  pub options : List Asked
  pub answers : List Answered
  pub rest : List ℕ
  pub asked : AreAsked options
  pub named : AreNamed answers
  pub read : Consumes left left_new ((flags ++ options_text options) ++ (requests_text answers ++ rest))
  pub began : Began written written_new ((greeting_text offered ++ answers_text size (lacks_zeros flags) options) ++ replies_text answers)
  pub exports : Exports can_fail tells size old answers new

-- whatever the fault
abbrev pub BrokenBegins : Type 0
BrokenBegins =
    (reason : ServeFault) (can_read can_write can_fail tells : Bool) (size : ℕ) (old new : Filed) (left left_new written written_new : Option (List ℕ))
    → TalkBroken reason can_read can_write can_fail tells size old new left left_new written written_new
    → Begins can_fail tells size old new left left_new written written_new
