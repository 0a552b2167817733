-- What a client and its disk say to each other: each request with what it is told, as bytes.
use Rattle.std.specs.Prelude.{ℕ, ◌==◌, Bool, List, [], ◌∷◌, ◌++◌, ⊤}
use Rattle.nbd.specs.declared.transmission.Command.{Command}
use Rattle.nbd.specs.declared.transmission.Command.TheVariants.{Read, Write, Disconnect, Flush, Other}
use Rattle.nbd.specs.declared.transmission.ErrorNumber.{ErrorNumber}
use Rattle.nbd.specs.declared.transmission.Request.{Request}
use Rattle.nbd.specs.Transmission.{IsCommand, reply_text, request_text}

-- A request that was answered: the bytes that it brought, which a WRITE does, the error that it was told, and the bytes that it was given,
-- which a READ is that was done.
pub record Answered : Type 0 where
  pub request : Request
  pub brought : List ℕ
  pub error : ErrorNumber
  pub given : List ℕ

-- BYTES

-- what the client wrote of it: the request, and behind it what it brought
unfoldable pub asked_text : Answered → List ℕ
asked_text answered = request_text answered.request ++ answered.brought

-- what was written to the client: the simple reply, with the request's own cookie, and behind it what was given
unfoldable pub told_text : Answered → List ℕ
told_text answered = reply_text (record { error = answered.error; cookie = answered.request.cookie }) ++ answered.given

-- all of them, in their order
abbrev pub requests_text : List Answered → List ℕ
requests_text [] = []
requests_text (answered ∷ others) = asked_text answered ++ requests_text others

abbrev pub replies_text : List Answered → List ℕ
replies_text [] = []
replies_text (answered ∷ others) = told_text answered ++ replies_text others

-- each has its command's own name: its bytes are those of no other request
abbrev pub AreNamed : List Answered → Type 0
AreNamed [] = ⊤
AreNamed (answered ∷ others) = IsCommand answered.request.command × AreNamed others

-- ONE REQUEST

-- FUA is the flag 1, and no other is offered
abbrev pub has_fua : Request → Bool
has_fua request = request.flags.0 == 1

-- how many bytes a request brings: a WRITE its length, served or refused
abbrev pub brought_bytes : Request → Command → ℕ
brought_bytes request Read = 0
brought_bytes request Write = request.length
brought_bytes request Disconnect = 0
brought_bytes request Flush = 0
brought_bytes request (Other number) = 0
