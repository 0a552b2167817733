-- What a session that a fault ended has told begins what it tells: the handshake, and then the requests.
use Rattle.std.proofs.Common.{◌≡◌, ◌∙◌, ◌⊎◌, ℕ, Bool, true, List, [], ◌∷◌, ◌++◌, Option, Err, inl, inr, sym, ap, subst, append_assoc, append-nil}
use Rattle.std.specs.Io.KnownBytes.{Appends, Consumes}
use Rattle.std.proofs.KnownBytes.{Consumes-nil, Consumes-trans}
use Rattle.nbd.specs.declared.transmission.Request.{Request}
use Rattle.nbd.specs.Handshake.{greeting_text}
use Rattle.nbd.specs.Transmission.{IsCommand, request_text}
use Rattle.byte_io.specs.Streams.{Began}
use Rattle.serve_run.specs.declared.fault.ServeFault.{ServeFault}
use Rattle.serve_run.specs.declared.fault.ServeFault.TheVariants as fault
use Rattle.serve_run.specs.Beginnings.{AreAsked, Begins, BrokenBegins}
use Rattle.serve_run.specs.Broken.{AreNoFlags, HandshakeBroken, IsNoOption, IsNoRequest, LacksBytes, OptionBroken, OptionsBroken, RequestBroken, Serves}
use Rattle.serve_run.specs.Broken.{TransmissionBroken, Unanswered, Unread}
use Rattle.serve_run.specs.Faults.{EndsBehind, Misses, Sends}
use Rattle.serve_run.specs.Filed.{Exports, Filed}
use Rattle.serve_run.specs.Handshake.{AreAnswered, Asked, EndsWith, Shaken, Shaking, answers_text, lacks_zeros, offered, options_text, told_text as option_told_text}
use Rattle.serve_run.specs.Sessions.{Turns}
use Rattle.serve_run.specs.Transcript.{Answered, AreNamed, asked_text, replies_text, requests_text, told_text}
use Rattle.serve_run.proofs.Handshakes.{answers_text-then, more_read, turned}
use Rattle.serve_run.proofs.Sending.{began_then}
use Rattle.serve_run.proofs.Transcripts.{AreNamed-then, Exports-none, Exports-then, asked, replies_text-then, requests_text-then}

-- WHAT WAS READ OF A MESSAGE THAT IS NONE

misses_rest : (refusal reason : ServeFault) (refuses : List ℕ → Type 0) (count : ℕ) (can : Bool) (l n : Option (List ℕ))
    → Misses refusal refuses count reason can l n → (rest : List ℕ) × Consumes l n rest
misses_rest refusal reason refuses count can l n (inl cut) = (cut.gave.bytes, cut.gave.read)
misses_rest refusal reason refuses count can l n (inr foreign) = (foreign.1.bytes, foreign.1.read)

ends_rest : (refusal reason : ServeFault) (refuses : List ℕ → Type 0) (count messages : ℕ) (can : Bool) (l n : Option (List ℕ))
    → EndsBehind refusal refuses count reason can messages l n → (rest : List ℕ) × Consumes l n rest
ends_rest refusal reason refuses count messages can l n (inl misses) = misses_rest refusal reason refuses count can l n misses
ends_rest refusal reason refuses count messages can l n (inr many) = ([], subst (λ (o : Option (List ℕ)). Consumes l o []) (sym many.2) (Consumes-nil l))

-- OPTIONS

AreAsked-then : (options last : List Asked) → AreAnswered options → AreAsked last → AreAsked (options ++ last)
AreAsked-then [] last are is = is
AreAsked-then (a ∷ others) last are is = (are.0, AreAsked-then others last are.2 is)

began_whole : (w x : Option (List ℕ)) (bytes : List ℕ) → Appends w x bytes → Began w x bytes
began_whole w x bytes all = record { part = bytes; rest = []; front = append-nil bytes; wrote = all }

-- a session without a request
begins_alone : (can_fail tells : Bool) (size : ℕ) (file : Filed) (flags : List ℕ) (options : List Asked) (rest : List ℕ) (l n w x : Option (List ℕ))
    → AreAsked options → Consumes l n ((flags ++ options_text options) ++ rest)
    → Began w x (greeting_text offered ++ answers_text size (lacks_zeros flags) options) → Begins can_fail tells size file file l n w x
begins_alone can_fail tells size file flags options rest l n w x are read began = record {
  flags = flags;
  options = options;
  answers = [];
  rest = rest;
  asked = are;
  named = tt;
  read = read;
  began = subst (Began w x) (sym (append-nil (greeting_text offered ++ answers_text size (lacks_zeros flags) options))) began;
  exports = Exports-none can_fail tells size file;
}

-- THE HANDSHAKE

option_begins : (reason : ServeFault) (can_read can_write can_fail tells : Bool) (size : ℕ) (lacks : Bool) (count : ℕ) (file : Filed)
    (l m n w x y : Option (List ℕ)) → Shaking size lacks count l m w x → (broken : OptionBroken reason can_read can_write size lacks m n x y)
    → Unanswered reason can_read can_write size lacks broken.head broken.left_read n x y → Begins can_fail tells size file file l n w y
option_begins reason can_read can_write can_fail tells size lacks count file l m n w x y s broken (inl cut) =
    let rest : List ℕ = broken.read.0 ++ cut.1.gave.bytes in
    begins_alone can_fail tells size file s.flags s.options rest l n w y (subst AreAsked (append-nil s.options) (AreAsked-then s.options [] s.answered tt))
    (Consumes-trans l m n (s.flags ++ options_text s.options) rest s.read
    (Consumes-trans m broken.left_read n broken.read.0 cut.1.gave.bytes broken.read.1 cut.1.gave.read))
    (subst (λ (b : Bool). Began w y (greeting_text offered ++ answers_text size b s.options)) (sym s.zeros)
    (began_whole w y _ (subst (λ (o : Option (List ℕ)). Appends w o (greeting_text offered ++ answers_text size lacks s.options)) (sym cut.0) s.sent)))
option_begins reason can_read can_write can_fail tells size lacks count file l m n w x y s broken (inr told) =
    let turn = turned size lacks broken.head told.0 m broken.left_read n (Sends (Err reason) can_write x y) broken.read told.1 in
    let a : Asked = turn.asked in
    let text : List ℕ = greeting_text offered ++ answers_text size lacks s.options in
    let whole : text ++ option_told_text size lacks a ≡ greeting_text offered ++ answers_text size lacks (s.options ++ (a ∷ [])) =
    append_assoc (greeting_text offered) (answers_text size lacks s.options) (option_told_text size lacks a)
    ∙ ap (λ (t : List ℕ). greeting_text offered ++ t) (sym (answers_text-then size lacks s.options a)) in
    begins_alone can_fail tells size file s.flags (s.options ++ (a ∷ [])) [] l n w y (AreAsked-then s.options (a ∷ []) s.answered (turn.is, tt))
    (subst (Consumes l n) (sym (append-nil (s.flags ++ options_text (s.options ++ (a ∷ []))))) (more_read s.flags s.options a l m n s.read turn.read))
    (subst (λ (b : Bool). Began w y (greeting_text offered ++ answers_text size b (s.options ++ (a ∷ [])))) (sym s.zeros)
    (subst (Began w y) whole (began_then w x y text (option_told_text size lacks a) s.sent turn.sent.2)))

options_begin : (reason : ServeFault) (can_read can_write can_fail tells : Bool) (size : ℕ) (file : Filed) (l n w y : Option (List ℕ))
    (broken : OptionsBroken reason can_read can_write size l n w y)
    → ((y ≡ broken.written_told) × EndsBehind fault.Handshake IsNoOption 16 reason can_read broken.count broken.left_told n)
    ⊎ OptionBroken reason can_read can_write size broken.lacks broken.left_told n broken.written_told y → Begins can_fail tells size file file l n w y
options_begin reason can_read can_write can_fail tells size file l n w y broken (inl none) =
    let s = broken.shaking in
    let rest = ends_rest fault.Handshake reason IsNoOption 16 broken.count can_read broken.left_told n none.1 in
    begins_alone can_fail tells size file s.flags s.options rest.0 l n w y (subst AreAsked (append-nil s.options) (AreAsked-then s.options [] s.answered tt))
    (Consumes-trans l broken.left_told n (s.flags ++ options_text s.options) rest.0 s.read rest.1)
    (subst (λ (b : Bool). Began w y (greeting_text offered ++ answers_text size b s.options)) (sym s.zeros)
    (began_whole w y _ (subst (λ (o : Option (List ℕ)). Appends w o (greeting_text offered ++ answers_text size broken.lacks s.options)) (sym none.0) s.sent)))
options_begin reason can_read can_write can_fail tells size file l n w y broken (inr option) =
    option_begins reason can_read can_write can_fail tells size broken.lacks broken.count file l broken.left_told n w broken.written_told y broken.shaking option option.ends

handshake_begins : (reason : ServeFault) (can_read can_write can_fail tells : Bool) (size : ℕ) (file : Filed) (l n w y : Option (List ℕ))
    → HandshakeBroken reason can_read can_write size l n w y → Begins can_fail tells size file file l n w y
handshake_begins reason can_read can_write can_fail tells size file l n w y (inl greeted) =
    begins_alone can_fail tells size file [] [] [] l n w y tt (subst (λ (o : Option (List ℕ)). Consumes l o []) (sym greeted.0) (Consumes-nil l))
    (subst (Began w y) (sym (append-nil (greeting_text offered))) greeted.1.2)
handshake_begins reason can_read can_write can_fail tells size file l n w y (inr (inl taken)) =
    let rest = misses_rest fault.Handshake reason AreNoFlags 4 can_read l n taken.1 in
    begins_alone can_fail tells size file [] [] rest.0 l n w y tt rest.1
    (subst (Began w y) (sym (append-nil (greeting_text offered))) (began_whole w y (greeting_text offered) taken.0))
handshake_begins reason can_read can_write can_fail tells size file l n w y (inr (inr options)) =
    options_begin reason can_read can_write can_fail tells size file l n w y options options.ends

-- THE TRANSMISSION

AreAsked-last : (last : List Asked) (l : Option (List ℕ)) → EndsWith true last l → AreAsked last
AreAsked-last last l ends = subst AreAsked (sym ends.1) (ends.2, tt)

-- requests behind a handshake
begins_behind : (can_fail tells : Bool) (size : ℕ) (old new : Filed) (answers : List Answered) (rest : List ℕ) (l m n w x y : Option (List ℕ))
    → Shaken size true l m w x → AreNamed answers → Consumes m n (requests_text answers ++ rest) → Began x y (replies_text answers)
    → Exports can_fail tells size old answers new → Begins can_fail tells size old new l n w y
begins_behind can_fail tells size old new answers rest l m n w x y s named read began exports = record {
  flags = s.flags;
  options = s.options ++ s.last;
  answers = answers;
  rest = rest;
  asked = AreAsked-then s.options s.last s.answered (AreAsked-last s.last m s.ends);
  named = named;
  read = Consumes-trans l m n (s.flags ++ options_text (s.options ++ s.last)) (requests_text answers ++ rest) s.read read;
  began = began_then w x y (greeting_text offered ++ answers_text size (lacks_zeros s.flags) (s.options ++ s.last)) (replies_text answers) s.sent began;
  exports = exports;
}

-- a request that was read and not done
undone_rest : (reason : ServeFault) (can : Bool) (request : Request) (l m : Option (List ℕ)) → LacksBytes reason can request l m
    → (rest : List ℕ) × Consumes l m rest
undone_rest reason can request l m (inl wants) = ([], subst (λ (o : Option (List ℕ)). Consumes l o []) (sym wants.2) (Consumes-nil l))
undone_rest reason can request l m (inr cut) = (cut.1.gave.bytes, cut.1.gave.read)

request_begins : (reason : ServeFault) (can_read can_write can_fail tells : Bool) (size count : ℕ) (old told new : Filed)
    (l m k n w x y z : Option (List ℕ)) → Shaken size true l m w x → Turns can_fail tells size count old told m k x y
    → (broken : RequestBroken reason can_read can_write can_fail tells size told new k n y z)
    → Serves (Err reason) can_read can_write can_fail tells size told new broken.request broken.left_read n y z
    → Begins can_fail tells size old new l n w z
request_begins reason can_read can_write can_fail tells size count old told new l m k n w x y z s turns broken (inl undone) =
    let rest = undone_rest undone.1.reason can_read broken.request broken.left_read n undone.1.lacks in
    let text : List ℕ = request_text broken.request in
    begins_behind can_fail tells size old new turns.answers (text ++ rest.0) l m n w x z s turns.named
    (Consumes-trans m k n (requests_text turns.answers) (text ++ rest.0) turns.read (Consumes-trans k broken.left_read n text rest.0 broken.read rest.1))
    (began_whole x z _ (subst (λ (o : Option (List ℕ)). Appends x o (replies_text turns.answers)) (sym undone.1.silent) turns.sent))
    (subst (λ (file : Filed). Exports can_fail tells size old turns.answers file) (sym undone.0) turns.exports)
request_begins reason can_read can_write can_fail tells size count old told new l m k n w x y z s turns broken (inr done) =
    let a : Answered = done.replies.answered in
    let answers : List Answered = turns.answers ++ (a ∷ []) in
    begins_behind can_fail tells size old new answers [] l m n w x z s
    (AreNamed-then turns.answers a turns.named (subst (λ (r : Request). IsCommand r.command) (sym done.replies.asks) broken.named))
    (subst (Consumes m n) (sym (requests_text-then turns.answers a) ∙ sym (append-nil (requests_text answers)))
    (Consumes-trans m k n (requests_text turns.answers) (asked_text a) turns.read
    (asked a broken.request done.brought k broken.left_read n done.replies.asks done.replies.brings broken.read done.read)))
    (subst (Began x z) (sym (replies_text-then turns.answers a)) (began_then x y z (replies_text turns.answers) (told_text a) turns.sent done.replies.sent.2))
    (Exports-then can_fail tells size old told new turns.answers a turns.exports done.replies.is)

transmission_begins : (reason : ServeFault) (can_read can_write can_fail tells : Bool) (size : ℕ) (old new : Filed) (l m n w x z : Option (List ℕ))
    → Shaken size true l m w x → (broken : TransmissionBroken reason can_read can_write can_fail tells size old new m n x z)
    → Unread reason can_read broken.count broken.told new broken.left_told n broken.written_told z
    ⊎ RequestBroken reason can_read can_write can_fail tells size broken.told new broken.left_told n broken.written_told z
    → Begins can_fail tells size old new l n w z
transmission_begins reason can_read can_write can_fail tells size old new l m n w x z s broken (inl unread) =
    let turns = broken.turns in
    let rest = ends_rest fault.Request reason IsNoRequest 28 broken.count can_read broken.left_told n unread.ends in
    begins_behind can_fail tells size old new turns.answers rest.0 l m n w x z s turns.named
    (Consumes-trans m broken.left_told n (requests_text turns.answers) rest.0 turns.read rest.1)
    (began_whole x z _ (subst (λ (o : Option (List ℕ)). Appends x o (replies_text turns.answers)) (sym unread.silent) turns.sent))
    (subst (λ (file : Filed). Exports can_fail tells size old turns.answers file) (sym unread.same) turns.exports)
transmission_begins reason can_read can_write can_fail tells size old new l m n w x z s broken (inr request) =
    request_begins reason can_read can_write can_fail tells size broken.count old broken.told new l m broken.left_told n w x broken.written_told z s
    broken.turns request request.serves

-- THE SESSION

pub broken_begins : BrokenBegins
broken_begins reason can_read can_write can_fail tells size old new l n w z (inl shaken) =
    subst (λ (file : Filed). Begins can_fail tells size old file l n w z) (sym shaken.0)
    (handshake_begins reason can_read can_write can_fail tells size old l n w z shaken.1)
broken_begins reason can_read can_write can_fail tells size old new l n w z (inr behind) =
    transmission_begins reason can_read can_write can_fail tells size old new l behind.left_greeted n w behind.written_greeted z behind.shaken behind.broken
    behind.broken.ends
