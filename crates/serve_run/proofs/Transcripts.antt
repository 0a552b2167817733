-- Requests that were answered, and one more.
use Rattle.std.proofs.Common.{◌≡◌, ℕ, ◌+◌, Bool, List, [], ◌∷◌, ◌++◌, Option, Result, Ok, Err}
use Rattle.std.proofs.Common.{refl, sym, ap, subst, ◌∙◌, inl, inr, append_assoc, append-nil, arith}
use Rattle.std.proofs.lemmas.List.{length-append}
use Rattle.std.specs.Io.KnownBytes.{Appends, Consumes}
use Rattle.std.proofs.KnownBytes.{Appends-nil, Appends-trans, Consumes-nil, Consumes-trans}
use Rattle.nbd.specs.declared.transmission.Request.{Request}
use Rattle.nbd.specs.Transmission.{IsCommand, request_text}
use Rattle.serve_run.specs.declared.fault.ServeFault.{ServeFault}
use Rattle.serve_run.specs.declared.fault.ServeFault.TheVariants as fault
use Rattle.serve_run.specs.Broken.{IsNoRequest, Serves, TransmissionBroken}
use Rattle.serve_run.specs.Faults.{EndsBehind}
use Rattle.serve_run.specs.Transcript.{Answered, AreNamed, asked_text, replies_text, requests_text, told_text}
use Rattle.serve_run.specs.Filed.{Exports, Filed, IsAnswered}
use Rattle.serve_run.specs.Sessions.{Answers, Leaves, Transmitted, Turns}
use Rattle.serve_run.proofs.Talking.{ok_err}

pub requests_text-then : (answers : List Answered) (a : Answered) → requests_text (answers ++ (a ∷ [])) ≡ requests_text answers ++ asked_text a
requests_text-then [] a = append-nil (asked_text a)
requests_text-then (b ∷ others) a =
    ap (λ (t : List ℕ). asked_text b ++ t) (requests_text-then others a) ∙ sym (append_assoc (asked_text b) (requests_text others) (asked_text a))

pub replies_text-then : (answers : List Answered) (a : Answered) → replies_text (answers ++ (a ∷ [])) ≡ replies_text answers ++ told_text a
replies_text-then [] a = append-nil (told_text a)
replies_text-then (b ∷ others) a =
    ap (λ (t : List ℕ). told_text b ++ t) (replies_text-then others a) ∙ sym (append_assoc (told_text b) (replies_text others) (told_text a))

pub AreNamed-then : (answers : List Answered) (a : Answered) → AreNamed answers → IsCommand a.request.command → AreNamed (answers ++ (a ∷ []))
AreNamed-then [] a are is = (is, tt)
AreNamed-then (b ∷ others) a are is = (are.0, AreNamed-then others a are.1 is)

-- no request changes nothing
pub Exports-none : (can_fail tells : Bool) (size : ℕ) (file : Filed) → Exports can_fail tells size file [] file
unfolding Exports
Exports-none can_fail tells size file = refl

-- one request more
pub Exports-then : (can_fail tells : Bool) (size : ℕ) (old middle new : Filed) (answers : List Answered) (a : Answered)
    → Exports can_fail tells size old answers middle → IsAnswered can_fail tells size middle new a
    → Exports can_fail tells size old (answers ++ (a ∷ [])) new
unfolding Exports
Exports-then can_fail tells size old middle new [] a done is =
    (new, subst (λ (file : Filed). IsAnswered can_fail tells size file new a) done is, refl)
Exports-then can_fail tells size old middle new (b ∷ others) a done is =
    (done.0, done.1, Exports-then can_fail tells size done.0 middle new others a done.2 is)

-- what is read of a request that is answered
pub asked : (a : Answered) (request : Request) (brought : List ℕ) (l m n : Option (List ℕ)) → a.request ≡ request → a.brought ≡ brought
    → Consumes l m (request_text request) → Consumes m n brought → Consumes l n (asked_text a)
unfolding asked_text
asked a request brought l m n asks brings head rest =
    Consumes-trans l m n (request_text a.request) a.brought (subst (λ (r : Request). Consumes l m (request_text r)) (sym asks) head)
    (subst (Consumes m n) (sym brings) rest)

-- before the first request
pub turns_none : (can_fail tells : Bool) (size : ℕ) (file : Filed) (left written : Option (List ℕ))
    → Turns can_fail tells size 0 file file left left written written
turns_none can_fail tells size file left written = record {
  answers = [];
  many = refl;
  named = tt;
  read = Consumes-nil left;
  sent = Appends-nil written;
  exports = Exports-none can_fail tells size file;
}

-- a request more was read and answered
pub turns_then : (can_fail tells : Bool) (size count : ℕ) (request : Request) (old middle new : Filed) (l lm lr ln w wm wn : Option (List ℕ))
    → Turns can_fail tells size count old middle l lm w wm → Consumes lm lr (request_text request) → IsCommand request.command
    → Answers can_fail tells size middle new request lr ln (Appends wm wn) → Turns can_fail tells size (count + 1) old new l ln w wn
turns_then can_fail tells size count request old middle new l lm lr ln w wm wn turns head named answer =
    let a : Answered = answer.replies.answered in
    record {
      answers = turns.answers ++ (a ∷ []);
      many = omega (arith, length-append turns.answers (a ∷ []), turns.many);
      named = AreNamed-then turns.answers a turns.named (subst (λ (r : Request). IsCommand r.command) (sym answer.replies.asks) named);
      read = subst (Consumes l ln) (sym (requests_text-then turns.answers a))
          (Consumes-trans l lm ln (requests_text turns.answers) (asked_text a) turns.read
          (asked a request answer.brought lm lr ln answer.replies.asks answer.replies.brings head answer.read));
      sent = subst (Appends w wn) (sym (replies_text-then turns.answers a))
          (Appends-trans w wm wn (replies_text turns.answers) (told_text a) turns.sent answer.replies.sent);
      exports = Exports-then can_fail tells size old middle new turns.answers a turns.exports answer.replies.is;
    }

-- the client left
pub transmitted : (can_fail tells : Bool) (size count : ℕ) (old new : Filed) (l lm ln w wn : Option (List ℕ))
    → Turns can_fail tells size count old new l lm w wn → Leaves lm ln → Transmitted can_fail tells size old new l ln w wn
transmitted can_fail tells size count old new l lm ln w wn turns leaves = record {
  answers = turns.answers;
  ending = leaves.ending;
  named = turns.named;
  how = leaves.how;
  read = Consumes-trans l lm ln (requests_text turns.answers) leaves.ending turns.read leaves.read;
  sent = turns.sent;
  exports = turns.exports;
}

-- what can fail, what the file tells and its size stay
pub serves_same : (r : Result (Unit {0}) ServeFault) (can_read now_read can_write now_write f g t u : Bool) (m n : ℕ) (old new : Filed) (request : Request)
    (l ln w wn : Option (List ℕ)) → now_read ≡ can_read → now_write ≡ can_write → g ≡ f → u ≡ t → n ≡ m
    → Serves r now_read now_write g u n old new request l ln w wn → Serves r can_read can_write f t m old new request l ln w wn
serves_same r can_read now_read can_write now_write f g t u m n old new request l ln w wn read written same told sized serves =
    subst (λ (b : Bool). Serves r b can_write f t m old new request l ln w wn) read
    (subst (λ (b : Bool). Serves r now_read b f t m old new request l ln w wn) written
    (subst (λ (b : Bool). Serves r now_read now_write b t m old new request l ln w wn) same
    (subst (λ (b : Bool). Serves r now_read now_write g b m old new request l ln w wn) told
    (subst (λ (size : ℕ). Serves r now_read now_write g u size old new request l ln w wn) sized serves))))

-- a request that is served was answered
pub served_answers : (can_read can_write f t : Bool) (m : ℕ) (old new : Filed) (request : Request) (l ln w wn : Option (List ℕ))
    → Serves (Ok tt) can_read can_write f t m old new request l ln w wn → Answers f t m old new request l ln (Appends w wn)
served_answers can_read can_write f t m old new request l ln w wn (inl undone) = absurd (ok_err undone.1.is)
served_answers can_read can_write f t m old new request l ln w wn (inr answers) = answers

-- none was read, behind those that were answered
pub broken_unread : (reason : ServeFault) (can_read now_read can_write f t : Bool) (size count : ℕ) (old new : Filed) (l lm ln w wn : Option (List ℕ)) → now_read ≡ can_read
    → Turns f t size count old new l lm w wn → EndsBehind fault.Request IsNoRequest 28 reason now_read count lm ln
    → TransmissionBroken reason can_read can_write f t size old new l ln w wn
broken_unread reason can_read now_read can_write f t size count old new l lm ln w wn read turns ends = record {
  count = count;
  told = new;
  left_told = lm;
  written_told = wn;
  turns = turns;
  ends = inl (record { same = refl; silent = refl; ends = subst (λ (b : Bool). EndsBehind fault.Request IsNoRequest 28 reason b count lm ln) read ends });
}

-- one was read, and that ended it
pub broken_request : (reason : ServeFault) (can_read can_write f t : Bool) (size count : ℕ) (request : Request) (old middle new : Filed)
    (l lm lr ln w wm wn : Option (List ℕ)) → Turns f t size count old middle l lm w wm → Consumes lm lr (request_text request)
    → IsCommand request.command → Serves (Err reason) can_read can_write f t size middle new request lr ln wm wn
    → TransmissionBroken reason can_read can_write f t size old new l ln w wn
broken_request reason can_read can_write f t size count request old middle new l lm lr ln w wm wn turns head named serves = record {
  count = count;
  told = middle;
  left_told = lm;
  written_told = wm;
  turns = turns;
  ends = inr (record { request = request; left_read = lr; read = head; named = named; serves = serves });
}

pub transmission_same : (reason : ServeFault) (can_read now_read can_write now_write f t : Bool) (size : ℕ) (old new : Filed)
    (l ln w wn : Option (List ℕ)) → now_read ≡ can_read → now_write ≡ can_write
    → TransmissionBroken reason now_read now_write f t size old new l ln w wn → TransmissionBroken reason can_read can_write f t size old new l ln w wn
transmission_same reason can_read now_read can_write now_write f t size old new l ln w wn read written broken =
    subst (λ (b : Bool). TransmissionBroken reason b can_write f t size old new l ln w wn) read
    (subst (λ (b : Bool). TransmissionBroken reason now_read b f t size old new l ln w wn) written broken)
