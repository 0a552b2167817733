-- A request that was answered, by its command.
use Rattle.std.proofs.Common.{◌≡◌, ◌≢◌, ◌⊎◌, ℕ, Bool, true, false, List, [], ◌++◌, length, take, drop, Option, Result, Ok, Err}
use Rattle.std.proofs.Common.{refl, sym, ap, subst, ◌∙◌, inl, inr, append-nil}
use Rattle.std.specs.Prelude.{IsTrue, OnErr, OnOk}
use Rattle.std.specs.Io.KnownBytes.{Consumes}
use Rattle.std.proofs.KnownBytes.{Consumes-nil}
use Rattle.file_disk.specs.Written.{written_over}
use Rattle.file_disk.specs.declared.DiskFault.{DiskFault}
use Rattle.nbd.specs.declared.transmission.Command.{Command}
use Rattle.nbd.specs.declared.transmission.Command.TheVariants.{Read, Write, Flush}
use Rattle.nbd.specs.declared.transmission.ErrorNumber.{ErrorNumber}
use Rattle.nbd.specs.declared.transmission.ErrorNumber.TheVariants as error
use Rattle.nbd.specs.declared.transmission.Request.{Request}
use Rattle.byte_io.specs.Streams.{Gave}
use Rattle.nbd.specs.Transmission.{reply_text}
use Rattle.serve_run.specs.declared.fault.ServeFault.{ServeFault}
use Rattle.serve_run.specs.declared.fault.ServeFault.TheVariants as fault
use Rattle.serve_run.specs.Broken.{Serves, Undone}
use Rattle.serve_run.specs.Faults.{Sends}
use Rattle.serve_run.specs.Serves.{error_of, refusal_of}
use Rattle.serve_run.specs.Transcript.{Answered, brought_bytes, has_fua, told_text}
use Rattle.serve_run.specs.Filed.{Filed, IsTold}
use Rattle.serve_run.specs.Sessions.{Answers, Replies}

-- a reply with nothing behind it
told_alone : (Sent : List ℕ → Type 0) (a : Answered) → a.given ≡ []
    → Sent (reply_text (record { error = a.error; cookie = a.request.cookie })) → Sent (told_text a)
unfolding told_text
told_alone Sent a none sent =
    let head : List ℕ = reply_text (record { error = a.error; cookie = a.request.cookie }) in
    subst (λ (given : List ℕ). Sent (head ++ given)) (sym none) (subst Sent (sym (append-nil head)) sent)

-- a request that is served: what it is told, and what the file is then
served_replies : (can_fail tells : Bool) (size : ℕ) (old new : Filed) (a : Answered) (command : Command) (Sent : List ℕ → Type 0)
    → refusal_of size a.request ≡ error.None → a.request.command ≡ command → length a.brought ≡ brought_bytes a.request command
    → IsTold can_fail tells old new a command → Sent (told_text a) → Replies can_fail tells size old new a.request a.brought Sent
served_replies can_fail tells size old new a command Sent served named brought told sent = record {
  answered = a;
  asks = refl;
  brings = refl;
  is = record {
    brought = brought ∙ ap (brought_bytes a.request) (sym named);
    served = λ _. subst (IsTold can_fail tells old new a) (sym named) told;
    refused = λ denied. absurd (denied served);
  };
  sent = sent;
}

-- A READ
pub read_done : (can_fail tells : Bool) (size : ℕ) (file : Filed) (request : Request) (given : List ℕ) (Sent : List ℕ → Type 0)
    → refusal_of size request ≡ error.None → request.command ≡ Read → length given ≡ request.length
    → (IsTrue tells → given ≡ take (length given) (drop request.offset file.holds))
    → Sent (reply_text (record { error = error.None; cookie = request.cookie }) ++ given)
    → Replies can_fail tells size file file request [] Sent
unfolding told_text
read_done can_fail tells size file request given Sent served named len holds sent =
    let a : Answered = record { request = request; brought = []; error = error.None; given = given } in
    let bytes : IsTrue tells → given ≡ take request.length (drop request.offset file.holds) =
    λ t. holds t ∙ ap (λ (n : ℕ). take n (drop request.offset file.holds)) len in
    served_replies can_fail tells size file file a Read Sent served named refl (refl, inl (record { told = refl; len = len; given = bytes })) sent

pub read_failed : (can_fail tells : Bool) (size : ℕ) (file : Filed) (request : Request) (Sent : List ℕ → Type 0)
    → refusal_of size request ≡ error.None → request.command ≡ Read → IsTrue can_fail
    → Sent (reply_text (record { error = error.Io; cookie = request.cookie })) → Replies can_fail tells size file file request [] Sent
read_failed can_fail tells size file request Sent served named can sent =
    let a : Answered = record { request = request; brought = []; error = error.Io; given = [] } in
    served_replies can_fail tells size file file a Read Sent served named refl (refl, inr (record { can = can; told = refl; given = refl }))
    (told_alone Sent a refl sent)

-- A WRITE
pub write_answers : (can_fail tells : Bool) (size : ℕ) (old new : Filed) (request : Request) (bytes : List ℕ) (done : Result (Unit {0}) DiskFault)
    (l ln : Option (List ℕ)) (Sent : List ℕ → Type 0) → refusal_of size request ≡ error.None → request.command ≡ Write → length bytes ≡ request.length
    → (has_fua request ≡ false → new.synced ≡ old.synced)
    → OnOk done (IsTrue tells → new.holds ≡ written_over old.holds request.offset bytes)
    → OnOk done (has_fua request ≡ true → IsTrue tells → new.synced ≡ new.holds)
    → OnErr done (IsTrue tells → new.synced ≡ old.synced) → (IsTrue tells → length new.holds ≡ length old.holds) → OnErr done (IsTrue can_fail)
    → Consumes l ln bytes → Sent (reply_text (record { error = error_of done; cookie = request.cookie }))
    → Answers can_fail tells size old new request l ln Sent
write_answers can_fail tells size old new request bytes (Ok done) l ln Sent served named len plain holds safe kept same can read sent =
    let a : Answered = record { request = request; brought = bytes; error = error.None; given = [] } in
    record {
      brought = bytes;
      read = read;
      replies = served_replies can_fail tells size old new a Write Sent served named len
          (plain, inl (record { told = refl; given = refl }, λ t. record { holds = holds t; safe = λ fua. safe fua t }))
          (told_alone Sent a refl sent);
    }
write_answers can_fail tells size old new request bytes (Err failed) l ln Sent served named len plain holds safe kept same can read sent =
    let a : Answered = record { request = request; brought = bytes; error = error.Io; given = [] } in
    record {
      brought = bytes;
      read = read;
      replies = served_replies can_fail tells size old new a Write Sent served named len
          (plain, inr (record { can = can; told = refl; given = refl }, λ t. record { len = same t; safe = kept t }))
          (told_alone Sent a refl sent);
    }

-- A FLUSH
pub flush_replies : (can_fail tells : Bool) (size : ℕ) (old new : Filed) (request : Request) (done : Result (Unit {0}) DiskFault)
    (Sent : List ℕ → Type 0) → refusal_of size request ≡ error.None → request.command ≡ Flush
    → OnOk done (IsTrue tells → new.holds ≡ old.holds) → OnOk done (IsTrue tells → new.synced ≡ new.holds)
    → OnErr done (IsTrue tells → new.synced ≡ old.synced) → (IsTrue tells → length new.holds ≡ length old.holds) → OnErr done (IsTrue can_fail)
    → Sent (reply_text (record { error = error_of done; cookie = request.cookie })) → Replies can_fail tells size old new request [] Sent
flush_replies can_fail tells size old new request (Ok done) Sent served named holds safe kept same can sent =
    let a : Answered = record { request = request; brought = []; error = error.None; given = [] } in
    served_replies can_fail tells size old new a Flush Sent served named refl
    (inl (record { told = refl; given = refl }, λ t. record { holds = holds t; safe = safe t ∙ holds t })) (told_alone Sent a refl sent)
flush_replies can_fail tells size old new request (Err failed) Sent served named holds safe kept same can sent =
    let a : Answered = record { request = request; brought = []; error = error.Io; given = [] } in
    served_replies can_fail tells size old new a Flush Sent served named refl
    (inr (record { can = can; told = refl; given = refl }, λ t. record { len = same t; safe = kept t })) (told_alone Sent a refl sent)

-- a request that brings nothing
pub replies_serve : (r : Result (Unit {0}) ServeFault) (can_read can_write can_fail tells : Bool) (size : ℕ) (old new : Filed) (request : Request)
    (l w wn : Option (List ℕ)) → Replies can_fail tells size old new request [] (Sends r can_write w wn)
    → Serves r can_read can_write can_fail tells size old new request l l w wn
replies_serve r can_read can_write can_fail tells size old new request l w wn replies =
    inr (record { brought = []; read = Consumes-nil l; replies = replies })

-- a READ, or memory for it was wanting
pub read_serves : (r : Result (Unit {0}) ServeFault) (can_read can_write can_fail tells : Bool) (size : ℕ) (file : Filed) (request : Request)
    (l w wn : Option (List ℕ)) → request.command ≡ Read
    → ((r ≡ Err fault.NoMemory) × (wn ≡ w)) ⊎ Replies can_fail tells size file file request [] (Sends r can_write w wn)
    → Serves r can_read can_write can_fail tells size file file request l l w wn
read_serves r can_read can_write can_fail tells size file request l w wn named (inl wants) =
    inl (refl, record { reason = fault.NoMemory; is = wants.0; silent = wants.1; lacks = inl (refl, inl named, refl) })
read_serves r can_read can_write can_fail tells size file request l w wn named (inr replies) =
    replies_serve r can_read can_write can_fail tells size file file request l w wn replies

-- a request that is refused
pub refusal_serves : (r : Result (Unit {0}) ServeFault) (can_read can_write can_fail tells : Bool) (size : ℕ) (file : Filed) (request : Request)
    (refusal : ErrorNumber) (l ln w wn : Option (List ℕ)) → refusal ≡ refusal_of size request → refusal ≢ error.None
    → Undone r can_read request l ln w wn ⊎ (Gave l ln (brought_bytes request request.command)
    × Sends r can_write w wn (reply_text (record { error = refusal; cookie = request.cookie })))
    → Serves r can_read can_write can_fail tells size file file request l ln w wn
refusal_serves r can_read can_write can_fail tells size file request refusal l ln w wn is denied (inl undone) = inl (refl, undone)
refusal_serves r can_read can_write can_fail tells size file request refusal l ln w wn is denied (inr done) =
    let a : Answered = record { request = request; brought = done.0.bytes; error = refusal; given = [] } in
    inr (record {
      brought = done.0.bytes;
      read = done.0.read;
      replies = record {
        answered = a;
        asks = refl;
        brings = refl;
        is = record {
          brought = done.0.len;
          served = λ yes. absurd (denied (is ∙ yes));
          refused = λ _. record { told = is; given = refl; same = refl };
        };
        sent = told_alone (Sends r can_write w wn) a refl done.1;
      };
    })
