-- Replies, taken and read again.
use Rattle.std.proofs.Common.{◌≡◌, ℕ, zero, suc, ◌-◌, ◌^◌, ◌<◌, ◌≤◌, ◌==◌, ◌||◌, Bool, true, false, List, ◌++◌, length, Ok, refl, sym, ap, subst, ◌∙◌, append_assoc, arith, inl, inr}
use Rattle.std.specs.Prelude.{◌⊎◌}
use Rattle.std.proofs.lemmas.Bool.{eqb-true}
use Rattle.arrayvec.specs.ArrayVec.{ArrayVec}
use Rattle.scsi_cmd.specs.declared.Reply.{Reply}
use Rattle.scsi_cmd.specs.declared.Reply.TheVariants as replies
use Rattle.scsi_cmd.specs.Replies.{reply_tag, reply_ticket}
use Rattle.log_text.specs.declared.LogFault.TheVariants.{BadField}
use Rattle.log_text.specs.declared.SavedReply.{SavedReply}
use Rattle.log_text.specs.Text.{BodyFits, BufferFits, ReplyFits, SenseFits, buffer_text, field, reply_body, reply_kind, reply_text}
use Rattle.log_text.specs.Reading.{◌>>=◌, buffer_at, bytes_at, field_at, reply_at, reply_of, sense_at, status_at}
use Rattle.byte_numbers.specs.Bytes.{AreBytes}
use Rattle.log_text.proofs.ReadResults.{bind_ok, ok_is, test_ok}
use Rattle.log_text.proofs.TakenFields.{Reads, Taken, Takes, Within, bytes_again, bytes_taken_at, number_again, number_taken, reads_buffer, then_takes}
use Rattle.log_text.proofs.TakenSteps.{byte_within, client_within, tag_within, ticket_within}

-- SENSE

either : (a b : Bool) → (a || b) ≡ true → (a ≡ true) ⊎ (b ≡ true)
either true b e = inl refl
either false b e = inr e

-- none, or 18 bytes
sense_sized : (len : ℕ) (bytes : List ℕ) → length bytes ≡ len → (len == 0 || len == 18) ≡ true → SenseFits bytes
sense_sized len bytes is e =
    elim (either (len == 0) (len == 18) e) [
      | inl none ↦ inl (is ∙ eqb-true _ _ none)
      | inr some ↦ inr (is ∙ eqb-true _ _ some)
    ]

sense_taken : (bytes : List ℕ) (x : List ℕ × List ℕ) → AreBytes bytes → sense_at bytes ≡ Ok x → Taken (λ sense. field 1 (length sense) ++ sense) SenseFits bytes x
unfolding sense_at
sense_taken bytes x is e =
    let a = bind_ok (field_at 1 0 0xff bytes) _ x e in
    let size = test_ok (a.0.0 == 0 || a.0.0 == 18) BadField (bytes_at a.0.0 a.0.1) x a.2 in
    let len = number_taken BadField 1 0 0xff bytes a.0 is a.1 in
    let body = bytes_taken_at a.0.0 a.0.1 x len.takes.rest_bytes size.1 in
    record {
      takes = subst (λ (n : ℕ). Takes bytes (field 1 n ++ x.0) x.1) (sym body.fits.len) (then_takes len.takes body.takes);
      fits = sense_sized a.0.0 x.0 body.fits.len size.0;
    }

sense_within : (sense : List ℕ) → SenseFits sense → Within 1 0 0xff (length sense)
sense_within sense (inl none) = record { least = omega arith; most = omega (arith, none); wide = omega (arith, none) }
sense_within sense (inr some) = record { least = omega arith; most = omega (arith, some); wide = omega (arith, some) }

sense_test : (sense : List ℕ) → SenseFits sense → (length sense == 0 || length sense == 18) ≡ true
sense_test sense (inl none) = rw none refl
sense_test sense (inr some) = rw some refl

sense_again : (sense rest : List ℕ) → SenseFits sense → sense_at ((field 1 (length sense) ++ sense) ++ rest) ≡ Ok (sense, rest)
unfolding sense_at
sense_again sense rest fits =
    ap sense_at (append_assoc (field 1 (length sense)) sense rest)
    ∙ rw (number_again BadField 1 0 0xff (length sense) (sense ++ rest) (sense_within sense fits), sense_test sense fits)
    (bytes_again (length sense) sense rest (record { len = refl }))

-- EACH KIND

-- what stands behind kind, tag and ticket was taken
pub record BodyTaken (kind tag ticket : ℕ) (bytes : List ℕ) (x : Reply × List ℕ) : Type 0 where
  pub kind_is : reply_kind x.0 ≡ kind
  pub tag_is : reply_tag x.0 ≡ tag
  pub ticket_is : reply_ticket x.0 ≡ ticket
  pub taken : Taken reply_body BodyFits bytes x

status_taken : (tag ticket : ℕ) (bytes : List ℕ) (x : Reply × List ℕ) → AreBytes bytes → status_at tag ticket bytes ≡ Ok x → BodyTaken 1 tag ticket bytes x
unfolding status_at
status_taken tag ticket bytes x is e =
    let a = bind_ok (field_at 1 0 0xff bytes) _ x e in
    let b = bind_ok (sense_at a.0.1) _ x a.2 in
    let c = bind_ok (buffer_at b.0.1) _ x b.2 in
    let status = number_taken BadField 1 0 0xff bytes a.0 is a.1 in
    let sense = sense_taken a.0.1 b.0 status.takes.rest_bytes b.1 in
    let buffer = reads_buffer.taken b.0.1 c.0 sense.takes.rest_bytes c.1 in
    let made : Reply × List ℕ = (replies.Status tag ticket a.0.0 (record { items = b.0.0 }) c.0.0, c.0.1) in
    subst (λ (y : Reply × List ℕ). BodyTaken 1 tag ticket bytes y) (ok_is made x c.2) (record {
      kind_is = refl;
      tag_is = refl;
      ticket_is = refl;
      taken = record {
        takes = then_takes (then_takes status.takes sense.takes) buffer.takes;
        fits = (omega (arith, status.fits.most), sense.fits, buffer.fits);
      };
    })

aborted_taken : (tag ticket : ℕ) (bytes : List ℕ) (x : Reply × List ℕ) → AreBytes bytes
    → (buffer_at bytes >>= λ buffer. Ok (replies.Aborted tag ticket buffer.0, buffer.1)) ≡ Ok x → BodyTaken 2 tag ticket bytes x
aborted_taken tag ticket bytes x is e =
    let a = bind_ok (buffer_at bytes) (λ buffer. Ok (replies.Aborted tag ticket buffer.0, buffer.1)) x e in
    let buffer = reads_buffer.taken bytes a.0 is a.1 in
    let made : Reply × List ℕ = (replies.Aborted tag ticket a.0.0, a.0.1) in
    subst (λ (y : Reply × List ℕ). BodyTaken 2 tag ticket bytes y) (ok_is made x a.2) (record {
      kind_is = refl;
      tag_is = refl;
      ticket_is = refl;
      taken = record { takes = buffer.takes; fits = buffer.fits };
    })

code_taken : (tag ticket : ℕ) (bytes : List ℕ) (x : Reply × List ℕ) → AreBytes bytes
    → (field_at 1 0 0xff bytes >>= λ code. Ok (replies.Task tag ticket code.0, code.1)) ≡ Ok x → BodyTaken 3 tag ticket bytes x
code_taken tag ticket bytes x is e =
    let a = bind_ok (field_at 1 0 0xff bytes) (λ code. Ok (replies.Task tag ticket code.0, code.1)) x e in
    let code = number_taken BadField 1 0 0xff bytes a.0 is a.1 in
    let made : Reply × List ℕ = (replies.Task tag ticket a.0.0, a.0.1) in
    subst (λ (y : Reply × List ℕ). BodyTaken 3 tag ticket bytes y) (ok_is made x a.2) (record {
      kind_is = refl;
      tag_is = refl;
      ticket_is = refl;
      taken = record { takes = code.takes; fits = omega (arith, code.fits.most) };
    })

from_one_to_three : (P : ℕ → Type 0) → P 1 → P 2 → P 3 → (n : ℕ) → 1 ≤ n → n ≤ 3 → P n
from_one_to_three P a b c zero low small = absurd (omega arith)
from_one_to_three P a b c (suc zero) low small = a
from_one_to_three P a b c (suc (suc zero)) low small = b
from_one_to_three P a b c (suc (suc (suc zero))) low small = c
from_one_to_three P a b c (suc (suc (suc (suc n)))) low small = absurd (omega arith)

abbrev KindTaken : ℕ → Type 0
KindTaken kind = (tag ticket : ℕ) (bytes : List ℕ) (x : Reply × List ℕ) → AreBytes bytes → reply_of kind tag ticket bytes ≡ Ok x → BodyTaken kind tag ticket bytes x

reply_of_taken : (kind : ℕ) → 1 ≤ kind → kind ≤ 3 → KindTaken kind
unfolding reply_of
reply_of_taken =
    from_one_to_three KindTaken
    (λ tag ticket bytes x is e. status_taken tag ticket bytes x is e)
    (λ tag ticket bytes x is e. aborted_taken tag ticket bytes x is e)
    (λ tag ticket bytes x is e. code_taken tag ticket bytes x is e)

status_again : (tag ticket status : ℕ) (sense : ArrayVec ℕ) (buffer rest : List ℕ) → status < 2 ^ 8 → SenseFits sense.items → BufferFits buffer
    → status_at tag ticket (reply_body (replies.Status tag ticket status sense buffer) ++ rest) ≡ Ok (replies.Status tag ticket status sense buffer, rest)
unfolding status_at
status_again tag ticket status sense buffer rest s f b =
    let r2 : List ℕ = buffer_text buffer ++ rest in
    let r1 : List ℕ = (field 1 (length sense.items) ++ sense.items) ++ r2 in
    let regrouped : reply_body (replies.Status tag ticket status sense buffer) ++ rest ≡ field 1 status ++ r1 =
    append_assoc (field 1 status ++ (field 1 (length sense.items) ++ sense.items)) (buffer_text buffer) rest
    ∙ append_assoc (field 1 status) (field 1 (length sense.items) ++ sense.items) r2 in
    ap (status_at tag ticket) regrouped
    ∙ rw (number_again BadField 1 0 0xff status r1 (byte_within 0 0xff status (omega arith) (omega (arith, s)) (omega arith)), sense_again sense.items r2 f, reads_buffer.again buffer rest b) refl

reply_of_again : (reply : Reply) (rest : List ℕ) → BodyFits reply → reply_of (reply_kind reply) (reply_tag reply) (reply_ticket reply) (reply_body reply ++ rest) ≡ Ok (reply, rest)
unfolding reply_of
reply_of_again (replies.Status tag ticket status sense buffer) rest fits = status_again tag ticket status sense buffer rest fits.0 fits.1 fits.2
reply_of_again (replies.Aborted tag ticket buffer) rest fits = rw (reads_buffer.again buffer rest fits) refl
reply_of_again (replies.Task tag ticket code) rest fits =
    rw (number_again BadField 1 0 0xff code rest (byte_within 0 0xff code (omega arith) (omega (arith, fits)) (omega arith))) refl

-- A REPLY

reply_taken : (clients : ℕ) → 1 ≤ clients → (bytes : List ℕ) (x : SavedReply × List ℕ) → AreBytes bytes → reply_at clients bytes ≡ Ok x
    → Taken reply_text (ReplyFits clients) bytes x
unfolding reply_at
reply_taken clients some bytes x is e =
    let a = bind_ok (field_at 1 0 (clients - 1) bytes) _ x e in
    let b = bind_ok (field_at 1 1 3 a.0.1) _ x a.2 in
    let c = bind_ok (field_at 2 0 0xffff b.0.1) _ x b.2 in
    let d = bind_ok (field_at 8 0 (2 ^ 60 - 1) c.0.1) _ x c.2 in
    let f = bind_ok (reply_of b.0.0 c.0.0 d.0.0 d.0.1) _ x d.2 in
    let client = number_taken BadField 1 0 (clients - 1) bytes a.0 is a.1 in
    let kind = number_taken BadField 1 1 3 a.0.1 b.0 client.takes.rest_bytes b.1 in
    let tag = number_taken BadField 2 0 0xffff b.0.1 c.0 kind.takes.rest_bytes c.1 in
    let ticket = number_taken BadField 8 0 (2 ^ 60 - 1) c.0.1 d.0 tag.takes.rest_bytes d.1 in
    let body = reply_of_taken b.0.0 kind.fits.least kind.fits.most c.0.0 d.0.0 d.0.1 f.0 ticket.takes.rest_bytes f.1 in
    let kind-text : Takes a.0.1 (field 1 (reply_kind f.0.0)) b.0.1 = subst (λ (n : ℕ). Takes a.0.1 (field 1 n) b.0.1) (sym body.kind_is) kind.takes in
    let tag-text : Takes b.0.1 (field 2 (reply_tag f.0.0)) c.0.1 = subst (λ (n : ℕ). Takes b.0.1 (field 2 n) c.0.1) (sym body.tag_is) tag.takes in
    let ticket-text : Takes c.0.1 (field 8 (reply_ticket f.0.0)) d.0.1 = subst (λ (n : ℕ). Takes c.0.1 (field 8 n) d.0.1) (sym body.ticket_is) ticket.takes in
    let made : SavedReply × List ℕ = (record { client = a.0.0; reply = f.0.0 }, f.0.1) in
    subst (λ (y : SavedReply × List ℕ). Taken reply_text (ReplyFits clients) bytes y) (ok_is made x f.2) (record {
      takes = then_takes (then_takes (then_takes (then_takes client.takes kind-text) tag-text) ticket-text) body.taken.takes;
      fits = record {
        client = omega (arith, client.fits.most, some);
        tag = omega (arith, body.tag_is, tag.fits.most);
        ticket = omega (arith, body.ticket_is, ticket.fits.most);
        body = body.taken.fits;
      };
    })

kind_within : (reply : Reply) → Within 1 1 3 (reply_kind reply)
kind_within (replies.Status tag ticket status sense buffer) = byte_within 1 3 1 (omega arith) (omega arith) (omega arith)
kind_within (replies.Aborted tag ticket buffer) = byte_within 1 3 2 (omega arith) (omega arith) (omega arith)
kind_within (replies.Task tag ticket code) = byte_within 1 3 3 (omega arith) (omega arith) (omega arith)

reply_again : (clients : ℕ) → clients ≤ 31 → (saved : SavedReply) (rest : List ℕ) → ReplyFits clients saved → reply_at clients (reply_text saved ++ rest) ≡ Ok (saved, rest)
unfolding reply_at
reply_again clients few saved rest fits =
    let reply : Reply = saved.reply in
    let r4 : List ℕ = reply_body reply ++ rest in
    let r3 : List ℕ = field 8 (reply_ticket reply) ++ r4 in
    let r2 : List ℕ = field 2 (reply_tag reply) ++ r3 in
    let r1 : List ℕ = field 1 (reply_kind reply) ++ r2 in
    let f0 : List ℕ = field 1 saved.client in
    let f1 : List ℕ = field 1 (reply_kind reply) in
    let f2 : List ℕ = field 2 (reply_tag reply) in
    let f3 : List ℕ = field 8 (reply_ticket reply) in
    let regrouped : reply_text saved ++ rest ≡ field 1 saved.client ++ r1 =
    append_assoc (((f0 ++ f1) ++ f2) ++ f3) (reply_body reply) rest
    ∙ append_assoc ((f0 ++ f1) ++ f2) f3 r4 ∙ append_assoc (f0 ++ f1) f2 r3 ∙ append_assoc f0 f1 r2 in
    ap (reply_at clients) regrouped
    ∙ rw (
      number_again BadField 1 0 (clients - 1) saved.client r1 (client_within clients saved.client few fits.client),
      number_again BadField 1 1 3 (reply_kind reply) r2 (kind_within reply),
      number_again BadField 2 0 0xffff (reply_tag reply) r3 (tag_within (reply_tag reply) fits.tag),
      number_again BadField 8 0 (2 ^ 60 - 1) (reply_ticket reply) r4 (ticket_within (reply_ticket reply) fits.ticket),
      reply_of_again reply rest fits.body,
    ) refl

pub reads_reply : (clients : ℕ) → 1 ≤ clients → clients ≤ 31 → Reads (reply_at clients) reply_text (ReplyFits clients)
reads_reply clients some few = record { taken = reply_taken clients some; again = reply_again clients few }
