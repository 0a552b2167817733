-- A step's body is read again.
use Rattle.std.proofs.Common.{◌≡◌, ℕ, ◌^◌, ◌<◌, ◌≤◌, ◌==◌, Bool, true, false, cond, List, [], ◌∷◌, ◌++◌, length, Result, Ok, Err, Option, Some, None, refl, sym, ap, ◌∙◌, append_assoc, arith}
use Rattle.std.proofs.Math.Dec.{eqb-suc-zero}
use Rattle.std.proofs.lemmas.List.{append-nil, length-append}
use Rattle.scsi_cmd.specs.Replies.{reply_tag, reply_ticket}
use Rattle.shared_machine.specs.declared.Step as machine
use Rattle.log_text.specs.declared.LogFault.{LogFault}
use Rattle.log_text.specs.declared.LogFault.TheVariants.{BadField, TrailingBytes}
use Rattle.log_text.specs.declared.SavedReply.{SavedReply}
use Rattle.log_text.specs.declared.Version.TheVariants.{Second}
use Rattle.log_text.specs.Reading.{reply_at}
use Rattle.log_text.specs.Text.{ReplyFits, StepFits, field, reply_body, reply_kind, reply_text, step_text}
use Rattle.log_text.proofs.TakenFields.{number_again}
use Rattle.log_text.proofs.TakenSteps.{byte_within, reads_step}
use Rattle.log_text.proofs.TakenReplies.{reads_reply}
use Rattle.kept_log.specs.declared.Body.{Body}
use Rattle.kept_log.specs.declared.Body.TheVariants.{Step}
use Rattle.kept_log.specs.declared.Entry.{Entry}
use Rattle.kept_log.specs.declared.Entry.TheVariants.{Acted, Refused}
use Rattle.kept_log.specs.Form.{EntryFits, GivenFits, entry_text, given_text, is_take}
use Rattle.kept_log.specs.Reading.{acted_at, body_at, given_at, refused_at}
use Rattle.kept_log.proofs.TakenHead.{field_len}

abbrev body_result : Body → Result Body LogFault
body_result body = Ok body

not_empty : (bytes : List ℕ) → 1 ≤ length bytes → (length bytes == 0) ≡ false
not_empty [] some = absurd (omega arith)
not_empty (byte ∷ bytes) some = eqb-suc-zero (length bytes)

reply_there : (saved : SavedReply) → 1 ≤ length (reply_text saved)
reply_there saved =
    let f0 : List ℕ = field 1 saved.client in
    let f1 : List ℕ = field 1 (reply_kind saved.reply) in
    let f2 : List ℕ = field 2 (reply_tag saved.reply) in
    let f3 : List ℕ = field 8 (reply_ticket saved.reply) in
    omega (
      arith,
      length-append (((f0 ++ f1) ++ f2) ++ f3) (reply_body saved.reply),
      length-append ((f0 ++ f1) ++ f2) f3,
      length-append (f0 ++ f1) f2,
      length-append f0 f1,
      field_len 1 saved.client,
    )

chosen_take : (empty take : Bool) (x y z w : Result Body LogFault) → empty ≡ false → take ≡ true → y ≡ z → cond empty x (cond take y w) ≡ z
chosen_take true take x y z w p q e = absurd cc
chosen_take false true x y z w p q e = e
chosen_take false false x y z w p q e = absurd cc

given_again : (clients : ℕ) (step : machine.Step) (saved : SavedReply) → 1 ≤ clients → clients ≤ 31 → ReplyFits clients saved
    → given_at clients step (reply_text saved) ≡ Ok (Step (Acted step (Some saved)))
unfolding given_at
given_again clients step saved some few fits =
    let read : reply_at clients (reply_text saved) ≡ Ok (saved, []) =
    ap (reply_at clients) (sym (append-nil (reply_text saved))) ∙ (reads_reply clients some few).again saved [] fits in
    rw read refl

acted_again : (clients : ℕ) (step : machine.Step) (given : Option SavedReply) → 1 ≤ clients → clients ≤ 31 → StepFits Second clients step
    → GivenFits clients step given → acted_at clients (step_text step ++ given_text given) ≡ Ok (Step (Acted step given))
unfolding acted_at
acted_again clients step None some few fits given = rw ((reads_step Second clients some few).again step [] fits) refl
acted_again clients step (Some saved) some few fits given =
    rw ((reads_step Second clients some few).again step (reply_text saved) fits)
    (chosen_take (length (reply_text saved) == 0) (is_take step) (Ok (Step (Acted step None))) (given_at clients step (reply_text saved))
    (Ok (Step (Acted step (Some saved)))) (Err TrailingBytes) (not_empty (reply_text saved) (reply_there saved)) given.0
    (given_again clients step saved some few given.1))

refused_again : (clients : ℕ) (step : machine.Step) (number : ℕ) → 1 ≤ clients → clients ≤ 31 → StepFits Second clients step → 1 ≤ number → number < 2 ^ 8
    → refused_at clients (step_text step ++ field 1 number) ≡ Ok (Step (Refused step number))
unfolding refused_at
refused_again clients step number some few fits low high =
    let read = number_again BadField 1 1 0xff number [] (byte_within 1 0xff number low (omega (arith, high)) (omega arith)) in
    let alone : field 1 number ≡ field 1 number ++ [] = sym (append-nil (field 1 number)) in
    rw ((reads_step Second clients some few).again step (field 1 number) fits, alone, read) refl

pub entry_again : (clients : ℕ) (entry : Entry) → 1 ≤ clients → clients ≤ 31 → EntryFits clients entry → body_at clients (entry_text entry) ≡ Ok (Step entry)
unfolding body_at
entry_again clients (Acted step given) some few fits =
    ap (body_at clients) (append_assoc (field 1 1) (step_text step) (given_text given))
    ∙ rw (number_again BadField 1 1 3 1 (step_text step ++ given_text given) (byte_within 1 3 1 (omega arith) (omega arith) (omega arith)))
    (acted_again clients step given some few fits.0 fits.1)
entry_again clients (Refused step number) some few fits =
    ap (body_at clients) (append_assoc (field 1 2) (step_text step) (field 1 number))
    ∙ rw (number_again BadField 1 1 3 2 (step_text step ++ field 1 number) (byte_within 1 3 2 (omega arith) (omega arith) (omega arith)))
    (refused_again clients step number some few fits.0 fits.1 fits.2)
