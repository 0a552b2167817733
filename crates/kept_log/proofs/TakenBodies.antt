-- The bodies of records, taken and read again.
use Rattle.std.proofs.Common.{◌≡◌, ℕ, zero, suc, ◌^◌, ◌<◌, ◌≤◌, ◌==◌, Bool, true, false, cond, List, ◌++◌, length, Result, Ok, Err, Some, None, refl, sym, ap, subst, ◌∙◌, append_assoc, arith, inl, inr}
use Rattle.std.specs.Prelude.{◌⊎◌}
use Rattle.std.proofs.lemmas.Bool.{eqb-false, eqb-true}
use Rattle.std.proofs.lemmas.List.{append-nil, nil_from_length}
use Rattle.shared_machine.specs.declared.Step as machine
use Rattle.log_text.specs.declared.LogFault.{LogFault}
use Rattle.log_text.specs.declared.LogFault.TheVariants.{BadField, TrailingBytes}
use Rattle.log_text.specs.declared.Version.TheVariants.{Second}
use Rattle.log_text.specs.Reading.{field_at, reply_at, step_at}
use Rattle.log_text.specs.Text.{StepFits, field, reply_text, step_text}
use Rattle.log_text.proofs.Numbers.{IsBytes}
use Rattle.log_text.proofs.ReadResults.{bind_ok, test_ok}
use Rattle.log_text.proofs.TakenFields.{Takes, number_taken, then_takes}
use Rattle.log_text.proofs.TakenSteps.{reads_step}
use Rattle.log_text.proofs.TakenReplies.{reads_reply}
use Rattle.kept_log.specs.declared.Body.{Body}
use Rattle.kept_log.specs.declared.Body.TheVariants.{Step, End}
use Rattle.kept_log.specs.declared.Entry.TheVariants.{Acted, Refused}
use Rattle.kept_log.specs.Form.{EntryFits, end_text, entry_text, is_take, why_number}
use Rattle.kept_log.specs.Reading.{acted_at, body_at, end_at, given_at, refused_at, why_of}

-- the text of what a body says, and what fits
abbrev pub body_text : Body → List ℕ
body_text (Step entry) = entry_text entry
body_text (End count reason) = end_text count reason

abbrev pub BodyFits : ℕ → Body → Type 0
BodyFits clients (Step entry) = EntryFits clients entry
BodyFits clients (End count reason) = count < 2 ^ 64

pub record BodyTaken (clients : ℕ) (text : List ℕ) (body : Body) : Type 0 where
  pub text_is : text ≡ body_text body
  pub fits : BodyFits clients body

chosen : {A : Type 0} (b : Bool) (x y z : A) → cond b x y ≡ z → ((b ≡ true) × (x ≡ z)) ⊎ ((b ≡ false) × (y ≡ z))
chosen true x y z e = inl (refl, e)
chosen false x y z e = inr (refl, e)

abbrev body_result : Body → Result Body LogFault
body_result body = Ok body

is_body : (one other : Body) → body_result one ≡ body_result other → one ≡ other
is_body one other e = cc

no_body : (fault : LogFault) (body : Body) → Err fault ≡ body_result body → ⊥
no_body fault body e = absurd cc

-- bytes of which nothing is left
all_taken : (bytes text rest : List ℕ) → Takes bytes text rest → (length rest == 0) ≡ true → bytes ≡ text
all_taken bytes text rest takes none =
    takes.parts ∙ ap (λ (back : List ℕ). text ++ back) (nil_from_length rest (eqb-true _ _ none)) ∙ append-nil text

-- A STEP

given_taken : (clients : ℕ) (step : machine.Step) (bytes : List ℕ) (body : Body) → 1 ≤ clients → clients ≤ 31 → IsBytes bytes → is_take step ≡ true
    → StepFits Second clients step → given_at clients step bytes ≡ Ok body → BodyTaken clients (field 1 1 ++ (step_text step ++ bytes)) body
unfolding given_at
given_taken clients step bytes body some few is takes fits e =
    let a = bind_ok (reply_at clients bytes) _ body e in
    let reply = (reads_reply clients some few).taken bytes a.0 is a.1 in
    let ended = test_ok (length a.0.1 == 0) TrailingBytes (Ok (Step (Acted step (Some a.0.0)))) body a.2 in
    let bytes-are : bytes ≡ reply_text a.0.0 = all_taken bytes (reply_text a.0.0) a.0.1 reply.takes ended.0 in
    subst (λ (made : Body). BodyTaken clients (field 1 1 ++ (step_text step ++ bytes)) made) (is_body (Step (Acted step (Some a.0.0))) body ended.1) (record {
      text_is = ap (λ (back : List ℕ). field 1 1 ++ (step_text step ++ back)) bytes-are ∙ sym (append_assoc (field 1 1) (step_text step) (reply_text a.0.0));
      fits = (fits, (takes, reply.fits));
    })

acted_taken : (clients : ℕ) (bytes : List ℕ) (body : Body) → 1 ≤ clients → clients ≤ 31 → IsBytes bytes → acted_at clients bytes ≡ Ok body
    → BodyTaken clients (field 1 1 ++ bytes) body
unfolding acted_at
acted_taken clients bytes body some few is e =
    let a = bind_ok (step_at Second clients bytes) _ body e in
    let step = (reads_step Second clients some few).taken bytes a.0 is a.1 in
    elim (chosen (length a.0.1 == 0) _ _ _ a.2) [
      | inl alone ↦
          let bytes-are : bytes ≡ step_text a.0.0 = all_taken bytes (step_text a.0.0) a.0.1 step.takes alone.0 in
          subst (λ (made : Body). BodyTaken clients (field 1 1 ++ bytes) made) (is_body (Step (Acted a.0.0 None)) body alone.1) (record {
            text_is = ap (λ (back : List ℕ). field 1 1 ++ back) bytes-are ∙ sym (append-nil (field 1 1 ++ step_text a.0.0));
            fits = (step.fits, tt);
          })
      | inr more ↦ elim (chosen (is_take a.0.0) _ _ _ more.1) [
        | inl take ↦
            subst (λ (text : List ℕ). BodyTaken clients (field 1 1 ++ text) body) (sym step.takes.parts)
            (given_taken clients a.0.0 a.0.1 body some few step.takes.rest_bytes take.0 step.fits take.1)
        | inr other ↦ absurd (no_body TrailingBytes body other.1)
      ]
    ]

refused_taken : (clients : ℕ) (bytes : List ℕ) (body : Body) → 1 ≤ clients → clients ≤ 31 → IsBytes bytes → refused_at clients bytes ≡ Ok body
    → BodyTaken clients (field 1 2 ++ bytes) body
unfolding refused_at
refused_taken clients bytes body some few is e =
    let a = bind_ok (step_at Second clients bytes) _ body e in
    let b = bind_ok (field_at 1 1 0xff a.0.1) _ body a.2 in
    let step = (reads_step Second clients some few).taken bytes a.0 is a.1 in
    let number = number_taken BadField 1 1 0xff a.0.1 b.0 step.takes.rest_bytes b.1 in
    let ended = test_ok (length b.0.1 == 0) TrailingBytes (Ok (Step (Refused a.0.0 b.0.0))) body b.2 in
    let bytes-are : bytes ≡ step_text a.0.0 ++ field 1 b.0.0 = all_taken bytes (step_text a.0.0 ++ field 1 b.0.0) b.0.1 (then_takes step.takes number.takes) ended.0 in
    subst (λ (made : Body). BodyTaken clients (field 1 2 ++ bytes) made) (is_body (Step (Refused a.0.0 b.0.0)) body ended.1) (record {
      text_is = ap (λ (back : List ℕ). field 1 2 ++ back) bytes-are ∙ sym (append_assoc (field 1 2) (step_text a.0.0) (field 1 b.0.0));
      fits = (step.fits, number.fits.least, omega (arith, number.fits.most));
    })

-- THE END

why_back : (number : ℕ) → number ≤ 3 → why_number (why_of number) ≡ number
why_back zero few = refl
why_back (suc zero) few = refl
why_back (suc (suc zero)) few = refl
why_back (suc (suc (suc zero))) few = refl
why_back (suc (suc (suc (suc number)))) few = absurd (omega arith)

end_taken : (clients : ℕ) (bytes : List ℕ) (body : Body) → IsBytes bytes → end_at bytes ≡ Ok body → BodyTaken clients (field 1 3 ++ bytes) body
unfolding end_at
end_taken clients bytes body is e =
    let a = bind_ok (field_at 8 0 0xffffffffffffffff bytes) _ body e in
    let b = bind_ok (field_at 1 0 3 a.0.1) _ body a.2 in
    let count = number_taken BadField 8 0 0xffffffffffffffff bytes a.0 is a.1 in
    let reason = number_taken BadField 1 0 3 a.0.1 b.0 count.takes.rest_bytes b.1 in
    let ended = test_ok (length b.0.1 == 0) TrailingBytes (Ok (End a.0.0 (why_of b.0.0))) body b.2 in
    let bytes-are : bytes ≡ field 8 a.0.0 ++ field 1 b.0.0 = all_taken bytes (field 8 a.0.0 ++ field 1 b.0.0) b.0.1 (then_takes count.takes reason.takes) ended.0 in
    subst (λ (made : Body). BodyTaken clients (field 1 3 ++ bytes) made) (is_body (End a.0.0 (why_of b.0.0)) body ended.1) (record {
      text_is = ap (λ (back : List ℕ). field 1 3 ++ back) bytes-are ∙ sym (append_assoc (field 1 3) (field 8 a.0.0) (field 1 b.0.0))
          ∙ ap (λ n. (field 1 3 ++ field 8 a.0.0) ++ field 1 n) (sym (why_back b.0.0 reason.fits.most));
      fits = omega (arith, count.fits.most);
    })

-- A BODY

pub body_taken : (clients : ℕ) (bytes : List ℕ) (body : Body) → 1 ≤ clients → clients ≤ 31 → IsBytes bytes → body_at clients bytes ≡ Ok body
    → BodyTaken clients bytes body
unfolding body_at
body_taken clients bytes body some few is e =
    let a = bind_ok (field_at 1 1 3 bytes) _ body e in
    let kind = number_taken BadField 1 1 3 bytes a.0 is a.1 in
    let whole : (n : ℕ) → a.0.0 ≡ n → BodyTaken clients (field 1 n ++ a.0.1) body → BodyTaken clients bytes body = λ n same taken.
    subst (λ (text : List ℕ). BodyTaken clients text body) (ap (λ m. field 1 m ++ a.0.1) (sym same) ∙ sym kind.takes.parts) taken in
    elim (chosen (a.0.0 == 1) _ _ _ a.2) [
      | inl one ↦ whole 1 (eqb-true _ _ one.0) (acted_taken clients a.0.1 body some few kind.takes.rest_bytes one.1)
      | inr more ↦ elim (chosen (a.0.0 == 2) _ _ _ more.1) [
        | inl two ↦ whole 2 (eqb-true _ _ two.0) (refused_taken clients a.0.1 body some few kind.takes.rest_bytes two.1)
        | inr other ↦
            whole 3 (omega (arith, kind.fits.least, kind.fits.most, eqb-false a.0.0 1 more.0, eqb-false a.0.0 2 other.0))
            (end_taken clients a.0.1 body kind.takes.rest_bytes other.1)
      ]
    ]
