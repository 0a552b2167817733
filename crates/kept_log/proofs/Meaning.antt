-- What a text that is loaded has: its log's text, and what a cut has left.
use Rattle.std.proofs.Common.{◌≡◌, ℕ, ◌==◌, Bool, true, false, cond, List, [], ◌++◌, length, drop, Result, Ok, Err, Option, Some, None, refl, sym, ap, subst, ◌∙◌, arith}
use Rattle.std.proofs.lemmas.Bool.{eqb-true}
use Rattle.std.proofs.lemmas.List.{append-nil, length-append, nil_from_length}
use Rattle.uas_log.specs.declared.FirstUnit.{FirstUnit}
use Rattle.log_records.specs.checksum.Bytes.{AreBytes}
use Rattle.log_records.proofs.Bytes.{bytes_back, bytes_dropped, bytes_taken}
use Rattle.log_records.specs.declared.First.{First}
use Rattle.log_records.specs.declared.First.TheVariants.{Nothing, Whole, Torn, Wrong}
use Rattle.log_records.specs.Finding.{behind, body_len, body_of, first_record}
use Rattle.log_records.specs.Records.{record_text}
use Rattle.log_records.proofs.Found.{found_record, nothing_there}
use Rattle.log_text.specs.declared.LogFault.{LogFault}
use Rattle.log_text.proofs.TakenLog.{few_clients}
use Rattle.kept_log.specs.declared.Body.{Body}
use Rattle.kept_log.specs.declared.Body.TheVariants as bodies
use Rattle.kept_log.specs.declared.Entry.{Entry}
use Rattle.kept_log.specs.declared.KeptFault.{KeptFault}
use Rattle.kept_log.specs.declared.KeptFault.TheVariants.{BehindEnd, TooMany, WrongCount}
use Rattle.kept_log.specs.declared.Loaded.{Loaded}
use Rattle.kept_log.specs.declared.Next.{Next}
use Rattle.kept_log.specs.declared.Next.TheVariants.{Goes, Ends}
use Rattle.kept_log.specs.declared.Why.{Why}
use Rattle.kept_log.specs.Form.{Kept, end_text, front_sum, front_text, kept_text}
use Rattle.kept_log.specs.Loading.{IsKept, IsLoaded, StandsIn, next_at, of_body, of_first}
use Rattle.kept_log.specs.Reading.{body_at}
use Rattle.kept_log.proofs.TakenBodies.{body_taken}

abbrev next_result : Next → Result Next KeptFault
next_result next = Ok next

abbrev body_result : Body → Result Body LogFault
body_result body = Ok body

pub ends_are : (ending other : Option Why) (torn cut : Option ℕ) → next_result (Ends ending torn) ≡ next_result (Ends other cut) → (ending ≡ other) × (torn ≡ cut)
ends_are ending other torn cut e = (cc, cc)

-- THE END

-- an end of as many steps, with nothing behind it
pub record IsEnd (count : ℕ) (rest : List ℕ) (read : Result Body LogFault) (ending : Option Why) (torn : Option ℕ) : Type 0 where
  pub reason : Why
  pub read_is : read ≡ body_result (bodies.End count reason)
  pub none : rest ≡ []
  pub ending_is : Some reason ≡ ending
  pub torn_is : None ≡ torn

step_no_end : (full : Bool) (at len sum : ℕ) (entry : Entry) (ending : Option Why) (torn : Option ℕ)
    → cond full (Err (TooMany at)) (Ok (Goes entry len sum)) ≡ next_result (Ends ending torn) → ⊥
step_no_end true at len sum entry ending torn e = cc
step_no_end false at len sum entry ending torn e = cc

end_alone : (right alone : Bool) (at : ℕ) (reason : Why) (ending : Option Why) (torn : Option ℕ)
    → cond right (cond alone (Ok (Ends (Some reason) None)) (Err (BehindEnd at))) (Err (WrongCount at)) ≡ next_result (Ends ending torn)
    → (right ≡ true) × (alone ≡ true) × (Some reason ≡ ending) × (None ≡ torn)
end_alone true true at reason ending torn e = (refl, refl, cc, cc)
end_alone true false at reason ending torn e = absurd cc
end_alone false alone at reason ending torn e = absurd cc

pub body_ends : (count at len sum : ℕ) (rest : List ℕ) (ending : Option Why) (torn : Option ℕ) (read : Result Body LogFault)
    → of_body count at len sum rest read ≡ Ok (Ends ending torn) → IsEnd count rest read ending torn
body_ends count at len sum rest ending torn (Err fault) e = absurd cc
body_ends count at len sum rest ending torn (Ok (bodies.Step entry)) e = absurd (step_no_end (count == 0xffffffff) at len sum entry ending torn e)
body_ends count at len sum rest ending torn (Ok (bodies.End steps reason)) e =
    let is = end_alone (steps == count) (length rest == 0) at reason ending torn e in
    record {
      reason = reason;
      read_is = ap (λ n. body_result (bodies.End n reason)) (eqb-true steps count is.0);
      none = nil_from_length rest (eqb-true (length rest) 0 is.1);
      ending_is = is.2;
      torn_is = is.3;
    }

-- THE WHOLE

abbrev log_of : ℕ → List FirstUnit → List Entry → Option Why → Kept
log_of tags units entries ending = record { tags = tags; units = units; entries = entries; ending = ending }

kept_when : (text : List ℕ) (tags : ℕ) (units : List FirstUnit) (entries : List Entry) (at : ℕ) (rest : List ℕ) (ending : Option Why) (torn : Option ℕ) (first : First)
    → AreBytes rest → StandsIn text tags units entries at rest → first_record (front_sum tags units entries) rest ≡ first
    → of_first (length units) (length entries) at rest first ≡ Ok (Ends ending torn) → IsKept (log_of tags units entries ending) torn text
kept_when text tags units entries at rest ending torn Nothing are stand is e =
    let ends = ends_are None ending None torn e in
    let none : rest ≡ [] = nothing_there (front_sum tags units entries) rest is in
    subst (λ (other : Option Why). IsKept (log_of tags units entries other) torn text) ends.0
    (subst (λ (cut : Option ℕ). IsKept (log_of tags units entries None) cut text) ends.1 (record {
      rest = rest;
      parts = stand.parts ∙ ap (λ (front : List ℕ). front ++ rest) (sym (append-nil (front_text tags units entries)));
      left = none;
      keepable = stand.keepable;
    }))
kept_when text tags units entries at rest ending torn Torn are stand is e =
    let ends = ends_are None ending (Some at) torn e in
    let whole : front_text tags units entries ≡ kept_text (log_of tags units entries None) = sym (append-nil (front_text tags units entries)) in
    subst (λ (other : Option Why). IsKept (log_of tags units entries other) torn text) ends.0
    (subst (λ (cut : Option ℕ). IsKept (log_of tags units entries None) cut text) ends.1 (record {
      rest = rest;
      parts = stand.parts ∙ ap (λ (front : List ℕ). front ++ rest) whole;
      left = (
        refl,
        omega (arith, stand.place, ap length stand.parts, length-append (front_text tags units entries) rest, ap length whole),
        is,
      );
      keepable = stand.keepable;
    }))
kept_when text tags units entries at rest ending torn Wrong are stand is e = absurd cc
kept_when text tags units entries at rest ending torn (Whole len sum) are stand is e =
    let before : ℕ = front_sum tags units entries in
    let it = body_ends (length entries) at len sum (behind rest) ending torn (body_at (length units) (body_of rest)) e in
    let at_front = found_record before rest len sum are is in
    let body = body_taken (length units) (body_of rest) (bodies.End (length entries) it.reason) stand.keepable.some (omega (arith, stand.keepable.most, few_clients tags))
    (bytes_taken (body_len rest) (drop 4 rest) (bytes_dropped 4 rest are)) it.read_is in
    let parts : rest ≡ record_text before (end_text (length entries) it.reason) ++ [] =
    at_front.text ∙ ap (λ (text : List ℕ). record_text before text ++ behind rest) body.text_is
    ∙ ap (λ (back : List ℕ). record_text before (end_text (length entries) it.reason) ++ back) it.none in
    subst (λ (other : Option Why). IsKept (log_of tags units entries other) torn text) it.ending_is
    (subst (λ (cut : Option ℕ). IsKept (log_of tags units entries (Some it.reason)) cut text) it.torn_is (record {
      rest = [];
      parts = stand.parts ∙ ap (λ (back : List ℕ). front_text tags units entries ++ back) parts
          ∙ sym (append-nil (front_text tags units entries ++ (record_text before (end_text (length entries) it.reason) ++ [])));
      left = refl;
      keepable = stand.keepable;
    }))

pub loaded_kept : (text : List ℕ) (loaded : Loaded) → AreBytes text → IsLoaded text loaded → IsKept loaded.log loaded.torn text
unfolding next_at
loaded_kept text loaded are it =
    let whole = it.whole in
    kept_when text loaded.log.tags loaded.log.units loaded.log.entries whole.at whole.rest loaded.log.ending loaded.torn
    (first_record (front_sum loaded.log.tags loaded.log.units loaded.log.entries) whole.rest)
    (bytes_back (front_text loaded.log.tags loaded.log.units loaded.log.entries) whole.rest (subst AreBytes whole.stand.parts are)) whole.stand refl whole.comes
