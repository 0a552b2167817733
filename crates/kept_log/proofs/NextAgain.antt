-- What comes at the place of a record that was written.
use Rattle.std.proofs.Common.{◌≡◌, ℕ, ◌+◌, ◌^◌, ◌<◌, ◌≤◌, ◌==◌, Bool, cond, List, [], ◌++◌, length, drop, Result, Ok, Err, Some, None, refl, sym, ap, ◌∙◌, append_assoc, arith, eq-eqb}
use Rattle.std.proofs.lemmas.Bool.{ne_eqb}
use Rattle.std.proofs.lemmas.List.{append-nil, drop_at}
use Rattle.log_records.specs.checksum.Bytes.{AreBytes}
use Rattle.log_records.proofs.Bytes.{bytes_joined}
use Rattle.log_records.specs.declared.First.TheVariants.{Torn}
use Rattle.log_records.specs.Finding.{behind, body_of, first_record}
use Rattle.log_records.specs.Records.{record_text, sum_after}
use Rattle.log_records.proofs.Found.{record_found}
use Rattle.log_records.proofs.Framing.{framed_behind, framed_body, framed_size, record_framed}
use Rattle.log_records.proofs.Numbers.{number_is_bytes}
use Rattle.log_text.specs.declared.LogFault.{LogFault}
use Rattle.log_text.specs.declared.LogFault.TheVariants.{BadField}
use Rattle.log_text.specs.Text.{field}
use Rattle.log_text.proofs.TakenFields.{Within, number_again}
use Rattle.log_text.proofs.TakenSteps.{byte_within}
use Rattle.kept_log.specs.declared.Body.{Body}
use Rattle.kept_log.specs.declared.Body.TheVariants as bodies
use Rattle.kept_log.specs.declared.Entry.{Entry}
use Rattle.kept_log.specs.declared.KeptFault.{KeptFault}
use Rattle.kept_log.specs.declared.KeptFault.TheVariants.{BehindEnd, TooMany, WrongCount}
use Rattle.kept_log.specs.declared.Next.{Next}
use Rattle.kept_log.specs.declared.Next.TheVariants.{Goes, Ends}
use Rattle.kept_log.specs.declared.Why.{Why}
use Rattle.kept_log.specs.declared.Why.TheVariants as why
use Rattle.kept_log.specs.Form.{EntryFits, end_text, entry_text, why_number}
use Rattle.kept_log.specs.Loading.{next_at, of_body, of_first}
use Rattle.kept_log.specs.Reading.{body_at, end_at, why_of}
use Rattle.kept_log.proofs.Again.{entry_again}
use Rattle.kept_log.proofs.Short.{end_short, entry_short}

abbrev next_result : Next → Result Next KeptFault
next_result next = Ok next

-- A STEP

pub record_size : (before : ℕ) (body : List ℕ) → length (record_text before body) ≡ 8 + length body
record_size before body =
    ap length (sym (append-nil (record_text before body)) ∙ record_framed before body []) ∙ framed_size body (sum_after before body) [] ∙ omega arith

pub behind_record : (before : ℕ) (body rest : List ℕ) → drop (8 + length body) (record_text before body ++ rest) ≡ rest
behind_record before body rest = drop_at (record_text before body) rest (8 + length body) (record_size before body)

body_there : (before : ℕ) (body rest : List ℕ) → length body < 2 ^ 32 → body_of (record_text before body ++ rest) ≡ body
body_there before body rest few = ap body_of (record_framed before body rest) ∙ framed_body body (sum_after before body) rest few

pub step_comes : (clients count at sum : ℕ) (entry : Entry) (rest : List ℕ) → 1 ≤ clients → clients ≤ 31 → EntryFits clients entry → count < 0xffffffff
    → AreBytes (entry_text entry)
    → next_at clients count at sum (record_text sum (entry_text entry) ++ rest) ≡ Ok (Goes entry (length (entry_text entry)) (sum_after sum (entry_text entry)))
unfolding next_at
step_comes clients count at sum entry rest some few fits room are =
    let body : List ℕ = entry_text entry in
    let after : ℕ = sum_after sum body in
    let bytes : List ℕ = record_text sum body ++ rest in
    let short : length body < 2 ^ 32 = entry_short clients entry fits in
    let read : body_at clients (body_of bytes) ≡ Ok (bodies.Step entry) =
    ap (body_at clients) (body_there sum body rest short) ∙ entry_again clients entry some few fits in
    ap (of_first clients count at bytes) (record_found sum body rest short are)
    ∙ ap (of_body count at (length body) after (behind bytes)) read
    ∙ ap (λ (full : Bool). cond full (Err (TooMany at)) (next_result (Goes entry (length body) after)))
    (ne_eqb count 0xffffffff (λ e. absurd (omega (arith, e, room))))

-- THE END

why_again : (reason : Why) → why_of (why_number reason) ≡ reason
why_again why.Complete = refl
why_again why.NoMemory = refl
why_again why.LogFull = refl
why_again why.LogFile = refl

why_small : (reason : Why) → why_number reason ≤ 3
why_small why.Complete = omega arith
why_small why.NoMemory = omega arith
why_small why.LogFull = omega arith
why_small why.LogFile = omega arith

abbrev end_result : ℕ → Why → Result Body LogFault
end_result count reason = Ok (bodies.End count reason)

end_read : (count : ℕ) (reason : Why) → count < 2 ^ 64 → end_at (field 8 count ++ field 1 (why_number reason)) ≡ end_result count reason
unfolding end_at
end_read count reason small =
    let last : List ℕ = field 1 (why_number reason) in
    let alone : last ≡ last ++ [] = sym (append-nil last) in
    let within : Within 8 0 0xffffffffffffffff count = record { least = omega arith; most = omega (arith, small); wide = omega (arith, small) } in
    rw (
      number_again BadField 8 0 0xffffffffffffffff count last within,
      alone,
      number_again BadField 1 0 3 (why_number reason) [] (byte_within 0 3 (why_number reason) (omega arith) (why_small reason) (omega arith)),
    ) (ap (end_result count) (why_again reason))

end_again : (clients count : ℕ) (reason : Why) → count < 2 ^ 64 → body_at clients (end_text count reason) ≡ end_result count reason
unfolding body_at
end_again clients count reason small =
    ap (body_at clients) (append_assoc (field 1 3) (field 8 count) (field 1 (why_number reason)))
    ∙ rw (number_again BadField 1 1 3 3 (field 8 count ++ field 1 (why_number reason)) (byte_within 1 3 3 (omega arith) (omega arith) (omega arith)))
    (end_read count reason small)

end_bytes : (count : ℕ) (reason : Why) → AreBytes (end_text count reason)
unfolding field
end_bytes count reason =
    bytes_joined (field 1 3 ++ field 8 count) (field 1 (why_number reason))
    (bytes_joined (field 1 3) (field 8 count) (number_is_bytes 1 3) (number_is_bytes 8 count)) (number_is_bytes 1 (why_number reason))

pub end_comes : (clients count at sum : ℕ) (reason : Why) → count < 2 ^ 64
    → next_at clients count at sum (record_text sum (end_text count reason) ++ []) ≡ Ok (Ends (Some reason) None)
unfolding next_at
end_comes clients count at sum reason small =
    let body : List ℕ = end_text count reason in
    let bytes : List ℕ = record_text sum body ++ [] in
    let short : length body < 2 ^ 32 = end_short count reason in
    let read : body_at clients (body_of bytes) ≡ end_result count reason =
    ap (body_at clients) (body_there sum body [] short) ∙ end_again clients count reason small in
    let nothing : behind bytes ≡ [] = ap behind (record_framed sum body []) ∙ framed_behind body (sum_after sum body) [] short in
    ap (of_first clients count at bytes) (record_found sum body [] short (end_bytes count reason))
    ∙ ap (of_body count at (length body) (sum_after sum body) (behind bytes)) read
    ∙ ap (λ (right : Bool). cond right (cond (length (behind bytes) == 0) (next_result (Ends (Some reason) None)) (Err (BehindEnd at))) (Err (WrongCount at)))
    (eq-eqb count count refl)
    ∙ ap (λ (rest : List ℕ). cond (length rest == 0) (next_result (Ends (Some reason) None)) (Err (BehindEnd at))) nothing

-- NOTHING MORE

pub nothing_comes : (clients count at sum : ℕ) → next_at clients count at sum [] ≡ Ok (Ends None None)
unfolding next_at first_record
nothing_comes clients count at sum = refl

pub torn_comes : (clients count at sum : ℕ) (bytes : List ℕ) → first_record sum bytes ≡ Torn → next_at clients count at sum bytes ≡ Ok (Ends None (Some at))
unfolding next_at
torn_comes clients count at sum bytes e = ap (of_first clients count at bytes) e
