-- What stands at the front of bytes stands there too where more bytes follow.
use Rattle.std.proofs.Common.{◌≡◌, ℕ, ◌+◌, ◌^◌, ◌<◌, ◌==◌, ◌&&◌, ◌||◌, Bool, true, false, cond, List, [], ◌∷◌, ◌++◌, length, drop, Result, Ok, Err, Some, None, refl, sym, ap, subst, ◌∙◌, append_assoc, arith}
use Rattle.std.proofs.lemmas.Bool.{and_parts, ne_eqb}
use Rattle.std.proofs.Math.Dec.{eqb-suc-zero}
use Rattle.std.proofs.lemmas.List.{length-append}
use Rattle.byteorder.specs.Numbers.{big_from-lt}
use Rattle.log_records.specs.checksum.Bytes.{AreBytes}
use Rattle.log_records.proofs.Bytes.{bytes_dropped, bytes_taken}
use Rattle.log_records.specs.declared.First.{First}
use Rattle.log_records.specs.declared.First.TheVariants.{Nothing, Whole, Torn, Wrong}
use Rattle.log_records.specs.Finding.{behind, body_len, body_of, first_record, is_followed, is_long_enough, is_whole, sum_of}
use Rattle.log_records.specs.Records.{record_text, sum_after}
use Rattle.log_records.proofs.Found.{found_record, record_found}
use Rattle.log_records.proofs.Framing.{IsLong, are_framed, are_long, body_size, framed, framed_behind, framed_body, framed_long, framed_sum}
use Rattle.log_text.specs.declared.LogFault.{LogFault}
use Rattle.kept_log.specs.declared.Body.{Body}
use Rattle.kept_log.specs.declared.Body.TheVariants as bodies
use Rattle.kept_log.specs.declared.KeptFault.{KeptFault}
use Rattle.kept_log.specs.declared.KeptFault.TheVariants.{BehindEnd, WrongCount}
use Rattle.kept_log.specs.declared.Next.{Next}
use Rattle.kept_log.specs.declared.Next.TheVariants.{Goes, Ends}
use Rattle.kept_log.specs.declared.Why.{Why}
use Rattle.kept_log.specs.Loading.{next_at, of_body, of_first}
use Rattle.kept_log.specs.Reading.{body_at}

-- THE PARTS OF A RECORD

pub record SameParts (bytes more : List ℕ) : Type 0 where
  pub long : is_long_enough (bytes ++ more) ≡ true
  pub body : body_of (bytes ++ more) ≡ body_of bytes
  pub sum : sum_of (bytes ++ more) ≡ sum_of bytes
  pub back : behind (bytes ++ more) ≡ behind bytes ++ more

framed_more : (body : List ℕ) (sum : ℕ) (rest more : List ℕ) → framed body sum rest ++ more ≡ framed body sum (rest ++ more)
framed_more body sum rest more = simp append_assoc refl

same_parts : (bytes more : List ℕ) → AreBytes bytes → IsLong bytes → SameParts bytes more
same_parts bytes more are long =
    let body : List ℕ = body_of bytes in
    let sum : ℕ = sum_of bytes in
    let rest : List ℕ = behind bytes ++ more in
    let few : length body < 2 ^ 32 = omega (arith, body_size bytes long, big_from-lt 0 4 bytes are) in
    let small : sum < 2 ^ 32 = omega (arith, big_from-lt 0 4 (drop (4 + body_len bytes) bytes) (bytes_dropped (4 + body_len bytes) bytes are)) in
    let text : bytes ++ more ≡ framed body sum rest =
    ap (λ (front : List ℕ). front ++ more) (are_framed bytes are long) ∙ framed_more body sum (behind bytes) more in
    record {
      long = ap is_long_enough text ∙ framed_long body sum rest few;
      body = ap body_of text ∙ framed_body body sum rest few;
      sum = ap sum_of text ∙ framed_sum body sum rest few small;
      back = ap behind text ∙ framed_behind body sum rest few;
    }

-- WHICH RECORD

both_true : (a b : Bool) → a ≡ true → b ≡ true → (a && b) ≡ true
both_true true b p q = q
both_true false b p q = absurd cc

other_false : (a b : Bool) → a ≡ true → (a && b) ≡ false → b ≡ false
other_false true b p q = q
other_false false b p q = absurd cc

either_more : (a b c d : Bool) → (a ≡ true → c ≡ true) → (b ≡ true → d ≡ true) → (a || b) ≡ true → (c || d) ≡ true
either_more true b true d f g e = refl
either_more true b false d f g e = let no : false ≡ true = f refl in absurd cc
either_more false b true d f g e = refl
either_more false b false d f g e = g e

same_right : (before : ℕ) (bytes more : List ℕ) → SameParts bytes more
    → (sum_of (bytes ++ more) == sum_after before (body_of (bytes ++ more))) ≡ (sum_of bytes == sum_after before (body_of bytes))
same_right before bytes more same =
    ap (λ n. n == sum_after before (body_of (bytes ++ more))) same.sum ∙ ap (λ (body : List ℕ). sum_of bytes == sum_after before body) same.body

whole_more : (before : ℕ) (bytes more : List ℕ) → AreBytes bytes → is_whole before bytes ≡ true → is_whole before (bytes ++ more) ≡ true
whole_more before bytes more are e =
    let parts = and_parts (is_long_enough bytes) (sum_of bytes == sum_after before (body_of bytes)) e in
    let same = same_parts bytes more are (are_long bytes parts.0) in
    both_true (is_long_enough (bytes ++ more)) (sum_of (bytes ++ more) == sum_after before (body_of (bytes ++ more))) same.long
    (same_right before bytes more same ∙ parts.1)

wrong_chosen : (empty whole followed : Bool) (len sum : ℕ) → cond empty Nothing (cond whole (Whole len sum) (cond followed Wrong Torn)) ≡ Wrong
    → (whole ≡ false) × (followed ≡ true)
wrong_chosen true whole followed len sum e = absurd cc
wrong_chosen false true followed len sum e = absurd cc
wrong_chosen false false true len sum e = (refl, refl)
wrong_chosen false false false len sum e = absurd cc

chosen_wrong : (empty whole followed : Bool) (found : First) → empty ≡ false → whole ≡ false → followed ≡ true
    → cond empty Nothing (cond whole found (cond followed Wrong Torn)) ≡ Wrong
chosen_wrong true whole followed found p q r = absurd cc
chosen_wrong false true followed found p q r = absurd cc
chosen_wrong false false true found p q r = refl
chosen_wrong false false false found p q r = absurd cc

first_wrong : (before : ℕ) (bytes more : List ℕ) → AreBytes bytes → first_record before bytes ≡ Wrong → first_record before (bytes ++ more) ≡ Wrong
unfolding first_record
first_wrong before bytes more are e =
    let all : List ℕ = bytes ++ more in
    let chosen = wrong_chosen (length bytes == 0) (is_whole before bytes) (is_followed before bytes) (body_len bytes) (sum_of bytes) e in
    let parts = and_parts (is_long_enough bytes) (is_whole (sum_of bytes) (behind bytes) || is_whole (sum_after before (body_of bytes)) (behind bytes)) chosen.1 in
    let long : IsLong bytes = are_long bytes parts.0 in
    let same = same_parts bytes more are long in
    let back : AreBytes (behind bytes) = bytes_dropped (8 + body_len bytes) bytes are in
    let some : (length all == 0) ≡ false = ne_eqb (length all) 0 (λ none. omega (arith, none, length-append bytes more, long.some)) in
    let other : is_whole before all ≡ false =
    ap (λ (is : Bool). is && (sum_of all == sum_after before (body_of all))) same.long ∙ same_right before bytes more same
    ∙ other_false (is_long_enough bytes) (sum_of bytes == sum_after before (body_of bytes)) parts.0 chosen.0 in
    let first : is_whole (sum_of bytes) (behind bytes) ≡ true → is_whole (sum_of all) (behind all) ≡ true =
    λ is. ap (λ n. is_whole n (behind all)) same.sum ∙ ap (is_whole (sum_of bytes)) same.back ∙ whole_more (sum_of bytes) (behind bytes) more back is in
    let second : is_whole (sum_after before (body_of bytes)) (behind bytes) ≡ true → is_whole (sum_after before (body_of all)) (behind all) ≡ true =
    λ is. ap (λ (body : List ℕ). is_whole (sum_after before body) (behind all)) same.body ∙ ap (is_whole (sum_after before (body_of bytes))) same.back
    ∙ whole_more (sum_after before (body_of bytes)) (behind bytes) more back is in
    let followed : is_followed before all ≡ true =
    both_true (is_long_enough all) (is_whole (sum_of all) (behind all) || is_whole (sum_after before (body_of all)) (behind all)) same.long
    (either_more (is_whole (sum_of bytes) (behind bytes)) (is_whole (sum_after before (body_of bytes)) (behind bytes)) (is_whole (sum_of all) (behind all))
    (is_whole (sum_after before (body_of all)) (behind all)) first second parts.1) in
    chosen_wrong (length all == 0) (is_whole before all) (is_followed before all) (Whole (body_len all) (sum_of all)) some other followed

first_whole : (before len sum : ℕ) (bytes more : List ℕ) → AreBytes bytes → first_record before bytes ≡ Whole len sum
    → first_record before (bytes ++ more) ≡ Whole len sum
first_whole before len sum bytes more are e =
    let it = found_record before bytes len sum are e in
    let body : List ℕ = body_of bytes in
    let text : bytes ++ more ≡ record_text before body ++ (behind bytes ++ more) =
    ap (λ (front : List ℕ). front ++ more) it.text ∙ append_assoc (record_text before body) (behind bytes) more in
    ap (first_record before) text
    ∙ record_found before body (behind bytes ++ more) it.few (bytes_taken (body_len bytes) (drop 4 bytes) (bytes_dropped 4 bytes are))
    ∙ ap (λ n. Whole n (sum_after before body)) it.len_is ∙ ap (Whole len) (sym it.sum_is)

-- WHAT COMES

-- a step comes or a fault, and not the end of the bytes
abbrev pub GoesOrFails : Result Next KeptFault → Type 0
GoesOrFails (Ok (Goes entry len sum)) = Unit {0}
GoesOrFails (Ok (Ends ending torn)) = ⊥
GoesOrFails (Err fault) = Unit {0}

abbrev ended : Bool → Bool → ℕ → Why → Result Next KeptFault
ended right alone at reason = cond right (cond alone (Ok (Ends (Some reason) None)) (Err (BehindEnd at))) (Err (WrongCount at))

end_more : (right : Bool) (at : ℕ) (reason : Why) (rest more : List ℕ) → GoesOrFails (ended right (length rest == 0) at reason)
    → ended right (length (rest ++ more) == 0) at reason ≡ ended right (length rest == 0) at reason
end_more false at reason rest more goes = refl
end_more true at reason [] more goes = absurd goes
end_more true at reason (byte ∷ rest) more goes =
    ap (λ (alone : Bool). ended true alone at reason) (eqb-suc-zero (length (rest ++ more)) ∙ sym (eqb-suc-zero (length rest)))

body_more : (count at len sum : ℕ) (rest more : List ℕ) (read : Result Body LogFault) → GoesOrFails (of_body count at len sum rest read)
    → of_body count at len sum (rest ++ more) read ≡ of_body count at len sum rest read
body_more count at len sum rest more (Err fault) goes = refl
body_more count at len sum rest more (Ok (bodies.Step entry)) goes = refl
body_more count at len sum rest more (Ok (bodies.End steps reason)) goes = end_more (steps == count) at reason rest more goes

first_more : (clients count at sum : ℕ) (bytes more : List ℕ) (first : First) → AreBytes bytes → first_record sum bytes ≡ first
    → GoesOrFails (of_first clients count at bytes first)
    → of_first clients count at (bytes ++ more) (first_record sum (bytes ++ more)) ≡ of_first clients count at bytes first
first_more clients count at sum bytes more Nothing are is goes = absurd goes
first_more clients count at sum bytes more Torn are is goes = absurd goes
first_more clients count at sum bytes more Wrong are is goes = ap (of_first clients count at (bytes ++ more)) (first_wrong sum bytes more are is)
first_more clients count at sum bytes more (Whole len after) are is goes =
    let it = found_record sum bytes len after are is in
    let same = same_parts bytes more are it.long in
    ap (of_first clients count at (bytes ++ more)) (first_whole sum len after bytes more are is)
    ∙ ap (λ (body : List ℕ). of_body count at len after (behind (bytes ++ more)) (body_at clients body)) same.body
    ∙ ap (λ (rest : List ℕ). of_body count at len after rest (body_at clients (body_of bytes))) same.back
    ∙ body_more count at len after (behind bytes) more (body_at clients (body_of bytes)) goes

-- a step or a fault comes too where more bytes follow
pub next_more : (clients count at sum : ℕ) (bytes more : List ℕ) (comes : Result Next KeptFault) → AreBytes bytes → GoesOrFails comes
    → next_at clients count at sum bytes ≡ comes → next_at clients count at sum (bytes ++ more) ≡ comes
unfolding next_at
next_more clients count at sum bytes more comes are goes e =
    first_more clients count at sum bytes more (first_record sum bytes) are refl (subst GoesOrFails (sym e) goes) ∙ e
