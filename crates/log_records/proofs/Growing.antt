-- Records behind records.
use Rattle.std.proofs.Common.{◌≡◌, ℕ, List, [], ◌∷◌, ◌++◌, refl, sym, ap, ◌∙◌, append_assoc}
use Rattle.log_records.specs.Records.{last_sum, record_text, records_text, sum_after}

pub records-append : (before : ℕ) (bodies more : List (List ℕ)) → records_text before (bodies ++ more) ≡ records_text before bodies ++ records_text (last_sum before bodies) more
records-append before [] more = refl
records-append before (body ∷ bodies) more =
    ap (λ (rest : List ℕ). record_text before body ++ rest) (records-append (sum_after before body) bodies more)
    ∙ sym (append_assoc (record_text before body) (records_text (sum_after before body) bodies) (records_text (last_sum (sum_after before body) bodies) more))

pub last_sum-append : (before : ℕ) (bodies more : List (List ℕ)) → last_sum before (bodies ++ more) ≡ last_sum (last_sum before bodies) more
last_sum-append before [] more = refl
last_sum-append before (body ∷ bodies) more = last_sum-append (sum_after before body) bodies more
