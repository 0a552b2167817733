-- One record more.
use Rattle.std.proofs.Common.{◌≡◌, ℕ, ◌+◌, ◌-◌, ◌==◌, Bool, true, false, cond, List, [], ◌∷◌, ◌++◌, length, drop, map, Result, Ok, Err, Some, None, refl, sym, ap, subst, ◌∙◌, append_assoc, arith}
use Rattle.std.specs.List.{AllByRecursion}
use Rattle.std.proofs.lemmas.Bool.{eqb-false}
use Rattle.std.proofs.lemmas.List.{append-nil, length-append, length-drop}
use Rattle.uas_log.specs.declared.FirstUnit.{FirstUnit}
use Rattle.log_records.specs.checksum.Bytes.{AreBytes}
use Rattle.log_records.proofs.Bytes.{bytes_dropped, bytes_taken}
use Rattle.log_records.specs.declared.First.{First}
use Rattle.log_records.specs.declared.First.TheVariants.{Nothing, Whole, Torn, Wrong}
use Rattle.log_records.specs.Finding.{behind, body_len, body_of, first_record}
use Rattle.log_records.specs.Records.{last_sum, record_text, records_text, sum_after}
use Rattle.log_records.proofs.Found.{found_record}
use Rattle.log_records.proofs.Framing.{body_size}
use Rattle.log_records.proofs.Growing.{last_sum-append, records-append}
use Rattle.log_text.specs.declared.LogFault.{LogFault}
use Rattle.log_text.proofs.TakenLog.{few_clients}
use Rattle.kept_log.specs.declared.Body.{Body}
use Rattle.kept_log.specs.declared.Body.TheVariants as bodies
use Rattle.kept_log.specs.declared.Entry.{Entry}
use Rattle.kept_log.specs.declared.KeptFault.{KeptFault}
use Rattle.kept_log.specs.declared.KeptFault.TheVariants.{BadBody, BehindEnd, TooMany, WrongCount, WrongRecord}
use Rattle.kept_log.specs.declared.KeptFault.TheVariants as faults
use Rattle.kept_log.specs.declared.Loaded.{Loaded}
use Rattle.kept_log.specs.declared.Next.{Next}
use Rattle.kept_log.specs.declared.Next.TheVariants.{Goes, Ends}
use Rattle.kept_log.specs.declared.Why.{Why}
use Rattle.kept_log.specs.Form.{EntryFits, entry_text, front_sum, front_text, head_sum, head_text}
use Rattle.kept_log.specs.Loading.{Comes, IsLoaded, IsNext, IsRefusedBy, StandsIn, Stops, next_at, of_body, of_first}
use Rattle.kept_log.specs.Reading.{body_at}
use Rattle.kept_log.proofs.TakenBodies.{body_taken}

-- WHICH NEXT

abbrev next_result : Next → Result Next KeptFault
next_result next = Ok next

abbrev body_result : Body → Result Body LogFault
body_result body = Ok body

-- a step comes
pub record GoesOn (clients count len after : ℕ) (sum : ℕ) (rest : List ℕ) (entry : Entry) : Type 0 where
  pub found : first_record sum rest ≡ Whole len after
  pub body : body_at clients (body_of rest) ≡ Ok (bodies.Step entry)
  pub few : (count == 0xffffffff) ≡ false

step_goes : (full : Bool) (at len sum l s : ℕ) (entry other : Entry) → cond full (Err (TooMany at)) (Ok (Goes other len sum)) ≡ next_result (Goes entry l s)
    → (body_result (bodies.Step other) ≡ Ok (bodies.Step entry)) × (len ≡ l) × (sum ≡ s) × (full ≡ false)
step_goes true at len sum l s entry other e = absurd cc
step_goes false at len sum l s entry other e = (cc, cc, cc, refl)

end_goes : (right alone : Bool) (at l s : ℕ) (entry : Entry) (reason : Why)
    → cond right (cond alone (Ok (Ends (Some reason) None)) (Err (BehindEnd at))) (Err (WrongCount at)) ≡ next_result (Goes entry l s) → ⊥
end_goes true true at l s entry reason e = cc
end_goes true false at l s entry reason e = cc
end_goes false alone at l s entry reason e = cc

of_body_goes : (count at len sum l s : ℕ) (rest : List ℕ) (entry : Entry) (read : Result Body LogFault) → of_body count at len sum rest read ≡ Ok (Goes entry l s)
    → (read ≡ body_result (bodies.Step entry)) × (len ≡ l) × (sum ≡ s) × ((count == 0xffffffff) ≡ false)
of_body_goes count at len sum l s rest entry (Err fault) e = absurd cc
of_body_goes count at len sum l s rest entry (Ok (bodies.Step other)) e = step_goes (count == 0xffffffff) at len sum l s entry other e
of_body_goes count at len sum l s rest entry (Ok (bodies.End steps reason)) e = absurd (end_goes (steps == count) (length rest == 0) at l s entry reason e)

of_first_goes : (clients count at l s sum : ℕ) (rest : List ℕ) (entry : Entry) (first : First) → first_record sum rest ≡ first
    → of_first clients count at rest first ≡ Ok (Goes entry l s) → GoesOn clients count l s sum rest entry
of_first_goes clients count at l s sum rest entry Nothing is e = absurd cc
of_first_goes clients count at l s sum rest entry Torn is e = absurd cc
of_first_goes clients count at l s sum rest entry Wrong is e = absurd cc
of_first_goes clients count at l s sum rest entry (Whole len after) is e =
    let parts = of_body_goes count at len after l s (behind rest) entry (body_at clients (body_of rest)) e in
    record { found = is ∙ ap (λ n. Whole n after) parts.1 ∙ ap (Whole l) parts.2; body = parts.0; few = parts.3 }

pub next_goes : (clients count at l s sum : ℕ) (rest : List ℕ) (entry : Entry) → next_at clients count at sum rest ≡ Ok (Goes entry l s)
    → GoesOn clients count l s sum rest entry
unfolding next_at
next_goes clients count at l s sum rest entry e = of_first_goes clients count at l s sum rest entry (first_record sum rest) refl e

-- WHAT IS REFUSED

-- what comes is never a fault of the head
abbrev pub NotOfHead : Result Next KeptFault → Type 0
NotOfHead (Ok next) = Unit {0}
NotOfHead (Err (faults.Head fault)) = ⊥
NotOfHead (Err faults.HeadSum) = ⊥
NotOfHead (Err (WrongRecord at)) = Unit {0}
NotOfHead (Err (BadBody at)) = Unit {0}
NotOfHead (Err (TooMany at)) = Unit {0}
NotOfHead (Err (WrongCount at)) = Unit {0}
NotOfHead (Err (BehindEnd at)) = Unit {0}
NotOfHead (Err faults.NoMemory) = Unit {0}

step_not_of_head : (full : Bool) (at len sum : ℕ) (entry : Entry) → NotOfHead (cond full (Err (TooMany at)) (Ok (Goes entry len sum)))
step_not_of_head true at len sum entry = tt
step_not_of_head false at len sum entry = tt

end_not_of_head : (right alone : Bool) (at : ℕ) (reason : Why)
    → NotOfHead (cond right (cond alone (Ok (Ends (Some reason) None)) (Err (BehindEnd at))) (Err (WrongCount at)))
end_not_of_head true true at reason = tt
end_not_of_head true false at reason = tt
end_not_of_head false alone at reason = tt

body_not_of_head : (count at len sum : ℕ) (rest : List ℕ) (read : Result Body LogFault) → NotOfHead (of_body count at len sum rest read)
body_not_of_head count at len sum rest (Err fault) = tt
body_not_of_head count at len sum rest (Ok (bodies.Step entry)) = step_not_of_head (count == 0xffffffff) at len sum entry
body_not_of_head count at len sum rest (Ok (bodies.End steps reason)) = end_not_of_head (steps == count) (length rest == 0) at reason

first_not_of_head : (clients count at : ℕ) (bytes : List ℕ) (first : First) → NotOfHead (of_first clients count at bytes first)
first_not_of_head clients count at bytes Nothing = tt
first_not_of_head clients count at bytes Torn = tt
first_not_of_head clients count at bytes Wrong = tt
first_not_of_head clients count at bytes (Whole len sum) = body_not_of_head count at len sum (behind bytes) (body_at clients (body_of bytes))

not_of_head : (clients count at sum : ℕ) (bytes : List ℕ) → NotOfHead (next_at clients count at sum bytes)
unfolding next_at
not_of_head clients count at sum bytes = first_not_of_head clients count at bytes (first_record sum bytes)

pub comes_there : (text : List ℕ) (tags : ℕ) (units : List FirstUnit) (entries : List Entry) (at sum : ℕ) (rest : List ℕ) (next : Result Next KeptFault)
    → StandsIn text tags units entries at rest → sum ≡ front_sum tags units entries → next_at (length units) (length entries) at sum rest ≡ next
    → Comes text tags units entries next
comes_there text tags units entries at sum rest next stand right e =
    record { at = at; rest = rest; stand = stand; comes = ap (λ n. next_at (length units) (length entries) at n rest) (sym right) ∙ e }

stops : (text : List ℕ) (tags : ℕ) (units : List FirstUnit) (entries : List Entry) (at sum : ℕ) (rest : List ℕ) (fault : KeptFault)
    → StandsIn text tags units entries at rest → sum ≡ front_sum tags units entries → next_at (length units) (length entries) at sum rest ≡ Err fault
    → Stops text fault
stops text tags units entries at sum rest fault stand right e =
    record { tags = tags; units = units; entries = entries; stops = comes_there text tags units entries at sum rest (Err fault) stand right e }

-- the end of a log, or of what there is of it
pub loaded_there : (text : List ℕ) (at sum : ℕ) (rest : List ℕ) (loaded : Loaded) → StandsIn text loaded.log.tags loaded.log.units loaded.log.entries at rest
    → sum ≡ front_sum loaded.log.tags loaded.log.units loaded.log.entries
    → next_at (length loaded.log.units) (length loaded.log.entries) at sum rest ≡ Ok (Ends loaded.log.ending loaded.torn) → IsLoaded text loaded
loaded_there text at sum rest loaded stand right e =
    record { whole = comes_there text loaded.log.tags loaded.log.units loaded.log.entries at sum rest (Ok (Ends loaded.log.ending loaded.torn)) stand right e }

-- a fault that comes is one of the text
pub refused_there : (text : List ℕ) (tags : ℕ) (units : List FirstUnit) (entries : List Entry) (at sum : ℕ) (rest : List ℕ) (fault : KeptFault)
    → StandsIn text tags units entries at rest → sum ≡ front_sum tags units entries → IsNext (Err fault) (next_at (length units) (length entries) at sum rest)
    → IsRefusedBy text fault
refused_there text tags units entries at sum rest (faults.Head fault) stand right e =
    absurd (subst NotOfHead e (not_of_head (length units) (length entries) at sum rest))
refused_there text tags units entries at sum rest faults.HeadSum stand right e =
    absurd (subst NotOfHead e (not_of_head (length units) (length entries) at sum rest))
refused_there text tags units entries at sum rest (WrongRecord place) stand right e = stops text tags units entries at sum rest (WrongRecord place) stand right e
refused_there text tags units entries at sum rest (BadBody place) stand right e = stops text tags units entries at sum rest (BadBody place) stand right e
refused_there text tags units entries at sum rest (TooMany place) stand right e = stops text tags units entries at sum rest (TooMany place) stand right e
refused_there text tags units entries at sum rest (WrongCount place) stand right e = stops text tags units entries at sum rest (WrongCount place) stand right e
refused_there text tags units entries at sum rest (BehindEnd place) stand right e = stops text tags units entries at sum rest (BehindEnd place) stand right e
refused_there text tags units entries at sum rest faults.NoMemory stand right e = tt

-- ONE STEP MORE

pub map_more : (entries : List Entry) (entry : Entry) → map entry_text (entries ++ entry ∷ []) ≡ map entry_text entries ++ entry_text entry ∷ []
map_more [] entry = refl
map_more (first ∷ rest) entry = ap (λ (texts : List (List ℕ)). entry_text first ∷ texts) (map_more rest entry)

all_more : (holds : Entry → Type 0) (entries : List Entry) (entry : Entry) → AllByRecursion holds entries → holds entry → AllByRecursion holds (entries ++ entry ∷ [])
all_more holds [] entry all one = (one, tt)
all_more holds (first ∷ rest) entry all one = (all.0, all_more holds rest entry all.1 one)

pub sum_more : (tags : ℕ) (units : List FirstUnit) (entries : List Entry) (entry : Entry) → front_sum tags units (entries ++ entry ∷ []) ≡ sum_after (front_sum tags units entries) (entry_text entry)
sum_more tags units entries entry =
    ap (last_sum (head_sum tags units)) (map_more entries entry) ∙ last_sum-append (head_sum tags units) (map entry_text entries) (entry_text entry ∷ [])

pub text_more : (tags : ℕ) (units : List FirstUnit) (entries : List Entry) (entry : Entry)
    → front_text tags units (entries ++ entry ∷ []) ≡ front_text tags units entries ++ record_text (front_sum tags units entries) (entry_text entry)
text_more tags units entries entry =
    let records : records_text (head_sum tags units) (map entry_text (entries ++ entry ∷ [])) ≡
    records_text (head_sum tags units) (map entry_text entries) ++ record_text (front_sum tags units entries) (entry_text entry) =
    ap (records_text (head_sum tags units)) (map_more entries entry) ∙ records-append (head_sum tags units) (map entry_text entries) (entry_text entry ∷ [])
    ∙ ap (λ (back : List ℕ). records_text (head_sum tags units) (map entry_text entries) ++ back) (append-nil (record_text (front_sum tags units entries) (entry_text entry))) in
    ap (λ (back : List ℕ). head_text tags units ++ back) records
    ∙ sym (append_assoc (head_text tags units) (records_text (head_sum tags units) (map entry_text entries)) (record_text (front_sum tags units entries) (entry_text entry)))

pub record HasOneMore (text : List ℕ) (tags : ℕ) (units : List FirstUnit) (entries : List Entry) (at : ℕ) (rest : List ℕ) (after : ℕ) : Type 0 where
  pub stand : StandsIn text tags units entries at rest
  pub sum : after ≡ front_sum tags units entries

-- a step that comes is one more
pub one_more : (text : List ℕ) (tags : ℕ) (units : List FirstUnit) (entries : List Entry) (at : ℕ) (rest : List ℕ) (sum len after : ℕ) (entry : Entry) → AreBytes rest
    → StandsIn text tags units entries at rest → sum ≡ front_sum tags units entries → next_at (length units) (length entries) at sum rest ≡ Ok (Goes entry len after)
    → HasOneMore text tags units (entries ++ entry ∷ []) (length text - length (drop (8 + len) rest)) (drop (8 + len) rest) after
one_more text tags units entries at rest sum len after entry are stand right e =
    let goes = next_goes (length units) (length entries) at len after sum rest entry e in
    let at_front = found_record sum rest len after are goes.found in
    let keepable = stand.keepable in
    let body = body_taken (length units) (body_of rest) (bodies.Step entry) keepable.some (omega (arith, keepable.most, few_clients tags))
    (bytes_taken (body_len rest) (drop 4 rest) (bytes_dropped 4 rest are)) goes.body in
    let long : len ≡ body_len rest = sym at_front.len_is ∙ body_size rest at_front.long in
    let back : behind rest ≡ drop (8 + len) rest = ap (λ n. drop (8 + n) rest) (sym long) in
    let parts : rest ≡ record_text (front_sum tags units entries) (entry_text entry) ++ drop (8 + len) rest =
    at_front.text ∙ ap (λ (text : List ℕ). record_text sum text ++ behind rest) body.text_is
    ∙ ap (λ n. record_text n (entry_text entry) ++ behind rest) right ∙ ap (λ (more : List ℕ). record_text (front_sum tags units entries) (entry_text entry) ++ more) back in
    let whole : text ≡ front_text tags units (entries ++ entry ∷ []) ++ drop (8 + len) rest =
    stand.parts ∙ ap (λ (more : List ℕ). front_text tags units entries ++ more) parts
    ∙ sym (append_assoc (front_text tags units entries) (record_text (front_sum tags units entries) (entry_text entry)) (drop (8 + len) rest))
    ∙ ap (λ (front : List ℕ). front ++ drop (8 + len) rest) (sym (text_more tags units entries entry)) in
    record {
      stand = record {
        parts = whole;
        place = omega (arith, stand.place, length-drop (8 + len) rest);
        keepable = record {
          are_tags = keepable.are_tags;
          some = keepable.some;
          most = keepable.most;
          units_fit = keepable.units_fit;
          entries_fit = all_more (EntryFits (length units)) entries entry keepable.entries_fit body.fits;
          few = omega (arith, length-append entries (entry ∷ []), keepable.few, eqb-false (length entries) 0xffffffff goes.few);
        };
      };
      sum = at_front.sum_is ∙ ap (sum_after sum) body.text_is ∙ ap (λ n. sum_after n (entry_text entry)) right ∙ sym (sum_more tags units entries entry);
    }
