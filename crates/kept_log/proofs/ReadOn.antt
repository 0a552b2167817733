-- The records of steps, read one by one.
use Rattle.std.proofs.Common.{◌≡◌, ℕ, zero, suc, ◌+◌, ◌-◌, ◌^◌, ◌<◌, ◌≤◌, Bool, cond, List, [], ◌∷◌, ◌++◌, length, drop, map, Result, Ok, Err, Option, None, refl, sym, ap, subst, ◌∙◌, append_assoc, arith, eq-eqb}
use Rattle.std.specs.List.{AllByRecursion}
use Rattle.std.proofs.lemmas.List.{length-append}
use Rattle.uas_log.specs.declared.FirstUnit.{FirstUnit}
use Rattle.log_records.specs.checksum.Bytes.{AreBytes}
use Rattle.log_records.proofs.Bytes.{bytes_back, bytes_front}
use Rattle.log_records.specs.Records.{last_sum, record_text, records_text, sum_after}
use Rattle.byteorder.specs.Endian.{big_bytes}
use Rattle.log_text.proofs.TakenLog.{few_clients}
use Rattle.kept_log.specs.declared.Entry.{Entry}
use Rattle.kept_log.specs.declared.KeptFault.{KeptFault}
use Rattle.kept_log.specs.declared.KeptFault.TheVariants.{HeadSum}
use Rattle.kept_log.specs.declared.Next.{Next}
use Rattle.kept_log.specs.declared.Next.TheVariants.{Goes, Ends}
use Rattle.kept_log.specs.declared.Why.{Why}
use Rattle.kept_log.specs.Form.{EntryFits, entry_text, front_sum, front_text, head_sum, head_text}
use Rattle.kept_log.specs.LoadAt.{Rest, behind_head, load_at, loaded_of, rest_at, then_read, with_entry}
use Rattle.kept_log.specs.Loading.{Comes, next_at}
use Rattle.kept_log.specs.Reading.{head_at}
use Rattle.kept_log.proofs.HeadAgain.{are_units, head_again}
use Rattle.kept_log.proofs.NextAgain.{behind_record, nothing_comes, record_size, step_comes}

abbrev rest_of : Option Why → Option ℕ → Result Rest KeptFault
rest_of ending torn = Ok (record { entries = []; ending = ending; torn = torn })

abbrev next_result : Next → Result Next KeptFault
next_result next = Ok next

-- THE STEPS

abbrev pub with_entries : List Entry → Result Rest KeptFault → Result Rest KeptFault
with_entries [] rest = rest
with_entries (entry ∷ entries) rest = with_entry entry (with_entries entries rest)

abbrev bodies_of : List Entry → List (List ℕ)
bodies_of entries = map entry_text entries

entry_bytes : (sum : ℕ) (body back : List ℕ) → AreBytes (record_text sum body ++ back) → AreBytes body
entry_bytes sum body back are =
    bytes_back (big_bytes 4 (length body)) body
    (bytes_front (big_bytes 4 (length body) ++ body) (big_bytes 4 (sum_after sum body)) (bytes_front (record_text sum body) back are))

-- what comes of the records of these steps, and of what stands behind them
read_on : (most all clients count at sum upto place : ℕ) (entries : List Entry) (rest : List ℕ) → 1 ≤ clients → clients ≤ 31
    → AllByRecursion (EntryFits clients) entries → upto < 2 ^ 32 → AreBytes (records_text sum (bodies_of entries))
    → all ≡ length entries + most → upto ≡ length entries + count → place ≡ at + length (records_text sum (bodies_of entries))
    → rest_at all clients count at sum (records_text sum (bodies_of entries) ++ rest)
    ≡ with_entries entries (rest_at most clients upto place (last_sum sum (bodies_of entries)) rest)
unfolding rest_at
read_on most all clients count at sum upto place [] rest some few fits room are fuel counted placed =
    let a : all ≡ most = omega (arith, fuel) in
    let b : count ≡ upto = omega (arith, counted) in
    let c : at ≡ place = omega (arith, placed) in
    rw (a, b, c) refl
read_on most zero clients count at sum upto place (entry ∷ entries) rest some few fits room are fuel counted placed = absurd (omega (arith, fuel))
read_on most (suc all) clients count at sum upto place (entry ∷ entries) rest some few fits room are fuel counted placed =
    let body : List ℕ = entry_text entry in
    let after : ℕ = sum_after sum body in
    let back : List ℕ = records_text after (bodies_of entries) in
    let bytes : List ℕ = record_text sum body ++ (back ++ rest) in
    let regrouped : records_text sum (bodies_of (entry ∷ entries)) ++ rest ≡ bytes = append_assoc (record_text sum body) back rest in
    let comes : next_at clients count at sum bytes ≡ Ok (Goes entry (length body) after) =
    step_comes clients count at sum entry (back ++ rest) some few fits.0 (omega (arith, room, counted)) (entry_bytes sum body back are) in
    let behind : drop (8 + length body) bytes ≡ back ++ rest = behind_record sum body (back ++ rest) in
    let others = read_on most all clients (suc count) (at + (8 + length body)) after upto place entries rest some few fits.1 room
    (bytes_back (record_text sum body) back are) (omega (arith, fuel)) (omega (arith, counted))
    (omega (arith, placed, length-append (record_text sum body) back, record_size sum body)) in
    ap (rest_at (suc all) clients count at sum) regrouped
    ∙ ap (then_read (rest_at all clients (suc count)) at bytes) comes
    ∙ ap (λ (left : List ℕ). with_entry entry (rest_at all clients (suc count) (at + (8 + length body)) after left)) behind
    ∙ ap (with_entry entry) others

-- WHERE THEY END

ends_are : (ending other : Option Why) (torn cut : Option ℕ) → next_result (Ends ending torn) ≡ next_result (Ends other cut) → rest_of ending torn ≡ rest_of other cut
ends_are ending other torn cut e = cc

no_fault : (ending : Option Why) (torn : Option ℕ) (fault : KeptFault) → next_result (Ends ending torn) ≡ Err fault → ⊥
no_fault ending torn fault e = absurd cc

rest_ends : (most clients count at sum : ℕ) (rest : List ℕ) (ending : Option Why) (torn : Option ℕ) → length rest ≤ most
    → next_at clients count at sum rest ≡ Ok (Ends ending torn) → rest_at most clients count at sum rest ≡ rest_of ending torn
unfolding rest_at
rest_ends zero clients count at sum [] ending torn long e = ends_are None ending None torn (sym (nothing_comes clients count at sum) ∙ e)
rest_ends zero clients count at sum (byte ∷ rest) ending torn long e = absurd (omega (arith, long))
rest_ends (suc most) clients count at sum rest ending torn long e = ap (then_read (rest_at most clients (suc count)) at rest) e

rest_fails : (most clients count at sum : ℕ) (rest : List ℕ) (fault : KeptFault) → length rest ≤ most
    → next_at clients count at sum rest ≡ Err fault → rest_at most clients count at sum rest ≡ Err fault
unfolding rest_at
rest_fails zero clients count at sum [] fault long e = absurd (no_fault None None fault (sym (nothing_comes clients count at sum) ∙ e))
rest_fails zero clients count at sum (byte ∷ rest) fault long e = absurd (omega (arith, long))
rest_fails (suc most) clients count at sum rest fault long e = ap (then_read (rest_at most clients (suc count)) at rest) e

entries_end : (entries : List Entry) (ending : Option Why) (torn : Option ℕ)
    → with_entries entries (rest_of ending torn) ≡ Ok (record { entries = entries; ending = ending; torn = torn })
entries_end [] ending torn = refl
entries_end (entry ∷ entries) ending torn = ap (with_entry entry) (entries_end entries ending torn)

entries_fail : (entries : List Entry) (fault : KeptFault) → with_entries entries (Err fault) ≡ Err fault
entries_fail [] fault = refl
entries_fail (entry ∷ entries) fault = ap (with_entry entry) (entries_fail entries fault)

-- THE WHOLE

records_long : (sum : ℕ) (entries : List Entry) → length entries ≤ length (records_text sum (bodies_of entries))
records_long sum [] = omega arith
records_long sum (entry ∷ entries) =
    let body : List ℕ = entry_text entry in
    let back : List ℕ = records_text (sum_after sum body) (bodies_of entries) in
    omega (arith, length-append (record_text sum body) back, record_size sum body, records_long (sum_after sum body) entries)

-- what is loaded where this comes behind the records of these steps, with as many bytes left
comes_at : (text : List ℕ) (tags : ℕ) (units : List FirstUnit) (entries : List Entry) (next : Result Next KeptFault) (it : Comes text tags units entries next)
    → AreBytes (front_text tags units entries)
    → load_at text ≡ loaded_of tags units (with_entries entries
    (rest_at (length (records_text (head_sum tags units) (bodies_of entries) ++ it.rest) - length entries) (length units) (length entries) it.at
    (front_sum tags units entries) it.rest))
unfolding load_at
comes_at text tags units entries next it are =
    let keepable = it.stand.keepable in
    let sum : ℕ = head_sum tags units in
    let records : List ℕ = records_text sum (bodies_of entries) in
    let back : List ℕ = records ++ it.rest in
    let parts : text ≡ head_text tags units ++ back = it.stand.parts ∙ append_assoc (head_text tags units) records it.rest in
    let head : head_at text ≡ Ok (record { tags = tags; units = units; sum = sum }, back) =
    ap head_at parts ∙ head_again tags units back keepable.are_tags (are_units tags units entries keepable) (bytes_front (head_text tags units) records are) in
    let size = length-append records it.rest in
    let on = read_on (length back - length entries) (length back) (length units) 0 (length text - length back) sum (length entries) it.at entries it.rest keepable.some
    (omega (arith, keepable.most, few_clients tags)) keepable.entries_fit keepable.few (bytes_back (head_text tags units) records are)
    (omega (arith, size, records_long sum entries)) (omega arith)
    (omega (arith, size, it.stand.place, ap length parts, length-append (head_text tags units) back)) in
    ap (behind_head text) head
    ∙ ap (λ (right : Bool). cond right (loaded_of tags units (rest_at (length back) (length units) 0 (length text - length back) sum back)) (Err HeadSum))
    (eq-eqb sum sum refl)
    ∙ ap (loaded_of tags units) on

left_over : (sum : ℕ) (entries : List Entry) (rest : List ℕ) → length rest ≤ length (records_text sum (bodies_of entries) ++ rest) - length entries
left_over sum entries rest = omega (arith, length-append (records_text sum (bodies_of entries)) rest, records_long sum entries)

pub ends_load : (text : List ℕ) (tags : ℕ) (units : List FirstUnit) (entries : List Entry) (ending : Option Why) (torn : Option ℕ) → AreBytes text
    → Comes text tags units entries (Ok (Ends ending torn)) → load_at text ≡ Ok (record { log = record { tags = tags; units = units; entries = entries; ending = ending }; torn = torn })
ends_load text tags units entries ending torn are it =
    comes_at text tags units entries (Ok (Ends ending torn)) it (bytes_front (front_text tags units entries) it.rest (subst AreBytes it.stand.parts are))
    ∙ ap (λ (rest : Result Rest KeptFault). loaded_of tags units (with_entries entries rest))
    (rest_ends (length (records_text (head_sum tags units) (bodies_of entries) ++ it.rest) - length entries) (length units) (length entries) it.at
    (front_sum tags units entries) it.rest ending torn (left_over (head_sum tags units) entries it.rest) it.comes)
    ∙ ap (loaded_of tags units) (entries_end entries ending torn)

pub faults_load : (text : List ℕ) (tags : ℕ) (units : List FirstUnit) (entries : List Entry) (fault : KeptFault) → AreBytes (front_text tags units entries)
    → Comes text tags units entries (Err fault) → load_at text ≡ Err fault
faults_load text tags units entries fault are it =
    comes_at text tags units entries (Err fault) it are
    ∙ ap (λ (rest : Result Rest KeptFault). loaded_of tags units (with_entries entries rest))
    (rest_fails (length (records_text (head_sum tags units) (bodies_of entries) ++ it.rest) - length entries) (length units) (length entries) it.at
    (front_sum tags units entries) it.rest fault (left_over (head_sum tags units) entries it.rest) it.comes)
    ∙ ap (loaded_of tags units) (entries_fail entries fault)
