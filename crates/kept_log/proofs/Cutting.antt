-- A text that was cut loads as a beginning.
use Rattle.std.proofs.Common.{◌≡◌, ℕ, zero, suc, ◌+◌, ◌-◌, ◌^◌, ◌<◌, ◌≤◌, ◌==◌, Bool, true, false, cond, List, [], ◌∷◌, ◌++◌, length, take, map, Result, Ok, Option, Some, None, refl, sym, ap, subst, ◌∙◌, append_assoc, arith, eq-eqb, inl, inr}
use Rattle.std.specs.Prelude.{◌⊎◌, nat_le}
use Rattle.std.specs.List.{AllByRecursion}
use Rattle.std.proofs.Math.Seq.{take-append-add}
use Rattle.std.proofs.lemmas.Bool.{leb-false, leb-true, ne_eqb}
use Rattle.std.proofs.lemmas.List.{length-append, length-take-le, take-append-le}
use Rattle.uas_log.specs.declared.FirstUnit.{FirstUnit}
use Rattle.log_records.specs.checksum.Bytes.{AreBytes}
use Rattle.log_records.proofs.Bytes.{bytes_taken}
use Rattle.log_records.specs.declared.First.TheVariants.{Torn}
use Rattle.log_records.specs.Finding.{first_record}
use Rattle.log_records.specs.Records.{last_sum, record_text, records_text, sum_after}
use Rattle.log_records.proofs.Found.{cut_torn}
use Rattle.kept_log.specs.declared.Entry.{Entry}
use Rattle.kept_log.specs.declared.Loaded.{Loaded}
use Rattle.kept_log.specs.declared.KeptFault.{KeptFault}
use Rattle.kept_log.specs.declared.Why.{Why}
use Rattle.kept_log.specs.Cuts.{cut_log, whole_in, whole_steps}
use Rattle.kept_log.specs.Form.{AreKeepable, EntryFits, Kept, end_bodies, end_text, entry_text, front_sum, front_text, head_sum, head_text, kept_text}
use Rattle.kept_log.specs.LoadAt.{load_at}
use Rattle.kept_log.proofs.NextAgain.{nothing_comes, record_size, torn_comes}
use Rattle.kept_log.proofs.ReadOn.{ends_load}
use Rattle.kept_log.proofs.Short.{end_short, entry_short}

abbrev bodies_of : List Entry → List (List ℕ)
bodies_of entries = map entry_text entries

-- nothing, or a beginning of a record
abbrev IsCut : ℕ → List ℕ → Type 0
IsCut before left = (left ≡ []) ⊎ ((1 ≤ length left) × (first_record before left ≡ Torn))

-- the records of these steps, and behind them at most a beginning of one
record CutTo (before : ℕ) (entries : List Entry) (bytes : List ℕ) : Type 0 where
  pub left : List ℕ
  pub parts : bytes ≡ records_text before (bodies_of entries) ++ left
  pub cut : IsCut (last_sum before (bodies_of entries)) left

-- ONE RECORD

cut_one : (before size : ℕ) (body : List ℕ) → length body < 2 ^ 32 → size < length (record_text before body) → IsCut before (take size (record_text before body))
cut_one before zero body few cut = inl refl
cut_one before (suc size) body few cut =
    inr (omega (arith, length-take-le (suc size) (record_text before body) (omega (arith, cut))), cut_torn before (suc size) body few (omega arith) cut)

one_cut : (before size : ℕ) (body back : List ℕ) → length body < 2 ^ 32 → size < 8 + length body → CutTo before [] (take size (record_text before body ++ back))
one_cut before size body back few cut =
    let within : size < length (record_text before body) = omega (arith, record_size before body, cut) in
    record {
      left = take size (record_text before body);
      parts = take-append-le size (record_text before body) back (omega (arith, within));
      cut = cut_one before size body few within;
    }

-- ALL OF THEM

abbrev tail_of : ℕ → List Entry → ℕ → Option Why → List ℕ
tail_of before entries count ending = records_text before (bodies_of entries) ++ records_text (last_sum before (bodies_of entries)) (end_bodies count ending)

abbrev if_whole : Bool → Entry → List Entry → List Entry
if_whole whole entry rest = cond whole (entry ∷ rest) []

with_one : (before size : ℕ) (entry : Entry) (back : List ℕ) (rest : List Entry) (whole : Bool) → nat_le (8 + length (entry_text entry)) size ≡ whole
    → length (entry_text entry) < 2 ^ 32
    → (nat_le (8 + length (entry_text entry)) size ≡ true
    → CutTo (sum_after before (entry_text entry)) rest (take (size - (8 + length (entry_text entry))) back))
    → CutTo before (if_whole whole entry rest) (take size (record_text before (entry_text entry) ++ back))
with_one before size entry back rest false e few others =
    one_cut before size (entry_text entry) back few (omega (arith, leb-false (8 + length (entry_text entry)) size e))
with_one before size entry back rest true e few others =
    let body : List ℕ = entry_text entry in
    let front : List ℕ = record_text before body in
    let more : ℕ = size - (8 + length body) in
    let behind = others e in
    let at : size ≡ length front + more = omega (arith, record_size before body, leb-true (8 + length body) size e) in
    record {
      left = behind.left;
      parts = ap (λ n. take n (front ++ back)) at ∙ take-append-add front back more ∙ ap (λ (bytes : List ℕ). front ++ bytes) behind.parts
          ∙ sym (append_assoc front (records_text (sum_after before body) (bodies_of rest)) behind.left);
      cut = behind.cut;
    }

records_cut : (clients before size count : ℕ) (entries : List Entry) (ending : Option Why) → AllByRecursion (EntryFits clients) entries
    → size < length (tail_of before entries count ending) → CutTo before (whole_in size entries) (take size (tail_of before entries count ending))
records_cut clients before size count [] None fits cut = absurd (omega (arith, cut))
records_cut clients before size count [] (Some reason) fits cut =
    let body : List ℕ = end_text count reason in
    one_cut before size body [] (end_short count reason) (omega (arith, cut, length-append (record_text before body) [], record_size before body))
records_cut clients before size count (entry ∷ entries) ending fits cut =
    let body : List ℕ = entry_text entry in
    let after : ℕ = sum_after before body in
    let front : List ℕ = record_text before body in
    let back : List ℕ = tail_of after entries count ending in
    let ends : List ℕ = records_text (last_sum after (bodies_of entries)) (end_bodies count ending) in
    let parts : tail_of before (entry ∷ entries) count ending ≡ front ++ back = append_assoc front (records_text after (bodies_of entries)) ends in
    subst (λ (bytes : List ℕ). CutTo before (whole_in size (entry ∷ entries)) (take size bytes)) (sym parts)
    (with_one before size entry back (whole_in (size - (8 + length body)) entries) (nat_le (8 + length body) size) refl (entry_short clients entry fits.0) (λ whole.
    records_cut clients after (size - (8 + length body)) count entries ending fits.1
    (omega (arith, cut, ap length parts, length-append front back, record_size before body, leb-true (8 + length body) size whole))))

-- THE STEPS THAT ARE WHOLE

if_holds : (holds : Entry → Type 0) (whole : Bool) (entry : Entry) (rest : List Entry) → holds entry → AllByRecursion holds rest
    → AllByRecursion holds (if_whole whole entry rest)
if_holds holds true entry rest one all = (one, all)
if_holds holds false entry rest one all = tt

whole_hold : (holds : Entry → Type 0) (size : ℕ) (entries : List Entry) → AllByRecursion holds entries → AllByRecursion holds (whole_in size entries)
whole_hold holds size [] all = tt
whole_hold holds size (entry ∷ entries) all =
    if_holds holds (nat_le (8 + length (entry_text entry)) size) entry (whole_in (size - (8 + length (entry_text entry))) entries) all.0
    (whole_hold holds (size - (8 + length (entry_text entry))) entries all.1)

if_few : (whole : Bool) (entry : Entry) (rest : List Entry) (most : ℕ) → length rest ≤ most → length (if_whole whole entry rest) ≤ suc most
if_few true entry rest most few = omega (arith, few)
if_few false entry rest most few = omega arith

whole_few : (size : ℕ) (entries : List Entry) → length (whole_in size entries) ≤ length entries
whole_few size [] = omega arith
whole_few size (entry ∷ entries) =
    if_few (nat_le (8 + length (entry_text entry)) size) entry (whole_in (size - (8 + length (entry_text entry))) entries) (length entries)
    (whole_few (size - (8 + length (entry_text entry))) entries)

-- THE WHOLE

abbrev log_of : ℕ → List FirstUnit → List Entry → Option Why → Kept
log_of tags units entries ending = record { tags = tags; units = units; entries = entries; ending = ending }

abbrev loaded_at : ℕ → List FirstUnit → List Entry → Option ℕ → Result Loaded KeptFault
loaded_at tags units entries torn = Ok (record { log = log_of tags units entries None; torn = torn })

cut_text : (size : ℕ) (kept : Kept) → AreKeepable kept.tags kept.units kept.entries → length (head_text kept.tags kept.units) ≤ size → size < length (kept_text kept)
    → CutTo (head_sum kept.tags kept.units) (whole_steps size kept) (take (size - length (head_text kept.tags kept.units)) (tail_of (head_sum kept.tags kept.units) kept.entries (length kept.entries) kept.ending))
cut_text size kept keepable long cut =
    let head : List ℕ = head_text kept.tags kept.units in
    let tail : List ℕ = tail_of (head_sum kept.tags kept.units) kept.entries (length kept.entries) kept.ending in
    let records : List ℕ = records_text (head_sum kept.tags kept.units) (bodies_of kept.entries) in
    let ends : List ℕ = records_text (front_sum kept.tags kept.units kept.entries) (end_bodies (length kept.entries) kept.ending) in
    let parts : kept_text kept ≡ head ++ tail = append_assoc head records ends in
    records_cut (length kept.units) (head_sum kept.tags kept.units) (size - length head) (length kept.entries) kept.entries kept.ending keepable.entries_fit
    (omega (arith, cut, long, ap length parts, length-append head tail))

cut_parts : (size : ℕ) (kept : Kept) (left : List ℕ) → length (head_text kept.tags kept.units) ≤ size
    → take (size - length (head_text kept.tags kept.units)) (tail_of (head_sum kept.tags kept.units) kept.entries (length kept.entries) kept.ending)
    ≡ records_text (head_sum kept.tags kept.units) (bodies_of (whole_steps size kept)) ++ left
    → take size (kept_text kept) ≡ front_text kept.tags kept.units (whole_steps size kept) ++ left
cut_parts size kept left long e =
    let head : List ℕ = head_text kept.tags kept.units in
    let tail : List ℕ = tail_of (head_sum kept.tags kept.units) kept.entries (length kept.entries) kept.ending in
    let records : List ℕ = records_text (head_sum kept.tags kept.units) (bodies_of kept.entries) in
    let ends : List ℕ = records_text (front_sum kept.tags kept.units kept.entries) (end_bodies (length kept.entries) kept.ending) in
    let at : size ≡ length head + (size - length head) = omega (arith, long) in
    ap (take size) (append_assoc head records ends) ∙ ap (λ n. take n (head ++ tail)) at ∙ take-append-add head tail (size - length head)
    ∙ ap (λ (bytes : List ℕ). head ++ bytes) e ∙ sym (append_assoc head (records_text (head_sum kept.tags kept.units) (bodies_of (whole_steps size kept))) left)

torn_at : (size : ℕ) (kept : Kept) (left : List ℕ) (at : ℕ) → AreBytes (take size (kept_text kept)) → AreKeepable kept.tags kept.units (whole_steps size kept)
    → take size (kept_text kept) ≡ front_text kept.tags kept.units (whole_steps size kept) ++ left → size ≡ at + length left
    → at ≡ length (front_text kept.tags kept.units (whole_steps size kept)) → length (take size (kept_text kept)) ≡ size
    → IsCut (front_sum kept.tags kept.units (whole_steps size kept)) left
    → load_at (take size (kept_text kept)) ≡ loaded_at kept.tags kept.units (whole_steps size kept) (cond (size == at) None (Some at))
torn_at size kept left at are keepable parts place front taken cut =
    let text : List ℕ = take size (kept_text kept) in
    let steps : List Entry = whole_steps size kept in
    elim cut [
      | inl none ↦
          ends_load text kept.tags kept.units steps None None are (record {
            at = at;
            rest = [];
            stand = record { parts = parts ∙ ap (λ (rest : List ℕ). front_text kept.tags kept.units steps ++ rest) none; place = omega (arith, place, taken, ap length none); keepable = keepable };
            comes = nothing_comes (length kept.units) (length steps) at (front_sum kept.tags kept.units steps);
          })
          ∙ ap (λ (whole : Bool). loaded_at kept.tags kept.units steps (cond whole None (Some at))) (sym (eq-eqb size at (omega (arith, place, ap length none))))
      | inr some ↦
          ends_load text kept.tags kept.units steps None (Some at) are (record {
            at = at;
            rest = left;
            stand = record { parts = parts; place = omega (arith, place, taken); keepable = keepable };
            comes = torn_comes (length kept.units) (length steps) at (front_sum kept.tags kept.units steps) left some.1;
          })
          ∙ ap (λ (whole : Bool). loaded_at kept.tags kept.units steps (cond whole None (Some at))) (sym (ne_eqb size at (λ e. absurd (omega (arith, e, place, some.0)))))
    ]

pub cut_loads : (kept : Kept) (size : ℕ) → AreKeepable kept.tags kept.units kept.entries → AreBytes (kept_text kept) → length (head_text kept.tags kept.units) ≤ size
    → size < length (kept_text kept) → load_at (take size (kept_text kept)) ≡ Ok (cut_log size kept)
cut_loads kept size keepable are long cut =
    let steps : List Entry = whole_steps size kept in
    let it = cut_text size kept keepable long cut in
    let parts : take size (kept_text kept) ≡ front_text kept.tags kept.units steps ++ it.left = cut_parts size kept it.left long it.parts in
    let taken : length (take size (kept_text kept)) ≡ size = length-take-le size (kept_text kept) (omega (arith, cut)) in
    torn_at size kept it.left (length (front_text kept.tags kept.units steps)) (bytes_taken size (kept_text kept) are) (record {
      are_tags = keepable.are_tags;
      some = keepable.some;
      most = keepable.most;
      units_fit = keepable.units_fit;
      entries_fit = whole_hold (EntryFits (length kept.units)) (size - length (head_text kept.tags kept.units)) kept.entries keepable.entries_fit;
      few = omega (arith, keepable.few, whole_few (size - length (head_text kept.tags kept.units)) kept.entries);
    }) parts (omega (arith, taken, ap length parts, length-append (front_text kept.tags kept.units steps) it.left)) refl taken it.cut
