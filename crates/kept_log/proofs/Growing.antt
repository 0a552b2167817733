-- A text that grows.
use Rattle.std.proofs.Common.{◌≡◌, ℕ, List, [], ◌∷◌, ◌++◌, length, take, drop, map, refl, sym, ap, ◌∙◌, append_assoc}
use Rattle.std.proofs.lemmas.List.{take-append-drop}
use Rattle.uas_log.specs.declared.FirstUnit.{FirstUnit}
use Rattle.log_records.specs.Records.{last_sum, records_text}
use Rattle.log_records.proofs.Growing.{last_sum-append, records-append}
use Rattle.kept_log.specs.declared.Entry.{Entry}
use Rattle.kept_log.specs.Form.{Kept, end_bodies, entry_text, front_sum, front_text, head_sum, head_text, kept_text}

map_on : (entries more : List Entry) → map entry_text (entries ++ more) ≡ map entry_text entries ++ map entry_text more
map_on [] more = refl
map_on (first ∷ rest) more = ap (λ (texts : List (List ℕ)). entry_text first ∷ texts) (map_on rest more)

pub text_goes_on : (tags : ℕ) (units : List FirstUnit) (entries more : List Entry)
    → front_text tags units (entries ++ more) ≡ front_text tags units entries ++ records_text (front_sum tags units entries) (map entry_text more)
text_goes_on tags units entries more =
    let records : records_text (head_sum tags units) (map entry_text (entries ++ more)) ≡
    records_text (head_sum tags units) (map entry_text entries) ++ records_text (front_sum tags units entries) (map entry_text more) =
    ap (records_text (head_sum tags units)) (map_on entries more) ∙ records-append (head_sum tags units) (map entry_text entries) (map entry_text more) in
    ap (λ (back : List ℕ). head_text tags units ++ back) records
    ∙ sym (append_assoc (head_text tags units) (records_text (head_sum tags units) (map entry_text entries)) (records_text (front_sum tags units entries) (map entry_text more)))

sum_goes_on : (tags : ℕ) (units : List FirstUnit) (entries more : List Entry) → front_sum tags units (entries ++ more) ≡ last_sum (front_sum tags units entries) (map entry_text more)
sum_goes_on tags units entries more = ap (last_sum (head_sum tags units)) (map_on entries more) ∙ last_sum-append (head_sum tags units) (map entry_text entries) (map entry_text more)

front_parts : (tags : ℕ) (units : List FirstUnit) (front back : List Entry) (ends : List (List ℕ))
    → front_text tags units (front ++ back) ++ records_text (front_sum tags units (front ++ back)) ends
    ≡ front_text tags units front ++ records_text (front_sum tags units front) (map entry_text back ++ ends)
front_parts tags units front back ends =
    let sum : ℕ = front_sum tags units front in
    let bodies : List (List ℕ) = map entry_text back in
    ap (λ (text : List ℕ). text ++ records_text (front_sum tags units (front ++ back)) ends) (text_goes_on tags units front back)
    ∙ ap (λ n. (front_text tags units front ++ records_text sum bodies) ++ records_text n ends) (sum_goes_on tags units front back)
    ∙ append_assoc (front_text tags units front) (records_text sum bodies) (records_text (last_sum sum bodies) ends)
    ∙ ap (λ (text : List ℕ). front_text tags units front ++ text) (sym (records-append sum bodies ends))

-- the text of the first steps is the front of a log's text
pub text_begins : (kept : Kept) (count : ℕ)
    → kept_text kept ≡ front_text kept.tags kept.units (take count kept.entries)
    ++ records_text (front_sum kept.tags kept.units (take count kept.entries)) (map entry_text (drop count kept.entries) ++ end_bodies (length kept.entries) kept.ending)
text_begins kept count =
    let ends : List (List ℕ) = end_bodies (length kept.entries) kept.ending in
    ap (λ (entries : List Entry). front_text kept.tags kept.units entries ++ records_text (front_sum kept.tags kept.units entries) ends) (sym (take-append-drop count kept.entries))
    ∙ front_parts kept.tags kept.units (take count kept.entries) (drop count kept.entries) ends
