-- Where a checksum stands, record by record.
use Rattle.std.proofs.Common.{◌≡◌, ℕ, suc, ◌≤◌, ◌==◌, Bool, true, false, cond, List, [], ◌∷◌, ◌++◌, length, map, Ok, Option, Some, None, IfSome, option_map, refl, sym, ap, subst, ◌∙◌, arith}
use Rattle.std.proofs.lemmas.Bool.{le-leb, lt-leb}
use Rattle.std.proofs.lemmas.List.{append-nil, length-map}
use Rattle.uas_log.specs.declared.FirstUnit.{FirstUnit}
use Rattle.log_records.specs.Records.{last_sum, sum_after}
use Rattle.kept_log.specs.declared.Entry.{Entry}
use Rattle.kept_log.specs.declared.Loaded.{Loaded}
use Rattle.kept_log.specs.declared.Why.{Why}
use Rattle.kept_log.specs.Form.{Kept, end_text, entry_text, front_sum, head_sum}
use Rattle.kept_log.specs.LoadAt.{load_at}
use Rattle.kept_log.specs.Parts.{step_asked, step_with}
use Rattle.kept_log.specs.Sums.{place_of, step_of_loaded, step_of_sum, steps_up_to}
use Rattle.kept_log.proofs.TakenNext.{map_more, sum_more}

-- BODIES

-- where the checksum stands first that is asked for
abbrev pub place_asked : Option ℕ → ℕ → List (List ℕ) → Option ℕ
place_asked None before bodies = None
place_asked (Some sum) before bodies = place_of sum before bodies

one_later : (here : Bool) (steps : ℕ) → option_map (λ place. suc place) (cond here (Some steps) None) ≡ cond here (Some (suc steps)) None
one_later true steps = refl
one_later false steps = refl

only_one : (first : Bool) (sum wanted : ℕ)
    → cond first (Some 0) (option_map (λ place. suc place) (cond (sum == wanted) (Some 0) None)) ≡ step_with (cond first (Some 0) None) (Some wanted) sum 1
only_one true sum wanted = refl
only_one false sum wanted = one_later (sum == wanted) 0

one_behind : (first : Bool) (found : Option ℕ) (sum wanted steps : ℕ)
    → cond first (Some 0) (option_map (λ place. suc place) (step_with found (Some wanted) sum steps))
    ≡ step_with (cond first (Some 0) (option_map (λ place. suc place) found)) (Some wanted) sum (suc steps)
one_behind true found sum wanted steps = refl
one_behind false (Some place) sum wanted steps = refl
one_behind false None sum wanted steps = one_later (sum == wanted) steps

place_more : (wanted before : ℕ) (bodies : List (List ℕ)) (body : List ℕ)
    → place_of wanted before (bodies ++ body ∷ []) ≡ step_with (place_of wanted before bodies) (Some wanted) (sum_after (last_sum before bodies) body) (suc (length bodies))
place_more wanted before [] body = only_one (before == wanted) (sum_after before body) wanted
place_more wanted before (first ∷ bodies) body =
    let after : ℕ = sum_after before first in
    ap (λ (found : Option ℕ). cond (before == wanted) (Some 0) (option_map (λ place. suc place) found)) (place_more wanted after bodies body)
    ∙ one_behind (before == wanted) (place_of wanted after bodies) (sum_after (last_sum after bodies) body) wanted (suc (length bodies))

asked_more : (wanted : Option ℕ) (before : ℕ) (bodies : List (List ℕ)) (body : List ℕ)
    → place_asked wanted before (bodies ++ body ∷ []) ≡ step_with (place_asked wanted before bodies) wanted (sum_after (last_sum before bodies) body) (suc (length bodies))
asked_more None before bodies body = refl
asked_more (Some sum) before bodies body = place_more sum before bodies body

-- STEPS

abbrev pub step_so_far : Option ℕ → ℕ → List FirstUnit → List Entry → Option ℕ
step_so_far wanted tags units entries = place_asked wanted (head_sum tags units) (map entry_text entries)

pub step_first : (wanted : Option ℕ) (tags : ℕ) (units : List FirstUnit) → step_with None wanted (head_sum tags units) 0 ≡ step_so_far wanted tags units []
step_first None tags units = refl
step_first (Some sum) tags units = refl

pub step_more : (wanted : Option ℕ) (tags : ℕ) (units : List FirstUnit) (entries : List Entry) (entry : Entry)
    → step_so_far wanted tags units (entries ++ entry ∷ [])
    ≡ step_with (step_so_far wanted tags units entries) wanted (front_sum tags units (entries ++ entry ∷ [])) (suc (length entries))
step_more wanted tags units entries entry =
    let bodies : List (List ℕ) = map entry_text entries in
    ap (place_asked wanted (head_sum tags units)) (map_more entries entry)
    ∙ asked_more wanted (head_sum tags units) bodies (entry_text entry)
    ∙ ap (λ n. step_with (place_asked wanted (head_sum tags units) bodies) wanted n (suc (length bodies))) (sym (sum_more tags units entries entry))
    ∙ ap (λ n. step_with (place_asked wanted (head_sum tags units) bodies) wanted (front_sum tags units (entries ++ entry ∷ [])) (suc n)) (length-map entries entry_text)

-- THE END

-- a place among so many records or before them
abbrev IsWithin : ℕ → Option ℕ → Type 0
IsWithin most found = IfSome found (λ place. place ≤ most)

one_within : (most : ℕ) (first : Bool) (found : Option ℕ) → IsWithin most found → IsWithin (suc most) (cond first (Some 0) (option_map (λ place. suc place) found))
one_within most true found within = omega arith
one_within most false None within = tt
one_within most false (Some place) within = omega (arith, within)

none_within : (first : Bool) → IsWithin 0 (cond first (Some 0) None)
none_within true = omega arith
none_within false = tt

place_within : (wanted before : ℕ) (bodies : List (List ℕ)) → IsWithin (length bodies) (place_of wanted before bodies)
place_within wanted before [] = none_within (before == wanted)
place_within wanted before (body ∷ bodies) =
    one_within (length bodies) (before == wanted) (place_of wanted (sum_after before body) bodies) (place_within wanted (sum_after before body) bodies)

up_to_same : (steps place : ℕ) → place ≤ steps → steps_up_to steps place ≡ place
up_to_same steps place within = ap (λ (is : Bool). cond is place steps) (le-leb place steps within)

up_to_end : (steps : ℕ) → steps_up_to steps (suc steps) ≡ steps
up_to_end steps = ap (λ (is : Bool). cond is (suc steps) steps) (lt-leb (suc steps) steps (omega arith))

within_same : (steps : ℕ) (found : Option ℕ) → IsWithin steps found → option_map (steps_up_to steps) found ≡ found
within_same steps None within = refl
within_same steps (Some place) within = ap (λ (n : ℕ). Some n) (up_to_same steps place within)

end_here : (steps : ℕ) (here : Bool) → option_map (steps_up_to steps) (cond here (Some (suc steps)) None) ≡ cond here (Some steps) None
end_here steps true = ap (λ (n : ℕ). Some n) (up_to_end steps)
end_here steps false = refl

end_with : (steps : ℕ) (found : Option ℕ) (wanted sum : ℕ) → IsWithin steps found
    → option_map (steps_up_to steps) (step_with found (Some wanted) sum (suc steps)) ≡ step_with found (Some wanted) sum steps
end_with steps (Some place) wanted sum within = ap (λ (n : ℕ). Some n) (up_to_same steps place within)
end_with steps None wanted sum within = end_here steps (sum == wanted)

abbrev pub log_of : ℕ → List FirstUnit → List Entry → Option Why → Kept
log_of tags units entries ending = record { tags = tags; units = units; entries = entries; ending = ending }

-- behind how many steps of a log the checksum stands first that is asked for
abbrev pub log_asked : Option ℕ → Kept → Option ℕ
log_asked None kept = None
log_asked (Some sum) kept = step_of_sum sum kept

steps_within : (sum : ℕ) (tags : ℕ) (units : List FirstUnit) (entries : List Entry) → IsWithin (length entries) (place_of sum (head_sum tags units) (map entry_text entries))
steps_within sum tags units entries =
    subst (λ (most : ℕ). IsWithin most (place_of sum (head_sum tags units) (map entry_text entries))) (length-map entries entry_text)
    (place_within sum (head_sum tags units) (map entry_text entries))

-- a log without an end has the checksums of its steps
pub step_no_end : (wanted : Option ℕ) (tags : ℕ) (units : List FirstUnit) (entries : List Entry) → step_so_far wanted tags units entries ≡ log_asked wanted (log_of tags units entries None)
step_no_end None tags units entries = refl
step_no_end (Some sum) tags units entries =
    let bodies : List (List ℕ) = map entry_text entries in
    sym (ap (λ (all : List (List ℕ)). option_map (steps_up_to (length entries)) (place_of sum (head_sum tags units) all)) (append-nil bodies)
    ∙ within_same (length entries) (place_of sum (head_sum tags units) bodies) (steps_within sum tags units entries))

-- another one has its end's too
pub step_end : (wanted : Option ℕ) (tags : ℕ) (units : List FirstUnit) (entries : List Entry) (reason : Why)
    → step_with (step_so_far wanted tags units entries) wanted (sum_after (front_sum tags units entries) (end_text (length entries) reason)) (length entries)
    ≡ log_asked wanted (log_of tags units entries (Some reason))
step_end None tags units entries reason = refl
step_end (Some sum) tags units entries reason =
    let bodies : List (List ℕ) = map entry_text entries in
    let last : ℕ = sum_after (front_sum tags units entries) (end_text (length entries) reason) in
    let found : Option ℕ = place_of sum (head_sum tags units) bodies in
    sym (ap (option_map (steps_up_to (length entries))) (place_more sum (head_sum tags units) bodies (end_text (length entries) reason))
    ∙ ap (λ n. option_map (steps_up_to (length entries)) (step_with found (Some sum) last (suc n))) (length-map entries entry_text)
    ∙ end_with (length entries) found sum last (steps_within sum tags units entries))

pub asked_in : (wanted : Option ℕ) (text : List ℕ) (loaded : Loaded) → load_at text ≡ Ok loaded → step_asked wanted text ≡ log_asked wanted loaded.log
asked_in None text loaded e = refl
asked_in (Some sum) text loaded e = ap (step_of_loaded sum) e
