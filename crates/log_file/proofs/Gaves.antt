-- Bytes that are given to a sink one behind the other.
use Rattle.std.proofs.Common.{◌≡◌, ℕ, List, [], ◌∷◌, ◌++◌, Option, Some, None, sym, ap, ap₂, subst, ◌∙◌, append_assoc, append-nil}
use Rattle.std.specs.Io.KnownBytes.{Appends}
use Rattle.std.specs.List.{flat_map}
use Rattle.std.proofs.KnownBytes.{Appends-trans}
use Rattle.std.proofs.lemmas.List.Concat.{flat_map-append}
use Rattle.shared_machine.specs.declared.Step.{Step}
use Rattle.log_text.specs.Text.{step_text}
use Rattle.log_file.specs.Pieces.{Gave, with_waiting}

pub gave_then : {O : Type 0} {written : O → Option (List ℕ)} {old middle new : O} {waiting between left front bytes : List ℕ}
    → Gave written old waiting middle between front → Gave written middle between new left bytes → Gave written old waiting new left (front ++ bytes)
gave_then {written = written} {old = old} {middle = middle} {new = new} {waiting = waiting} {between = between} {left = left} {front = front} {bytes = bytes} p q =
    record { appends = Appends-trans (with_waiting (written old) waiting) (with_waiting (written middle) between) (with_waiting (written new) left) front bytes p.appends q.appends }

last_out : (old middle new : Option (List ℕ)) (waiting left bytes : List ℕ) → waiting ≡ [] → Appends (with_waiting old waiting) (with_waiting middle left) bytes
    → Appends middle new left → Appends old new bytes
last_out None middle new waiting left bytes e p q = tt
last_out (Some xs) None new waiting left bytes e p q = absurd p
last_out (Some xs) (Some ys) None waiting left bytes e p q = absurd q
last_out (Some xs) (Some ys) (Some zs) waiting left bytes e p q =
    q ∙ (p ∙ ap (λ (l : List ℕ). l ++ bytes) (ap (λ (l : List ℕ). xs ++ l) e ∙ append-nil xs))

-- and at last all that waits
pub gave_last : {O : Type 0} (written : O → Option (List ℕ)) (old middle new : O) (waiting left bytes : List ℕ) → waiting ≡ []
    → Gave written old waiting middle left bytes → Appends (written middle) (written new) left → Appends (written old) (written new) bytes
gave_last written old middle new waiting left bytes e p q = last_out (written old) (written middle) (written new) waiting left bytes e p.appends q

-- one step more
pub gave_one_more : {O : Type 0} {written : O → Option (List ℕ)} {old middle new : O} {waiting between left : List ℕ} (front : List ℕ) (items more : List Step)
    (step : Step) → more ≡ items ++ step ∷ [] → Gave written old waiting middle between (front ++ flat_map step_text items)
    → Gave written middle between new left (step_text step) → Gave written old waiting new left (front ++ flat_map step_text more)
gave_one_more {written = written} {old = old} {new = new} {waiting = waiting} {left = left} front items more step e so_far one =
    let push : flat_map step_text (items ++ step ∷ []) ≡ flat_map step_text items ++ step_text step =
    flat_map-append step_text items (step ∷ []) ∙ ap (λ (rest : List ℕ). flat_map step_text items ++ rest) (append-nil (step_text step)) in
    subst (λ (text : List ℕ). Gave written old waiting new left text)
    (append_assoc front (flat_map step_text items) (step_text step)
    ∙ ap (λ (text : List ℕ). front ++ text) (sym push ∙ ap (flat_map step_text) (sym e)))
    (gave_then so_far one)

-- the three parts of a text, and then all that waits
pub gave_whole : {O : Type 0} (written : O → Option (List ℕ)) (old one two three new : O) (waiting first second left front steps replies steps' replies' : List ℕ)
    → waiting ≡ [] → steps ≡ steps' → replies ≡ replies' → Gave written old waiting one first front → Gave written one first two second steps
    → Gave written two second three left replies → Appends (written three) (written new) left
    → Appends (written old) (written new) (front ++ steps' ++ replies')
gave_whole written old one two three new waiting first second left front steps replies steps' replies' none same same' p q r last =
    subst (Appends (written old) (written new)) (ap₂ (λ (a b : List ℕ). front ++ a ++ b) same same')
    (gave_last written old three new waiting left _ none (gave_then (gave_then p q) r) last)
