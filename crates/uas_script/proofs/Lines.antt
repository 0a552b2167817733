-- One more line of a script.
use Rattle.std.proofs.Common.{◌≡◌, ℕ, suc, ◌+◌, ◌<◌, List, [], ◌∷◌, ◌++◌, length, map, drop, get_or, ap, ◌∙◌, refl, add-one}
use Rattle.std.specs.Prelude.{Option, option_to_list, Ok, Err}
use Rattle.std.proofs.Math.Seq.{drop-cons, drop-length}
use Rattle.std.proofs.Math.ListN.{get_or-map, length-map}
use Rattle.uas_script.specs.declared.Line.{Line}
use Rattle.uas_script.specs.declared.LineFault.{LineFault}
use Rattle.uas_script.specs.declared.ScriptFault.TheVariants.{Line as FaultyLine}
use Rattle.uas_script.specs.Script.{line_of, lines_after}

-- the rest of a list that was read through f
drop-map : {X : Type 0} (f : X → List ℕ) (xs : List X) (i : ℕ) (d : X) → i < length xs → drop i (map f xs) ≡ f (get_or xs i d) ∷ drop (i + 1) (map f xs)
drop-map f xs i d inside =
    let within : i < length (map f xs) = rw length-map inside in
    rw (add-one i) (drop-cons (map f xs) i (f d) within ∙ ap (λ x. x ∷ drop (suc i) (map f xs)) (get_or-map f xs i d))

read_line : (clients tags : ℕ) (before : List Line) (number : ℕ) (bytes : List ℕ) (rest : List (List ℕ)) (line : Option Line)
    → line_of clients tags bytes ≡ Ok line
    → lines_after clients tags before number (bytes ∷ rest) ≡ lines_after clients tags (before ++ option_to_list line) (number + 1) rest
unfolding lines_after
read_line clients tags before number bytes rest line e = rw e refl

faulty_line : (clients tags : ℕ) (before : List Line) (number : ℕ) (bytes : List ℕ) (rest : List (List ℕ)) (fault : LineFault)
    → line_of clients tags bytes ≡ Err fault → lines_after clients tags before number (bytes ∷ rest) ≡ Err (FaultyLine number fault)
unfolding lines_after
faulty_line clients tags before number bytes rest fault e = rw e refl

no_line : (clients tags : ℕ) (before : List Line) (number : ℕ) → lines_after clients tags before number [] ≡ Ok before
unfolding lines_after
no_line clients tags before number = refl

pub read_at : {X : Type 0} (f : X
    → List ℕ) (clients tags : ℕ) (before : List Line) (number : ℕ) (xs : List X) (i : ℕ) (d : X) (line : Option Line) → i < length xs
    → line_of clients tags (f (get_or xs i d)) ≡ Ok line
    → lines_after clients tags before number (drop i (map f xs)) ≡ lines_after clients tags (before ++ option_to_list line) (number + 1) (drop (i + 1) (map f xs))
read_at f clients tags before number xs i d line inside e =
    (ap (lines_after clients tags before number) (drop-map f xs i d inside) ∙ read_line clients tags before number _ _ line e)

pub faulty_at : {X : Type 0} (f : X
    → List ℕ) (clients tags : ℕ) (before : List Line) (number : ℕ) (xs : List X) (i : ℕ) (d : X) (fault : LineFault) → i < length xs
    → line_of clients tags (f (get_or xs i d)) ≡ Err fault
    → lines_after clients tags before number (drop i (map f xs)) ≡ Err (FaultyLine number fault)
faulty_at f clients tags before number xs i d fault inside e =
    ap (lines_after clients tags before number) (drop-map f xs i d inside) ∙ faulty_line clients tags before number _ _ fault e

pub ended_at : {X : Type 0} (f : X → List ℕ) (clients tags : ℕ) (before : List Line) (number i : ℕ) (xs : List X) → i ≡ length xs
    → lines_after clients tags before number (drop i (map f xs)) ≡ Ok before
ended_at f clients tags before number i xs at_end =
    let len : length (map f xs) ≡ length xs = rw length-map refl in
    let whole : drop i (map f xs) ≡ [] = rw (at_end, ← len) (drop-length (map f xs)) in
    ap (lines_after clients tags before number) whole ∙ no_line clients tags before number
