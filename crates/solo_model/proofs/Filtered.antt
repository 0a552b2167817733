-- Lists of which the first places are read and the rest isn't yet. Cited by the loop of `tickets_in`.
use Rattle.std.proofs.Common.{◌≡◌, ℕ, zero, suc, ◌+◌, ◌<◌, ◌≤◌, List, [], ◌∷◌, ◌++◌, length, take, Option, Some, None, refl, arith, ap, sym, ◌∙◌, get_or}
use Rattle.std.specs.Prelude.{option_to_list}
use Rattle.std.specs.List.{filter_map, cons_option}

-- one more place is read
filtered-next : {T U : Type 0} (f : T → Option U) (at : ℕ) (places : List T) (other : T) → at < length places →
    filter_map f (take (suc at) places) ≡ filter_map f (take at places) ++ option_to_list (f (get_or places at other))
filtered-next f zero [] other within = absurd (omega arith)
filtered-next f zero (place ∷ places) other within = one-filtered (f place)
  where
    one-filtered : {U : Type 0} (held : Option U) → cons_option held [] ≡ option_to_list held
    one-filtered None = refl
    one-filtered (Some x) = refl
filtered-next f (suc more) [] other within = absurd (omega arith)
filtered-next f (suc more) (place ∷ places) other within =
    under (f place) (filter_map f (take (suc more) places)) (filter_map f (take more places)) (option_to_list (f (get_or places more other)))
    (filtered-next f more places other (omega arith))
  where
    under : {U : Type 0} (held : Option U) (xs ys zs : List U) → xs ≡ ys ++ zs → cons_option held xs ≡ cons_option held ys ++ zs
    under None xs ys zs is = is
    under (Some x) xs ys zs is = ap (λ rest. x ∷ rest) is

pub filtered-more : {T U : Type 0} (f : T → Option U) (at : ℕ) (places : List T) (other : T) (now : List U) (held : Option U) → at < length places →
    now ≡ filter_map f (take at places) ++ option_to_list held → held ≡ f (get_or places at other) → now ≡ filter_map f (take (at + 1) places)
filtered-more f at places other now held within is read =
    let next : suc at ≡ at + 1 = omega arith in
    is ∙ ap (λ h. filter_map f (take at places) ++ option_to_list h) read ∙ sym (filtered-next f at places other within)
    ∙ ap (λ k. filter_map f (take k places)) next

pub filtered-length : {T U : Type 0} (f : T → Option U) (places : List T) → length (filter_map f places) ≤ length places
filtered-length f [] = omega arith
filtered-length f (place ∷ places) = under (f place) (filter_map f places) (filtered-length f places)
  where
    under : {U : Type 0} (held : Option U) (xs : List U) {n : ℕ} → length xs ≤ n → length (cons_option held xs) ≤ suc n
    under None xs most = omega (arith, most)
    under (Some x) xs most = omega (arith, most)
