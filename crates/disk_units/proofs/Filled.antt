-- Names filled up with spaces. Cited by `filled` and `padded`.
use Rattle.std.proofs.Common.{◌≡◌, ℕ, zero, suc, ◌&&◌, true, List, ◌++◌, replicate, refl, ap₂, ◌∙◌}
use Rattle.std.proofs.lemmas.List.{drop-replicate}
use Rattle.std.proofs.lemmas.List.Folds.{list_all-append}
use Rattle.std.specs.List.{list_all}
use Rattle.disk_units.specs.Printable.{is_printable}

-- spaces are printable
spaces_printable : (n : ℕ) → list_all is_printable (replicate n 0x20) ≡ true
spaces_printable zero = refl
spaces_printable (suc n) = spaces_printable n

pub filled_printable : (text : List ℕ) (n : ℕ) → list_all is_printable text ≡ true → list_all is_printable (text ++ replicate n 0x20) ≡ true
filled_printable text n so = list_all-append is_printable text (replicate n 0x20) ∙ ap₂ (λ a b. a && b) so (spaces_printable n)

pub ruleset filling = (drop-replicate)
