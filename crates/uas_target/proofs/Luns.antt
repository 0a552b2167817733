-- The LUNs that name a unit number.
use Rattle.std.proofs.Common.{◌≡◌, ℕ, Bool, true, false, not, ◌==◌, List, [], ◌∷◌, length, drop, None, refl, arith, sym, ◌∙◌}
use Rattle.std.specs.Prelude.{slice_index, slice_get}
use Rattle.std.specs.List.{list_any}
use Rattle.std.proofs.lemmas.List.{drop_all}
use Rattle.uas_iu.specs.Lun.{lun_text}
use Rattle.uas_iu.proofs.Texts.{first_eight, none_set, AreZero}
use Rattle.uas_target.specs.Fields.{is_plain_lun, addressed}

by_zeros : (lun : List ℕ) → length lun ≡ 8 → AreZero lun (0 ∷ 2 ∷ 3 ∷ 4 ∷ 5 ∷ 6 ∷ 7 ∷ []) → lun ≡ lun_text (slice_index lun 1)
by_zeros lun long zeros =
    let first = first_eight lun (omega arith) in
    let rest : drop 8 lun ≡ [] = drop_all 8 lun (omega arith) in
    first
    ∙ (λ i. zeros.0 i ∷ slice_index lun 1 ∷ zeros.1.0 i ∷ zeros.1.1.0 i ∷ zeros.1.1.1.0 i ∷ zeros.1.1.1.1.0 i ∷ zeros.1.1.1.1.1.0 i ∷ zeros.1.1.1.1.1.1.0 i
    ∷ rest i)

is_plain_lun-text : (lun : List ℕ) (plain : Bool) → length lun ≡ 8 →
    plain ≡ list_any (λ place. not (slice_index lun place == 0)) (0 ∷ 2 ∷ 3 ∷ 4 ∷ 5 ∷ 6 ∷ 7 ∷ []) →
    not plain ≡ true → lun ≡ lun_text (slice_index lun 1)
is_plain_lun-text lun true long is so = let no : false ≡ true = so in cc
is_plain_lun-text lun false long is so = by_zeros lun long (none_set lun (0 ∷ 2 ∷ 3 ∷ 4 ∷ 5 ∷ 6 ∷ 7 ∷ []) (sym is))

-- where no number is read from a LUN, it addresses nothing
pub addressed-no_number : {U : Type 0} (units : List U) (lun : List ℕ) → length lun ≡ 8 → ((number : ℕ) → lun ≡ lun_text number → ⊥) →
    addressed units lun ≡ None
addressed-no_number units lun long none =
    elim (is_plain_lun lun) as (λ b. is_plain_lun lun ≡ b → addressed units lun ≡ None) [
      | true ↦ λ plain. absurd (none (slice_index lun 1) (is_plain_lun-text lun _ long refl plain))
      | false ↦ λ other. rw other refl
    ] refl

-- a LUN of a number addresses the unit of that number
pub addressed-number : {U : Type 0} (units : List U) (lun : List ℕ) (number : ℕ) → lun ≡ lun_text number → addressed units lun ≡ slice_get units number
addressed-number units lun number is = rw is refl
