-- No byte of what is escaped begins or ends an element.
use Rattle.std.proofs.Common.{◌≡◌, ◌∙◌, ℕ, ◌==◌, nat_le, Bool, true, false, not, ◌&&◌, if◌then◌else◌, List, [], ◌∷◌, refl, ap, codes}
use Rattle.std.specs.List.{flat_map, list_all}
use Rattle.std.proofs.lemmas.List.Folds.{list_all-append}
use Rattle.draw_run.specs.picture.Elements.{escaped, escaped_byte, is_plain}

-- by what the four tests of a byte say
plain_chosen : (is_and is_less is_greater is_printed : Bool) (byte : ℕ) → (not is_less && (not is_greater && is_printed)) ≡ is_plain byte
    → list_all is_plain
    (if is_and then codes "&amp;" else (if is_less then codes "&lt;" else (if is_greater then codes "&gt;"
    else (if is_printed then byte ∷ [] else codes "?"))))
    ≡ true
plain_chosen true is_less is_greater is_printed byte same = refl
plain_chosen false true is_greater is_printed byte same = refl
plain_chosen false false true is_printed byte same = refl
plain_chosen false false false true byte same = rw (← same)
plain_chosen false false false false byte same = refl

plain_byte : (byte : ℕ) → list_all is_plain (escaped_byte byte) ≡ true
unfolding escaped_byte
plain_byte byte = plain_chosen (byte == 38) (byte == 60) (byte == 62) (nat_le 32 byte && nat_le byte 126) byte refl

pub plain_escaped : (bytes : List ℕ) → list_all is_plain (escaped bytes) ≡ true
unfolding escaped
plain_escaped [] = refl
plain_escaped (byte ∷ bytes) =
    list_all-append is_plain (escaped_byte byte) (flat_map escaped_byte bytes)
    ∙ ap (λ (first : Bool). first && list_all is_plain (flat_map escaped_byte bytes)) (plain_byte byte) ∙ plain_escaped bytes
