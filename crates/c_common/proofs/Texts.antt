-- How long the text of a unit is.
use Rattle.std.proofs.Common.{◌≡◌, ℕ, List, length, ◌∙◌, ap}
use Rattle.uas_iu.specs.declared.Iu.{Iu}
use Rattle.uas_iu.specs.Units.{Fits, unit_text, unit_size}
use Rattle.uas_iu.proofs.Laws.{length-unit_text}

pub text_size : (unit : Iu) (text : List ℕ) → Fits unit → text ≡ unit_text unit → length text ≡ unit_size unit
text_size unit text fits same = ap length same ∙ length-unit_text unit fits
