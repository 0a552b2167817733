-- The logical unit numbers below 256 (SAM, single level LUN structure).
use Rattle.std.specs.Prelude.{ℕ, List, [], ◌∷◌}

-- the LUN bytes of a unit number below 256: 00, the number, six zeros; unit 2 is 00 02 00 00 00 00 00 00
abbrev pub lun_text : ℕ → List ℕ
lun_text number = 0 ∷ number ∷ 0 ∷ 0 ∷ 0 ∷ 0 ∷ 0 ∷ 0 ∷ []
