-- Bytes in memory as the cells that a slice lends, and back.
use Rattle.std.proofs.Common.{ℕ, ◌+◌, List, [], ◌∷◌}
use seplogic.Ra.Ura.{Ura}
use base.Fraction.{full_share}
use base.Logic.{ent, emp, id⊢, mono_r}
use types.Logic.{Logic, sem}
use types.SemTy.{cells}
use denote.Builtin.{u8}
use denote.Memory.{mem, part_at}
use denote.RawPtr.Bytes.{bytes}

module _ {M : Type 1} {𝓤 : Ura M} (𝓛 : Logic 𝓤) where
  pub bytes-cells : (xs : List ℕ) (b o : ℕ) → ent 𝓤 (sem 𝓛 (bytes full_share xs b o)) (sem 𝓛 (cells (mem u8) xs b o))
  bytes-cells [] b o = id⊢ 𝓤 (emp 𝓤)
  bytes-cells (x ∷ xs) b o = mono_r 𝓤 (sem 𝓛 (part_at u8 full_share x b o)) (bytes-cells xs b (o + 1))

  pub cells-bytes : (xs : List ℕ) (b o : ℕ) → ent 𝓤 (sem 𝓛 (cells (mem u8) xs b o)) (sem 𝓛 (bytes full_share xs b o))
  cells-bytes [] b o = id⊢ 𝓤 (emp 𝓤)
  cells-bytes (x ∷ xs) b o = mono_r 𝓤 (sem 𝓛 (part_at u8 full_share x b o)) (cells-bytes xs b (o + 1))
