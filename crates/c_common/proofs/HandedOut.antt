-- What `hand_out_made` hands out, as the clause of what makes a handle says it.
use Rattle.std.proofs.Common.{◌≡◌, ℕ, [], ◌∷◌, List, refl, arith}
use Rattle.std.specs.Prelude.{◌<◌, IfErr, IfOk, Result, Ok, Err}
use Rattle.std.specs.declared.alloc.Global.{Global}
use Rattle.std.specs.declared.boxed.Box.{Box}
use seplogic.Ra.Ura.{Ura}
use base.Fraction.{full_share}
use base.Fml.{ftrue, fex}
use base.Logic.{ent}
use types.Logic.{Logic, sem}
use types.Kit.{‵, ◌$◌, ◌∵◌, !, qed, each, fpack, done}
use denote.Builtin.{u8}
use denote.Param.{param}
use denote.Param.Laws.{Laws, of_field, param_laws}
use denote.Param.Shared.{copy_shared}
use denote.Struct.Field.{u8-field}
use denote.Struct.Laws.{u8-copy, u8-laws}
use denote.RattleType.{RattleType}
use denote.RawPtr.{Ptr, lies_at}
use denote.Steps.{only}
use denote.Struct.Members.{Lone}
use mir.Val.{Val}
use Rattle.std.specs.contracts.alloc.Global as heap
use Rattle.std.proofs.alloc.Global.TheLaws as heap_laws
use Rattle.std.specs.contracts.boxed.Box as boxed
use Rattle.std.proofs.boxed.Box.TheLaws as boxed_laws
use Rattle.std.specs.contracts.result.Result as result
use Rattle.std.proofs.result.Result.TheLaws as result_laws
use Rattle.std.specs.contracts.impls.GlobalAllocator.TheImpl as allocator
use Rattle.c_common.specs.HandedOut.{handed_if_made, handed_out, made_at, made_number}

-- a box of a value, and the answer of what makes one
abbrev pub Boxed : RattleType → RattleType
Boxed T = boxed.the_row (param 0 T) heap.the_row allocator.ghosts

abbrev pub Made : RattleType → RattleType
Made T = result.the_row (Boxed T) u8

u8_laws : Laws u8
u8_laws = of_field u8-field u8-laws refl (copy_shared u8-field u8-copy)

pub made_laws : (T : RattleType) → Laws T → Laws (Made T)
made_laws T L =
    result_laws.the_row_laws (Boxed T) u8 (boxed_laws.the_row_laws (param 0 T) heap.the_row allocator.ghosts (param_laws 0 T L) heap_laws.the_row_laws)
    u8_laws

-- a list of one value
pub one_value : (vs : List Val) → Lone vs → vs ≡ only vs ∷ []
one_value [] lone = absurd lone
one_value (v ∷ []) lone = refl
one_value (v ∷ u ∷ vs) lone = absurd lone

module _ (T : RattleType) (IsMade : T.Denot → Type 0) {M : Type 1} {𝓤 : Ura M} (𝓛 : Logic 𝓤) where
  pub handed : (made : Result (Box T.Denot Global) ℕ) (answer : ℕ) (pointer : Ptr) → IfOk made (λ made. IsMade made.value) → IfErr made (λ number. 0 < number)
      → answer ≡ made_number made → ent 𝓤 (sem 𝓛 (handed_if_made T made pointer)) (sem 𝓛 (handed_out T IsMade answer pointer))
  handed (Ok made) answer pointer is fault told =
      qed 𝓛 (‵ (lies_at T full_share pointer made.value) ∷ []) ∵ each ! (λ (_ : answer ≡ 0). sem 𝓛 (made_at T IsMade pointer)) (λ _.
      fpack ! (IsMade made.value) (λ _. lies_at T full_share pointer made.value) is $
      fpack ! T.Denot (λ value. fex (IsMade value) (λ _. lies_at T full_share pointer value)) made.value $ done !)
  handed (Err number) answer pointer is fault told =
      qed 𝓛 (‵ ftrue ∷ []) ∵ each ! (λ (_ : answer ≡ 0). sem 𝓛 (made_at T IsMade pointer)) (λ zero. absurd (omega (arith, fault, told, zero)))

-- the pointer is as it was at another answer than 0
pub as_it_was : {X P : Type 0} (made : Result X ℕ) (answer : ℕ) → answer ≡ made_number made → IfErr made (λ _. P) → 0 < answer → P
as_it_was (Ok made) answer told kept low = absurd (omega (arith, told, low))
as_it_was (Err number) answer told kept low = kept
