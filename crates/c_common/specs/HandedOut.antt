-- The memory that the making of a handle hands out.
use Rattle.std.specs.Prelude.{◌≡◌, ℕ, Result, Ok, Err}
use base.Fraction.{full_share}
use base.Fml.{Fml, ftrue, fex, fall}
use denote.RattleType.{RattleType}
use denote.RawPtr.{Ptr, lies_at}
use Rattle.std.specs.declared.alloc.Global.{Global}
use Rattle.std.specs.declared.boxed.Box.{Box}

-- THE CLAUSE OF WHAT MAKES A HANDLE

-- a value that was just made so lies at this pointer, whole, and is the caller's
abbrev pub made_at : (T : RattleType) → (T.Denot → Type 0) → Ptr → Fml
made_at T IsMade pointer = fex T.Denot (λ made. fex (IsMade made) (λ _. lies_at T full_share pointer made))

-- Where the answer is 0, such a value is handed out at the pointer. At another answer nothing is.
abbrev pub handed_out : (T : RattleType) → (T.Denot → Type 0) → ℕ → Ptr → Fml
handed_out T IsMade answer pointer = fall (answer ≡ 0) (λ _. made_at T IsMade pointer)

-- THE CLAUSE OF WHAT HANDS OUT A BOX

-- the number of what was made, or of the fault
abbrev pub made_number : {X : Type 0} → Result X ℕ → ℕ
made_number (Ok made) = 0
made_number (Err number) = number

-- What was made lies at this pointer, whole, and is the caller's. Where nothing was made, nothing is handed out.
abbrev pub handed_if_made : (T : RattleType) → Result (Box T.Denot Global) ℕ → Ptr → Fml
handed_if_made T (Ok made) pointer = lies_at T full_share pointer made.value
handed_if_made T (Err number) pointer = ftrue
