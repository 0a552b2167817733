-- What holds of a call by what it answered.
use Rattle.std.proofs.Common.{◌≡◌, subst, Result, Ok, Err}
use Rattle.std.specs.Prelude.{IfErr, IfOk, OnOk, ⊤}

pub on_ok_of : {T E : Type 0} (P : T → Type 0) (r : Result T E) (x : T) → r ≡ Ok x → IfOk r P → P x
on_ok_of {T = T} {E = E} P r x e p = subst (λ (s : Result T E). IfOk s P) e p

pub on_err_of : {T E : Type 0} (P : E → Type 0) (r : Result T E) (x : E) → r ≡ Err x → IfErr r P → P x
on_err_of {T = T} {E = E} P r x e p = subst (λ (s : Result T E). IfErr s P) e p

-- what follows for whatever a call answers
pub on_ok : {T E P Q : Type 0} (r : Result T E) → (P → Q) → OnOk r P → OnOk r Q
on_ok (Ok x) f p = f p
on_ok (Err e) f p = p

pub on_err : {T E : Type 0} {P Q : E → Type 0} (r : Result T E) → ((e : E) → P e → Q e) → IfErr r P → IfErr r Q
on_err (Ok x) f p = p
on_err (Err e) f p = f e p

-- no call answers both
abbrev IsOkOnly : {T E : Type 0} → Result T E → Type 0
IsOkOnly (Ok x) = ⊤
IsOkOnly (Err e) = ⊥

pub ok_err : {T E : Type 0} {x : T} {e : E} → ◌≡◌ {A = Result T E} (Ok x) (Err e) → ⊥
ok_err {T = T} {E = E} p = subst (IsOkOnly {T = T} {E = E}) p tt
