-- Steps of reading that did not fail.
use Rattle.std.proofs.Common.{◌≡◌, Bool, true, false, cond, Result, Ok, Err, refl}
use Rattle.log_text.specs.declared.LogFault.{LogFault}
use Rattle.log_text.specs.Reading.{◌>>=◌}

-- the value of a step that did not fail
pub bind_ok : {A B : Type 0} (r : Result A LogFault) (f : A → Result B LogFault) (y : B) → (r >>= f) ≡ Ok y → (x : A) × (r ≡ Ok x) × (f x ≡ Ok y)
bind_ok (Ok x) f y e = (x, refl, e)
bind_ok (Err fault) f y e = absurd cc

-- a test that did not fail
pub guard_ok : {A : Type 0} (b : Bool) (fault : LogFault) (r : Result A LogFault) (y : A) → cond b (Err fault) r ≡ Ok y → (b ≡ false) × (r ≡ Ok y)
guard_ok true fault r y e = absurd cc
guard_ok false fault r y e = (refl, e)

-- a test that held
pub test_ok : {A : Type 0} (b : Bool) (fault : LogFault) (r : Result A LogFault) (y : A) → cond b r (Err fault) ≡ Ok y → (b ≡ true) × (r ≡ Ok y)
test_ok true fault r y e = (refl, e)
test_ok false fault r y e = absurd cc

abbrev pub result_of : {A : Type 0} → A → Result A LogFault
result_of x = Ok x

pub ok_is : {A : Type 0} (x y : A) → result_of x ≡ result_of y → x ≡ y
ok_is x y e = cc

pub not_ok : {A : Type 0} (fault : LogFault) (x : A) → Err fault ≡ result_of x → ⊥
not_ok fault x e = absurd cc
