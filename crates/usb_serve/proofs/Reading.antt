-- Parts of a packet, one behind the other.
use Rattle.std.proofs.Common.{◌≡◌, ℕ, ◌+◌, ◌≤◌, Bool, List, ◌++◌, length, Option, Result, Ok, Err, subst, arith}
use Rattle.std.specs.Prelude.{IfErr, IfOk}
use Rattle.std.proofs.lemmas.List.{length-append}
use Rattle.std.specs.Io.KnownBytes.{Consumes}
use Rattle.std.proofs.KnownBytes.{Consumes-trans}
use Rattle.usb_serve.specs.declared.fault.UsbFault.{UsbFault}
use Rattle.usb_serve.specs.Faults.{EndsReading, IsCut}

-- a part of a packet came, and of the rest not all
pub cut_behind : (reason : UsbFault) (can now : Bool) (count rest : ℕ) (l m n : Option (List ℕ)) (bytes : List ℕ) → now ≡ can
    → length bytes + rest ≤ count → Consumes l m bytes → IsCut reason now 0 rest m n → IsCut reason can 0 count l n
cut_behind reason can now count rest l m n bytes same fits first second = record {
  gave = record {
    bytes = bytes ++ second.gave.bytes;
    read = Consumes-trans l m n bytes second.gave.bytes first second.gave.read;
    few = omega (arith, length-append bytes second.gave.bytes, second.gave.few, fits);
  };
  why = subst (λ (b : Bool). EndsReading reason b n) same second.why;
  some = λ ended. omega arith;
}

pub cut_same : (reason : UsbFault) (can now : Bool) (least count : ℕ) (l n : Option (List ℕ)) → now ≡ can → IsCut reason now least count l n
    → IsCut reason can least count l n
cut_same reason can now least count l n same cut = subst (λ (b : Bool). IsCut reason b least count l n) same cut

-- a part of a part
pub cut_in : (reason : UsbFault) (can : Bool) (count more : ℕ) (l n : Option (List ℕ)) → count ≤ more → IsCut reason can 0 count l n
    → IsCut reason can 0 more l n
cut_in reason can count more l n fits cut = record {
  gave = record { bytes = cut.gave.bytes; read = cut.gave.read; few = omega (arith, cut.gave.few, fits) };
  why = cut.why;
  some = λ ended. omega arith;
}

pub on_err_of : {T E : Type 0} {P Q : E → Type 0} (r : Result T E) → ((e : E) → P e → Q e) → IfErr r P → IfErr r Q
on_err_of (Ok x) f p = p
on_err_of (Err e) f p = f e p

pub on_ok_of : {T E : Type 0} (P : T → Type 0) (r : Result T E) (x : T) → r ≡ Ok x → IfOk r P → P x
on_ok_of {T = T} {E = E} P r x e p = subst (λ (s : Result T E). IfOk s P) e p
