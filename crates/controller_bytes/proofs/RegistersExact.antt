-- The form of the registers is exact.
use Rattle.std.proofs.Common.{◌≡◌, Bool, true, false, refl, sym}
use Rattle.std.specs.Prelude.{not}
use Rattle.std.proofs.lemmas.Bool.{false≢true}
use Rattle.controller_bytes.specs.declared.registers.Pointers.{Pointers}
use Rattle.controller_bytes.specs.declared.registers.Words.{Words}
use Rattle.machine_bytes.specs.Exact.{IsExact}
use Rattle.machine_bytes.specs.Forms.{pair}
use Rattle.machine_bytes.proofs.Exact.{checked-exact, coded-exact, flag-exact, mapped-exact, number-exact, pair-exact}
use Rattle.xhci_registers.specs.Ports.{wake_in}
use Rattle.controller_bytes.specs.Registers.{addresses_form, command_in, command_out, empty_port_out, flags_form, half, is_halted_right, management_in, management_out, operational_form, pointers_form, pointers_of, port_in, port_out, ports_form, registers_form, registers_in, runtime_form, same_flag, status_in, status_out, words_form, words_of}

half-exact : IsExact half
half-exact = checked-exact _ _ (number-exact 4)

operational-exact : IsExact operational_form
operational-exact =
    mapped-exact _ _ _ (pair-exact _ _ (coded-exact 4 command_in command_out) (pair-exact _ _ (coded-exact 4 status_in status_out) (pair-exact _ _ half-exact half-exact)))
    (λ w has. refl)

ports-exact : IsExact ports_form
ports-exact =
    mapped-exact _ _ _ (pair-exact _ _ (coded-exact 4 wake_in empty_port_out) (pair-exact _ _ (coded-exact 4 port_in port_out) (number-exact 4))) (λ w has. refl)

runtime-exact : IsExact runtime_form
runtime-exact =
    mapped-exact _ _ _ (pair-exact _ _ half-exact (pair-exact _ _ (coded-exact 4 management_in management_out) (pair-exact _ _ half-exact half-exact))) (λ w has. refl)

words-exact : IsExact words_form
words-exact = mapped-exact _ _ _ (pair-exact _ _ operational-exact (pair-exact _ _ ports-exact runtime-exact)) (λ w has. refl)

addresses-exact : IsExact addresses_form
addresses-exact =
    mapped-exact _ _ _ (pair-exact _ _ (number-exact 8) (pair-exact _ _ (number-exact 8) (pair-exact _ _ (number-exact 8) (number-exact 8)))) (λ p has. refl)

flags-exact : IsExact flags_form
flags-exact =
    mapped-exact _ _ _ (pair-exact _ _ flag-exact (pair-exact _ _ flag-exact (pair-exact _ _ flag-exact (pair-exact _ _ (number-exact 1)
    (pair-exact _ _ flag-exact (pair-exact _ _ flag-exact flag-exact)))))) (λ p has. refl)

pointers-exact : IsExact pointers_form
pointers-exact = mapped-exact _ _ _ (pair-exact _ _ addresses-exact flags-exact) (λ p has. refl)

flags_same : (one other : Bool) → same_flag one other ≡ true → one ≡ other
flags_same true true e = refl
flags_same true false e = absurd (false≢true e)
flags_same false true e = absurd (false≢true e)
flags_same false false e = refl

pub registers-exact : IsExact registers_form
registers-exact =
    mapped-exact registers_in (λ r. (words_of r, pointers_of r)) _ (checked-exact is_halted_right (pair words_form pointers_form) (pair-exact _ _ words-exact pointers-exact)) back
  where
    back : (r : Words × Pointers) → (pair words_form pointers_form).Has r × (is_halted_right r ≡ true) → (words_of (registers_in r), pointers_of (registers_in r)) ≡ r
    back r has = let e : r.0.operational.status.halted ≡ not r.0.operational.command.runs = flags_same _ _ has.1 in rw (sym e) refl
