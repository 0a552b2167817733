-- An answer that is taken has no fault.
use Rattle.std.proofs.Common.{◌≡◌, ◌↔◌, ℕ, List, true, false, Result, Ok, Err, refl, sym, ap, ◌∙◌, arith, inl, inr}
use Rattle.std.proofs.lemmas.Bool.{cases_Bool}
use Rattle.bring_up.specs.declared.bring_up.AnswerFault.{AnswerFault}
use Rattle.bring_up.specs.declared.bring_up.AnswerFault.TheVariants.{NotAsked, Length}
use Rattle.bring_up.specs.Calls.{fits}
use Rattle.block_driver.specs.declared.BlockDriver.{BlockDriver}
use Rattle.block_driver.specs.Calls.{asked_access, is_asked}
use Rattle.uas_block_c.specs.BlockCall.{answer_fault}

abbrev number : Result (Unit {0}) AnswerFault → ℕ
number (Ok done) = 0
number (Err fault) = 1

module _ (had : BlockDriver) (bytes : List ℕ) (result : Result (Unit {0}) AnswerFault) (done : Unit {0}) (taken : result ≡ Ok done) where
  none : (fault : AnswerFault) → result ≡ Err fault → ⊥
  none fault failed = omega (arith, ap number (sym taken ∙ failed))

  pub no_fault : ((result ≡ Err NotAsked) ↔ (is_asked had ≡ false))
      → ((result ≡ Err Length) ↔ ((is_asked had ≡ true) × (fits (asked_access had) bytes ≡ false))) → answer_fault had bytes ≡ 0
  no_fault not_asked other = elim (cases_Bool (is_asked had)) as (λ _. answer_fault had bytes ≡ 0) [
    | inl asked ↦ elim (cases_Bool (fits (asked_access had) bytes)) as (λ _. answer_fault had bytes ≡ 0) [
      | inl fit ↦ rw asked (rw fit refl)
      | inr unfit ↦ absurd (none Length (other.1 (asked, unfit)))
    ]
    | inr unasked ↦ absurd (none NotAsked (not_asked.1 unasked))
  ]
