use Rattle.std.proofs.Common.{rules, ◌≡◌, ◌∙◌, ◌==◌, ◌&&◌, ℕ, Bool, zero, suc, true, false, true≢false, refl, ap, arith, subst, sym}
use Rattle.std.proofs.lemmas.Bool.{ne_eqb}
use Rattle.std.specs.Prelude.{◌||◌}
use Rattle.c_common.specs.Units.{units_fault, units_told}
use Rattle.c_common.specs.declared.faults.TheConstants.{NO_MEMORY}
use Rattle.uas_c.proofs.bus.boxed.Goals as goal

-- where there is no fault, what is told is want of memory
memory_told : (fault : ℕ) → (0 == fault || (0 == NO_MEMORY && fault == 0)) ≡ true → (NO_MEMORY == fault || (NO_MEMORY == NO_MEMORY && fault == 0)) ≡ true
memory_told zero none = refl
memory_told (suc fault) none = absurd (true≢false (sym none ∙ ap (λ (b : Bool). b || false) (ne_eqb 0 (suc fault) (λ is. omega (arith, is)))))

pub returns-clause-fault : goal.returns-clause-fault
returns-clause-fault c =
    let none : units_told 0 c.most_clients.result c.args.blocks.now c.args.image.now c.args.bad.now ≡ true = search rules in
    subst (λ (most : ℕ). units_told NO_MEMORY most c.args.blocks.now c.args.image.now c.args.bad.now ≡ true) c.most_clients.ensures.most
    (memory_told (units_fault c.most_clients.result c.args.blocks.now c.args.image.now c.args.bad.now) none)
