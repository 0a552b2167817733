use Rattle.std.proofs.Common.{◌≡◌, ℕ, suc, ◌+◌, ◌-◌, ◌<◌, ◌++◌, [], ◌∷◌, arith, ap, sym, refl, ◌∙◌, append_assoc}
use Rattle.scsi_cmd.specs.Fields.{zeros}
use Rattle.host_commands.specs.Data.{luns_from}
use Rattle.host_commands.proofs.writer.write_luns.Goals as goal

-- the LUNs still to come are the next one and those after it
luns_from-next : (count number : ℕ) → number < count →
    luns_from (count - number) number ≡ (0 ∷ number ∷ []) ++ zeros 6 ++ luns_from (count - (number + 1)) (number + 1)
luns_from-next count number less = let e : count - number ≡ suc (count - (number + 1)) = omega arith in rw e refl

pub loop-number-preserved : goal.loop-number-preserved
loop-number-preserved c =
    let step = luns_from-next c.args.count c.loop-number.number (omega arith) in (
      omega arith,
      rw (c.put-in-loop-number.ensures.items, append_assoc)
          (ap (λ rest. c.loop-number.into.items ++ rest) (sym step) ∙ c.loop-number.invariant.1),
    )
