-- What is told of the checksum that is asked for.
use Rattle.std.proofs.Common.{◌≡◌, ℕ, Bool, true, false, cond, List, Ok, Result, Option, Some, None, option_map, ap, sym, ◌∙◌}
use Rattle.kept_log.specs.declared.KeptFault.{KeptFault}
use Rattle.kept_log.specs.declared.Loaded.{Loaded}
use Rattle.kept_log.specs.LoadAt.{load_at}
use Rattle.kept_log.specs.Sums.{step_in, step_of_loaded, step_of_sum}
use Rattle.audit_run.specs.Audits.{head_line, head_text, is_kept}

-- of a log that was kept it is what stands in the log that is loaded
pub kept_head : (sum : ℕ) (bytes : List ℕ) (loaded : Loaded) (found : Option ℕ) → is_kept bytes ≡ true → load_at bytes ≡ Ok loaded
    → found ≡ step_of_sum sum loaded.log → head_text (Some sum) bytes ≡ option_map (head_line sum) found
kept_head sum bytes loaded found third exact is =
    ap (λ (yes : Bool). option_map (head_line sum) (cond yes (step_in sum bytes) None)) third
    ∙ ap (λ (read : Result Loaded KeptFault). option_map (head_line sum) (step_of_loaded sum read)) exact
    ∙ ap (option_map (head_line sum)) (sym is)

-- an older log has none
pub older_head : (sum : ℕ) (bytes : List ℕ) → is_kept bytes ≡ false → head_text (Some sum) bytes ≡ None
older_head sum bytes older = ap (λ (yes : Bool). option_map (head_line sum) (cond yes (step_in sum bytes) None)) older
