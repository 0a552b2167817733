use Rattle.bulk_only.proofs.Verdicts.{six, unexpected}
use Rattle.bulk_only.proofs.laws.phase_errors_are_six_cases.Goals as goal

pub returns-clause-six : goal.returns-clause-six
returns-clause-six c = λ h is_in is_good done. six h is_in is_good done

pub returns-clause-unexpected : goal.returns-clause-unexpected
returns-clause-unexpected c = λ h is_in is_good done. unexpected h is_in is_good done
