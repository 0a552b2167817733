use Rattle.log_text.specs.Kept.{saved_log}
use Rattle.log_text.proofs.TakenLog.{whole_again}
use Rattle.log_text.proofs.text_laws.saved_logs_load.Goals as goal

pub returns : goal.returns
returns c = λ log fits. whole_again (saved_log log) fits.within
