-- Whether each client's account is the log's, and how that is printed.
use Rattle.std.specs.Prelude.{◌≡◌, ℕ, zero, suc, ◌<◌, ◌↔◌, Bool, false, IsTrue, if◌then◌else◌, List, [], ◌++◌, length, slice_index_or, codes}
use Rattle.std.specs.List.{list_all}
use Rattle.std.specs.Fmt.{decimal}
use Rattle.scsi_cmd.specs.declared.Reply.{Reply}
use Rattle.uas_log.specs.declared.Log.{Log}
use Rattle.log_audit.specs.Audit.{IsAudited}
use Rattle.log_audit.specs.Plan.{planned_steps}

-- What is told of a client that took so many rounds, with so many commands out at a time, is whether its audit is true: of its submissions, and of the replies that it holds.
abbrev pub IsToldOf : Log → ℕ → ℕ → ℕ → List Reply → Bool → Type 0
IsToldOf log depth rounds client replies told = IsTrue told ↔ IsAudited log client (planned_steps log.tags depth client rounds) replies

-- so it is of each client, by number
pub record AreAudits (log : Log) (depth rounds : ℕ) (replies : List (List Reply)) (audits : List Bool) : Type 0 where
  pub many : length audits ≡ length replies
  pub each : (client : ℕ) → client < length replies
      → IsToldOf log depth rounds client (slice_index_or replies client []) (slice_index_or audits client false)

-- `audit C true`, or `audit C false`
abbrev pub audit_line : ℕ → Bool → List ℕ
audit_line client told = codes "audit " ++ (decimal client ++ (if told then codes " true\n" else codes " false\n"))

-- the lines of the clients below this number
abbrev pub audit_lines : ℕ → List Bool → List ℕ
audit_lines zero audits = []
audit_lines (suc client) audits = audit_lines client audits ++ audit_line client (slice_index_or audits client false)

-- and those of all clients
abbrev pub audit_text : List Bool → List ℕ
audit_text audits = audit_lines (length audits) audits

abbrev pub all_true : List Bool → Bool
all_true audits = list_all (λ told. told) audits
