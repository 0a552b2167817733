-- A client's account in a file is the log's that it was booked as.
use Rattle.std.proofs.Common.{◌≡◌, ℕ, ◌<◌, ◌==◌, Bool, true, false, cond, List, [], ◌∷◌, filter, length, map, refl, ap, sym, arith, ◌∙◌}
use Rattle.std.proofs.lemmas.List.{append-nil}
use Rattle.scsi_cmd.specs.declared.Reply.{Reply}
use Rattle.shared_machine.specs.declared.Step.{Step}
use Rattle.log_text.specs.declared.SavedReply.{SavedReply}
use Rattle.log_text.specs.Kept.{with_client}
use Rattle.log_text.specs.Plain.{Plain}
use Rattle.uas_work.specs.Booked.{BookedState, IsBooked}
use Rattle.log_audit.specs.Audit.{IsAudited, is_taken_by, submissions_of}
use Rattle.log_audit.proofs.Accounts.{audited}
use Rattle.audit_run.specs.replay.Replaying.{IsReplayOf}
use Rattle.audit_run.specs.Audits.{replies_to}

-- the replies that a file has as a client's are those that bring back its tags
taken-by : (b : Bool) (tags : ℕ) (reply : Reply) (rest : List SavedReply)
    → map (λ (saved : SavedReply). saved.reply) (cond b (with_client tags reply ∷ rest) rest)
    ≡ cond b (reply ∷ map (λ (saved : SavedReply). saved.reply) rest) (map (λ (saved : SavedReply). saved.reply) rest)
taken-by true tags reply rest = refl
taken-by false tags reply rest = refl

saved-taken : (tags client : ℕ) (replies : List Reply) → replies_to client (map (with_client tags) replies) ≡ filter (is_taken_by tags client) replies
saved-taken tags client [] = refl
saved-taken tags client (reply ∷ rest) =
    taken-by (is_taken_by tags client reply) tags reply (filter (λ (saved : SavedReply). saved.client == client) (map (with_client tags) rest))
    ∙ ap (λ others. cond (is_taken_by tags client reply) (reply ∷ others) others) (saved-taken tags client rest)

pub file-audited : (log : Plain) (booked : BookedState) (client : ℕ) (sent : List Step) (replies : List Reply) → IsReplayOf log booked → IsBooked booked
    → client < length log.units → sent ≡ submissions_of client log.steps → replies ≡ replies_to client log.replies → IsAudited booked.log client sent replies
file-audited log booked client sent replies it is within asked told =
    audited booked.log client sent replies is.log (omega (arith, ap length it.units))
    (record { rest = []; is = asked ∙ ap (submissions_of client) (sym it.steps) ∙ sym (append-nil (submissions_of client booked.log.steps)) })
    (sym (saved-taken booked.log.tags client booked.log.replies)
    ∙ ap (λ (tags : ℕ). replies_to client (map (with_client tags) booked.log.replies)) it.tags ∙ ap (replies_to client) it.replies ∙ sym told)
