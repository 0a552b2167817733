-- How `work` ends that saves its log, where its words ask for that.
use Rattle.std.proofs.Common.{◌≡◌, ℕ, ◌≤◌, ◌⊎◌, Option, Some, IsTrue, sym, subst}
use Rattle.std.specs.Prelude.{IfSome, ⊤}
use Rattle.std.specs.Io.KnownBytes.{Keeps}
use Rattle.clap.specs.Words.{Text}
use Rattle.uas_words.specs.CommandLine.{Asked, work}
use Rattle.work_run.specs.SavedEnds.{NotSaved, Saved, Unsaved}
use Rattle.uasdisk.specs.Ends.{Ends, Host, World}

pub saved_work_ends : (asked : Option Asked) (clients tags depth rounds : ℕ) (file : Text) (host : Host) (old new : World) (status : ℕ)
    → asked ≡ Some (work clients tags depth rounds (Some file))
    → (status ≤ 1) ⊎ ((status ≡ 3) ⊎ (status ≡ 4))
    → (status ≤ 1 → Saved clients tags depth rounds host.tells (new.holds file) old.output new.output status)
    → (status ≤ 1 → IsTrue (host.can_create file))
    → (status ≡ 3 → IsTrue host.output_can_fail ⊎ NotSaved clients tags depth rounds (host.file_can_fail file) old.output new.output)
    → (status ≡ 4 → Keeps old.output new.output ⊎ Unsaved clients tags depth rounds (λ log. ⊤) old.output new.output)
    → (3 ≤ status → IsTrue host.tells → new.holds ≡ old.holds)
    → new.input ≡ old.input
    → IfSome asked (λ one. Ends one host old new status)
saved_work_ends asked clients tags depth rounds file host old new status is statuses saved created fault memory held input =
    subst (λ (a : Option Asked). IfSome a (λ one. Ends one host old new status)) (sym is)
    (record { statuses = statuses; saved = saved; created = created; fault = fault; memory = memory; held = held; input = input })
