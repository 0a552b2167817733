-- A submission that the host refused.
use Rattle.std.proofs.Common.{◌≡◌, ℕ, List, [], Option, Some, None, Result, Ok, Err, sym, ap, subst, ◌∙◌}
use Rattle.std.specs.Prelude.{MatchOption}
use Rattle.std.specs.Option.{option_map_or}
use Rattle.arrayvec.specs.ArrayVec.{ArrayVec}
use Rattle.frame_store.specs.declared.TagBuffers.{TagBuffers}
use Rattle.scsi_cmd.specs.declared.Command.{Command}
use Rattle.scsi_cmd.specs.declared.SubmitFault.{SubmitFault}
use Rattle.stream_array.specs.Rings.{LinesState}
use Rattle.uas_host.specs.State.{HostState}
use Rattle.uas_driver.specs.Calls.{After, refused}
use Rattle.uas_driver.specs.Driver.{DriverState}
use Rattle.uas_driver.specs.declared.Refusal.{Refusal}
use Rattle.uas_driver.specs.declared.Refusal.TheVariants.{Fault}

fault_in : Result (Unit {0}) (SubmitFault × Command) → SubmitFault → SubmitFault
fault_in (Ok done) other = other
fault_in (Err told) other = told.0

is_refused : Result (Unit {0}) (SubmitFault × Command) → Type 0
is_refused (Ok done) = ⊥
is_refused (Err told) = Unit {0}

-- the answer, and that the driver is as it was
pub refusal-told : (driver : DriverState) (command back : Command) (told : SubmitFault) (found : Option SubmitFault) (host : HostState)
    (lines : LinesState) (frames : List TagBuffers) (before doors : ArrayVec ℕ) (result : Result (Unit {0}) (SubmitFault × Command)) (B C D E : Type 0)
    (taken : After (Result (Unit {0}) Refusal))
    → MatchOption found ((result ≡ Ok tt) × B × C × D × E) (λ fault. (result ≡ Err (fault, command)) × (host ≡ driver.host) × (lines ≡ driver.lines) × (frames ≡ driver.frames) × (doors ≡ before))
    → before.items ≡ [] → result ≡ Err (told, back)
    → option_map_or (λ fault. refused driver (Fault fault)) found taken
    ≡ (record driver { host = host; lines = lines; frames = frames }, Err (Fault told), doors.items)
unfolding is_refused fault_in
refusal-told driver command back told None host lines frames before doors result B C D E taken made none is =
    let contradiction : Err (told, back) ≡ Ok tt = sym is ∙ made.0 in absurd (subst is_refused contradiction tt)
refusal-told driver command back told (Some fault) host lines frames before doors result B C D E taken made none is =
    let same : Err (fault, command) ≡ Err (told, back) = sym made.0 ∙ is in
    let fault-is : fault ≡ told = ap (λ answer. fault_in answer fault) same in
    let doors-are : [] ≡ doors.items = sym (ap (λ (list : ArrayVec ℕ). list.items) made.4 ∙ none) in
    λ i. (record driver { host = (sym made.1) i; lines = (sym made.2) i; frames = (sym made.3) i }, Err (Fault (fault-is i)), doors-are i)
