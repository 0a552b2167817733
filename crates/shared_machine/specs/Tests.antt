-- The tests of a TD's state, and the doorbells of a submission, in the shared machine's own words: the host has its own
-- (uas_profile), so that a host that errs in code and definition alike is another machine.
use Rattle.std.specs.Prelude.{ℕ, Bool, true, false, if◌then◌else◌, List, [], ◌∷◌, ◌++◌}
use Rattle.uas_profile.specs.declared.Direction.{Direction}
use Rattle.uas_profile.specs.declared.Direction.TheVariants.{Nothing, ToHost, ToDevice}
use Rattle.uas_profile.specs.declared.Pipe.{Pipe}
use Rattle.uas_profile.specs.declared.Pipe.TheVariants.{Command, Status, DataIn, DataOut}
use Rattle.uas_profile.specs.declared.TdState.{TdState}
use Rattle.uas_profile.specs.declared.TdState.TheVariants.{Pending, Seen, LeftOver, Retired}
use Rattle.uas_profile.specs.Doors.{door}
use Rattle.uas_profile.specs.Pipes.{target_of}

-- A TD'S STATE

-- the host waits for its event
abbrev pub is_pending : TdState → Bool
is_pending Pending = true
is_pending Seen = false
is_pending LeftOver = false
is_pending Retired = false

-- its event came
abbrev pub is_seen : TdState → Bool
is_seen Pending = false
is_seen Seen = true
is_seen LeftOver = false
is_seen Retired = false

-- its event can't come any more, and the controller wasn't moved past it
abbrev pub is_left_over : TdState → Bool
is_left_over Pending = false
is_left_over Seen = false
is_left_over LeftOver = true
is_left_over Retired = false

-- nothing more is to come of it: it was seen, or left over and retired, once the controller was moved past it
abbrev pub is_over : TdState → Bool
is_over Pending = false
is_over Seen = true
is_over LeftOver = false
is_over Retired = true

-- THE DOORBELLS OF A SUBMISSION

-- of one stream of a pipe, unless that is held
abbrev pub bell : Bool → Pipe → ℕ → List ℕ
bell held pipe tag = if held then [] else door (target_of pipe) tag ∷ []

-- of the data stream, where bytes move
abbrev pub data_bells : (Pipe → Bool) → Direction → ℕ → List ℕ
data_bells held Nothing tag = []
data_bells held ToHost tag = bell (held DataIn) DataIn tag
data_bells held ToDevice tag = bell (held DataOut) DataOut tag

-- The data stream's first, the status stream's second, the command pipe's last, which has no streams and is never held. Worked: WRITE
-- on tag 34 rings 00220004h, 00220003h, 00000002h.
abbrev pub submission_bells : (Pipe → Bool) → Direction → ℕ → List ℕ
submission_bells held way tag = data_bells held way tag ++ (bell (held Status) Status tag ++ (door (target_of Command) 0 ∷ []))
