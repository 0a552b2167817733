-- Doorbells (xHCI 4.7 and 5.6).
use Rattle.std.specs.Prelude.{ℕ, ◌+◌, ◌*◌, ◌/◌, ◌^◌, if◌then◌else◌, Bool, List, [], ◌∷◌, ◌++◌}
use Rattle.uas_profile.specs.declared.Pipe.{Pipe}
use Rattle.uas_profile.specs.declared.Pipe.TheVariants.{Command, Status, DataIn, DataOut}
use Rattle.uas_profile.specs.declared.Direction.{Direction}
use Rattle.uas_profile.specs.declared.Direction.TheVariants.{Nothing, ToHost, ToDevice}
use Rattle.uas_profile.specs.Pipes.{target_of}

-- A doorbell value: the target in bits 7:0, the stream in bits 31:16. Worked: data-in, stream 18, is 00120005h. The value 0
-- is the controller's own doorbell.
abbrev pub door : ℕ → ℕ → ℕ
door target stream = target + 2 ^ 16 * stream

-- the doorbell of a stream of a pipe, left out while the pipe is held
abbrev pub door_unless : Bool → Pipe → ℕ → List ℕ
door_unless held pipe tag = if held then [] else door (target_of pipe) tag ∷ []

-- the doorbell of the data stream
abbrev pub data_doors : (Pipe → Bool) → Direction → ℕ → List ℕ
data_doors held Nothing tag = []
data_doors held ToHost tag = door_unless (held DataIn) DataIn tag
data_doors held ToDevice tag = door_unless (held DataOut) DataOut tag

-- the doorbells of the status stream and of the command pipe, which has no streams and is never held
abbrev pub answer_doors : (Pipe → Bool) → ℕ → List ℕ
answer_doors held tag = door_unless (held Status) Status tag ++ (door (target_of Command) 0 ∷ [])

-- The doorbells of a submission in order: data, status, command. Worked: READ on tag 18 rings 00120005h, 00120003h,
-- 00000002h; while data-in is held it rings 00120003h, 00000002h.
abbrev pub submission_doors : (Pipe → Bool) → Direction → ℕ → List ℕ
submission_doors held way tag = data_doors held way tag ++ answer_doors held tag

-- the stream of a doorbell value
abbrev pub stream_in : ℕ → ℕ
stream_in value = value / 2 ^ 16
