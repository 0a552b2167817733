-- What the standard calls opaque of a ring's consumer (xHCI 1.2, 4.6.9): how far the TRB and the TD in front are.
use Rattle.std.specs.Prelude.{ℕ, ◌+◌, ◌%◌, ◌^◌, Bool, true, false}
use Rattle.guest_pipes.specs.declared.progress.Ending.{Ending}
use Rattle.guest_pipes.specs.declared.progress.Ending.TheVariants.{Runs, Told, Owed}
use Rattle.guest_pipes.specs.declared.progress.Progress.{Progress}

-- at a TD's start
abbrev pub fresh : Progress
fresh = record { moved = 0; ending = Runs; edtla = 0; begun = false; fed = false }

-- behind a TRB; where its TD ends with it, the next one begins anew
abbrev pub past : Progress → Bool → Progress
past progress true = record progress { moved = 0; begun = true }
past progress false = fresh

-- so many bytes more were moved
abbrev pub counted : Progress → ℕ → Progress
counted progress count = record progress {
  moved = progress.moved + count;
  edtla = (progress.edtla + count) % 2 ^ 24;
  begun = true;
  fed = true;
}

-- the code that the TD ended with, or success
abbrev pub code_of : Ending → ℕ
code_of Runs = 1
code_of (Told code) = code
code_of Owed = 13

-- whether the bytes of the TD move
abbrev pub runs : Ending → Bool
runs Runs = true
runs (Told code) = false
runs Owed = false

-- whether the TD's last TRB is to tell of its short packet
abbrev pub owes : Ending → Bool
owes Runs = false
owes (Told code) = false
owes Owed = true

-- a TD that ends as a short packet, of which an event has told or not
abbrev pub short_ending : Bool → Ending
short_ending true = Told 13
short_ending false = Owed

-- an Event Data TRB that posts settles what is owed
abbrev pub settled : Ending → Bool → Ending
settled Runs posts = Runs
settled (Told code) posts = Told code
settled Owed posts = short_ending posts

-- an Event Data TRB was taken: EDTLA starts again
abbrev pub restarted : Progress → Bool → Progress
restarted progress posts = record progress { edtla = 0; ending = settled progress.ending posts }
