-- The doorbells of one step: few one by one, or those of a pipe's streams (xHCI 4.7, 5.6).
use Rattle.std.specs.Prelude.{◌≡◌, ℕ, Bool, List, filter, map}
use Rattle.std.specs.List.{range_with_len}
use Rattle.marks.specs.Marks.{is_marked}
use Rattle.uas_profile.specs.declared.Pipe.{Pipe}
use Rattle.uas_profile.specs.declared.TheConstants.{STREAMS}
use Rattle.uas_profile.specs.Doors.{door}
use Rattle.uas_profile.specs.Pipes.{target_of}
use Rattle.shared_machine.specs.declared.doorbells.Rung.{Rung}
use Rattle.shared_machine.specs.declared.doorbells.Rung.TheVariants.{Single, Resumed}

-- the doorbells of those of a pipe's first streams that pass a test, by rising stream
abbrev pub doors_among : ℕ → Pipe → (ℕ → Bool) → List ℕ
doors_among count pipe test = map (door (target_of pipe)) (filter test (range_with_len 1 count))

-- Those of all of its streams that pass it. Worked: of data-in, 1 and 18 alone pass: 00010005h, 00120005h.
unfoldable pub resumed_by : Pipe → (ℕ → Bool) → List ℕ
resumed_by pipe test = doors_among STREAMS pipe test

-- they are the doorbells of some streams of the pipe, by rising stream
abbrev pub IsResumed : Pipe → List ℕ → Type 0
IsResumed pipe values = (test : ℕ → Bool) × (values ≡ resumed_by pipe test)

-- the values of doorbells, in order
abbrev pub values_of : Rung → List ℕ
values_of (Single values) = values.items
values_of (Resumed pipe streams) = resumed_by pipe (is_marked streams)
