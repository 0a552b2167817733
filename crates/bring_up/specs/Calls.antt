-- The driver's calls: what it tells, and what it makes of an answer. A write is done once it is told; a read or a load is told again until it is
-- answered; a rest is told until its time has come.
use Rattle.std.specs.Prelude.{ℕ, ◌-◌, ◌^◌, ◌==◌, max, nat_le, nat_lt, if◌then◌else◌, Bool, false, not, Option, Some, None, List, [], length}
use Rattle.host_layout.specs.declared.layout.Layout.{Layout}
use Rattle.bring_up.specs.declared.access.Access.{Access}
use Rattle.bring_up.specs.declared.access.Access.TheVariants.{Read32, Load, Write32, Store, Rest}
use Rattle.bring_up.specs.declared.bring_up.BringUp.{BringUp}
use Rattle.bring_up.specs.declared.bring_up.Stage.{Stage}
use Rattle.bring_up.specs.declared.bring_up.Stage.TheVariants.{Surveying, Wanting, Taken, Refused, Gone}
use Rattle.bring_up.specs.declared.options.Options.{Options}
use Rattle.bring_up.specs.declared.survey.Surveyed.{Surveyed}
use Rattle.bring_up.specs.declared.survey.Surveyed.TheVariants as survey
use Rattle.bring_up.specs.declared.why.Why.TheVariants.{SmallBar}
use Rattle.bring_up.specs.Accesses.{is_read, is_written, kept, read_at}
use Rattle.bring_up.specs.Completions.{advanced}
use Rattle.bring_up.specs.Options.{can_ask}
use Rattle.bring_up.specs.Surveys.{begun_survey, survey_offset, survey_read}
use Rattle.bring_up.specs.Table.{step_addressed, taken_access, taken_interrupted, word_in}

-- the capability registers have 32 bytes
abbrev pub first_stage : Options → Stage
first_stage options = if nat_lt options.bar_bytes 32 then Refused SmallBar else Surveying (begun_survey options)

abbrev pub begun : Options → Option BringUp
begun options =
    if can_ask options then Some (record { options = options; time = 0; is_asked = false; stage = first_stage options }) else None

abbrev pub stage_access : Stage → Access
stage_access (Surveying s) = read_at (survey_offset s)
stage_access (Wanting c) = Rest (2 ^ 64 - 1)
stage_access (Taken t) = taken_access t
stage_access (Refused why) = Rest (2 ^ 64 - 1)
stage_access Gone = Rest (2 ^ 64 - 1)

-- the memory that was lent
abbrev pub layout_of : Stage → Option Layout
layout_of (Surveying s) = None
layout_of (Wanting c) = None
layout_of (Taken t) = Some t.layout
layout_of (Refused why) = None
layout_of Gone = None

-- an access that isn't of the registers, nor of the memory that was lent, is never told
abbrev pub driver_access : BringUp → Access
driver_access b = kept (stage_access b.stage) b.options.bar_bytes (layout_of b.stage)

abbrev pub surveyed : Surveyed → Stage
surveyed (survey.Refused why) = Refused why
surveyed (survey.On s) = Surveying s
surveyed (survey.Found c) = Wanting c

abbrev pub stage_advanced : Stage → ℕ → List ℕ → Stage
stage_advanced (Surveying s) now bytes = surveyed (survey_read s (word_in bytes))
stage_advanced (Wanting c) now bytes = Wanting c
stage_advanced (Taken t) now bytes = Taken (advanced t now bytes)
stage_advanced (Refused why) now bytes = Refused why
stage_advanced Gone now bytes = Gone

-- time doesn't run backwards
abbrev pub at_time : BringUp → ℕ → BringUp
at_time b now = record b { time = max b.time now }

-- a rest that is over
abbrev pub behind_rest : Access → BringUp → BringUp
behind_rest (Read32 offset) b = b
behind_rest (Load at length) b = b
behind_rest (Write32 offset value) b = b
behind_rest (Store at bytes) b = b
behind_rest (Rest until) b = if nat_le until b.time then record b { stage = stage_advanced b.stage b.time [] } else b

abbrev pub woken : BringUp → BringUp
woken b = behind_rest (driver_access b) b

-- what is told is done, or answered
abbrev pub told : BringUp → BringUp
told b = record b {
  is_asked = is_read (driver_access b);
  stage = if is_written (driver_access b) then stage_advanced b.stage b.time [] else b.stage;
}

abbrev pub fits : Access → List ℕ → Bool
fits (Read32 offset) bytes = length bytes == 4
fits (Load at count) bytes = length bytes == count
fits (Write32 offset value) bytes = false
fits (Store at stored) bytes = false
fits (Rest until) bytes = false

-- a controller that is gone reads as ones
abbrev pub is_gone : Access → List ℕ → Bool
is_gone (Read32 offset) bytes = word_in bytes == 2 ^ 32 - 1
is_gone (Load at count) bytes = false
is_gone (Write32 offset value) bytes = false
is_gone (Store at stored) bytes = false
is_gone (Rest until) bytes = false

abbrev pub answered : BringUp → List ℕ → BringUp
answered b bytes =
    if not b.is_asked then b
    else if not (fits (driver_access b) bytes) then b
    else record b {
      is_asked = false;
      stage = if is_gone (driver_access b) bytes then Gone else stage_advanced b.stage b.time bytes;
    }

abbrev pub stage_interrupted : Stage → Stage
stage_interrupted (Surveying s) = Surveying s
stage_interrupted (Wanting c) = Wanting c
stage_interrupted (Taken t) = Taken (taken_interrupted t)
stage_interrupted (Refused why) = Refused why
stage_interrupted Gone = Gone

abbrev pub interrupted : BringUp → BringUp
interrupted b = record b { stage = stage_interrupted b.stage }

abbrev pub is_addressed : Stage → Bool
is_addressed (Surveying s) = false
is_addressed (Wanting c) = false
is_addressed (Taken t) = step_addressed t.step
is_addressed (Refused why) = false
is_addressed Gone = false
