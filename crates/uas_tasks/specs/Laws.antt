-- The laws: what is told and asked later lands later.
use Rattle.std.specs.Prelude.{◌≡◌, ℕ, ◌%◌, true, false, List, count_by, Some, None, Ok}
use Rattle.uas_target.specs.declared.DeviceAnswer.TheVariants.{Response}
use Rattle.uas_target.specs.Tasks.{answer_unit}
use Rattle.uas_tasks.specs.declared.Next.{Next}
use Rattle.uas_tasks.specs.declared.Next.TheVariants.{Absent, Asks, Waits, Gives, Takes, Ends}
use Rattle.uas_tasks.specs.declared.Outcome.{Outcome}
use Rattle.uas_tasks.specs.declared.Request.{Request}
use Rattle.uas_tasks.specs.declared.Task.TheVariants.{Held}
use Rattle.uas_tasks.specs.declared.Wants.TheVariants.{Ends as WantsEnds}
use Rattle.uas_tasks.specs.Machine.{Machine, answer_on, answered, has_stale, next_of, slot_of, wanted}
use Rattle.uas_tasks.specs.Stale.{is_stale, unit_in}

-- it asks nothing of the logical unit of this number
abbrev pub AsksNotOf : ℕ → Next → Type 0
AsksNotOf number Absent = Unit {0}
AsksNotOf number (Asks told request) = unit_in request ≡ number → ⊥
AsksNotOf number Waits = Unit {0}
AsksNotOf number (Gives bytes) = Unit {0}
AsksNotOf number (Takes bytes) = Unit {0}
AsksNotOf number Ends = Unit {0}

-- While a logical unit has a stale request, no tag asks for it, and no function that ended something there has an answer.
abbrev pub NothingStalePasses : Type 0
NothingStalePasses =
    (machine : Machine) (number tag : ℕ) → has_stale machine number ≡ true
    → AsksNotOf number (next_of machine tag).1
    × ((code : ℕ) → (slot_of machine tag).task ≡ Some (Held number code) → answer_on machine tag ≡ None)

-- So at the moment at which a request is asked, no stale one of its logical unit is out.
abbrev pub WhatIsAskedLaterLandsLater : Type 0
WhatIsAskedLaterLandsLater =
    (machine : Machine) (tag told : ℕ) (request : Request) → (next_of machine tag).1 ≡ Asks told request
    → has_stale (next_of machine tag).0 (unit_in request) ≡ false

-- The answer of a logical unit's last stale request makes each function ready that ended something there.
abbrev pub LastAnswerFrees : Type 0
LastAnswerFrees =
    (machine : Machine) (number told : ℕ) (outcome : Outcome) (bytes : List ℕ) (tag code : ℕ)
    → count_by (is_stale number) machine.slots ≡ 1 → is_stale number (slot_of machine (told % 256)) ≡ true
    → (answered machine told outcome bytes).1 ≡ Ok tt → (slot_of machine tag).task ≡ Some (Held number code)
    → (wanted (answered machine told outcome bytes).0 tag ≡ WantsEnds)
    × (answer_on (answered machine told outcome bytes).0 tag ≡ Some (answer_unit tag (Response code)))
