-- What keeps the task of an entry.
use Rattle.std.proofs.Common.{◌≡◌, ℕ, List, Some, refl}
use Rattle.std.proofs.Common.{rules}
use Rattle.uas_profile.specs.declared.Pipe.{Pipe}
use Rattle.uas_profile.specs.declared.Pipe.TheVariants.{Command as CommandPipeName, Status as StatusPipe, DataIn, DataOut}
use Rattle.shared_machine.specs.declared.Td.{Td}
use Rattle.shared_machine.specs.Td.{Entry, retired_on, with_td_on}
use Rattle.shared_machine.specs.declared.Completion.{Completion}
use Rattle.shared_machine.specs.Part.{seen_by}
use Rattle.shared_machine.specs.Part.{doomed}

-- seeing an event keeps the task
pub seen_by-task : (event : Completion) (entry seen : Entry) → seen_by event entry ≡ Some seen → seen.task ≡ entry.task
seen_by-task event entry seen is = search rules

-- dooming commands keeps the tasks
pub doomed-task : (noted : List ℕ) (entry : Entry) → (doomed noted entry).task ≡ entry.task
doomed-task noted entry = search rules

-- a change of a TD keeps the task
pub with_td_on-task : (change : Td → Td) (pipe : Pipe) (entry : Entry) → (with_td_on change pipe entry).task ≡ entry.task
with_td_on-task change CommandPipeName entry = refl
with_td_on-task change StatusPipe entry = refl
with_td_on-task change DataIn entry = refl
with_td_on-task change DataOut entry = refl

-- a retired TD too
pub retired_on-task : (pipe : Pipe) (entry now : Entry) → retired_on pipe entry ≡ Some now → now.task ≡ entry.task
retired_on-task pipe entry now is = search (rules, with_td_on-task)
