use Rattle.std.proofs.Common.{◌≡◌, length}
use Rattle.std.specs.Prelude.{option_map}
use Rattle.uas_profile.specs.declared.TheConstants.{MOST_TAGS}
use Rattle.uas_host.specs.Seen.{doomed}
use Rattle.uas_host.proofs.Changing.{first_changed}
use Rattle.uas_host.proofs.seen.leave_doomed_over.Given as goal

-- the entries below this slot were left over where doomed, and no other
abbrev pub invariant-loop-slot : goal.invariant-loop-slot
invariant-loop-slot l = record {
  places : length l.entries ≡ MOST_TAGS;
  initial : length l.initial.entries ≡ MOST_TAGS;
  now : l.entries ≡ first_changed (option_map (doomed l.noted)) l.slot l.initial.entries;
}
