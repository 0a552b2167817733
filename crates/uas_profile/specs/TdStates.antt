-- How far the host is with a TD (xHCI 4.11), and how often something is.
use Rattle.std.specs.Prelude.{ℕ, ◌+◌, ◌==◌, cond, Bool, true, false, List, [], ◌∷◌}
use Rattle.uas_profile.specs.declared.TdState.{TdState}
use Rattle.uas_profile.specs.declared.TdState.TheVariants.{Pending, Seen, LeftOver, Retired}

-- two states are one
abbrev pub same_state : TdState → TdState → Bool
same_state Pending Pending = true
same_state Seen Seen = true
same_state LeftOver LeftOver = true
same_state Retired Retired = true
same_state _ _ = false

-- the host waits for its event
abbrev pub is_pending : TdState → Bool
is_pending td = same_state Pending td

abbrev pub is_seen : TdState → Bool
is_seen td = same_state Seen td

abbrev pub is_left_over : TdState → Bool
is_left_over td = same_state LeftOver td

abbrev pub is_retired : TdState → Bool
is_retired td = same_state Retired td

-- nothing more is to be done about it
abbrev pub is_over : TdState → Bool
is_over Seen = true
is_over Retired = true
is_over _ = false

-- how often: once or not at all
abbrev pub one_if : Bool → ℕ
one_if b = cond b 1 0

-- how often a slot is in a queue
abbrev pub times_in : ℕ → List ℕ → ℕ
times_in slot [] = 0
times_in slot (first ∷ rest) = one_if (first == slot) + times_in slot rest
