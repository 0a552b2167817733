-- Bytes that are written one behind the other.
use Rattle.std.proofs.Common.{ℕ, List, [], ◌++◌, Option}
use Rattle.std.proofs.KnownBytes.{Appends-nil, Appends-trans}
use Rattle.log_text.specs.Writing.{Wrote}

pub wrote_nothing : {W : Type 0} (contents : W → Option (List ℕ)) (now : W) → Wrote contents now now []
wrote_nothing contents now = record { appends = Appends-nil (contents now) }

pub wrote_then : {W : Type 0} {contents : W → Option (List ℕ)} {old middle new : W} {front bytes : List ℕ}
    → Wrote contents old middle front → Wrote contents middle new bytes → Wrote contents old new (front ++ bytes)
wrote_then {contents = contents} {old = old} {middle = middle} {new = new} {front = front} {bytes = bytes} p q =
    record { appends = Appends-trans (contents old) (contents middle) (contents new) front bytes p.appends q.appends }
