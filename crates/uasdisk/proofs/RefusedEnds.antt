-- How words end that are refused.
use Rattle.std.proofs.Common.{◌≡◌, Bool, List, [], ◌∷◌, Option}
use Rattle.std.proofs.Common.{subst, inl, inr, ◌⊎◌, ℕ}
use Rattle.std.specs.Io.KnownBytes.{Keeps}
use Rattle.clap.specs.Words.{HasKind, IsAmong, Kinds}
use Rattle.clap.specs.Words.{kind_of}
use Rattle.clap.specs.declared.error.Error.{Error}
use Rattle.clap.specs.declared.error.kind.ErrorKind.{ErrorKind}
use Rattle.uas_words.specs.CommandLine.{EndsRefused}
use Rattle.uasdisk.specs.Ends.{RefusalEnds, HoldsOfOne}

holds_among : (P : ErrorKind → Type 0) (kind : ErrorKind) (kinds : Kinds) → IsAmong kind kinds → P kind → HoldsOfOne P kinds
holds_among P kind [] among holds = absurd among
holds_among P kind (k ∷ ks) (inl same) holds = inl (subst P same holds)
holds_among P kind (k ∷ ks) (inr later) holds = inr (holds_among P kind ks later holds)

-- how words end that are refused
pub refused_ends : (kinds : Kinds) (e : Error) (can_fail : Bool) (old new : Option (List ℕ)) (status : ℕ) → HasKind kinds e
    → RefusalEnds (kind_of e) can_fail old new status
    → ((status ≡ 4) × Keeps old new) ⊎ HoldsOfOne (λ kind. RefusalEnds kind can_fail old new status) kinds
refused_ends kinds e can_fail old new status (inl memory) ends =
    inl (ends.ended.memory memory, ends.memory (ends.ended.memory memory))
refused_ends kinds e can_fail old new status (inr among) ends =
    inr (holds_among (λ kind. RefusalEnds kind can_fail old new status) (kind_of e) kinds among ends)

statuses_of_one : (can_fail : Bool) (old new : Option (List ℕ)) (status : ℕ) (kinds : Kinds)
    → HoldsOfOne (λ kind. RefusalEnds kind can_fail old new status) kinds → HoldsOfOne (λ kind. EndsRefused kind status) kinds
statuses_of_one can_fail old new status [] none = absurd none
statuses_of_one can_fail old new status (k ∷ ks) (inl ends) = inl ends.ended
statuses_of_one can_fail old new status (k ∷ ks) (inr later) = inr (statuses_of_one can_fail old new status ks later)

-- and with which statuses
pub refused_statuses : (can_fail : Bool) (old new : Option (List ℕ)) (status : ℕ) (kinds : Kinds)
    → ((status ≡ 4) × Keeps old new) ⊎ HoldsOfOne (λ kind. RefusalEnds kind can_fail old new status) kinds
    → (status ≡ 4) ⊎ HoldsOfOne (λ kind. EndsRefused kind status) kinds
refused_statuses can_fail old new status kinds (inl memory) = inl memory.0
refused_statuses can_fail old new status kinds (inr one) = inr (statuses_of_one can_fail old new status kinds one)
