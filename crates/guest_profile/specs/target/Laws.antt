-- What a phase as the pipes see it says of the device's own.
use Rattle.std.proofs.Common.{◌≡◌, ℕ, List, [], ◌∷◌, length, refl, ap, subst, arith, Option}
use Rattle.uas_iu.specs.declared.Iu.{Iu}
use Rattle.uas_target.specs.declared.Phase.{Phase as TargetPhase}
use Rattle.uas_target.specs.declared.Phase.TheVariants.{Absent as NoTask, Gives as TargetGives, Takes as TargetTakes, Ends}
use Rattle.guest_tags.specs.declared.device.Phase.{Phase}
use Rattle.guest_tags.specs.declared.device.Phase.TheVariants.{Absent, Gives, Takes, Ended}
use Rattle.guest_tags.specs.Devices.{IsEnded}
use Rattle.guest_profile.specs.target.Targets.{phase_of}

-- how many bytes a phase gives or takes
abbrev pub count_of : Phase → ℕ
count_of Absent = 0
count_of (Gives count) = count
count_of (Takes count) = count
count_of (Ended end) = 0

abbrev pub IsNotGiving : Phase → Type 0
IsNotGiving Absent = Unit {0}
IsNotGiving (Gives count) = ⊥
IsNotGiving (Takes count) = Unit {0}
IsNotGiving (Ended end) = Unit {0}

abbrev pub IsNotTaking : Phase → Type 0
IsNotTaking Absent = Unit {0}
IsNotTaking (Gives count) = Unit {0}
IsNotTaking (Takes count) = ⊥
IsNotTaking (Ended end) = Unit {0}

pub gives_gives : (phase : TargetPhase) (answer : Option Iu) (count : ℕ) → phase_of phase answer ≡ Gives count → phase ≡ TargetGives count
gives_gives NoTask answer count is = absurd (subst IsNotGiving is (tt {0}))
gives_gives (TargetGives n) answer count is = ap (λ p. TargetGives (count_of p)) is
gives_gives (TargetTakes n) answer count is = absurd (subst IsNotGiving is (tt {0}))
gives_gives Ends answer count is = absurd (subst IsNotGiving is (tt {0}))

pub takes_takes : (phase : TargetPhase) (answer : Option Iu) (count : ℕ) → phase_of phase answer ≡ Takes count → phase ≡ TargetTakes count
takes_takes NoTask answer count is = absurd (subst IsNotTaking is (tt {0}))
takes_takes (TargetGives n) answer count is = absurd (subst IsNotTaking is (tt {0}))
takes_takes (TargetTakes n) answer count is = ap (λ p. TargetTakes (count_of p)) is
takes_takes Ends answer count is = absurd (subst IsNotTaking is (tt {0}))

pub ended_ends : (phase : TargetPhase) (answer : Option Iu) → IsEnded (phase_of phase answer) → phase ≡ Ends
ended_ends NoTask answer ended = absurd ended
ended_ends (TargetGives count) answer ended = absurd ended
ended_ends (TargetTakes count) answer ended = absurd ended
ended_ends Ends answer ended = refl

pub empty_items : (text : List ℕ) → length text ≡ 0 → text ≡ []
empty_items [] none = refl
empty_items (x ∷ xs) none = absurd (omega (arith, none))
