-- What a phase as the pipes see it says of what the device wants.
use Rattle.std.proofs.Common.{◌≡◌, ℕ, zero, suc, List, [], ◌∷◌, length, refl, ap, subst, arith, Option}
use Rattle.uas_iu.specs.declared.Iu.{Iu}
use Rattle.uas_tasks.specs.declared.Wants.{Wants}
use Rattle.uas_tasks.specs.declared.Wants.TheVariants.{Absent as NoTask, Asks, Waits, Gives as WantsGive, Takes as WantsTake, Ends}
use Rattle.uas_tasks.specs.Soundness.{MayGive, MayTake}
use Rattle.guest_tags.specs.declared.device.Phase.{Phase}
use Rattle.guest_tags.specs.declared.device.Phase.TheVariants.{Absent, Gives, Takes, Ended}
use Rattle.guest_tags.specs.Devices.{IsEnded}
use Rattle.guest_tasks.specs.Tasks.{chunk_in, phase_of}

-- how many bytes a phase gives or takes
abbrev pub count_of : Phase → ℕ
count_of Absent = 0
count_of (Gives count) = count
count_of (Takes count) = count
count_of (Ended end) = 0

abbrev pub IsNotGiving : Phase → Type 0
IsNotGiving Absent = Unit {0}
IsNotGiving (Gives count) = ⊥
IsNotGiving (Takes count) = Unit {0}
IsNotGiving (Ended end) = Unit {0}

abbrev pub IsNotTaking : Phase → Type 0
IsNotTaking Absent = Unit {0}
IsNotTaking (Gives count) = Unit {0}
IsNotTaking (Takes count) = ⊥
IsNotTaking (Ended end) = Unit {0}

pub may_give : (wants : Wants) (answer : Option Iu) (count : ℕ) → phase_of wants answer ≡ Gives count → MayGive wants count
may_give NoTask answer count is = absurd (subst IsNotGiving is (tt {0}))
may_give Asks answer count is = absurd (subst IsNotGiving is (tt {0}))
may_give Waits answer count is = absurd (subst IsNotGiving is (tt {0}))
may_give (WantsGive zero) answer count is = absurd (subst IsNotGiving is (tt {0}))
may_give (WantsGive (suc n)) answer count is = omega (arith, ap count_of is)
may_give (WantsTake zero) answer count is = absurd (subst IsNotGiving is (tt {0}))
may_give (WantsTake (suc n)) answer count is = absurd (subst IsNotGiving is (tt {0}))
may_give Ends answer count is = absurd (subst IsNotGiving is (tt {0}))

pub gives_chunk : (wants : Wants) (answer : Option Iu) (count : ℕ) → phase_of wants answer ≡ Gives count → chunk_in wants ≡ count
gives_chunk NoTask answer count is = absurd (subst IsNotGiving is (tt {0}))
gives_chunk Asks answer count is = absurd (subst IsNotGiving is (tt {0}))
gives_chunk Waits answer count is = absurd (subst IsNotGiving is (tt {0}))
gives_chunk (WantsGive zero) answer count is = absurd (subst IsNotGiving is (tt {0}))
gives_chunk (WantsGive (suc n)) answer count is = ap count_of is
gives_chunk (WantsTake zero) answer count is = absurd (subst IsNotGiving is (tt {0}))
gives_chunk (WantsTake (suc n)) answer count is = absurd (subst IsNotGiving is (tt {0}))
gives_chunk Ends answer count is = absurd (subst IsNotGiving is (tt {0}))

pub may_take : (wants : Wants) (answer : Option Iu) (count : ℕ) → phase_of wants answer ≡ Takes count → MayTake wants count
may_take NoTask answer count is = absurd (subst IsNotTaking is (tt {0}))
may_take Asks answer count is = absurd (subst IsNotTaking is (tt {0}))
may_take Waits answer count is = absurd (subst IsNotTaking is (tt {0}))
may_take (WantsGive zero) answer count is = absurd (subst IsNotTaking is (tt {0}))
may_take (WantsGive (suc n)) answer count is = absurd (subst IsNotTaking is (tt {0}))
may_take (WantsTake zero) answer count is = absurd (subst IsNotTaking is (tt {0}))
may_take (WantsTake (suc n)) answer count is = omega (arith, ap count_of is)
may_take Ends answer count is = absurd (subst IsNotTaking is (tt {0}))

pub ended_ends : (wants : Wants) (answer : Option Iu) → IsEnded (phase_of wants answer) → wants ≡ Ends
ended_ends NoTask answer ended = absurd ended
ended_ends Asks answer ended = absurd ended
ended_ends Waits answer ended = absurd ended
ended_ends (WantsGive zero) answer ended = absurd ended
ended_ends (WantsGive (suc n)) answer ended = absurd ended
ended_ends (WantsTake zero) answer ended = absurd ended
ended_ends (WantsTake (suc n)) answer ended = absurd ended
ended_ends Ends answer ended = refl

pub empty_items : (text : List ℕ) → length text ≡ 0 → text ≡ []
empty_items [] none = refl
empty_items (x ∷ xs) none = absurd (omega (arith, none))
