-- What one cancel takes away, and so what many leave.
use Rattle.std.proofs.Common.{◌≡◌, ℕ, zero, suc, ◌+◌, ◌≤◌, Bool, true, false, List, [], ◌∷◌, Option, None, Some, option_map, refl, ap, sym, ◌∙◌, subst, arith}
use Rattle.std.specs.Prelude.{if◌then◌else◌}
use Rattle.std.proofs.lemmas.Bool.{eqb-true}
use Rattle.uas_profile.specs.declared.Pipe.{Pipe}
use Rattle.uas_profile.specs.declared.Pipe.TheVariants.{Command, Status, DataIn, DataOut}
use Rattle.usb_places.specs.declared.Transfer.{Transfer}
use Rattle.usb_places.specs.declared.PlaceState.{PlaceState}
use Rattle.usb_places.specs.declared.PlaceState.TheVariants.{Empty, Holds, Keeps}
use Rattle.usb_places.specs.Laws.{CancelsAll, CancelsOne, FindsEach, FindsHeld, held_in_tag, held_under, one_if}
use Rattle.usb_places.specs.Places.{changed, emptied_at, further, held_at, holder, or_further}
use Rattle.usb_places.specs.States.{TagState, emptied_tag, held_in, holder_in, holds, transfer_in}

-- WITHIN A TAG

abbrev chosen : Bool → Bool → Bool → Option Pipe
chosen status data_in data_out = if status then Some Status else (if data_in then Some DataIn else (if data_out then Some DataOut else None))

none_chosen : (status data_in data_out : Bool) → chosen status data_in data_out ≡ None → one_if status + one_if data_in + one_if data_out ≡ 0
none_chosen true data_in data_out is = absurd (cc is)
none_chosen false true data_out is = absurd (cc is)
none_chosen false false true is = absurd (cc is)
none_chosen false false false is = refl

none_in : (id : ℕ) (tag : TagState) → holder_in id tag ≡ None → held_in_tag id tag ≡ 0
none_in id tag is = none_chosen (holds id tag.status) (holds id tag.data_in) (holds id tag.data_out) is

abbrev less : Pipe → Bool → Bool → Bool → ℕ
less Command status data_in data_out = one_if status + one_if data_in + one_if data_out
less Status status data_in data_out = 0 + one_if data_in + one_if data_out
less DataIn status data_in data_out = one_if status + 0 + one_if data_out
less DataOut status data_in data_out = one_if status + one_if data_in + 0

one_chosen : (status data_in data_out : Bool) (pipe : Pipe) → chosen status data_in data_out ≡ Some pipe →
    less pipe status data_in data_out + 1 ≡ one_if status + one_if data_in + one_if data_out
one_chosen true data_in data_out Command is = absurd (cc is)
one_chosen true data_in data_out Status is = omega arith
one_chosen true data_in data_out DataIn is = absurd (cc is)
one_chosen true data_in data_out DataOut is = absurd (cc is)
one_chosen false true data_out Command is = absurd (cc is)
one_chosen false true data_out Status is = absurd (cc is)
one_chosen false true data_out DataIn is = omega arith
one_chosen false true data_out DataOut is = absurd (cc is)
one_chosen false false true Command is = absurd (cc is)
one_chosen false false true Status is = absurd (cc is)
one_chosen false false true DataIn is = absurd (cc is)
one_chosen false false true DataOut is = refl
one_chosen false false false pipe is = absurd (cc is)

emptied_in : (id : ℕ) (tag : TagState) (pipe : Pipe) →
    held_in_tag id (emptied_tag pipe tag) ≡ less pipe (holds id tag.status) (holds id tag.data_in) (holds id tag.data_out)
emptied_in id tag Command = refl
emptied_in id tag Status = refl
emptied_in id tag DataIn = refl
emptied_in id tag DataOut = refl

one_in : (id : ℕ) (tag : TagState) (pipe : Pipe) → holder_in id tag ≡ Some pipe → held_in_tag id (emptied_tag pipe tag) + 1 ≡ held_in_tag id tag
one_in id tag pipe is =
    ap (λ n. n + 1) (emptied_in id tag pipe) ∙ one_chosen (holds id tag.status) (holds id tag.data_in) (holds id tag.data_out) pipe is

abbrev picked : Pipe → Bool → Bool → Bool → Bool
picked Command status data_in data_out = false
picked Status status data_in data_out = status
picked DataIn status data_in data_out = data_in
picked DataOut status data_in data_out = data_out

is_picked : (status data_in data_out : Bool) (pipe : Pipe) → chosen status data_in data_out ≡ Some pipe → picked pipe status data_in data_out ≡ true
is_picked true data_in data_out Command is = absurd (cc is)
is_picked true data_in data_out Status is = refl
is_picked true data_in data_out DataIn is = absurd (cc is)
is_picked true data_in data_out DataOut is = absurd (cc is)
is_picked false true data_out Command is = absurd (cc is)
is_picked false true data_out Status is = absurd (cc is)
is_picked false true data_out DataIn is = refl
is_picked false true data_out DataOut is = absurd (cc is)
is_picked false false true Command is = absurd (cc is)
is_picked false false true Status is = absurd (cc is)
is_picked false false true DataIn is = absurd (cc is)
is_picked false false true DataOut is = refl
is_picked false false false pipe is = absurd (cc is)

abbrev id_in : Option Transfer → Option ℕ
id_in held = option_map (λ (transfer : Transfer). transfer.id) held

held_state : (id : ℕ) (state : PlaceState) → holds id state ≡ true → id_in (transfer_in state) ≡ Some id
held_state id Empty is = absurd (cc is)
held_state id (Holds transfer) is = ap Some (eqb-true transfer.id id is)
held_state id (Keeps kept) is = absurd (cc is)

held_picked : (id : ℕ) (tag : TagState) (pipe : Pipe) → picked pipe (holds id tag.status) (holds id tag.data_in) (holds id tag.data_out) ≡ true →
    id_in (held_in pipe tag) ≡ Some id
held_picked id tag Command is = absurd (cc is)
held_picked id tag Status is = held_state id tag.status is
held_picked id tag DataIn is = held_state id tag.data_in is
held_picked id tag DataOut is = held_state id tag.data_out is

held_here : (id : ℕ) (tag : TagState) (pipe : Pipe) → holder_in id tag ≡ Some pipe → id_in (held_in pipe tag) ≡ Some id
held_here id tag pipe is =
    held_picked id tag pipe (is_picked (holds id tag.status) (holds id tag.data_in) (holds id tag.data_out) pipe is)

-- ALONG THE TAGS

some_is : {T : Type 0} (one other : T) → Some one ≡ Some other → one ≡ other
some_is one other is = cc is

or_positive : (here : Option Pipe) (rest : Option (Pipe × ℕ)) (place : Pipe × ℕ) → or_further here rest ≡ Some place → 1 ≤ place.1
or_positive (Some pipe) rest place is = subst (λ (p : Pipe × ℕ). 1 ≤ p.1) (some_is (pipe, 1) place is) (omega arith)
or_positive None None place is = absurd (cc is)
or_positive None (Some behind) place is = subst (λ (p : Pipe × ℕ). 1 ≤ p.1) (some_is (further behind) place is) (omega arith)

positive : (tags : List TagState) (id : ℕ) (place : Pipe × ℕ) → holder id tags ≡ Some place → 1 ≤ place.1
positive [] id place is = absurd (cc is)
positive (tag ∷ tags) id place is = or_positive (holder_in id tag) (holder id tags) place is

shifted_held : (tag : TagState) (tags : List TagState) (pipe : Pipe) (at : ℕ) → 1 ≤ at → held_at (tag ∷ tags) pipe (suc at) ≡ held_at tags pipe at
shifted_held tag tags pipe zero one = absurd (omega (arith, one))
shifted_held tag tags pipe (suc at) one = refl

shifted_change : (change : TagState → TagState) (tag : TagState) (tags : List TagState) (at : ℕ) → 1 ≤ at →
    changed change (tag ∷ tags) (suc at) ≡ tag ∷ changed change tags at
shifted_change change tag tags zero one = absurd (omega (arith, one))
shifted_change change tag tags (suc at) one = refl

-- where nothing is found, no place holds one
each_by : (tag : TagState) (tags : List TagState) (id : ℕ) → (holder id tags ≡ None → held_under id tags ≡ 0) →
    (here : Option Pipe) (rest : Option (Pipe × ℕ)) → holder_in id tag ≡ here → holder id tags ≡ rest →
    or_further here rest ≡ None → held_in_tag id tag + held_under id tags ≡ 0
each_by tag tags id others (Some pipe) rest at behind is = absurd (cc is)
each_by tag tags id others None (Some place) at behind is = absurd (cc is)
each_by tag tags id others None None at behind is = omega (arith, none_in id tag at, others behind)

pub finds_each : FindsEach
finds_each [] id is = refl
finds_each (tag ∷ tags) id is = each_by tag tags id (finds_each tags id) (holder_in id tag) (holder id tags) refl refl is

-- what is found holds one
held_by : (tag : TagState) (tags : List TagState) (id : ℕ) (place : Pipe × ℕ) →
    ((behind : Pipe × ℕ) → holder id tags ≡ Some behind → id_in (held_at tags behind.0 behind.1) ≡ Some id) →
    (here : Option Pipe) (rest : Option (Pipe × ℕ)) → holder_in id tag ≡ here → holder id tags ≡ rest →
    or_further here rest ≡ Some place → id_in (held_at (tag ∷ tags) place.0 place.1) ≡ Some id
held_by tag tags id place others (Some pipe) rest at behind is =
    subst (λ (p : Pipe × ℕ). id_in (held_at (tag ∷ tags) p.0 p.1) ≡ Some id) (some_is (pipe, 1) place is) (held_here id tag pipe at)
held_by tag tags id place others None None at behind is = absurd (cc is)
held_by tag tags id place others None (Some found) at behind is =
    subst (λ (p : Pipe × ℕ). id_in (held_at (tag ∷ tags) p.0 p.1) ≡ Some id) (some_is (further found) place is)
    (ap id_in (shifted_held tag tags found.0 found.1 (positive tags id found behind)) ∙ others found behind)

pub finds_held : FindsHeld
finds_held [] id place is = absurd (cc is)
finds_held (tag ∷ tags) id place is =
    held_by tag tags id place (finds_held tags id) (holder_in id tag) (holder id tags) refl refl is

-- one fewer once it is emptied
abbrev LessOne : ℕ → List TagState → Pipe × ℕ → Type 0
LessOne id tags place = held_under id (changed (emptied_tag place.0) tags place.1) + 1 ≡ held_under id tags

less_behind : (id : ℕ) (tag : TagState) (tags now : List TagState) (found : Pipe × ℕ) → now ≡ tag ∷ changed (emptied_tag found.0) tags found.1 →
    LessOne id tags found → held_under id now + 1 ≡ held_under id (tag ∷ tags)
less_behind id tag tags now found is gone =
    subst (λ (n : List TagState). held_under id n + 1 ≡ held_under id (tag ∷ tags)) (sym is) (omega (arith, gone))

less_by : (tag : TagState) (tags : List TagState) (id : ℕ) (place : Pipe × ℕ) → ((behind : Pipe × ℕ) → holder id tags ≡ Some behind → LessOne id tags behind) →
    (here : Option Pipe) (rest : Option (Pipe × ℕ)) → holder_in id tag ≡ here → holder id tags ≡ rest →
    or_further here rest ≡ Some place → LessOne id (tag ∷ tags) place
less_by tag tags id place others (Some pipe) rest at behind is =
    subst (LessOne id (tag ∷ tags)) (some_is (pipe, 1) place is) (omega (arith, one_in id tag pipe at))
less_by tag tags id place others None None at behind is = absurd (cc is)
less_by tag tags id place others None (Some found) at behind is =
    subst (LessOne id (tag ∷ tags)) (some_is (further found) place is)
    (less_behind id tag tags (changed (emptied_tag found.0) (tag ∷ tags) (suc found.1)) found
    (shifted_change (emptied_tag found.0) tag tags found.1 (positive tags id found behind)) (others found behind))

less_one : (tags : List TagState) (id : ℕ) (place : Pipe × ℕ) → holder id tags ≡ Some place → LessOne id tags place
less_one [] id place is = absurd (cc is)
less_one (tag ∷ tags) id place is = less_by tag tags id place (less_one tags id) (holder_in id tag) (holder id tags) refl refl is

pub cancels_one : CancelsOne
cancels_one tags id place is =
    ap (λ (found : Option (Pipe × ℕ)). held_under id (emptied_at tags found) + 1) is ∙ less_one tags id place is

-- MANY CANCELS

fewer : (tags : List TagState) (id times : ℕ) (found : Option (Pipe × ℕ)) → holder id tags ≡ found → held_under id tags ≤ suc times →
    held_under id (emptied_at tags found) ≤ times
fewer tags id times None is most = omega (arith, finds_each tags id is)
fewer tags id times (Some place) is most = omega (arith, less_one tags id place is, most)

pub cancels_all : CancelsAll
cancels_all tags id zero most = omega (arith, most)
cancels_all tags id (suc times) most =
    cancels_all (emptied_at tags (holder id tags)) id times (fewer tags id times (holder id tags) refl most)
