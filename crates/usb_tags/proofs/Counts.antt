-- How many transfers of an id the places hold, after each change of a tag.
use Rattle.std.proofs.Common.{◌≡◌, ℕ, zero, suc, ◌+◌, ◌<◌, ◌==◌, Bool, true, false, cond, List, [], ◌∷◌, length, map, set, get_or, Option, Some, None, refl, ap, sym, ◌∙◌, arith}
use Rattle.std.specs.Prelude.{◌≤◌, nat_le}
use Rattle.std.specs.Option.{option_map_or}
use Rattle.std.proofs.lemmas.Bool.{eqb-true, false≢true}
use Rattle.uas_profile.specs.declared.Pipe.{Pipe}
use Rattle.uas_profile.specs.declared.Pipe.TheVariants.{Command, Status, DataIn, DataOut}
use Rattle.uas_profile.specs.Pipes.{HasStreams}
use Rattle.usbredir.specs.declared.kinds.Status as answer
use Rattle.usb_places.specs.declared.PlaceState.{PlaceState}
use Rattle.usb_places.specs.declared.PlaceState.TheVariants.{Empty, Holds, Keeps}
use Rattle.usb_places.specs.declared.TheConstants.{MOST_COMMAND_BYTES}
use Rattle.usb_places.specs.declared.Transfer.{Transfer}
use Rattle.usb_places.specs.Places.{holder, or_further, tag_under, with_tag_under}
use Rattle.usb_places.specs.States.{TagState, answered_state, come_tag, command_kept_tag, emptied_tag, ended_tag, forgotten_state, forgotten_tag, fresh_tag, held_in, holder_in, holding_tag, holds, lost_state, lost_tag, told_state, told_tag, transfer_in}
use Rattle.usb_tags.specs.Laws.{held_of, held_under, one_if}

pub either : {A : Type 0} (P : A → Type 0) (b : Bool) (x y : A) → P x → P y → P (cond b x y)
either P true x y first second = first
either P false x y first second = second

-- knowing which
pub split : {A : Type 0} (P : A → Type 0) (b : Bool) (x y : A) → (b ≡ true → P x) → (b ≡ false → P y) → P (cond b x y)
split P true x y first second = first refl
split P false x y first second = second refl

-- ONE TAG'S STATE IS WRITTEN

lower : (id : ℕ) (tags : List TagState) (place less : ℕ) (now : TagState) → held_of id now + less ≡ held_of id (get_or tags place fresh_tag)
    → held_under id (set tags place now) + less ≡ held_under id tags
lower id [] place less now is = omega (arith, is)
lower id (tag ∷ tags) zero less now is = omega (arith, is)
lower id (tag ∷ tags) (suc place) less now is = let rest = lower id tags place less now is in omega (arith, rest)

-- a tag holds so many fewer
pub lowered : (id : ℕ) (tags : List TagState) (tag less : ℕ) (now : TagState) → held_of id now + less ≡ held_of id (tag_under tags tag)
    → held_under id (with_tag_under tags tag now) + less ≡ held_under id tags
lowered id tags zero less now is = omega (arith, is)
lowered id tags (suc place) less now is = lower id tags place less now is

-- or as many
pub same : (id : ℕ) (tags : List TagState) (tag : ℕ) (now : TagState) → held_of id now ≡ held_of id (tag_under tags tag)
    → held_under id (with_tag_under tags tag now) ≡ held_under id tags
same id tags tag now is = let less = lowered id tags tag 0 now (omega (arith, is)) in omega (arith, less)

raise : (id : ℕ) (tags : List TagState) (place more : ℕ) (now : TagState) → place < length tags
    → held_of id now ≡ held_of id (get_or tags place fresh_tag) + more → held_under id (set tags place now) ≡ held_under id tags + more
raise id [] place more now below is = absurd (omega (arith, below))
raise id (tag ∷ tags) zero more now below is = omega (arith, is)
raise id (tag ∷ tags) (suc place) more now below is = let rest = raise id tags place more now (omega (arith, below)) is in omega (arith, rest)

-- or so many more, where there is such a tag
pub raised : (id : ℕ) (tags : List TagState) (tag more : ℕ) (now : TagState) → 0 < tag → tag ≤ length tags
    → held_of id now ≡ held_of id (tag_under tags tag) + more → held_under id (with_tag_under tags tag now) ≡ held_under id tags + more
raised id tags zero more now some most is = absurd (omega (arith, some))
raised id tags (suc place) more now some most is = raise id tags place more now (omega (arith, most)) is

-- of all tags
pub mapped : (id : ℕ) (change : TagState → TagState) → ((tag : TagState) → held_of id (change tag) ≡ held_of id tag) → (tags : List TagState)
    → held_under id (map change tags) ≡ held_under id tags
mapped id change alike [] = refl
mapped id change alike (tag ∷ tags) = let here = alike tag in let rest = mapped id change alike tags in omega (arith, here, rest)

-- WHAT ONE STATE HOLDS

pub forgotten_same : (id : ℕ) (state : PlaceState) → one_if (holds id (forgotten_state state)) ≡ one_if (holds id state)
forgotten_same id Empty = refl
forgotten_same id (Holds transfer) = refl
forgotten_same id (Keeps kept) = refl

lost_same : (id lost : ℕ) (state : PlaceState) → one_if (holds id (lost_state lost state)) ≡ one_if (holds id state)
lost_same id lost Empty = refl
lost_same id lost (Holds transfer) = refl
lost_same id lost (Keeps kept) = refl

pub forgotten_tag_same : (id : ℕ) (tag : TagState) → held_of id (forgotten_tag tag) ≡ held_of id tag
forgotten_tag_same id tag =
    let a = forgotten_same id tag.status in let b = forgotten_same id tag.data_in in let c = forgotten_same id tag.data_out in omega (arith, a, b, c)

pub lost_tag_same : (id lost : ℕ) (tag : TagState) → held_of id (lost_tag lost tag) ≡ held_of id tag
lost_tag_same id lost tag =
    let a = lost_same id lost tag.status in let b = lost_same id lost tag.data_in in let c = lost_same id lost tag.data_out in omega (arith, a, b, c)

told_same : (id : ℕ) (state : PlaceState) → one_if (holds id (told_state state)) ≡ one_if (holds id state)
told_same id Empty = refl
told_same id (Holds transfer) = refl
told_same id (Keeps kept) = refl

pub told_tag_same : (id : ℕ) (pipe : Pipe) (tag : TagState) → held_of id (told_tag pipe tag) ≡ held_of id tag
told_tag_same id Command tag = refl
told_tag_same id Status tag = let alike = told_same id tag.status in omega (arith, alike)
told_tag_same id DataIn tag = let alike = told_same id tag.data_in in omega (arith, alike)
told_tag_same id DataOut tag = let alike = told_same id tag.data_out in omega (arith, alike)

pub come_tag_same : (id : ℕ) (pipe : Pipe) (tag : TagState) → held_of id (come_tag pipe tag) ≡ held_of id tag
come_tag_same id Command tag = refl
come_tag_same id Status tag = let alike = forgotten_same id tag.status in omega (arith, alike)
come_tag_same id DataIn tag = let alike = forgotten_same id tag.data_in in omega (arith, alike)
come_tag_same id DataOut tag = let alike = forgotten_same id tag.data_out in omega (arith, alike)

pub command_kept_same : (id : ℕ) (transfer : Transfer) (moved : ℕ) (bytes : List ℕ) (tag : TagState)
    → held_of id (command_kept_tag transfer moved bytes tag) ≡ held_of id tag
command_kept_same id transfer moved bytes tag = either (λ (now : TagState). held_of id now ≡ held_of id tag) (nat_le (length bytes) MOST_COMMAND_BYTES) _ _ refl refl

-- A TRANSFER IS HELD

counted : (id : ℕ) (state : PlaceState) → one_if (holds id state) ≡ option_map_or (λ (transfer : Transfer). one_if (transfer.id == id)) (transfer_in state) 0
counted id Empty = refl
counted id (Holds transfer) = refl
counted id (Keeps kept) = refl

none_held : (id : ℕ) (state : PlaceState) → transfer_in state ≡ None → one_if (holds id state) ≡ 0
none_held id state none = counted id state ∙ ap (λ (held : Option Transfer). option_map_or (λ (t : Transfer). one_if (t.id == id)) held 0) none

pub holding_more : (id : ℕ) (pipe : Pipe) (transfer : Transfer) (bytes : List ℕ) (tag : TagState) → HasStreams pipe → held_in pipe tag ≡ None
    → held_of id (holding_tag pipe transfer bytes tag) ≡ held_of id tag + one_if (transfer.id == id)
holding_more id Command transfer bytes tag streams free = absurd streams
holding_more id Status transfer bytes tag streams free = let none = none_held id tag.status free in omega (arith, none)
holding_more id DataIn transfer bytes tag streams free = let none = none_held id tag.data_in free in omega (arith, none)
holding_more id DataOut transfer bytes tag streams free =
    let none = none_held id tag.data_out free in let alike = forgotten_same id tag.data_in in omega (arith, none, alike)

-- A TRANSFER IS ANSWERED

answered_none : (id : ℕ) (state : PlaceState) (status : answer.Status) (moved : ℕ) → one_if (holds id (answered_state status moved state)) ≡ 0
answered_none id Empty status moved = refl
answered_none id (Holds transfer) status moved = refl
answered_none id (Keeps kept) status moved = refl

answered_less : (id : ℕ) (state : PlaceState) (transfer : Transfer) (status : answer.Status) (moved : ℕ) → transfer_in state ≡ Some transfer
    → one_if (holds id (answered_state status moved state)) + one_if (transfer.id == id) ≡ one_if (holds id state)
answered_less id state transfer status moved is =
    let none = answered_none id state status moved in
    let one = counted id state ∙ ap (λ (held : Option Transfer). option_map_or (λ (t : Transfer). one_if (t.id == id)) held 0) is in
    omega (arith, none, one)

pub ended_less : (id : ℕ) (pipe : Pipe) (tag : TagState) (transfer : Transfer) (status : answer.Status) (moved : ℕ) (unit : List ℕ)
    → held_in pipe tag ≡ Some transfer → held_of id (ended_tag pipe status moved unit tag) + one_if (transfer.id == id) ≡ held_of id tag
ended_less id Command tag transfer status moved unit is = absurd (cc is)
ended_less id Status tag transfer status moved unit is = let less = answered_less id tag.status transfer status moved is in omega (arith, less)
ended_less id DataIn tag transfer status moved unit is = let less = answered_less id tag.data_in transfer status moved is in omega (arith, less)
ended_less id DataOut tag transfer status moved unit is = let less = answered_less id tag.data_out transfer status moved is in omega (arith, less)

-- A TRANSFER IS CANCELLED

abbrev pub HoldsAt : ℕ → Pipe → TagState → Type 0
HoldsAt id Command tag = ⊥
HoldsAt id Status tag = holds id tag.status ≡ true
HoldsAt id DataIn tag = holds id tag.data_in ≡ true
HoldsAt id DataOut tag = holds id tag.data_out ≡ true

abbrev pub HoldsIn : ℕ → Option Pipe → TagState → Type 0
HoldsIn id None tag = Unit {0}
HoldsIn id (Some pipe) tag = HoldsAt id pipe tag

picked : (id : ℕ) (tag : TagState) (a b c : Bool) → holds id tag.status ≡ a → holds id tag.data_in ≡ b → holds id tag.data_out ≡ c
    → HoldsIn id (cond a (Some Status) (cond b (Some DataIn) (cond c (Some DataOut) None))) tag
picked id tag true b c status data_in data_out = status
picked id tag false true c status data_in data_out = data_in
picked id tag false false true status data_in data_out = data_out
picked id tag false false false status data_in data_out = tt

pub holder_holds : (id : ℕ) (tag : TagState) → HoldsIn id (holder_in id tag) tag
holder_holds id tag = picked id tag (holds id tag.status) (holds id tag.data_in) (holds id tag.data_out) refl refl refl

-- that place, of all tags
abbrev pub HoldsUnder : ℕ → List TagState → Option (Pipe × ℕ) → Type 0
HoldsUnder id tags None = Unit {0}
HoldsUnder id tags (Some place) = HoldsAt id place.0 (tag_under tags place.1)

fresh_holds_none : (id : ℕ) (pipe : Pipe) → HoldsAt id pipe fresh_tag → ⊥
fresh_holds_none id Command is = is
fresh_holds_none id Status is = false≢true is
fresh_holds_none id DataIn is = false≢true is
fresh_holds_none id DataOut is = false≢true is

further_holds : (id : ℕ) (tag : TagState) (tags : List TagState) (pipe : Pipe) (place : ℕ) → HoldsAt id pipe (tag_under tags place)
    → HoldsAt id pipe (tag_under (tag ∷ tags) (suc place))
further_holds id tag tags pipe zero is = absurd (fresh_holds_none id pipe is)
further_holds id tag tags pipe (suc place) is = is

rest_holds : (id : ℕ) (tag : TagState) (tags : List TagState) (found : Option Pipe) (rest : Option (Pipe × ℕ)) → HoldsIn id found tag
    → HoldsUnder id tags rest → HoldsUnder id (tag ∷ tags) (or_further found rest)
rest_holds id tag tags None None here is = tt
rest_holds id tag tags None (Some place) here is = further_holds id tag tags place.0 place.1 is
rest_holds id tag tags (Some pipe) rest here is = here

pub holder_under : (id : ℕ) (tags : List TagState) → HoldsUnder id tags (holder id tags)
holder_under id [] = tt
holder_under id (tag ∷ tags) = rest_holds id tag tags (holder_in id tag) (holder id tags) (holder_holds id tag) (holder_under id tags)

one_less : (id under : ℕ) (state : PlaceState) → holds under state ≡ true → one_if (under == id) ≡ one_if (holds id state)
one_less id under Empty is = absurd (false≢true is)
one_less id under (Holds transfer) is = ap (λ (n : ℕ). one_if (n == id)) (sym (eqb-true transfer.id under is))
one_less id under (Keeps kept) is = absurd (false≢true is)

pub emptied_less : (id under : ℕ) (pipe : Pipe) (tag : TagState) → HoldsAt under pipe tag
    → held_of id (emptied_tag pipe tag) + one_if (under == id) ≡ held_of id tag
emptied_less id under Command tag is = absurd is
emptied_less id under Status tag is = let one = one_less id under tag.status is in omega (arith, one)
emptied_less id under DataIn tag is = let one = one_less id under tag.data_in is in omega (arith, one)
emptied_less id under DataOut tag is = let one = one_less id under tag.data_out is in omega (arith, one)
