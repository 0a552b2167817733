-- The places of all tags, tag 1 first, and what each call makes of them.
use Rattle.std.specs.Prelude.{ℕ, Bool, zero, suc, ◌-◌, ◌||◌, ◌==◌, nat_lt, if◌then◌else◌, List, [], ◌∷◌, map, replicate, slice_index_or, slice_set}
use Rattle.std.specs.Prelude.{Option, None, Some, option_map}
use Rattle.uas_profile.specs.declared.Pipe.{Pipe}
use Rattle.usbredir.specs.declared.kinds.Status as answer
use Rattle.usb_places.specs.declared.Transfer.{Transfer}
use Rattle.usb_places.specs.declared.Kept.{Kept}
use Rattle.usb_places.specs.declared.TheConstants.{GUEST_TAGS}
use Rattle.usb_places.specs.States.{TagState, appended_tag, come_tag, command_kept_tag, emptied_tag, ended_tag, forgotten_tag, fresh_tag, held_in, holder_in, is_full_in}
use Rattle.usb_places.specs.States.{holding_tag, left_in, lost_command_in, lost_in, lost_tag, room_in, state_at, told_tag, used_up_tag}

-- nothing held, nothing kept
abbrev pub fresh_places : List TagState
fresh_places = replicate GUEST_TAGS fresh_tag

-- the index of a tag
abbrev pub place_of : ℕ → Option ℕ
place_of tag = if (tag == 0) || nat_lt GUEST_TAGS tag then None else Some (tag - 1)

-- what a tag has; one that isn't there has nothing
abbrev pub tag_under : List TagState → ℕ → TagState
tag_under tags zero = fresh_tag
tag_under tags (suc place) = slice_index_or tags place fresh_tag

abbrev pub with_tag_under : List TagState → ℕ → TagState → List TagState
with_tag_under tags zero now = tags
with_tag_under tags (suc place) now = slice_set tags place now

-- a tag has what this makes of what it had
abbrev pub changed : (TagState → TagState) → List TagState → ℕ → List TagState
changed change tags tag = with_tag_under tags tag (change (tag_under tags tag))

-- WHAT IS HELD

abbrev pub held_at : List TagState → Pipe → ℕ → Option Transfer
held_at tags pipe tag = held_in pipe (tag_under tags tag)

abbrev pub holding : List TagState → Pipe → ℕ → Transfer → List ℕ → List TagState
holding tags pipe tag transfer bytes = changed (holding_tag pipe transfer bytes) tags tag

abbrev pub ended : List TagState → Pipe → ℕ → answer.Status → ℕ → List ℕ → List TagState
ended tags pipe tag status moved unit = changed (ended_tag pipe status moved unit) tags tag

abbrev pub room_at : List TagState → ℕ → ℕ
room_at tags tag = room_in (tag_under tags tag)

abbrev pub is_full_at : List TagState → ℕ → Bool
is_full_at tags tag = is_full_in (tag_under tags tag)

abbrev pub appended : List TagState → ℕ → List ℕ → List TagState
appended tags tag bytes = changed (appended_tag bytes) tags tag

abbrev pub given_at : List TagState → ℕ → List ℕ
given_at tags tag = (tag_under tags tag).given

abbrev pub left_at : List TagState → ℕ → List ℕ
left_at tags tag = left_in (tag_under tags tag)

abbrev pub used_at : List TagState → ℕ → ℕ
used_at tags tag = (tag_under tags tag).used

abbrev pub used_up : List TagState → ℕ → ℕ → List TagState
used_up tags tag count = changed (used_up_tag count) tags tag

-- The first place that holds a transfer of this id, by tag, then status, data-in, data-out; tags are counted from 1.
abbrev pub further : Pipe × ℕ → Pipe × ℕ
further place = (place.0, suc place.1)

abbrev pub or_further : Option Pipe → Option (Pipe × ℕ) → Option (Pipe × ℕ)
or_further None rest = option_map further rest
or_further (Some pipe) rest = Some (pipe, 1)

abbrev pub holder : ℕ → List TagState → Option (Pipe × ℕ)
holder id [] = None
holder id (tag ∷ tags) = or_further (holder_in id tag) (holder id tags)

-- that place holds nothing now
abbrev pub emptied_at : List TagState → Option (Pipe × ℕ) → List TagState
emptied_at tags None = tags
emptied_at tags (Some place) = changed (emptied_tag place.0) tags place.1

abbrev pub cancelled_one : List TagState → ℕ → List TagState × Option (Pipe × ℕ)
cancelled_one tags id = (emptied_at tags (holder id tags), holder id tags)

-- WHAT IS KEPT

abbrev pub lost_at : List TagState → Pipe → ℕ → Transfer → Option Kept
lost_at tags pipe tag transfer = lost_in transfer (state_at pipe (tag_under tags tag))

abbrev pub lost_command_at : List TagState → ℕ → Transfer → List ℕ → Option Kept
lost_command_at tags tag transfer bytes = lost_command_in transfer bytes (tag_under tags tag)

abbrev pub unit_at : List TagState → ℕ → List ℕ
unit_at tags tag = (tag_under tags tag).unit

abbrev pub told_again : List TagState → Pipe → ℕ → List TagState
told_again tags pipe tag = changed (told_tag pipe) tags tag

abbrev pub came : List TagState → Pipe → ℕ → List TagState
came tags pipe tag = changed (come_tag pipe) tags tag

abbrev pub command_kept : List TagState → ℕ → Transfer → ℕ → List ℕ → List TagState
command_kept tags tag transfer moved bytes = changed (command_kept_tag transfer moved bytes) tags tag

abbrev pub tag_forgotten : List TagState → ℕ → List TagState
tag_forgotten tags tag = changed forgotten_tag tags tag

abbrev pub all_forgotten : List TagState → List TagState
all_forgotten tags = map forgotten_tag tags

abbrev pub all_lost : List TagState → ℕ → List TagState
all_lost tags id = map (lost_tag id) tags
