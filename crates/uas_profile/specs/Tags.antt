-- Tags, and the client and slot that a tag names, for a number of tags of each client. The stream of a tag is the tag. What depends
-- on the number are client_of, slot_of, tag_of, task_slot and most_clients; all else is said by them.
use Rattle.std.specs.Prelude.{◌≤◌, ℕ, zero, suc, ◌+◌, ◌*◌, ◌-◌, ◌/◌, ◌%◌, ◌==◌, nat_lt, ◌&&◌, if◌then◌else◌, Option, Some, None, option_and_then}
use Rattle.std.specs.Prelude.{min}
use Rattle.uas_profile.specs.declared.TheConstants.{LEAST_TAGS, MAX_CLIENTS, MOST_TAGS, STREAMS}
use Rattle.uas_profile.specs.declared.Place.{Place}

-- how many tags a client may have
pub record AreTags (tags : ℕ) : Type 0 where
  pub least : LEAST_TAGS ≤ tags
  pub most : tags ≤ MOST_TAGS

-- The most clients of so many tags: 31, and no more tags in all than there are streams. Worked: 15 of 16 tags, 31 of 8, 27 of 9, 31 of 2.
abbrev pub most_clients : ℕ → ℕ
most_clients tags = min MAX_CLIENTS (STREAMS / tags)

-- the client of a tag; 0 is no tag
abbrev pub client_of : ℕ → ℕ → ℕ
client_of tags zero = 0
client_of tags (suc before) = before / tags

-- the slot of a tag, among those of its client
abbrev pub slot_of : ℕ → ℕ → ℕ
slot_of tags zero = 0
slot_of tags (suc before) = before % tags

-- The tag of a place: client c has the tags tags c + 1 to tags c + tags. Worked: slot 1 of client 2 is tag 34 of 16 tags, and tag 18 of 8.
abbrev pub tag_of : ℕ → Place → ℕ
tag_of tags place = place.client * tags + place.slot + 1

-- the slot for task management, the last one; those below it are for commands
abbrev pub task_slot : ℕ → ℕ
task_slot tags = tags - 1

-- the place that a tag names for so many clients; 0 is no tag
abbrev pub place_of : ℕ → ℕ → ℕ → Option Place
place_of tags clients zero = None
place_of tags clients (suc before) =
    if nat_lt (client_of tags (suc before)) clients
    then Some (record { client = client_of tags (suc before); slot = slot_of tags (suc before) }) else None

-- the slot of a place that is this client's and for commands
abbrev pub own_slot : ℕ → ℕ → Place → Option ℕ
own_slot tags client place = if (place.client == client) && nat_lt place.slot (task_slot tags) then Some place.slot else None

-- The slot of a command tag of this client, of the clients that are there. Worked: of three clients of 16 tags, tag 34 is slot 1
-- of client 2, no slot of client 1, and tag 48, for task management, is no command's.
abbrev pub command_slot : ℕ → ℕ → ℕ → ℕ → Option ℕ
command_slot tags clients client tag = option_and_then (own_slot tags client) (place_of tags clients tag)
