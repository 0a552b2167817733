-- The tags and tickets of one client, as functions of what it has out.
use Rattle.std.specs.Prelude.{if◌then◌else◌, ℕ, ◌+◌, ◌-◌, ◌*◌, ◌^◌, ◌≡◌, ◌<◌, ◌==◌, ◌&&◌, Bool, true, false, not, nat_lt, List, map}
use Rattle.std.specs.Prelude.{replicate, count_by, Option, Some, None, Result, Ok, Err, slice_index_or, position, slice_set}
use Rattle.std.specs.Int.{bit_at}
use Rattle.std.specs.List.{range_with_len}
use Rattle.tag_range.specs.declared.Refused.{Refused}
use Rattle.tag_range.specs.declared.Refused.TheVariants.{NoTag, TaskBusy, Worn}

-- What one client has out. Entry k of `out` says whether the command tag of index k + 1 is out, so a client with `per` tags has
-- per - 1 entries; `task_out` says it of the task management tag, and `next` is the ticket that is given out next.
pub record ClientTags : Type 0 where
  pub client : ℕ
  pub next : ℕ
  pub out : List Bool
  pub task_out : Bool

-- The client's tag of an index from 1 to per: client c has the tags per * c + 1 to per * c + per.
-- By hand: with 16 tags, index 1 of client 1 is tag 17 and index 15 of client 14 is tag 239; with 8, index 1 of client 1 is 9.
abbrev pub tag_at : ℕ → ℕ → ℕ → ℕ
tag_at per client index = per * client + index

-- The last tag is the one for task management. By hand: with 16 tags, client 2 has tag 48.
abbrev pub task_tag : ℕ → ℕ → ℕ
task_tag per client = tag_at per client per

-- The entry of a command tag: the tag of index k + 1 has entry k. By hand: with 16 tags, tag 34 of client 2 has entry 1.
abbrev pub entry_of : ℕ → ClientTags → ℕ → ℕ
entry_of per tags tag = tag - per * tags.client - 1

-- A client begins with no tag out and with ticket 0.
abbrev pub opening : ℕ → ℕ → ClientTags
opening per client = record { client = client; next = 0; out = replicate (per - 1) false; task_out = false }

-- How many command tags are out.
abbrev pub commands_out : ClientTags → ℕ
commands_out tags = count_by (λ is_out. is_out) tags.out

-- How many tags are out, of commands and of task management together.
abbrev pub outstanding : ClientTags → ℕ
outstanding tags = commands_out tags + (if tags.task_out then 1 else 0)

-- Whether a tag of the client is out; a tag of another client never is. By hand: for client 1 of 16 tags, tags 16 and 33 are
-- not, whatever is out.
abbrev pub is_issued : ℕ → ClientTags → ℕ → Bool
is_issued per tags tag =
    if tag == task_tag per tags.client then tags.task_out else
    nat_lt (per * tags.client) tag && slice_index_or tags.out (entry_of per tags tag) false

-- Tickets are the whole numbers below 2 ^ 60.
abbrev pub tickets : ℕ
tickets = 2 ^ 60

-- Whether the last ticket, 2 ^ 60 - 1, was given out.
abbrev pub is_worn : ClientTags → Bool
is_worn tags = tags.next == tickets

-- A command takes the tag of the least entry that isn't out, and the next ticket.
abbrev pub issue_entry : ℕ → ClientTags → Option ℕ → ClientTags × Result (ℕ × ℕ) Refused
issue_entry per tags None = (tags, Err NoTag)
issue_entry per tags (Some entry) =
    if is_worn tags then (tags, Err Worn) else
    (record tags { next = tags.next + 1; out = slice_set tags.out entry true }, Ok (tag_at per tags.client (entry + 1), tags.next))

-- By hand: with 16 tags, on a new range of client 1 the first call gives tag 17 with ticket 0 and the second tag 18 with ticket 1;
-- the sixteenth is NoTag.
abbrev pub issue : ℕ → ClientTags → ClientTags × Result (ℕ × ℕ) Refused
issue per tags = issue_entry per tags (position not tags.out)

-- A task management takes its one tag, and the next ticket.
abbrev pub issue_task : ℕ → ClientTags → ClientTags × Result (ℕ × ℕ) Refused
issue_task per tags =
    if tags.task_out then (tags, Err TaskBusy) else
    if is_worn tags then (tags, Err Worn) else
    (record tags { next = tags.next + 1; task_out = true }, Ok (task_tag per tags.client, tags.next))

-- A tag that is freed is no longer out. No ticket comes back. By hand: with 16 tags, client 2 issues 33 and 34 and frees 33;
-- then 34 is out, and the next command has tag 33 with ticket 2.
abbrev pub free : ℕ → ClientTags → ℕ → ClientTags
free per tags tag =
    if tag == task_tag per tags.client then record tags { task_out = false } else
    record tags { out = slice_set tags.out (entry_of per tags tag) false }

-- A client's tags, with how many it has. Each of the calls above is also one of these.
pub record CountedTags : Type 0 where
  pub tags : ℕ
  pub held : ClientTags

-- what a call left and answered, of as many tags
abbrev pub counted : ℕ → ClientTags × Result (ℕ × ℕ) Refused → CountedTags × Result (ℕ × ℕ) Refused
counted tags after = (record { tags = tags; held = after.0 }, after.1)

-- By hand: client 1 of 8 tags begins with none of its tags 9 to 16 out.
abbrev pub opening_counted : ℕ → ℕ → CountedTags
opening_counted tags client = record { tags = tags; held = opening tags client }

-- By hand: client 1 of 8 tags is given tag 9 first, and the eighth call is NoTag.
abbrev pub issue_counted : CountedTags → CountedTags × Result (ℕ × ℕ) Refused
issue_counted range = counted range.tags (issue range.tags range.held)

-- By hand: client 1 of 8 tags has tag 16 for task management.
abbrev pub issue_task_counted : CountedTags → CountedTags × Result (ℕ × ℕ) Refused
issue_task_counted range = counted range.tags (issue_task range.tags range.held)

abbrev pub free_counted : CountedTags → ℕ → CountedTags
free_counted range tag = record { tags = range.tags; held = free range.tags range.held tag }

abbrev pub is_issued_counted : CountedTags → ℕ → Bool
is_issued_counted range tag = is_issued range.tags range.held tag

-- A tag is the client's least free command tag: it is one of its command tags, it isn't out, and each one below it is.
pub record IsLeastFree (per : ℕ) (tags : ClientTags) (tag : ℕ) : Type 0 where
  pub above : per * tags.client < tag
  pub below : tag < task_tag per tags.client
  pub free : is_issued per tags tag ≡ false
  pub least : (other : ℕ) → per * tags.client < other → other < tag → is_issued per tags other ≡ true

-- The n lowest bits of a mask, each as whether it is 1, bit 0 first. By hand: of mask 6 the 3 lowest are false, true, true.
unfoldable pub flags : ℕ → ℕ → List Bool
flags n mask = map (λ k. bit_at mask k == 1) (range_with_len 0 n)
