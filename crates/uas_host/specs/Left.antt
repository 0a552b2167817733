-- Which clients may have a TD that is left over, as a mark of each.
use Rattle.std.specs.Prelude.{◌≡◌, ℕ, ◌<◌, ◌==◌, Bool, true, false, ◌||◌, List, length, Option, slice_index_or}
use Rattle.std.specs.List.{list_any}
use Rattle.std.specs.Option.{option_map_or}
use Rattle.uas_profile.specs.declared.Pipe.{Pipe}
use Rattle.marks.specs.Marks.{is_marked}
use Rattle.scsi_cmd.specs.Held.{held_at}
use Rattle.uas_host.specs.declared.HostEntry.{HostEntry}
use Rattle.uas_host.specs.declared.HostClient.{HostClient}
use Rattle.uas_host.specs.Notices.{Notice, CommandSeen, DataInSeen, DataOutSeen, Answered, Responded, TdRetired}
use Rattle.uas_profile.specs.TdStates.{is_left_over}
use Rattle.uas_host.specs.State.{new_client}
use Rattle.uas_host.specs.Seen.{is_td_left_over}

-- WHAT IS LEFT OVER

-- the status TD or the data TD is left over
abbrev pub has_left_over : HostEntry → Bool
has_left_over held = is_left_over held.status_td || option_map_or is_left_over held.data_td false

-- of what is held a TD is left over
abbrev pub holds_left_over : Option HostEntry → Bool
holds_left_over held = option_map_or has_left_over held false

-- of what is held the TD on a pipe is left over
abbrev pub is_held_left_over : Pipe → Option HostEntry → Bool
is_held_left_over pipe held = option_map_or (is_td_left_over pipe) held false

-- one of the entries has a TD that is left over
abbrev pub have_left_over : List (Option HostEntry) → Bool
have_left_over entries = list_any holds_left_over entries

-- what can change which TDs are left over: CHECK CONDITION, 02h, and the response COMPLETE, 00h, leave TDs over, and a
-- retirement takes one away
abbrev pub moves_left_over : Notice → Bool
moves_left_over CommandSeen = false
moves_left_over DataInSeen = false
moves_left_over DataOutSeen = false
moves_left_over (Answered status sense) = status == 2
moves_left_over (Responded code) = code == 0
moves_left_over (TdRetired pipe) = true

-- MARKED CLIENTS

-- no number is marked that is no client's, and each client with a TD that is left over is
pub record AreMarked (words : List ℕ) (clients : List HostClient) : Type 0 where
  pub there : (client : ℕ) → is_marked words client ≡ true → client < length clients
  pub left_over : (client slot : ℕ) → client < length clients →
      holds_left_over (held_at (slice_index_or clients client new_client).entries slot) ≡ true → is_marked words client ≡ true
