-- Of what kind a line of a trace is.
use Rattle.std.specs.Prelude.{ℕ, ◌-◌, ◌==◌, Bool, true, false, ◌||◌, if◌then◌else◌, List, slice_get, slice_index, take, codes, Option, Some, None, option_and_then, option_map}
use Rattle.std.specs.Str.{bytes_eq}
use Rattle.byte_io.specs.Words.{number_in, words}
use Rattle.uas_profile.specs.declared.TheConstants.{MAX_CLIENTS, STREAMS}
use Rattle.uas_profile.specs.Tags.{client_of}
use Rattle.draw_run.specs.declared.picture.Mark.{Mark}
use Rattle.draw_run.specs.declared.picture.Mark.TheVariants.{Blank, Handed, Taken, OfClient, Hold, Heard, Step, Put, Doorbell, Unit as UnitMark, Chunk, Event, Release, Told, Other}

-- WORDS, by their places from 0

unfoldable pub number_at : List (List ℕ) → ℕ → ℕ → ℕ → Option ℕ
number_at words place least most = option_and_then (number_in least most) (slice_get words place)

unfoldable pub client_at : List (List ℕ) → ℕ → Option ℕ
client_at words place = number_at words place 0 (MAX_CLIENTS - 1)

-- The client of the tag at a place, where each client has so many tags. Worked: tag 34 is client 2's of 16 tags, and client 4's of 8.
unfoldable pub owner_at : ℕ → List (List ℕ) → ℕ → Option ℕ
owner_at tags words place = option_map (client_of tags) (number_at words place 1 STREAMS)

-- a mark of a number, where there is one
abbrev pub mark_by : (ℕ → Mark) → Option ℕ → Mark
mark_by mark None = Other
mark_by mark (Some number) = mark number

-- WHAT WAS WRITTEN

-- a Command unit (01h) and a Task Management unit (05h) are the host's, the others the device's
unfoldable pub is_hosts_unit : List ℕ → Bool
is_hosts_unit bytes = bytes_eq (take 2 bytes) (codes "01") || bytes_eq (take 2 bytes) (codes "05")

abbrev pub unit_of : Option (List ℕ) → Mark
unit_of None = Other
unit_of (Some bytes) = UnitMark (is_hosts_unit bytes)

unfoldable pub unit_mark : List (List ℕ) → Mark
unit_mark words = unit_of (slice_get words 2)

unfoldable pub written_mark : List ℕ → List (List ℕ) → Mark
written_mark first words =
    if bytes_eq first (codes "put") || bytes_eq first (codes "link") then Put
    else (if bytes_eq first (codes "bell") then Doorbell
    else (if bytes_eq first (codes "unit") then unit_mark words
    else (if bytes_eq first (codes "in") then Chunk true
    else (if bytes_eq first (codes "out") then Chunk false
    else (if bytes_eq first (codes "event") then Event
    else (if bytes_eq first (codes "context") then Release else Other))))))

-- STEPS, AND WHAT CLIENTS ARE TOLD

-- `submit C ..`, `task C ..`
unfoldable pub handed_mark : List (List ℕ) → Mark
handed_mark words = mark_by Handed (client_at words 1)

-- `take C`
unfoldable pub taken_mark : List (List ℕ) → Mark
taken_mark words = mark_by Taken (client_at words 1)

-- `C ..`
unfoldable pub told_mark : List (List ℕ) → Mark
told_mark words = mark_by Told (client_at words 0)

-- `data TAG`, `status TAG`
unfoldable pub tag_mark : ℕ → List (List ℕ) → Mark
tag_mark tags words = mark_by OfClient (owner_at tags words 1)

-- `retire PIPE TAG`, of a pipe with streams
abbrev pub hold_of : Option ℕ → Option ℕ → Mark
hold_of (Some pipe) (Some client) = Hold pipe client
hold_of _ _ = Other

unfoldable pub hold_mark : ℕ → List (List ℕ) → Mark
hold_mark tags words = hold_of (number_at words 1 2 4) (owner_at tags words 2)

unfoldable pub step_mark : ℕ → List ℕ → List (List ℕ) → Mark
step_mark tags first words =
    if bytes_eq first (codes "submit") || bytes_eq first (codes "task") then handed_mark words
    else (if bytes_eq first (codes "take") then taken_mark words
    else (if bytes_eq first (codes "data") || bytes_eq first (codes "status") then tag_mark tags words
    else (if bytes_eq first (codes "retire") then hold_mark tags words
    else (if bytes_eq first (codes "event") then Heard
    else (if bytes_eq first (codes "command") || bytes_eq first (codes "engine") then Step else told_mark words)))))

-- LINES

-- words of a line that is indented or not
abbrev pub mark_from : ℕ → Bool → List (List ℕ) → Option (List ℕ) → Mark
mark_from tags is_written words None = Blank
mark_from tags is_written words (Some first) = if is_written then written_mark first words else step_mark tags first words

unfoldable pub mark_of_words : ℕ → Bool → List (List ℕ) → Mark
mark_of_words tags is_written words = mark_from tags is_written words (slice_get words 0)

-- What a line is, where each client has so many tags: one that begins with a space tells what was written; else it is a step, or what
-- a client was told.
unfoldable pub mark_of : ℕ → List ℕ → Mark
mark_of tags line = mark_of_words tags (slice_index line 0 == 32) (words line)
