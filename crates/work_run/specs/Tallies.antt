-- What the replies of clients that worked come to, and how it is printed.
use Rattle.std.specs.Prelude.{ℕ, zero, suc, ◌+◌, ◌*◌, ◌/◌, ◌%◌, ◌==◌, ◌&&◌, Bool, false, List, [], ◌∷◌, ◌++◌, length, slice_index_or, count_by, codes}
use Rattle.std.specs.List.{flat_map, list_all}
use Rattle.std.specs.Fmt.{decimal}
use Rattle.scsi_cmd.specs.declared.Reply.{Reply}
use Rattle.scsi_cmd.specs.declared.Reply.TheVariants.{Status, Aborted, Task}
use Rattle.scsi_cmd.specs.declared.TheConstants.{GOOD}
use Rattle.work_run.specs.declared.Tally.{Tally}

-- A client's WRITE of round r has the ticket 2 r, its READ the ticket 2 r + 1.

abbrev pub is_write : ℕ → Bool
is_write ticket = ticket % 2 == 0

abbrev pub is_read : ℕ → Bool
is_read ticket = ticket % 2 == 1

abbrev pub round_of : ℕ → ℕ
round_of ticket = ticket / 2

-- the byte that a client writes in a round
abbrev pub round_byte : ℕ → ℕ → ℕ
round_byte client round = (16 * client + round) % 256

-- the bytes are those of 8 blocks, each of them this one
abbrev pub brings : List ℕ → ℕ → Bool
brings bytes wanted = (length bytes == 4096) && list_all (λ byte. byte == wanted) bytes

unfoldable pub is_good_write : Reply → Bool
is_good_write (Status tag ticket status sense buffer) = (status == GOOD) && is_write ticket
is_good_write (Aborted tag ticket buffer) = false
is_good_write (Task tag ticket code) = false

unfoldable pub is_good_read : Reply → Bool
is_good_read (Status tag ticket status sense buffer) = (status == GOOD) && is_read ticket
is_good_read (Aborted tag ticket buffer) = false
is_good_read (Task tag ticket code) = false

-- a READ that ended GOOD and brought what this client wrote in its round
unfoldable pub is_equal_read : ℕ → Reply → Bool
is_equal_read client (Status tag ticket status sense buffer) =
    (status == GOOD) && (is_read ticket && brings buffer (round_byte client (round_of ticket)))
is_equal_read client (Aborted tag ticket buffer) = false
is_equal_read client (Task tag ticket code) = false

-- what a client's replies come to
unfoldable pub tally_of : ℕ → List Reply → Tally
tally_of client replies = record {
  client = client;
  writes = count_by is_good_write replies;
  reads = count_by is_good_read replies;
  equal = count_by (is_equal_read client) replies;
}

-- those of the clients below this number
abbrev pub tallies_below : ℕ → List (List Reply) → List Tally
tallies_below zero replies = []
tallies_below (suc client) replies = tallies_below client replies ++ tally_of client (slice_index_or replies client []) ∷ []

-- and those of all clients
abbrev pub tallies_of : List (List Reply) → List Tally
tallies_of replies = tallies_below (length replies) replies

-- `client C writes W reads R equal E`
unfoldable pub work_line : Tally → List ℕ
work_line tally =
    (codes "client " ++ decimal tally.client ++ codes " writes " ++ decimal tally.writes)
    ++ (codes " reads " ++ decimal tally.reads ++ codes " equal " ++ decimal tally.equal ++ codes "\n")

abbrev pub work_text : List Tally → List ℕ
work_text tallies = flat_map work_line tallies

-- a client wrote, read and found equal each of its rounds
abbrev pub is_whole : ℕ → Tally → Bool
is_whole rounds tally = (tally.writes == rounds) && ((tally.reads == rounds) && (tally.equal == rounds))

abbrev pub all_whole : ℕ → List Tally → Bool
all_whole rounds tallies = list_all (is_whole rounds) tallies
