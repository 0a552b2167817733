-- The records of a trace: which each change has, with which bytes and which comment, line by line.
use Rattle.std.specs.Prelude.{ℕ, ◌-◌, min, Bool, if◌then◌else◌, List, [], ◌∷◌, ◌++◌, take, map, fold, slice_get, slice_set, slice_index_or, codes}
use Rattle.std.specs.Prelude.{Option, Some, None, option_and_then, Result, Ok, Err}
use Rattle.std.specs.Str.{bytes_eq}
use Rattle.std.specs.Fmt.{decimal}
use Rattle.std.specs.Int.{w64, to_be_bytes}
use Rattle.hex.specs.Hex.{decode_of, encode_lower}
use Rattle.hex.specs.declared.error.FromHexError.{FromHexError}
use Rattle.byte_io.specs.Words.{pieces, words}
use Rattle.uas_profile.specs.declared.Pipe.{Pipe}
use Rattle.uas_profile.specs.declared.Pipe.TheVariants as pipe
use Rattle.capture_run.specs.declared.format.TheConstants.{MOST_COMMENT, MOST_DATA}
use Rattle.capture_run.specs.declared.format.Event.TheVariants as event
use Rattle.capture_run.specs.declared.format.Record.{Record}
use Rattle.capture_run.specs.declared.format.Transfer.TheVariants.{Bulk}
use Rattle.capture_run.specs.format.Usbmon.{record_packet}
use Rattle.capture_run.specs.format.Descriptors.{start}
use Rattle.capture_run.specs.declared.urbs.Change.{Change}
use Rattle.capture_run.specs.declared.urbs.Change.TheVariants.{Submitted, Completed, Unlinked}
use Rattle.capture_run.specs.declared.urbs.News.{News}
use Rattle.capture_run.specs.declared.urbs.News.TheVariants as news
use Rattle.capture_run.specs.declared.urbs.Owner.{Owner}
use Rattle.capture_run.specs.declared.urbs.Td.{Td}
use Rattle.capture_run.specs.urbs.Lines.{news_in}
use Rattle.capture_run.specs.urbs.Tds.{Underway, moved_of, opening, taken}

-- THE BYTES OF COMMANDS, by client and ticket

-- the bytes of an owner's command, none where it isn't known
unfoldable pub bytes_of : List (List (List ℕ)) → Owner → List ℕ
bytes_of transfers owner = slice_index_or (slice_index_or transfers owner.client []) owner.ticket []

-- the bytes of a client's next ticket
abbrev pub pushed_to : List (List (List ℕ)) → ℕ → List ℕ → Option (List (List ℕ)) → List (List (List ℕ))
pushed_to transfers client bytes None = transfers
pushed_to transfers client bytes (Some of_client) = slice_set transfers client (of_client ++ bytes ∷ [])

unfoldable pub pushed : List (List (List ℕ)) → ℕ → List ℕ → List (List (List ℕ))
pushed transfers client bytes = pushed_to transfers client bytes (slice_get transfers client)

-- other bytes of a ticket
abbrev pub put_in : List (List (List ℕ)) → ℕ → ℕ → List ℕ → Option (List (List ℕ)) → List (List (List ℕ))
put_in transfers client ticket bytes None = transfers
put_in transfers client ticket bytes (Some of_client) = slice_set transfers client (slice_set of_client ticket bytes)

unfoldable pub with_bytes : List (List (List ℕ)) → ℕ → ℕ → List ℕ → List (List (List ℕ))
with_bytes transfers client ticket bytes = put_in transfers client ticket bytes (slice_get transfers client)

-- RECORDS

-- a submission is of the TD's length, its end of what it moved
unfoldable pub record_of : ℕ → Change → Record
record_of step (Submitted td) =
    record { event = event.Submitted; transfer = Bulk td.pipe; number = td.number; length = td.length; time = step }
record_of step (Completed td residual code) =
    record { event = event.Completed; transfer = Bulk td.pipe; number = td.number; length = moved_of td residual; time = step }
record_of step (Unlinked td) =
    record { event = event.Unlinked; transfer = Bulk td.pipe; number = td.number; length = td.moved; time = step }

-- the first bytes, so many at most
unfoldable pub at_most : ℕ → List ℕ → List ℕ
at_most count bytes = take (min count MOST_DATA) bytes

-- with a submission goes the unit or the bytes to be written
unfoldable pub bytes_out : Pipe → ℕ → List ℕ → List ℕ → List ℕ
bytes_out pipe.Command count unit bytes = at_most count unit
bytes_out pipe.Status count unit bytes = []
bytes_out pipe.DataIn count unit bytes = []
bytes_out pipe.DataOut count unit bytes = at_most count bytes

-- with an end go the unit or the bytes that came in
unfoldable pub bytes_in : Pipe → ℕ → List ℕ → List ℕ → List ℕ
bytes_in pipe.Command count unit bytes = []
bytes_in pipe.Status count unit bytes = at_most count unit
bytes_in pipe.DataIn count unit bytes = at_most count bytes
bytes_in pipe.DataOut count unit bytes = []

-- no unit came where a TD was taken off
unfoldable pub payload_of : List ℕ → List ℕ → Change → List ℕ
payload_of unit bytes (Submitted td) = bytes_out td.pipe td.length unit bytes
payload_of unit bytes (Completed td residual code) = bytes_in td.pipe (moved_of td residual) unit bytes
payload_of unit bytes (Unlinked td) = bytes_in td.pipe td.moved [] bytes

-- COMMENTS

abbrev pub td_in : Change → Td
td_in (Submitted td) = td
td_in (Completed td residual code) = td
td_in (Unlinked td) = td

-- its stream, the address of its first TRB, and whose it is
unfoldable pub td_words : Td → List ℕ
td_words td =
    codes " | stream " ++ decimal td.stream ++ codes " | TD at " ++ encode_lower (to_be_bytes w64 td.first)
    ++ codes " | client " ++ decimal td.owner.client ++ codes " ticket " ++ decimal td.owner.ticket

unfoldable pub code_words : ℕ → List ℕ
code_words code = codes " | event code " ++ decimal code

unfoldable pub residual_words : ℕ → List ℕ
residual_words residual = codes " residual " ++ decimal residual

unfoldable pub event_words : ℕ → ℕ → List ℕ
event_words residual code = code_words code ++ residual_words residual

unfoldable pub retired_words : ℕ → List ℕ
retired_words moved = codes " | TD retired after " ++ decimal moved ++ codes " bytes"

-- how it ended
unfoldable pub end_words : Change → List ℕ
end_words (Submitted td) = []
end_words (Completed td residual code) = event_words residual code
end_words (Unlinked td) = retired_words td.moved

-- the step's line, the TD, and how it ended
unfoldable pub comment_of : List ℕ → Change → List ℕ
comment_of line change = line ++ td_words (td_in change) ++ end_words change

-- LINES

-- the TDs under way, the line of the step, and the information unit that was written last
pub record Writing : Type 0 where
  pub desk : Underway
  pub line : List ℕ
  pub unit : List ℕ

abbrev pub first_writing : Writing
first_writing = record { desk = opening; line = []; unit = [] }

-- the bytes of `unit ADDRESS BYTES`
abbrev pub unit_or : List ℕ → Result (List ℕ) FromHexError → List ℕ
unit_or unit (Ok bytes) = bytes
unit_or unit (Err fault) = unit

abbrev pub read_unit : List ℕ → Option (List ℕ) → List ℕ
read_unit unit None = unit
read_unit unit (Some word) = unit_or unit (decode_of word)

abbrev pub unit_if : List ℕ → List (List ℕ) → Option (List ℕ) → List ℕ
unit_if unit words None = unit
unit_if unit words (Some first) = if bytes_eq first (codes "unit") then read_unit unit (slice_get words 2) else unit

-- the unit after a line
unfoldable pub unit_after : List ℕ → List (List ℕ) → List ℕ
unit_after unit words = unit_if unit words (slice_get words 0)

-- the line of the step after a line
unfoldable pub line_after : List ℕ → List ℕ → News → List ℕ
line_after before line (news.Step owner) = line
line_after before line _ = before

-- the packet of a change
unfoldable pub change_packet : List (List (List ℕ)) → Writing → Change → List ℕ
change_packet transfers writing change =
    record_packet (record_of writing.desk.step change)
    (payload_of writing.unit (bytes_of transfers (td_in change).owner) change)
    (take MOST_COMMENT (comment_of writing.line change))

abbrev pub packet_if : List (List (List ℕ)) → Writing → Option Change → List ℕ
packet_if transfers writing None = []
packet_if transfers writing (Some change) = change_packet transfers writing change

-- what news do, of a line
unfoldable pub with_news : List (List (List ℕ)) → Writing → List ℕ → Option News → Writing × List ℕ
with_news transfers writing line None = (writing, [])
with_news transfers writing line (Some told) =
    let after = taken writing.desk told in
    let told_by = record writing { desk = after.0; line = line_after writing.line line told } in
    (told_by, packet_if transfers told_by after.1)

-- what a line does, and the packet that it has, if any
unfoldable pub taken_line : List (List (List ℕ)) → Writing → List ℕ → Writing × List ℕ
taken_line transfers writing line =
    with_news transfers (record writing { unit = unit_after writing.unit (words line) }) line (news_in line)

abbrev pub with_line : List (List (List ℕ)) → Writing × List ℕ → List ℕ → Writing × List ℕ
with_line transfers before line =
    let after = taken_line transfers before.0 line in
    (after.0, before.1 ++ after.1)

-- what stands in a capture behind these bytes once lines were taken
unfoldable pub with_lines : List (List (List ℕ)) → List ℕ → List (List ℕ) → List ℕ
with_lines transfers bytes lines = (fold (with_line transfers) (first_writing, bytes) lines).1

-- The capture of a trace: what each begins with, and the packets of its lines.
unfoldable pub capture_of : List (List (List ℕ)) → List ℕ → List ℕ
capture_of transfers trace = with_lines transfers start (pieces trace)
