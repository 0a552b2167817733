-- What a line of a trace tells, as far as a capture goes by it.
use Rattle.std.specs.Prelude.{ℕ, ◌-◌, ◌^◌, ◌==◌, Bool, true, false, not, ◌||◌, if◌then◌else◌, List, slice_get, slice_index, codes, Option, Some, None, option_map, option_and_then, Result, Ok, Err}
use Rattle.std.specs.Str.{bytes_eq}
use Rattle.std.specs.Int.{w64, from_be_bytes}
use Rattle.hex.specs.Hex.{decode_sized}
use Rattle.hex.specs.declared.error.FromHexError.{FromHexError}
use Rattle.byte_io.specs.Words.{number_in, words}
use Rattle.uas_profile.specs.declared.Pipe.{Pipe}
use Rattle.uas_profile.specs.declared.Pipe.TheVariants as pipe
use Rattle.frame_store.specs.declared.Buffer as buffer_type
use Rattle.frame_store.specs.declared.Buffer.TheVariants as buffer
use Rattle.frame_store.specs.declared.Place.{Place}
use Rattle.frame_store.specs.Places.{place_at}
use Rattle.stream_array.specs.Map.{pipe_numbered, spot_at}
use Rattle.xhci_trb.specs.declared.Trb.{Trb}
use Rattle.xhci_trb.specs.declared.Trb.TheVariants.{Normal, TransferEvent}
use Rattle.xhci_trb.specs.declared.TrbFault.{TrbFault}
use Rattle.xhci_trb.specs.Words.{words_in}
use Rattle.xhci_trb.specs.Text.{fault_in, has_chain}
use Rattle.xhci_trb.specs.Reader.{trb_in}
use Rattle.capture_run.specs.declared.urbs.News.{News}
use Rattle.capture_run.specs.declared.urbs.News.TheVariants.{Step, Put, Moved, Posted, Passed}
use Rattle.capture_run.specs.declared.urbs.Owner.{Owner}

-- WORDS, by their places from 0

unfoldable pub number_at : List (List ℕ) → ℕ → ℕ → ℕ → Option ℕ
number_at words place least most = option_and_then (number_in least most) (slice_get words place)

-- so many bytes in hexadecimal digits
abbrev pub when_ok : Result (List ℕ) FromHexError → Option (List ℕ)
when_ok (Ok bytes) = Some bytes
when_ok (Err fault) = None

unfoldable pub bytes_in : ℕ → List ℕ → Option (List ℕ)
bytes_in count word = when_ok (decode_sized word count)

-- the address behind the first word
unfoldable pub address_at : List (List ℕ) → Option ℕ
address_at words = option_map (from_be_bytes w64) (option_and_then (bytes_in 8) (slice_get words 1))

abbrev pub trb_unless : List ℕ → Option TrbFault → Option Trb
trb_unless bytes None = Some (trb_in (words_in bytes))
trb_unless bytes (Some fault) = None

-- the TRB that bytes hold
unfoldable pub trb_of : List ℕ → Option Trb
trb_of bytes = trb_unless bytes (fault_in (words_in bytes))

-- the TRB behind the address
unfoldable pub trb_at : List (List ℕ) → Option Trb
trb_at words = option_and_then trb_of (option_and_then (bytes_in 16) (slice_get words 2))

-- STEPS: `submit C TAG TICKET ..`, `task C TICKET ..`, and those that no client hands in

unfoldable pub owner_at : List (List ℕ) → ℕ → ℕ → Option Owner
owner_at words client ticket =
    option_and_then (λ of_client. option_map (λ of_ticket. record { client = of_client; ticket = of_ticket })
    (number_at words ticket 0 (2 ^ 64 - 1))) (number_at words client 0 (2 ^ 64 - 1))

unfoldable pub is_step : List ℕ → Bool
is_step word =
    bytes_eq word (codes "command") || (bytes_eq word (codes "engine") || (bytes_eq word (codes "event") || (bytes_eq word (codes "data")
    || (bytes_eq word (codes "status") || (bytes_eq word (codes "retire") || bytes_eq word (codes "take"))))))

unfoldable pub step_news : List ℕ → List (List ℕ) → Option News
step_news first words =
    if bytes_eq first (codes "submit") then Some (Step (owner_at words 1 3))
    else (if bytes_eq first (codes "task") then Some (Step (owner_at words 1 2))
    else (if is_step first then Some (Step None) else None))

-- WHAT WAS WRITTEN

-- a Normal TRB on a pipe's ring
abbrev pub put_of : ℕ → Pipe → ℕ → Trb → Option News
put_of address pipe stream (Normal pointer length td_size flags) =
    Some (Put pipe stream address length (not (has_chain (Normal pointer length td_size flags))))
put_of address pipe stream _ = None

unfoldable pub put_news : List (List ℕ) → Option News
put_news words =
    option_and_then (λ address. option_and_then (λ spot. option_and_then (put_of address spot.0 spot.1) (trb_at words))
    (spot_at address)) (address_at words)

-- a chunk to or from a tag's data window
abbrev pub chunk_of : Pipe → ℕ → ℕ → buffer_type.Buffer → Option News
chunk_of pipe stream length buffer.Window = Some (Moved pipe stream length)
chunk_of pipe stream length _ = None

unfoldable pub chunk_news : Pipe → List (List ℕ) → Option News
chunk_news pipe words =
    option_and_then (λ address. option_and_then (λ place. option_and_then (λ length. chunk_of pipe place.tag length place.buffer)
    (number_at words 2 0 (2 ^ 32 - 1))) (place_at address)) (address_at words)

-- a Transfer Event
abbrev pub event_of : Trb → Option News
event_of (TransferEvent pointer residual code endpoint slot) = Some (Posted pointer residual code)
event_of _ = None

unfoldable pub event_news : List (List ℕ) → Option News
event_news words = option_and_then event_of (trb_at words)

-- `context PIPE STREAM BYTES`, of a pipe with streams
unfoldable pub context_news : List (List ℕ) → Option News
context_news words =
    option_and_then (λ pipe. option_map (λ stream. Passed pipe stream) (number_at words 2 0 65535))
    (option_and_then pipe_numbered (number_at words 1 2 4))

unfoldable pub written_news : List ℕ → List (List ℕ) → Option News
written_news first words =
    if bytes_eq first (codes "put") then put_news words
    else (if bytes_eq first (codes "in") then chunk_news pipe.DataIn words
    else (if bytes_eq first (codes "out") then chunk_news pipe.DataOut words
    else (if bytes_eq first (codes "event") then event_news words
    else (if bytes_eq first (codes "context") then context_news words else None))))

-- LINES

-- words of a line that is indented or not
abbrev pub news_from : Bool → List (List ℕ) → Option (List ℕ) → Option News
news_from is_written words None = None
news_from is_written words (Some first) = if is_written then written_news first words else step_news first words

unfoldable pub news_of_words : Bool → List (List ℕ) → Option News
news_of_words is_written words = news_from is_written words (slice_get words 0)

-- What a line tells: one that begins with a space, what was written; else a step. Nothing where it is another line.
unfoldable pub news_in : List ℕ → Option News
news_in line = news_of_words (slice_index line 0 == 32) (words line)
