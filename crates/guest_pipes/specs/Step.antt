-- What is done at a ring's end in a step: one definition for each function, over memory, event ring and consumer.
use Rattle.std.specs.Prelude.{ℕ, Bool, true, false, not, ◌&&◌, ◌||◌, List, length as list_length}
use Rattle.guest_memory.specs.Bytes.{Memory, is_there, written}
use Rattle.guest_memory.specs.declared.rings.cursor.Cursor.{Cursor}
use Rattle.guest_memory.specs.declared.rings.context.Home.{Home}
use Rattle.guest_memory.specs.declared.rings.context.Front.{Front}
use Rattle.guest_memory.specs.declared.rings.trb.Flags.{Flags}
use Rattle.guest_memory.specs.declared.rings.event.Event.{Event}
use Rattle.guest_memory.specs.declared.rings.event.Event.TheVariants.{Transfer}
use Rattle.guest_memory.specs.rings.Ends.{behind, followed, home_at, home_bytes, home_size}
use Rattle.guest_memory.specs.rings.Events.{EventEnd, enqueue_pointer, enqueued, event_bytes}
use Rattle.guest_pipes.specs.declared.progress.Ending.{Ending}
use Rattle.guest_pipes.specs.declared.progress.Ending.TheVariants.{Runs, Told, Owed}
use Rattle.guest_pipes.specs.declared.progress.Progress.{Progress}
use Rattle.guest_pipes.specs.declared.consumer.EndpointState.{EndpointState}
use Rattle.guest_pipes.specs.declared.consumer.EndpointState.TheVariants.{Halted, Error}
use Rattle.guest_pipes.specs.declared.consumer.Consumer.{Consumer}
use Rattle.guest_pipes.specs.Progress.{code_of, counted, owes, past, restarted, short_ending}

-- all that a step at a ring's end may change
pub record World : Type 0 where
  pub memory : Memory
  pub events : EventEnd
  pub consumer : Consumer

-- the next event's place is there
abbrev pub has_place : Memory → EventEnd → Bool
has_place memory events = is_there memory (enqueue_pointer events) 16

-- what is kept of a consumer's end is there
abbrev pub has_home : Memory → Home → Bool
has_home memory home = is_there memory (home_at home) (home_size home)

-- an event of the consumer's endpoint
abbrev pub about : Consumer → ℕ → ℕ → ℕ → Event
about consumer pointer residual code = Transfer pointer residual code consumer.endpoint false

unfoldable pub posted : World → Event → Bool → World
posted w event quiet = record w {
  memory = written w.memory (enqueue_pointer w.events) (event_bytes event w.events.cycle);
  events = enqueued w.events quiet;
}

abbrev pub posted_if : Bool → World → Event → Bool → World
posted_if true w event quiet = posted w event quiet
posted_if false w event quiet = w

abbrev pub with_progress : World → Progress → World
with_progress w progress = record w { consumer = record w.consumer { progress = progress } }

abbrev pub in_state : World → EndpointState → World
in_state w state = record w { consumer = record w.consumer { state = state } }

-- the doorbell is used up
abbrev pub used_up : World → World
used_up w = record w { consumer = record w.consumer { rung = false } }

-- the consumer's end is written where it is kept
unfoldable pub stood : World → Home → Cursor → World
stood w home cursor = record w { memory = written w.memory (home_at home) (home_bytes home 1 cursor) }

-- the consumer goes behind the TRB in front
unfoldable pub consumed : World → Front → Bool → World
consumed w front chain = stood (with_progress w (past w.consumer.progress chain)) front.home (behind front.cursor)

-- a TRB that is full, or a No Op
unfoldable pub filled : World → Front → Flags → World
filled w front flags = consumed (posted_if flags.ioc w (about w.consumer front.cursor.place 0 1) flags.bei) front flags.chain

abbrev pub filled_if : Bool → World → Front → Flags → World
filled_if true w front flags = filled w front flags
filled_if false w front flags = w

-- a Link is followed
unfoldable pub linked : World → Front → ℕ → Bool → Flags → World
linked w front pointer toggle flags =
    stood (posted_if flags.ioc w (about w.consumer front.cursor.place 0 1) flags.bei) front.home (followed front.cursor pointer toggle)

-- a No Op: one in a TD that is skipped posts nothing
abbrev pub passed : Ending → World → Front → Flags → World
passed Runs w front flags = filled w front flags
passed (Told code) w front flags = consumed w front flags.chain
passed Owed w front flags = consumed w front flags.chain

-- EDTLA starts again behind an Event Data TRB
abbrev pub data_restarted : World → Bool → World
data_restarted w posts = with_progress w (restarted w.consumer.progress posts)

-- an Event Data TRB: its event has its parameter for a pointer, EDTLA for a length, and the code that the TD ended with
unfoldable pub data_told : World → Front → ℕ → Flags → World
data_told w front parameter flags =
    let told = Transfer parameter w.consumer.progress.edtla (code_of w.consumer.progress.ending) w.consumer.endpoint true in
    consumed (data_restarted (posted_if flags.ioc w told flags.bei) flags.ioc) front flags.chain

-- a Normal TRB of a TD whose rest is skipped: the last one tells where that is owed
unfoldable pub skipped : World → Front → ℕ → Flags → World
skipped w front length flags =
    let tells = owes w.consumer.progress.ending && (not flags.chain && flags.ioc) in
    consumed (posted_if tells w (about w.consumer front.cursor.place length 13) flags.bei) front flags.chain

abbrev pub ended_as : World → Ending → World
ended_as w ending = with_progress w (record w.consumer.progress { ending = ending })

-- the TRB at which the TD ends as a short packet, with so much of it left
unfoldable pub shortened : World → Front → ℕ → Flags → World
shortened w front left flags =
    let tells = flags.isp || flags.ioc in
    consumed (ended_as (posted_if tells w (about w.consumer front.cursor.place left 13) flags.bei) (short_ending tells)) front flags.chain

-- a TRB whose buffer isn't there
unfoldable pub failed : World → Front → ℕ → Flags → World
failed w front length flags = consumed (ended_as (posted w (about w.consumer front.cursor.place length 2) flags.bei) (Told 2)) front flags.chain

-- the TD is shorter than what is to go into it: Babble Detected
unfoldable pub babbled : World → Front → Flags → World
babbled w front flags = in_state (consumed (posted w (about w.consumer front.cursor.place 0 3) flags.bei) front flags.chain) Halted

-- bytes that are no TRB of a pipe: TRB Error, and the consumer stays
abbrev pub erred : World → Front → World
erred w front = in_state (posted w (about w.consumer front.cursor.place 0 5) false) Error

-- no ring: the stream's context has another type, or there is no such stream
abbrev pub refused : World → ℕ → World
refused w code = in_state (posted w (about w.consumer 0 0 code) false) Halted

-- bytes go to an address
unfoldable pub poured : World → ℕ → List ℕ → World
poured w to bytes = record (with_progress w (counted w.consumer.progress (list_length bytes))) { memory = written w.memory to bytes }
