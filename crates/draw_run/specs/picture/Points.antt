-- Where a line stands: its row, whose step it is, and the pipe that is held there.
use Rattle.std.specs.Prelude.{ℕ, ◌+◌, ◌-◌, ◌^◌, ◌==◌, min, if◌then◌else◌, Option, Some, None}
use Rattle.draw_run.specs.declared.picture.Held.{Held}
use Rattle.draw_run.specs.declared.picture.Mark.{Mark}
use Rattle.draw_run.specs.declared.picture.Mark.TheVariants.{Blank, Handed, Taken, OfClient, Hold, Heard, Step, Event, Release, Told}
use Rattle.draw_run.specs.declared.picture.Point.{Point}

-- before the first line
abbrev pub start : Point
start = record { row = 0; client = None; posted = 0; heard = 0; held = None }

-- a row more, of a step of this client; the last number that a row has is that of all behind it
unfoldable pub with_client : Point → Option ℕ → Point
with_client point client = record point { row = min (point.row + 1) (2 ^ 32 - 1); client = client }

-- a pipe is held from this row on
unfoldable pub held_by : Point → ℕ → Point
held_by point pipe = record point { held = Some (record { pipe = pipe; since = point.row; until = None }) }

unfoldable pub event_posted : Point → Point
event_posted point = record point { posted = min (point.posted + 1) (2 ^ 64 - 1) }

-- the next event that is posted releases the pipe that is held
abbrev pub until_event : ℕ → Option Held → Option Held
until_event number None = None
until_event number (Some held) = Some (record held { until = Some number })

unfoldable pub released_by : Point → Point
released_by point = record point { held = until_event point.posted point.held }

-- the pipe that is held still, once the event of a number is heard
abbrev pub held_unless : ℕ → Held → Option ℕ → Option Held
held_unless number held None = Some held
held_unless number held (Some event) = if event == number then None else Some held

abbrev pub still_held : Option Held → ℕ → Option Held
still_held None number = None
still_held (Some held) number = held_unless number held held.until

unfoldable pub released : Option Held → ℕ → Option Held
released held number = still_held held number

-- the host hears events in the order in which they were posted
unfoldable pub event_heard : Point → Point
event_heard point = record point { heard = min (point.heard + 1) (2 ^ 64 - 1); held = released point.held point.heard }

-- Where the next line stands: a line without words has no row, and what a step wrote is of the step's client.
unfoldable pub after : Point → Mark → Point
after point Blank = point
after point (Handed client) = with_client point (Some client)
after point (Taken client) = with_client point (Some client)
after point (Told client) = with_client point (Some client)
after point (OfClient client) = with_client point (Some client)
after point (Hold pipe client) = with_client (held_by point pipe) (Some client)
after point Heard = with_client (event_heard point) None
after point Step = with_client point None
after point Event = with_client (event_posted point) point.client
after point Release = with_client (released_by point) point.client
after point _ = with_client point point.client
