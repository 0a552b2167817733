-- How a line is drawn: an arrow between lanes or a dot on one, with the line's words.
use Rattle.std.specs.Prelude.{ℕ, ◌+◌, ◌-◌, ◌*◌, min, Bool, true, false, if◌then◌else◌, List, [], ◌++◌, codes, Option, Some, None}
use Rattle.std.specs.Fmt.{decimal}
use Rattle.draw_run.specs.declared.picture.Held.{Held}
use Rattle.draw_run.specs.declared.picture.Lane.{Lane}
use Rattle.draw_run.specs.declared.picture.Lane.TheVariants.{Client, Host, Rings, Controller, Device}
use Rattle.draw_run.specs.declared.picture.Mark.{Mark}
use Rattle.draw_run.specs.declared.picture.Mark.TheVariants as mark
use Rattle.draw_run.specs.declared.picture.Point.{Point}
use Rattle.draw_run.specs.declared.picture.Shape.{Shape}
use Rattle.draw_run.specs.declared.picture.Shape.TheVariants.{Arrow, Dot, Nothing}
use Rattle.draw_run.specs.picture.Elements.{arrow, bar_at, dot, rule_at, words_at}
use Rattle.draw_run.specs.picture.Marks.{mark_of}
use Rattle.draw_run.specs.picture.Points.{after}

-- PLACES, in pixels from the left and from the top

unfoldable pub row_y : ℕ → ℕ
row_y row = 80 + 20 * row

-- where a lane is, in a picture of so many clients
unfoldable pub lane_x : ℕ → Lane → ℕ
lane_x clients (Client client) = 40 + 74 * client
lane_x clients Host = 56 + 74 * clients
lane_x clients Rings = 56 + 74 * clients + 350
lane_x clients Controller = 56 + 74 * clients + 480
lane_x clients Device = 56 + 74 * clients + 610

unfoldable pub width_of : ℕ → ℕ
width_of clients = lane_x clients Device + 80

-- WHAT A ROW HAS

unfoldable pub kind_of : Mark → List ℕ
kind_of (mark.Handed client) = codes "submit"
kind_of (mark.Told client) = codes "reply"
kind_of mark.Put = codes "put"
kind_of mark.Doorbell = codes "bell"
kind_of (mark.Unit is_hosts) = codes "unit"
kind_of (mark.Chunk is_in) = codes "chunk"
kind_of mark.Event = codes "event"
kind_of mark.Release = codes "context"
kind_of mark.Blank = codes "other"
kind_of mark.Other = codes "other"
kind_of _ = codes "step"

-- a line that has a word is a row
unfoldable pub is_row : Mark → Bool
is_row mark.Blank = false
is_row _ = true

unfoldable pub is_step : Mark → Bool
is_step (mark.Handed client) = true
is_step (mark.Taken client) = true
is_step (mark.OfClient client) = true
is_step (mark.Hold pipe client) = true
is_step mark.Heard = true
is_step mark.Step = true
is_step _ = false

-- an arrow from who writes to where it is written, or a dot on the lane of who acts
unfoldable pub shape_of : Mark → Shape
shape_of (mark.Handed client) = Arrow (Client client) Host
shape_of (mark.Told client) = Arrow Host (Client client)
shape_of mark.Put = Arrow Host Rings
shape_of mark.Doorbell = Arrow Host Controller
shape_of (mark.Unit true) = Arrow Host Device
shape_of (mark.Unit false) = Arrow Device Host
shape_of (mark.Chunk true) = Arrow Device Rings
shape_of (mark.Chunk false) = Arrow Rings Device
shape_of mark.Event = Arrow Controller Host
shape_of mark.Release = Arrow Controller Rings
shape_of (mark.Taken client) = Dot Host
shape_of (mark.Hold pipe client) = Dot Host
shape_of mark.Heard = Dot Host
shape_of (mark.OfClient client) = Dot Controller
shape_of mark.Step = Dot Controller
shape_of _ = Nothing

-- WORDS

-- over an arrow from its left end on, or beside a dot
unfoldable pub words_text : ℕ → Shape → ℕ → List ℕ → List ℕ
words_text clients (Arrow from to) y line = words_at (min (lane_x clients from) (lane_x clients to) + 10) (y - 5) line
words_text clients (Dot lane) y line = words_at (lane_x clients lane + 8) (y + 3) line
words_text clients Nothing y line = words_at 10 (y + 3) line

-- SHAPES

unfoldable pub shape_text : ℕ → Shape → ℕ → List ℕ
shape_text clients (Arrow from to) y = arrow (lane_x clients from) (lane_x clients to) y
shape_text clients (Dot lane) y = dot (lane_x clients lane) y
shape_text clients Nothing y = []

-- BARS

-- a pipe is held, up to a row
unfoldable pub bar : ℕ → Held → ℕ → List ℕ
bar clients held row =
    bar_at (lane_x clients Rings - 4) (row_y held.since) (row_y row - row_y held.since)
    ++ (codes "<title>pipe " ++ decimal held.pipe ++ codes " is held</title></rect>")

abbrev pub bar_if : ℕ → ℕ → Option Held → Option Held → List ℕ
bar_if clients row (Some held) None = bar clients held row
bar_if clients row _ _ = []

-- the bar of a pipe that is held before a line, and not behind it
unfoldable pub ended_bar : ℕ → Point → Point → List ℕ
ended_bar clients before behind = bar_if clients before.row before.held behind.held

-- ROWS

-- the name of a client's colour
unfoldable pub colour_of : Option ℕ → List ℕ
colour_of None = codes "none"
colour_of (Some client) = codes "c" ++ decimal client

unfoldable pub row_start : List ℕ → Option ℕ → List ℕ
row_start kind client = codes "<g class=\"" ++ kind ++ codes " " ++ colour_of client ++ codes "\">"

-- a thin line above a step
abbrev pub rule_if : Mark → ℕ → ℕ → List ℕ
rule_if mark width y = if is_step mark then rule_at width (y - 15) else []

-- a row, in the colour of the client whose step it is
unfoldable pub row_text : ℕ → Point → Mark → List ℕ → List ℕ
row_text clients point mark line =
    row_start (kind_of mark) (after point mark).client ++ rule_if mark (width_of clients) (row_y point.row)
    ++ ended_bar clients point (after point mark) ++ shape_text clients (shape_of mark) (row_y point.row)
    ++ words_text clients (shape_of mark) (row_y point.row) line ++ codes "</g>\n"

-- a line of a kind, which stands at a point
abbrev pub drawn_as : ℕ → Point → Mark → List ℕ → List ℕ
drawn_as clients point mark line = if is_row mark then row_text clients point mark line else []

-- A line that stands at a point, as it is drawn, of so many clients with so many tags each.
unfoldable pub drawn : ℕ → ℕ → Point → List ℕ → List ℕ
drawn clients tags point line = drawn_as clients point (mark_of tags line) line
