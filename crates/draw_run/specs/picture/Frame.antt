-- What is around the rows of a picture: its size, what it is, its colours and its lanes.
use Rattle.std.specs.Prelude.{ℕ, zero, suc, nat_lt, if◌then◌else◌, List, [], ◌++◌, codes, Option, Some, None}
use Rattle.std.specs.Fmt.{decimal}
use Rattle.uas_profile.specs.declared.TheConstants.{USUAL_CLIENTS}
use Rattle.draw_run.specs.declared.picture.frame.TheConstants.{ABOUT, COLOURS, GROUND, MORE_COLOURS, STYLE}
use Rattle.draw_run.specs.declared.picture.Held.{Held}
use Rattle.draw_run.specs.declared.picture.Lane.{Lane}
use Rattle.draw_run.specs.declared.picture.Lane.TheVariants.{Client, Host, Rings, Controller, Device}
use Rattle.draw_run.specs.declared.picture.Point.{Point}
use Rattle.draw_run.specs.picture.Drawn.{bar, colour_of, lane_x, row_y, width_of}
use Rattle.draw_run.specs.picture.Elements.{attribute, text_at}

-- the size, in pixels
unfoldable pub size : ℕ → ℕ → List ℕ
size width height =
    codes "<svg xmlns=\"http://www.w3.org/2000/svg\" role=\"img\"" ++ attribute (codes "width") width ++ attribute (codes "height") height ++ codes ">\n"

unfoldable pub title : ℕ → List ℕ
title clients = codes "<title>A run step by step, clients: " ++ decimal clients ++ codes "</title>\n"

-- LANES

-- a client's lane has its colour
abbrev pub client_in : Lane → Option ℕ
client_in (Client client) = Some client
client_in _ = None

unfoldable pub lane_start : Lane → List ℕ
lane_start lane = codes "<g class=\"lane " ++ colour_of (client_in lane) ++ codes "\">"

unfoldable pub lane_line : ℕ → ℕ → List ℕ
lane_line x bottom = (codes "<path d=\"M" ++ decimal x ++ codes " 40V" ++ decimal bottom) ++ codes "\"/>"

unfoldable pub lane_name : Lane → List ℕ
lane_name (Client client) = codes "client " ++ decimal client
lane_name Host = codes "host"
lane_name Rings = codes "rings"
lane_name Controller = codes "controller"
lane_name Device = codes "device"

-- a lane down to the bottom, with its name on top
unfoldable pub lane_text : ℕ → ℕ → Lane → List ℕ
lane_text clients bottom at =
    lane_start at ++ lane_line (lane_x clients at) bottom ++ text_at (lane_x clients at) 30 ++ lane_name at ++ codes "</text></g>\n"

-- the lanes of the first clients
abbrev pub client_lanes : ℕ → ℕ → ℕ → List ℕ
client_lanes clients bottom zero = []
client_lanes clients bottom (suc count) = client_lanes clients bottom count ++ lane_text clients bottom (Client count)

unfoldable pub device_lanes : ℕ → ℕ → List ℕ
device_lanes clients bottom =
    lane_text clients bottom Host ++ lane_text clients bottom Rings ++ lane_text clients bottom Controller ++ lane_text clients bottom Device

-- HEAD AND FOOT

-- the colours of the clients from 15 on, where there are so many
unfoldable pub more_colours : ℕ → List ℕ
more_colours clients = if nat_lt USUAL_CLIENTS clients then MORE_COLOURS.now else []

-- what the picture shows, how it looks, and a ground
unfoldable pub style : ℕ → List ℕ
style clients = ABOUT.now ++ STYLE.now ++ COLOURS.now ++ more_colours clients ++ GROUND.now

-- what stands above so many rows
unfoldable pub head : ℕ → ℕ → List ℕ
head clients rows =
    size (width_of clients) (row_y rows) ++ title clients ++ style clients
    ++ client_lanes clients (row_y rows) clients ++ device_lanes clients (row_y rows)

abbrev pub bar_still : ℕ → ℕ → Option Held → List ℕ
bar_still clients row None = []
bar_still clients row (Some held) = bar clients held row

-- what stands below the rows: the bar of the pipe that is held still, if one is
unfoldable pub foot : ℕ → Point → List ℕ
foot clients point = bar_still clients point.row point.held ++ codes "</svg>\n"
