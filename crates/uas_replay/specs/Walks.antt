-- The walk of a script: what its run has told, with the world of rings that its bus is, and what a watcher shows of it.
use Rattle.std.specs.Prelude.{◌≡◌, ℕ, ◌+◌, if◌then◌else◌, List, [], ◌∷◌, ◌++◌, length, map, drop, slice_get, slice_set, option_map, Option, Some, None, IsSome, Result, Ok, Err}
use Rattle.std.specs.Io.KnownBytes.{Appends}
use Rattle.block_unit.specs.BlockMaps.{BlockMaps}
use Rattle.std.specs.List.{range_with_len}
use Rattle.uas_profile.specs.declared.Pipe.{Pipe}
use Rattle.uas_profile.specs.declared.Pipe.TheVariants.{Command, Status, DataIn, DataOut}
use Rattle.uas_profile.specs.declared.TheConstants.{ENGINE_RING, STREAMS}
use Rattle.cycle_ring.specs.Ring.{opening as new_ring}
use Rattle.cycle_ring.specs.Items.{ItemRing}
use Rattle.event_ring.specs.Events.{opening as new_events}
use Rattle.stream_array.specs.Map.{ring_base}
use Rattle.stream_array.specs.Rings.{LinesState}
use Rattle.tag_range.specs.declared.Refused.{Refused}
use Rattle.tag_range.specs.Tags.{CountedTags}
use Rattle.shared_machine.specs.declared.Step.{Step}
use Rattle.shared_machine.specs.declared.Step.TheVariants as step
use Rattle.shared_machine.specs.Shared.{Shared}
use Rattle.bus_core.specs.World.{World}
use Rattle.bus_core.specs.Decoded.{decoded}
use Rattle.bus_core.specs.WorldSteps.{opening_world}
use Rattle.bus_core.specs.WholeStep.{world_after}
use Rattle.uas_replay.specs.declared.replay.Handed.{Handed}
use Rattle.uas_replay.specs.Told.{Telling, handed_in, handing_in, is_due, issued_for, opening_run, step_of, stepped, taken_or_idle}

-- the shared machine that a world of rings holds
unfoldable pub machine_of : World → Shared
machine_of world = decoded world

-- the world of rings after a step
unfoldable pub world_then : World → Step → World
world_then world step = world_after world step

-- What a script's run has told so far, and the world of rings of its bus.
pub record Walk : Type 0 where
  pub telling : Telling
  pub world : World

-- the new rings of a pipe with streams, of which stream 1 is the first
abbrev pub new_rings : Pipe → List ItemRing
new_rings pipe = map (λ k. new_ring (ring_base pipe (k + 1))) (range_with_len 0 STREAMS)

-- all rings new, each at its address
unfoldable pub opening_lines : LinesState
opening_lines = record {
  command = new_ring (ring_base Command 0);
  status = new_rings Status;
  data_in = new_rings DataIn;
  data_out = new_rings DataOut;
  engine = new_ring ENGINE_RING;
  events = new_events;
}

-- the walk before the first line, with so many tags of each client, over new rings
abbrev pub opening_walk : ℕ → List BlockMaps → Walk
opening_walk tags units = record { telling = opening_run tags units; world = opening_world tags units (length units) opening_lines }

-- the walk after a step of the bus, of which nothing is told yet
abbrev pub acted : Walk → Step → Walk
acted walk step = record {
  telling = record walk.telling { machine = (step_of walk.telling.machine step).0 };
  world = world_then walk.world step;
}

-- what a client hands in has a tag of its own, where its tags let it
abbrev pub issued_range : List CountedTags → ℕ → Handed → Option CountedTags → List CountedTags
issued_range ranges client handed None = ranges
issued_range ranges client handed (Some tags) = slice_set ranges client (issued_for handed tags).0

abbrev pub issued_run : Telling → ℕ → Handed → Telling
issued_run run client handed = record run { ranges = issued_range run.ranges client handed (slice_get run.ranges client) }

-- the tag and the ticket, or why there is none; nothing where there is no such client
abbrev pub issued_in : Telling → ℕ → Handed → Option (Result (ℕ × ℕ) Refused)
issued_in run client handed = option_map (λ tags. (issued_for handed tags).1) (slice_get run.ranges client)

-- MOMENTS

-- A moment of a walk: a client hands something in, a step of the bus is tried, or a client takes a reply. Each line of a script
-- is one, but for a drain, which is many.
pub data Moment : Type 0 where
  hands : ℕ → Handed → Moment
  tries : Step → Moment
  takes : ℕ → Moment

-- what the run has told after a moment
abbrev pub telling_then : Telling → Moment → Telling
telling_then run (hands client handed) = handed_in run client handed
telling_then run (tries step) = stepped run step
telling_then run (takes client) = taken_or_idle run client

-- the step that hands it in, unless the client's own tags refuse it
abbrev pub step_given : ℕ → Handed → Result (ℕ × ℕ) Refused → Option Step
step_given client handed (Err refused) = None
step_given client handed (Ok given) = Some (handing_in handed client given)

abbrev pub step_handing : ℕ → Handed → Option CountedTags → Option Step
step_handing client handed None = None
step_handing client handed (Some tags) = step_given client handed (issued_for handed tags).1

abbrev pub step_if_due : Telling → Step → Option Step
step_if_due run step = if is_due run.machine step then Some step else None

-- the step of the bus in a moment: one that acts, or a submission that the bus refuses
abbrev pub step_in : Telling → Moment → Option Step
step_in run (hands client handed) = step_handing client handed (slice_get run.ranges client)
step_in run (tries step) = step_if_due run step
step_in run (takes client) = step_if_due run (step.Take client)

abbrev pub world_by : World → Option Step → World
world_by world None = world
world_by world (Some step) = world_then world step

abbrev pub walk_then : Walk → Moment → Walk
walk_then walk moment = record {
  telling = telling_then walk.telling moment;
  world = world_by walk.world (step_in walk.telling moment);
}

-- the walk after moments, in their order
abbrev pub walked : Walk → List Moment → Walk
walked walk [] = walk
walked walk (moment ∷ rest) = walked (walk_then walk moment) rest

-- WHAT IS SHOWN

-- the text of a step, which speaks of the world before it
abbrev pub step_shown : (World → Step → List ℕ) → World → Option Step → List ℕ
step_shown text_of world None = []
step_shown text_of world (Some step) = text_of world step

-- what was told since a text was this long
abbrev pub told_since : ℕ → Telling → List ℕ
told_since len run = drop len run.text

-- in a moment its step is shown, and then what the run told in it
abbrev pub shown_in : (World → Step → List ℕ) → Walk → Moment → List ℕ
shown_in text_of walk moment =
    step_shown text_of walk.world (step_in walk.telling moment) ++ told_since (length walk.telling.text) (telling_then walk.telling moment)

abbrev pub shown_along : (World → Step → List ℕ) → Walk → List Moment → List ℕ
shown_along text_of walk [] = []
shown_along text_of walk (moment ∷ rest) = shown_in text_of walk moment ++ shown_along text_of (walk_then walk moment) rest

-- These moments lead from one walk to another, and what is shown along them is what was appended to known bytes.
pub record ShowsMoments (text_of : World → Step → List ℕ) (moments : List Moment) (old new : Walk) (before after : Option (List ℕ)) : Type 0 where
  pub leads : walked old moments ≡ new
  pub shown : Appends before after (shown_along text_of old moments)

-- likewise, where it is known what was shown before
pub record Shows (text_of : World → Step → List ℕ) (moments : List Moment) (old new : Walk) (before after : Option (List ℕ)) : Type 0 where
  pub known : IsSome before → ShowsMoments text_of moments old new before after
