-- The driver: host, rings and buffers, and no controller.
use Rattle.std.specs.Prelude.{◌≡◌, ℕ, Bool, false, List, replicate, Option, None}
use Rattle.uas_profile.specs.declared.TheConstants.{STREAM_ENTRIES}
use Rattle.stream_array.specs.Rings.{LinesState, IsOpeningLines}
use Rattle.frame_store.specs.declared.TagBuffers.{TagBuffers}
use Rattle.frame_store.specs.Buffers.{opening as opening_frames}
use Rattle.uas_host.specs.State.{HostState, opening as opening_host}
use Rattle.uas_driver.specs.declared.EndpointState.TheVariants.{Running}
use Rattle.uas_driver.specs.declared.states.End.{End}
use Rattle.uas_driver.specs.declared.states.Endpoints.{Endpoints}
use Rattle.uas_driver.specs.declared.states.Recovery.{Recovery}

-- What the host knows of its clients, all rings and contexts, the buffers of each tag; how many bytes of its data TD were moved, and why
-- its command is ended, by tag; how many are ended, how many events were stray, what each endpoint does, the recovery under way, and
-- whether a pipe was given up.
pub record DriverState : Type 0 where
  pub host : HostState
  pub lines : LinesState
  pub frames : List TagBuffers
  pub moved : List ℕ
  pub strays : ℕ
  pub ends : List (Option End)
  pub ending : ℕ
  pub endpoints : Endpoints
  pub recovery : Option Recovery
  pub given_up : Bool

-- every endpoint runs
abbrev pub all_run : Endpoints
all_run = record { command = Running; status = Running; data_in = Running; data_out = Running }

-- At the start no client has submitted anything, every ring is empty at its address with cycle state 1, all buffers are zeros and
-- nothing is lent.
pub record IsOpening (tags clients : ℕ) (driver : DriverState) : Type 0 where
  pub host : driver.host ≡ opening_host tags clients
  pub lines : IsOpeningLines driver.lines
  pub frames : driver.frames ≡ opening_frames
  pub moved : driver.moved ≡ replicate STREAM_ENTRIES 0
  pub strays : driver.strays ≡ 0
  pub ends : driver.ends ≡ replicate STREAM_ENTRIES None
  pub ending : driver.ending ≡ 0
  pub endpoints : driver.endpoints ≡ all_run
  pub recovery : driver.recovery ≡ None
  pub given_up : driver.given_up ≡ false
