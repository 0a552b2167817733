-- At which event the host looks for a transfer event of a controller's, so that its own words say which TD ends by it and what it leaves
-- over (uas_host specs/Awaited, LeftBy).
use Rattle.std.specs.Prelude.{◌≡◌, ℕ, ◌&&◌, true, if◌then◌else◌, List, Option, Some, None, is_some, option_and_then, option_map}
use Rattle.event_ring.specs.declared.Event.{Event}
use Rattle.event_ring.specs.declared.Event.TheVariants.{Transfer, Command as CommandCompletion}
use Rattle.frame_store.specs.declared.TagBuffers.{TagBuffers}
use Rattle.stream_array.specs.Map.{spot_at}
use Rattle.stream_array.specs.Rings.{LinesState}
use Rattle.uas_profile.specs.declared.Pipe.{Pipe}
use Rattle.uas_profile.specs.declared.TheConstants.{ENGINE_RING_PLACES, SLOT}
use Rattle.uas_host.specs.Awaited.{IsOfTd}
use Rattle.uas_host.specs.Events.{Sides}
use Rattle.uas_host.specs.LeftBy.{LeavesOverByNote}
use Rattle.uas_host.specs.State.{HostState}
use Rattle.uas_driver.specs.Driver.{DriverState}
use Rattle.uas_driver.specs.Meaning.{meaning}
use Rattle.uas_driver.specs.Settled.{is_pending_at, pending_place, stood}
use Rattle.uas_driver.specs.Taking.{handing_by, lines_by}
use Rattle.uas_driver.specs.Telling.{is_begun_at, is_from, is_stopping, is_told}
use Rattle.uas_driver.specs.declared.Meaning.{Meaning}
use Rattle.uas_driver.specs.declared.taking.Handing.{Handing}

-- host and rings, and the event of a TD's last TRB; the host reads neither endpoint nor slot
abbrev pub Look : Type 0
Look = Sides × Event

abbrev pub look_by : HostState → LinesState → Handing → Look
look_by host lines event = (record { host = host; lines = lines }, Transfer event.pointer event.residual event.code 0 0)

-- of the pending TRB at its pointer: the ring's consumer stands there, and passes it where it is consumed
abbrev pub look_pending : DriverState → ℕ → ℕ → Meaning → Pipe → ℕ → Option Look
look_pending driver pointer residual meaning pipe stream =
    option_map (look_by driver.host (lines_by (stood driver.lines pipe stream pointer) pipe stream meaning))
    (handing_by (stood driver.lines pipe stream pointer) pipe stream pointer residual meaning)

-- of a consumed TRB
abbrev pub look_begun : DriverState → ℕ → ℕ → Meaning → Pipe → ℕ → Option Look
look_begun driver pointer residual meaning pipe stream =
    option_map (look_by driver.host driver.lines) (handing_by driver.lines pipe stream pointer residual meaning)

abbrev pub look_on : DriverState → ℕ → ℕ → Meaning → Pipe → ℕ → Option Look
look_on driver pointer residual meaning pipe stream =
    if is_told meaning && is_pending_at driver.lines pipe stream pointer then look_pending driver pointer residual meaning pipe stream
    else (if is_begun_at driver.lines pipe stream pointer then look_begun driver pointer residual meaning pipe stream else None)

abbrev pub look_from : DriverState → ℕ → ℕ → ℕ → ℕ → ℕ → Pipe → ℕ → Option Look
look_from driver pointer residual code endpoint slot pipe stream =
    if is_from pipe endpoint slot then look_on driver pointer residual (meaning pipe (is_stopping driver pipe) code) pipe stream else None

-- At no event where the code consumes no TRB, where it is another endpoint's, and where no TRB of a TD that is pending or begun is at
-- the pointer.
abbrev pub look_for : DriverState → Event → Option Look
look_for driver (Transfer pointer residual code endpoint slot) =
    option_and_then (λ at. look_from driver pointer residual code endpoint slot at.0 at.1) (spot_at pointer)
look_for driver (CommandCompletion pointer code slot) = None

-- the host looks at an event of a TD of this tag that it waits for
abbrev pub IsOfLook : Option Look → List TagBuffers → ℕ → Type 0
IsOfLook None frames tag = ⊥
IsOfLook (Some look) frames tag = IsOfTd look.0 frames look.1 tag

-- the event is of the command under way: a recovery waits, and the pending command is at its pointer
abbrev pub IsOfCommand : DriverState → Event → Type 0
IsOfCommand driver (Transfer pointer residual code endpoint slot) = ⊥
IsOfCommand driver (CommandCompletion pointer code slot) =
    (is_some driver.recovery ≡ true) × (slot ≡ SLOT) × (is_some (pending_place ENGINE_RING_PLACES driver.lines.engine pointer) ≡ true)

-- what is left over after the event and wasn't before was left over by that at which the host looked
abbrev pub LeavesByLook : Option Look → List TagBuffers → HostState → Type 0
LeavesByLook None frames after = ⊥
LeavesByLook (Some look) frames after = LeavesOverByNote look.0 frames look.1 after
