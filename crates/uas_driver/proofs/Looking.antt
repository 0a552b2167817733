-- Which event ends a TD, in the host's words.
use Rattle.std.proofs.Common.{◌≡◌, ℕ, ◌↔◌, Bool, true, false, List, Option, Some, None, refl, sym, ap, subst, ◌∙◌}
use Rattle.std.specs.Prelude.{◌==◌, ◌&&◌, if◌then◌else◌, [], is_none, is_some, option_and_then, option_map}
use Rattle.std.specs.Option.{option_map_or}
use Rattle.std.proofs.lemmas.Bool.{eqb-true, eq-eqb}
use Rattle.event_ring.specs.declared.Event.{Event}
use Rattle.event_ring.specs.declared.Event.TheVariants.{Transfer, Command as CommandCompletion}
use Rattle.stream_array.specs.Map.{spot_at}
use Rattle.uas_profile.specs.declared.Pipe.{Pipe}
use Rattle.uas_profile.specs.declared.Pipe.TheVariants.{Command, Status, DataIn, DataOut}
use Rattle.uas_profile.specs.declared.TheConstants.{ENGINE_RING_PLACES, SLOT}
use Rattle.uas_host.specs.Events.{handled}
use Rattle.uas_host.specs.declared.Handled.{Handled}
use Rattle.uas_host.specs.declared.Handled.TheVariants as hosts
use Rattle.uas_host.proofs.LeavingBy.{left-told}
use Rattle.uas_host.proofs.Matching.{engine-exactly, matched-exactly}
use Rattle.uas_driver.specs.Driver.{DriverState}
use Rattle.uas_driver.specs.Looks.{IsOfCommand, IsOfLook, LeavesByLook, Look, look_begun, look_by, look_for, look_from, look_on, look_pending}
use Rattle.uas_driver.specs.Meaning.{meaning}
use Rattle.uas_driver.specs.Recovery.{gone_on, needed, new_recovery, put, state_of, with_state}
use Rattle.uas_driver.specs.Settled.{completed, is_pending_at, pending_place, stood}
use Rattle.uas_driver.specs.Taking.{handed, handing_by, lines_by, sides_of, strayed, taken, with_moved, with_told}
use Rattle.uas_driver.specs.Telling.{Made, commanded, done, event_by, is_begun_at, is_from, is_stopping, is_told, next_begun, told, told_begun, told_from, told_nowhere, told_on, told_pending, transferred, unless_noted}
use Rattle.uas_driver.specs.Telling.{endpoint_pipe, names_none, with_answer, without_doors}
use Rattle.uas_driver.specs.declared.EndpointState.TheVariants.{Halted}
use Rattle.uas_driver.specs.declared.Meaning.{Meaning}
use Rattle.uas_driver.specs.declared.Meaning.TheVariants as means
use Rattle.uas_driver.specs.declared.Taken.{Taken}
use Rattle.uas_driver.specs.declared.Taken.TheVariants.{Matched, Engine, Noted, Stray}
use Rattle.uas_driver.specs.declared.states.Recovery.{Recovery}
use Rattle.uas_driver.specs.declared.taking.Handing.{Handing}

-- what is matched is what is looked at, nothing of it is a command's, and it leaves over what the host says
abbrev Tells : DriverState × Taken → Option Look → DriverState → ℕ → Type 0
Tells made look driver tag =
    ((made.1 ≡ Matched tag) ↔ IsOfLook look driver.frames tag) × (made.1 ≡ Engine → ⊥)
    × (made.1 ≡ Matched tag → LeavesByLook look driver.frames made.0.host)

tag_in : Taken → ℕ
tag_in (Matched tag) = tag
tag_in _ = 0

taken-matched : (told : Handled) (tag : ℕ) → (taken told ≡ Matched tag) ↔ (told ≡ hosts.Matched tag)
unfolding tag_in
taken-matched (hosts.Matched other) tag = (λ is. ap hosts.Matched (ap tag_in is), λ is. ap taken is)
taken-matched hosts.Engine tag = (λ is. absurd (cc), λ is. absurd (cc))
taken-matched hosts.Stray tag = (λ is. absurd (cc), λ is. absurd (cc))

taken-engine : (told : Handled) → taken told ≡ Engine → told ≡ hosts.Engine
taken-engine (hosts.Matched other) is = absurd (cc)
taken-engine hosts.Engine is = refl
taken-engine hosts.Stray is = absurd (cc)

handed-tells : (driver : DriverState) (handing : Option Handing) (tag : ℕ) →
    Tells (handed driver handing) (option_map (look_by driver.host driver.lines) handing) driver tag
handed-tells driver None tag = ((λ is. absurd (cc), λ is. absurd is), (λ is. cc), λ is. absurd (cc))
handed-tells driver (Some event) tag =
    let sides = sides_of driver in
    let there : Event = Transfer event.pointer event.residual event.code 0 0 in
    let by = taken-matched (handled sides driver.frames there).1 tag in
    let of = matched-exactly sides driver.frames there tag in (
      (λ is. of.0 (by.0 is), λ is. by.1 (of.1 is)),
      (λ is. (engine-exactly sides driver.frames there).0 (taken-engine (handled sides driver.frames there).1 is)),
      λ is. left-told sides (handled sides driver.frames there).0 driver.frames there (handled sides driver.frames there).1 refl,
    )

noted-tells : (driver made : DriverState) (told : Taken) (look : Option Look) (tag : ℕ) → Tells (made, told) look driver tag →
    Tells (unless_noted (made, told)) look driver tag
noted-tells driver made (Matched other) look tag tells = tells
noted-tells driver made Engine look tag tells = tells
noted-tells driver made Noted look tag tells = ((λ is. absurd (cc), λ is. absurd (noted-ends (tells.0.1 is))), (λ is. cc), λ is. absurd (cc))
  where
    noted-ends : Noted ≡ Matched tag → ⊥
    noted-ends is = cc
noted-tells driver made Stray look tag tells = tells

begun-tells : (driver : DriverState) (pointer residual : ℕ) (meaning : Meaning) (pipe : Pipe) (stream tag : ℕ) →
    Tells (told_begun driver pipe stream pointer residual meaning) (look_begun driver pointer residual meaning pipe stream) driver tag
begun-tells driver pointer residual means.Consumed pipe stream tag =
    let handing = handing_by driver.lines pipe stream pointer residual means.Consumed in
    noted-tells driver (handed driver handing).0 (handed driver handing).1 (option_map (look_by driver.host driver.lines) handing) tag
    (handed-tells driver handing tag)
begun-tells driver pointer residual means.EndedShort pipe stream tag =
    let handing = handing_by driver.lines pipe stream pointer residual means.EndedShort in
    noted-tells driver (handed driver handing).0 (handed driver handing).1 (option_map (look_by driver.host driver.lines) handing) tag
    (handed-tells driver handing tag)
begun-tells driver pointer residual (means.Failed halted) pipe stream tag = ((λ is. absurd (cc), λ is. absurd is), (λ is. cc), λ is. absurd (cc))
begun-tells driver pointer residual means.NotConsumed pipe stream tag = ((λ is. absurd (cc), λ is. absurd is), (λ is. cc), λ is. absurd (cc))
begun-tells driver pointer residual means.Stray pipe stream tag = ((λ is. absurd (cc), λ is. absurd is), (λ is. cc), λ is. absurd (cc))

-- how many bytes were moved is no other part's
moved-alone : (driver : DriverState) (tag : ℕ) (bytes : Option ℕ) → with_moved driver tag bytes ≡ record driver { moved = (with_moved driver tag bytes).moved }
moved-alone driver tag None = refl
moved-alone driver tag (Some bytes) = refl

told-alone : (driver : DriverState) (pipe : Pipe) (stream code residual : ℕ) →
    with_told driver pipe stream code residual ≡ record driver { moved = (with_told driver pipe stream code residual).moved }
told-alone driver Command stream code residual = refl
told-alone driver Status stream code residual = refl
told-alone driver DataIn stream code residual = moved-alone driver stream _
told-alone driver DataOut stream code residual = moved-alone driver stream _

standing-tells : (driver : DriverState) (moved : List ℕ) (pointer residual code : ℕ) (meaning : Meaning) (pipe : Pipe) (stream tag : ℕ) →
    Tells (told (record driver { lines = stood driver.lines pipe stream pointer; moved = moved }) pipe stream pointer residual code meaning)
    (look_pending driver pointer residual meaning pipe stream) driver tag
standing-tells driver moved pointer residual code means.Consumed pipe stream tag =
    let lines = stood driver.lines pipe stream pointer in
    handed-tells (record driver { lines = lines_by lines pipe stream means.Consumed; moved = moved }) (handing_by lines pipe stream pointer residual means.Consumed) tag
standing-tells driver moved pointer residual code means.EndedShort pipe stream tag =
    let lines = stood driver.lines pipe stream pointer in
    handed-tells (record driver { lines = lines_by lines pipe stream means.EndedShort; moved = moved }) (handing_by lines pipe stream pointer residual means.EndedShort) tag
standing-tells driver moved pointer residual code (means.Failed halted) pipe stream tag = ((λ is. absurd (cc), λ is. absurd is), (λ is. cc), λ is. absurd (cc))
standing-tells driver moved pointer residual code means.NotConsumed pipe stream tag = ((λ is. absurd (cc), λ is. absurd is), (λ is. cc), λ is. absurd (cc))
standing-tells driver moved pointer residual code means.Stray pipe stream tag = ((λ is. absurd (cc), λ is. absurd is), (λ is. cc), λ is. absurd (cc))

pending-tells : (driver : DriverState) (pointer residual code : ℕ) (meaning : Meaning) (pipe : Pipe) (stream tag : ℕ) →
    Tells (told_pending driver pointer residual code meaning pipe stream) (look_pending driver pointer residual meaning pipe stream) driver tag
pending-tells driver pointer residual code meaning pipe stream tag =
    let stands : DriverState = record driver { lines = stood driver.lines pipe stream pointer } in
    subst (λ (now : DriverState). Tells (told now pipe stream pointer residual code meaning) (look_pending driver pointer residual meaning pipe stream) driver tag)
    (sym (told-alone stands pipe stream code residual))
    (standing-tells driver (with_told stands pipe stream code residual).moved pointer residual code meaning pipe stream tag)

no-look : (driver other : DriverState) (tag : ℕ) → Tells (strayed driver) None other tag
no-look driver other tag = ((λ is. absurd (cc), λ is. absurd is), (λ is. cc), λ is. absurd (cc))

on-tells : (driver : DriverState) (pointer residual code : ℕ) (meaning : Meaning) (pipe : Pipe) (stream tag : ℕ) →
    Tells (told_on driver pointer residual code meaning pipe stream) (look_on driver pointer residual meaning pipe stream) driver tag
on-tells driver pointer residual code meaning pipe stream tag =
    elim (is_told meaning && is_pending_at driver.lines pipe stream pointer) as (λ b.
    Tells (if b then told_pending driver pointer residual code meaning pipe stream
    else (if is_begun_at driver.lines pipe stream pointer then told_begun driver pipe stream pointer residual meaning else strayed driver))
    (if b then look_pending driver pointer residual meaning pipe stream
    else (if is_begun_at driver.lines pipe stream pointer then look_begun driver pointer residual meaning pipe stream else None)) driver tag) [
      | true ↦ pending-tells driver pointer residual code meaning pipe stream tag
      | false ↦ elim (is_begun_at driver.lines pipe stream pointer) as (λ b.
          Tells (if b then told_begun driver pipe stream pointer residual meaning else strayed driver)
          (if b then look_begun driver pointer residual meaning pipe stream else None) driver tag) [
            | true ↦ begun-tells driver pointer residual meaning pipe stream tag
            | false ↦ no-look driver driver tag
          ]
    ]

from-tells : (driver : DriverState) (pointer residual code endpoint slot : ℕ) (pipe : Pipe) (stream tag : ℕ) →
    Tells (told_from driver pointer residual code endpoint slot pipe stream) (look_from driver pointer residual code endpoint slot pipe stream) driver tag
from-tells driver pointer residual code endpoint slot pipe stream tag =
    elim (is_from pipe endpoint slot) as (λ b.
    Tells (if b then told_on driver pointer residual code (meaning pipe (is_stopping driver pipe) code) pipe stream else strayed driver)
    (if b then look_on driver pointer residual (meaning pipe (is_stopping driver pipe) code) pipe stream else None) driver tag) [
      | true ↦ on-tells driver pointer residual code (meaning pipe (is_stopping driver pipe) code) pipe stream tag
      | false ↦ no-look driver driver tag
    ]

nowhere-tells : (driver : DriverState) (pointer code endpoint slot tag : ℕ) → Tells (told_nowhere driver pointer code endpoint slot) None driver tag
nowhere-tells driver pointer code endpoint slot tag =
    elim (names_none pointer code slot) as (λ b.
    Tells (if b then option_map_or (λ pipe. (with_state driver pipe Halted, Noted)) (endpoint_pipe endpoint) (strayed driver) else strayed driver) None driver tag) [
      | true ↦ elim (endpoint_pipe endpoint) as (λ o.
          Tells (option_map_or (λ pipe. (with_state driver pipe Halted, Noted)) o (strayed driver)) None driver tag) [
            | None ↦ no-look driver driver tag
            | Some pipe ↦ ((λ is. absurd (cc), λ is. absurd is), (λ is. cc), λ is. absurd (cc))
          ]
      | false ↦ no-look driver driver tag
    ]

transferred-tells : (driver : DriverState) (pointer residual code endpoint slot tag : ℕ) →
    Tells (transferred driver pointer residual code endpoint slot) (look_for driver (Transfer pointer residual code endpoint slot)) driver tag
transferred-tells driver pointer residual code endpoint slot tag =
    elim (spot_at pointer) as (λ o.
    Tells (option_map_or (λ at. told_from driver pointer residual code endpoint slot at.0 at.1) o (told_nowhere driver pointer code endpoint slot))
    (option_and_then (λ at. look_from driver pointer residual code endpoint slot at.0 at.1) o) driver tag) [
      | None ↦ nowhere-tells driver pointer code endpoint slot tag
      | Some at ↦ from-tells driver pointer residual code endpoint slot at.0 at.1 tag
    ]

-- the next recovery changes neither the answer nor the host
gone-host : (driver : DriverState) → (gone_on (driver, [])).0.host ≡ driver.host
gone-host driver =
    elim (is_none driver.recovery) as (λ b. (if b then option_map_or (λ pipe. put driver (new_recovery pipe (state_of driver.endpoints pipe)) [])
    (needed driver) (driver, []) else (driver, [])).0.host ≡ driver.host) [
      | false ↦ refl
      | true ↦ elim (needed driver) as (λ o. (option_map_or (λ pipe. put driver (new_recovery pipe (state_of driver.endpoints pipe)) [])
          o (driver, [])).0.host ≡ driver.host) [
            | None ↦ refl
            | Some pipe ↦ refl
          ]
    ]

next-tells : (driver made : DriverState) (told : Taken) (look : Option Look) (tag : ℕ) → Tells (made, told) look driver tag →
    Tells ((next_begun (made, told)).0, (next_begun (made, told)).1) look driver tag
next-tells driver made (Matched other) look tag tells =
    (tells.0, tells.1, λ is. subst (LeavesByLook look driver.frames) (sym (gone-host made)) (tells.2 is))
next-tells driver made Engine look tag tells =
    (tells.0, tells.1, λ is. subst (LeavesByLook look driver.frames) (sym (gone-host made)) (tells.2 is))
next-tells driver made Noted look tag tells =
    (tells.0, tells.1, λ is. subst (LeavesByLook look driver.frames) (sym (gone-host made)) (tells.2 is))
next-tells driver made Stray look tag tells = tells

transfer-tells : (driver : DriverState) (pointer residual code endpoint slot tag : ℕ) →
    Tells ((event_by driver (Transfer pointer residual code endpoint slot)).0, (event_by driver (Transfer pointer residual code endpoint slot)).1)
    (look_for driver (Transfer pointer residual code endpoint slot)) driver tag
transfer-tells driver pointer residual code endpoint slot tag =
    let made = transferred driver pointer residual code endpoint slot in
    next-tells driver made.0 made.1 (look_for driver (Transfer pointer residual code endpoint slot)) tag
    (transferred-tells driver pointer residual code endpoint slot tag)

-- COMMANDS

-- a command is pending there
abbrev is_waited : DriverState → ℕ → Bool
is_waited driver pointer = is_some (pending_place ENGINE_RING_PLACES driver.lines.engine pointer)

abbrev made_by : DriverState → ℕ → ℕ → Recovery → Bool → Made
made_by driver pointer code recovery goes =
    if goes then with_answer Engine (gone_on (done (record driver { lines = completed driver.lines pointer code }) pointer code recovery))
    else without_doors (strayed driver)

-- by the recovery that waits for the command
abbrev command_by : DriverState → ℕ → ℕ → ℕ → Option Recovery → Made
command_by driver pointer code slot waits =
    option_map_or (λ recovery. made_by driver pointer code recovery (slot == SLOT && is_waited driver pointer)) waits (without_doors (strayed driver))

abbrev IsCommands : Made → Bool → ℕ → Bool → Type 0
IsCommands made waits slot pending =
    ((made.1 ≡ Engine) ↔ ((waits ≡ true) × (slot ≡ SLOT) × (pending ≡ true))) × ((tag : ℕ) → made.1 ≡ Matched tag → ⊥)

false-true : (b : Bool) → b ≡ false → b ≡ true → ⊥
false-true b off on = let both : false ≡ true = sym off ∙ on in (cc)

command-tells : (driver : DriverState) (pointer code slot : ℕ) → IsCommands (commanded driver pointer code slot) (is_some driver.recovery) slot
    (is_waited driver pointer)
command-tells driver pointer code slot =
    elim driver.recovery as (λ o. IsCommands (command_by driver pointer code slot o) (is_some o) slot (is_waited driver pointer)) [
      | None ↦ ((λ is. absurd (cc), λ is. absurd (false-true false refl is.0)), λ tag is. (cc))
      | Some recovery ↦ elim (slot == SLOT) as (λ b. (slot == SLOT) ≡ b → IsCommands (made_by driver pointer code recovery (b && is_waited driver pointer)) true slot (is_waited driver pointer)) [
        | false ↦ λ other. ((λ is. absurd (cc), λ is. absurd (false-true (slot == SLOT) other (eq-eqb slot SLOT is.1))), λ tag is. (cc))
        | true ↦ λ same. elim (is_waited driver pointer) as (λ b. IsCommands (made_by driver pointer code recovery b) true slot b) [
          | false ↦ ((λ is. absurd (cc), λ is. absurd (false-true false refl is.2)), λ tag is. (cc))
          | true ↦ ((λ is. (refl, eqb-true slot SLOT same, refl), λ is. refl), λ tag is. (cc))
        ]
      ] refl
    ]

-- AS THE CALL TELLS IT

event-matched : (driver : DriverState) (event : Event) (tag : ℕ) → ((event_by driver event).1 ≡ Matched tag) ↔ IsOfLook (look_for driver event) driver.frames tag
event-matched driver (Transfer pointer residual code endpoint slot) tag =
    (transfer-tells driver pointer residual code endpoint slot tag).0
event-matched driver (CommandCompletion pointer code slot) tag = ((command-tells driver pointer code slot).1 tag, λ is. absurd is)

event-engine : (driver : DriverState) (event : Event) → ((event_by driver event).1 ≡ Engine) ↔ IsOfCommand driver event
event-engine driver (Transfer pointer residual code endpoint slot) =
    ((transfer-tells driver pointer residual code endpoint slot 0).1, λ is. absurd is)
event-engine driver (CommandCompletion pointer code slot) = (command-tells driver pointer code slot).0

event-left : (driver : DriverState) (event : Event) (tag : ℕ) → (event_by driver event).1 ≡ Matched tag →
    LeavesByLook (look_for driver event) driver.frames (event_by driver event).0.host
event-left driver (Transfer pointer residual code endpoint slot) tag =
    (transfer-tells driver pointer residual code endpoint slot tag).2
event-left driver (CommandCompletion pointer code slot) tag = λ is. absurd ((command-tells driver pointer code slot).1 tag is)

pub matched-told : (driver after : DriverState) (event : Event) (told : Taken) (doors : List ℕ) (tag : ℕ) →
    event_by driver event ≡ (after, told, doors) → (told ≡ Matched tag) ↔ IsOfLook (look_for driver event) driver.frames tag
matched-told driver after event told doors tag is =
    subst (λ (made : Made). (made.1 ≡ Matched tag) ↔ IsOfLook (look_for driver event) driver.frames tag) is (event-matched driver event tag)

pub engine-told : (driver after : DriverState) (event : Event) (told : Taken) (doors : List ℕ) →
    event_by driver event ≡ (after, told, doors) → (told ≡ Engine) ↔ IsOfCommand driver event
engine-told driver after event told doors is = subst (λ (made : Made). (made.1 ≡ Engine) ↔ IsOfCommand driver event) is (event-engine driver event)

pub left_over-told : (driver after : DriverState) (event : Event) (told : Taken) (doors : List ℕ) (tag : ℕ) →
    event_by driver event ≡ (after, told, doors) → told ≡ Matched tag → LeavesByLook (look_for driver event) driver.frames after.host
left_over-told driver after event told doors tag is =
    subst (λ (made : Made). made.1 ≡ Matched tag → LeavesByLook (look_for driver event) driver.frames made.0.host) is (event-left driver event tag)
