-- A step that lacks nothing isn't refused, and what a step lacks isn't there.
use Rattle.std.proofs.Common.{◌≡◌, ℕ, ◌+◌, ◌*◌, ◌^◌, ◌==◌, nat_lt, Bool, true, false, Option, Some, None, refl, sym, ap, arith}
use Rattle.std.proofs.lemmas.Bool.{false≢true, ltb-false}
use Rattle.std.proofs.lemmas.Option.{none-some}
use Rattle.std.specs.Prelude.{is_some, option_map, if◌then◌else◌, not}
use Rattle.guest_memory.specs.Bytes.{Memory, IsWithinAddresses}
use Rattle.guest_memory.specs.Ranges.{lacks}
use Rattle.guest_memory.specs.declared.rings.context.Front.{Front}
use Rattle.guest_memory.specs.declared.rings.context.Home.TheVariants.{Endpoint}
use Rattle.guest_memory.specs.declared.rings.wanting.Range.{Range}
use Rattle.guest_memory.specs.rings.Ends.{looked}
use Rattle.guest_memory.specs.rings.Events.{EventEnd, has_room}
use Rattle.guest_memory.specs.rings.Wanted.{LacksIt, look_wanted}
use Rattle.guest_memory.specs.rings.WantedLaws.{look_lacks, look_there}
use Rattle.guest_pipes.specs.declared.acted.Acted.{Acted}
use Rattle.guest_pipes.specs.declared.acted.Acted.TheVariants.{Full, Idle, Off}
use Rattle.guest_pipes.specs.declared.consumer.Consumer.{Consumer}
use Rattle.guest_pipes.specs.Gate.{gate, is_running, room_gate, through}
use Rattle.guest_pipes.specs.Pipe.{PipeState, home_of, ring_home}
use Rattle.guest_pipes.specs.Step.{World, has_place}
use Rattle.guest_pipes.specs.Wanted.{front_wanted, ring_wanted, step_wanted, wanted_of, wanted_through}

-- where nothing is missing of a stream's context and TRB, they are found
pub front_there : (memory : Memory) (p : PipeState) (stream : ℕ) → front_wanted memory p stream ≡ None → is_some (looked memory (home_of p stream)) ≡ true
front_there memory p stream none = by_end (nat_lt (p.array + 16 * stream) (2 ^ 64)) none
  where
    by_end : (below : Bool) → (if below then look_wanted memory (home_of p stream) else Some (record { at = p.array; count = 16 * stream + 16 })) ≡ None
        → is_some (looked memory (home_of p stream)) ≡ true
    by_end true none = look_there memory (home_of p stream) none
    by_end false none = absurd (none-some _ (sym none))

pub front_lacks : (memory : Memory) (p : PipeState) (stream : ℕ) → IsWithinAddresses memory → LacksIt memory (front_wanted memory p stream)
front_lacks memory p stream ends = by_end (nat_lt (p.array + 16 * stream) (2 ^ 64)) refl
  where
    by_end : (below : Bool) → nat_lt (p.array + 16 * stream) (2 ^ 64) ≡ below
        → LacksIt memory (if below then look_wanted memory (home_of p stream) else Some (record { at = p.array; count = 16 * stream + 16 }))
    by_end true is = look_lacks memory (home_of p stream)
    by_end false is =
        let past = ltb-false (p.array + 16 * stream) (2 ^ 64) is in
        (omega arith, ap is_some (lacks memory p.array (16 * stream + 16) (16 * stream) (omega arith) (ends (p.array + 16 * stream) past)))

-- the same of a pipe with streams or without
pub ring_there : (memory : Memory) (p : PipeState) (stream : ℕ) → ring_wanted memory p stream ≡ None → is_some (looked memory (ring_home p stream)) ≡ true
ring_there memory p stream none = by_kind (p.streams == 0) none
  where
    by_kind : (alone : Bool) → (if alone then look_wanted memory (Endpoint p.array) else front_wanted memory p stream) ≡ None
        → is_some (looked memory (if alone then Endpoint p.array else home_of p stream)) ≡ true
    by_kind true none = look_there memory (Endpoint p.array) none
    by_kind false none = front_there memory p stream none

-- the gate is shut for want of memory only where the event's place isn't there
pub gate_lacks : (memory : Memory) (events : EventEnd) (consumer : Consumer) → gate memory events consumer ≡ None → has_place memory events ≡ false
unfolding gate room_gate
gate_lacks memory events consumer shut = by_tests (is_running consumer.state) consumer.rung (has_room events) (has_place memory events) refl shut
  where
    by_tests : (runs rung room place : Bool) → has_place memory events ≡ place
        → (if not runs then Some (Some Off) else if not rung then Some (Some Idle) else if not room then Some (Some Full) else if place then Some None else None) ≡ None
        → has_place memory events ≡ false
    by_tests false rung room place is shut = absurd (none-some _ (sym shut))
    by_tests true false room place is shut = absurd (none-some _ (sym shut))
    by_tests true true false place is shut = absurd (none-some _ (sym shut))
    by_tests true true true true is shut = absurd (none-some _ (sym shut))
    by_tests true true true false is shut = is

-- a step that lacks nothing isn't refused
pub step_there : {S : Type 0} (s : S) (w : World) (p : PipeState) (stream : ℕ) (part : Front → Option Range) (act : Front → S × Acted)
    → step_wanted w p stream part ≡ None
    → is_some (through s (gate w.memory w.events w.consumer) (option_map act (looked w.memory (home_of p stream)))) ≡ true
step_there s w p stream part act none =
    by_gate (gate w.memory w.events w.consumer) (looked w.memory (home_of p stream)) (front_there w.memory p stream) none
  where
    by_gate : (opens : Option (Option Acted)) (found : Option Front) → (front_wanted w.memory p stream ≡ None → is_some found ≡ true)
        → wanted_through opens w.events (wanted_of found (front_wanted w.memory p stream) part) ≡ None
        → is_some (through s opens (option_map act found)) ≡ true
    by_gate None found there none = absurd (none-some _ (sym none))
    by_gate (Some None) None there none = absurd (false≢true (there none))
    by_gate (Some None) (Some front) there none = refl
    by_gate (Some (Some acted)) found there none = refl

-- what a step lacks isn't there, where that holds of the parts of buffers
pub step_lacks : (w : World) (p : PipeState) (stream : ℕ) (part : Front → Option Range) → IsWithinAddresses w.memory
    → ((front : Front) → LacksIt w.memory (part front)) → LacksIt w.memory (step_wanted w p stream part)
step_lacks w p stream part ends parts =
    by_gate (gate w.memory w.events w.consumer) refl (looked w.memory (home_of p stream))
  where
    by_gate : (opens : Option (Option Acted)) → gate w.memory w.events w.consumer ≡ opens → (found : Option Front)
        → LacksIt w.memory (wanted_through opens w.events (wanted_of found (front_wanted w.memory p stream) part))
    by_gate None is found = (omega arith, gate_lacks w.memory w.events w.consumer is)
    by_gate (Some None) is None = front_lacks w.memory p stream ends
    by_gate (Some None) is (Some front) = parts front
    by_gate (Some (Some acted)) is found = tt
