-- A step that lacks nothing isn't refused, and what it lacks isn't there.
use Rattle.std.proofs.Common.{◌≡◌, ℕ, ◌==◌, ◌&&◌, ◌||◌, not, Bool, true, false, nat_le, List, Option, Some, None, refl, sym, ap, ◌∙◌, arith}
use Rattle.std.proofs.lemmas.Option.{none-some}
use Rattle.std.specs.Prelude.{is_some, option_map, if◌then◌else◌}
use Rattle.byteorder.specs.Endian.{little_number}
use Rattle.guest_memory.specs.Bytes.{Memory, bytes_from}
use Rattle.guest_memory.specs.declared.rings.cursor.Cursor.{Cursor}
use Rattle.guest_memory.specs.declared.rings.context.Home.TheVariants.{Endpoint}
use Rattle.guest_memory.specs.declared.rings.trb.PipeTrb.{PipeTrb}
use Rattle.guest_memory.specs.declared.rings.trb.PipeTrb.TheVariants.{Normal, Link, NoOp, EventData, Foreign}
use Rattle.guest_memory.specs.declared.rings.words.Words.{Words}
use Rattle.guest_memory.specs.rings.Ends.{cursor_in, fetched, looked, owned}
use Rattle.guest_memory.specs.rings.Wanted.{LacksIt, look_wanted, missing}
use Rattle.guest_memory.specs.rings.WantedLaws.{look_there, map_some, missing_lacks}
use Rattle.guest_pipes.specs.declared.acted.Acted.{Acted}
use Rattle.guest_pipes.specs.Gate.{gate}
use Rattle.guest_pipes.specs.Progress.{runs}
use Rattle.guest_pipes.specs.Wanted.{wanted_through}
use Rattle.guest_pipes.specs.WantedLaws.{gate_lacks}
use Rattle.xhci_control.specs.declared.pipe.ControlPipe.{ControlPipe}
use Rattle.xhci_control.specs.declared.trb.ControlTrb.{ControlTrb}
use Rattle.xhci_control.specs.declared.trb.ControlTrb.TheVariants.{SetupStage, DataStage, StatusStage, Other}
use Rattle.xhci_control.specs.Stages.{is_data, stalls, takes}
use Rattle.xhci_control.specs.Steps.{ControlWorld, after, control_stop_told, control_stopped, cursor_at, is_in_data, served_by, stepped, taken_by, through}
use Rattle.xhci_control.specs.Trbs.{control_in}
use Rattle.xhci_control.specs.Wanted.{control_wanted, data_wanted, front_wanted, given_range, moved_wanted, other_wanted, trb_wanted, trb_wanted_by, words_wanted}

pub control_there : (fault : Option ℕ) (w : ControlWorld) → control_wanted fault w ≡ None → is_some (stepped fault w).1 ≡ true
control_there fault w none = by_gate (gate w.memory w.events w.pipe.consumer) none
  where
    by_words : (cursor : Cursor) (words : Option (Option Words)) → words_wanted fault w.memory w.pipe cursor words ≡ None
        → is_some (after w (option_map (taken_by fault w cursor) words)).1 ≡ true
    by_words cursor None none = absurd (none-some _ (sym none))
    by_words cursor (Some words) none = refl

    by_cursor : (cursor : Option Cursor) → front_wanted fault w.memory w.pipe cursor ≡ None → is_some (after w (served_by fault w cursor)).1 ≡ true
    by_cursor None none = absurd (none-some _ (sym none))
    by_cursor (Some cursor) none = by_words cursor (fetched w.memory cursor) none

    by_gate : (opens : Option (Option Acted))
        → wanted_through opens w.events (front_wanted fault w.memory w.pipe (cursor_at w.memory w.pipe.home)) ≡ None → is_some (after w (through fault w opens)).1 ≡ true
    by_gate None none = absurd (none-some _ (sym none))
    by_gate (Some None) none = by_cursor (cursor_at w.memory w.pipe.home) none
    by_gate (Some (Some acted)) none = refl

pub stop_there : (w : ControlWorld) → look_wanted w.memory (Endpoint w.pipe.home) ≡ None → is_some (control_stopped w) ≡ true
stop_there w none = map_some (control_stop_told w) (looked w.memory (Endpoint w.pipe.home)) ∙ look_there w.memory (Endpoint w.pipe.home) none

moved_lacks : (memory : Memory) (pipe : ControlPipe) (pointer room : ℕ) → LacksIt memory (moved_wanted memory pipe pointer room)
moved_lacks memory pipe pointer room = by_tests (runs pipe.consumer.progress.ending) (room == 0 || takes pipe.stage)
  where
    by_tests : (moves ends : Bool) → LacksIt memory (if not moves then None else if ends then None else missing memory (given_range pipe pointer room) None)
    by_tests false ends = tt
    by_tests true true = tt
    by_tests true false = missing_lacks memory (given_range pipe pointer room) None tt

data_lacks : (memory : Memory) (pipe : ControlPipe) (pointer room : ℕ) (to_host : Bool) → LacksIt memory (data_wanted memory pipe pointer room to_host)
data_lacks memory pipe pointer room to_host = by_tests (is_data pipe.stage) (stalls pipe.stage) to_host
  where
    by_tests : (data_comes refuses goes : Bool)
        → LacksIt memory (if not data_comes then None else if refuses then None else if goes then moved_wanted memory pipe pointer room else None)
    by_tests false refuses goes = tt
    by_tests true true goes = tt
    by_tests true false true = moved_lacks memory pipe pointer room
    by_tests true false false = tt

other_lacks : (memory : Memory) (pipe : ControlPipe) (trb : PipeTrb) → LacksIt memory (other_wanted memory pipe trb)
other_lacks memory pipe (Normal pointer room flags) = by_test (is_in_data pipe && nat_le room 65536)
  where
    by_test : (moves : Bool) → LacksIt memory (if moves then moved_wanted memory pipe pointer room else None)
    by_test true = moved_lacks memory pipe pointer room
    by_test false = tt
other_lacks memory pipe (Link pointer toggle flags) = tt
other_lacks memory pipe (NoOp flags) = tt
other_lacks memory pipe (EventData parameter flags) = tt
other_lacks memory pipe Foreign = tt

trb_lacks : (memory : Memory) (pipe : ControlPipe) (trb : ControlTrb) → LacksIt memory (trb_wanted memory pipe trb)
trb_lacks memory pipe (SetupStage setup flags) = tt
trb_lacks memory pipe (DataStage pointer room to_host flags) = data_lacks memory pipe pointer room to_host
trb_lacks memory pipe (StatusStage flags) = tt
trb_lacks memory pipe (Other trb) = other_lacks memory pipe trb

trb_by_lacks : (fault : Option ℕ) (memory : Memory) (pipe : ControlPipe) (trb : ControlTrb) → LacksIt memory (trb_wanted_by fault memory pipe trb)
trb_by_lacks None memory pipe trb = trb_lacks memory pipe trb
trb_by_lacks (Some code) memory pipe trb = tt

words_lacks : (fault : Option ℕ) (memory : Memory) (pipe : ControlPipe) (cursor : Cursor)
    → LacksIt memory (words_wanted fault memory pipe cursor (fetched memory cursor))
unfolding fetched
words_lacks fault memory pipe cursor = by_bytes (bytes_from memory cursor.place 16) refl
  where
    by_owned : (words : Option Words) → LacksIt memory (words_wanted fault memory pipe cursor (Some words))
    by_owned None = tt
    by_owned (Some words) = trb_by_lacks fault memory pipe (control_in words)

    by_bytes : (bytes : Option (List ℕ)) → bytes_from memory cursor.place 16 ≡ bytes
        → LacksIt memory (words_wanted fault memory pipe cursor (option_map (owned cursor.cycle) bytes))
    by_bytes None is = (omega arith, ap is_some is)
    by_bytes (Some bytes) is = by_owned (owned cursor.cycle bytes)

pub control_lacks : (fault : Option ℕ) (w : ControlWorld) → LacksIt w.memory (control_wanted fault w)
control_lacks fault w = by_gate (gate w.memory w.events w.pipe.consumer) refl
  where
    by_bytes : (bytes : Option (List ℕ)) → bytes_from w.memory w.pipe.home 8 ≡ bytes
        → LacksIt w.memory (front_wanted fault w.memory w.pipe (option_map cursor_in (option_map (little_number 8) bytes)))
    by_bytes None is = (omega arith, ap is_some is)
    by_bytes (Some bytes) is = words_lacks fault w.memory w.pipe (cursor_in (little_number 8 bytes))

    by_gate : (opens : Option (Option Acted)) → gate w.memory w.events w.pipe.consumer ≡ opens
        → LacksIt w.memory (wanted_through opens w.events (front_wanted fault w.memory w.pipe (cursor_at w.memory w.pipe.home)))
    by_gate None is = (omega arith, gate_lacks w.memory w.events w.pipe.consumer is)
    by_gate (Some None) is = by_bytes (bytes_from w.memory w.pipe.home 8) refl
    by_gate (Some (Some acted)) is = tt
