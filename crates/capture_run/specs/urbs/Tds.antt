-- What becomes of the TDs of a trace.
use Rattle.std.specs.Prelude.{ℕ, ◌+◌, ◌-◌, ◌^◌, ◌==◌, min, Bool, not, ◌&&◌, if◌then◌else◌, List, [], ◌∷◌, ◌++◌, map, filter, fold, Option, Some, None}
use Rattle.uas_profile.specs.declared.Pipe.{Pipe}
use Rattle.uas_profile.specs.declared.Pipe.TheVariants as pipe
use Rattle.uas_profile.specs.Pipes.{number_of}
use Rattle.capture_run.specs.declared.urbs.Begun.{Begun}
use Rattle.capture_run.specs.declared.urbs.Change.{Change}
use Rattle.capture_run.specs.declared.urbs.Change.TheVariants.{Submitted, Completed, Unlinked}
use Rattle.capture_run.specs.declared.urbs.News.{News}
use Rattle.capture_run.specs.declared.urbs.News.TheVariants.{Step, Put, Moved, Posted, Passed}
use Rattle.capture_run.specs.declared.urbs.Owner.{Owner}
use Rattle.capture_run.specs.declared.urbs.Td.{Td}

-- the step's number, whose TDs are put by it, the TD that isn't whole yet, the TDs under way in the order of their submission, and the
-- number of the next one
pub record Underway : Type 0 where
  pub step : ℕ
  pub owner : Owner
  pub begun : Option Begun
  pub under_way : List Td
  pub next : ℕ

-- before the first step; the numbers below 16 are left to control transfers
abbrev pub opening : Underway
opening = record { step = 0; owner = record { client = 0; ticket = 0 }; begun = None; under_way = []; next = 16 }

-- a sum of 32 or 64 bits, and the greatest number where there is no room
abbrev pub sum32 : ℕ → ℕ → ℕ
sum32 a b = min (a + b) (2 ^ 32 - 1)

abbrev pub sum64 : ℕ → ℕ → ℕ
sum64 a b = min (a + b) (2 ^ 64 - 1)

-- TDS

abbrev pub is_on : Pipe → ℕ → Td → Bool
is_on pipe stream td = (number_of td.pipe == number_of pipe) && (td.stream == stream)

abbrev pub ends_at : ℕ → Td → Bool
ends_at pointer td = td.last == pointer

-- the first TD for which a test holds
abbrev pub first_found : (Td → Bool) → Option Td → Td → Option Td
first_found test (Some found) td = Some found
first_found test None td = if test td then Some td else None

-- the first TD on a ring
unfoldable pub front : Pipe → ℕ → List Td → Option Td
front pipe stream under_way = fold (first_found (is_on pipe stream)) None under_way

-- the first TD with this address of its last TRB
unfoldable pub ending_at : ℕ → List Td → Option Td
ending_at pointer under_way = fold (first_found (ends_at pointer)) None under_way

abbrev pub is_other : ℕ → Td → Bool
is_other number td = not (td.number == number)

-- the TDs but the one of a number
unfoldable pub without : ℕ → List Td → List Td
without number under_way = filter (is_other number) under_way

-- a TD that moved so many bytes more, where it has this number
unfoldable pub td_moved : ℕ → ℕ → Td → Td
td_moved number length td = if td.number == number then record td { moved = sum32 td.moved length } else td

unfoldable pub with_moved : ℕ → ℕ → List Td → List Td
with_moved number length under_way = map (td_moved number length) under_way

-- how many bytes a TD moved whose event told of so many that were left: those of its chunks, where it moves data
unfoldable pub moved_of : Td → ℕ → ℕ
moved_of td residual = by_pipe td.pipe
  where
    by_pipe : Pipe → ℕ
    by_pipe pipe.Command = td.length - residual
    by_pipe pipe.Status = td.length - residual
    by_pipe pipe.DataIn = td.moved
    by_pipe pipe.DataOut = td.moved

-- NEWS

-- a step begins; one that nobody hands in leaves the owner
abbrev pub owner_or : Owner → Option Owner → Owner
owner_or before None = before
owner_or before (Some owner) = owner

unfoldable pub begin : Underway → Option Owner → Underway
begin desk owner = record desk { step = sum64 desk.step 1; owner = owner_or desk.owner owner }

-- a TRB more
unfoldable pub with_trb : Option Begun → ℕ → ℕ → Begun
with_trb None address length = record { first = address; length = length }
with_trb (Some begun) address length = record { first = begun.first; length = sum32 begun.length length }

-- the TD whose last TRB was put
unfoldable pub td_of : Underway → Pipe → ℕ → ℕ → Begun → Td
td_of desk pipe stream last begun = record {
  number = desk.next;
  pipe = pipe;
  stream = stream;
  owner = desk.owner;
  first = begun.first;
  last = last;
  length = begun.length;
  moved = 0;
}

unfoldable pub submit : Underway → Pipe → ℕ → ℕ → Begun → Underway × Option Change
submit desk pipe stream last begun =
    let td = td_of desk pipe stream last begun in
    (record desk { begun = None; under_way = desk.under_way ++ td ∷ []; next = sum64 desk.next 1 }, Some (Submitted td))

unfoldable pub put : Underway → Pipe → ℕ → ℕ → ℕ → Bool → Underway × Option Change
put desk pipe stream address length is_last =
    let begun = with_trb desk.begun address length in
    if is_last then submit desk pipe stream address begun else (record desk { begun = Some begun }, None)

abbrev pub moved_by : Underway → ℕ → Option Td → Underway
moved_by desk length None = desk
moved_by desk length (Some td) = record desk { under_way = with_moved td.number length desk.under_way }

-- the first TD on the ring moved bytes
unfoldable pub move_bytes : Underway → Pipe → ℕ → ℕ → Underway × Option Change
move_bytes desk pipe stream length = (moved_by desk length (front pipe stream desk.under_way), None)

abbrev pub ended : Underway → (Td → Change) → Option Td → Underway × Option Change
ended desk change None = (desk, None)
ended desk change (Some td) = (record desk { under_way = without td.number desk.under_way }, Some (change td))

-- the TD of which an event tells is completed
unfoldable pub complete : Underway → ℕ → ℕ → ℕ → Underway × Option Change
complete desk pointer residual code = ended desk (λ td. Completed td residual code) (ending_at pointer desk.under_way)

-- the first TD on a ring whose front was moved is taken off
unfoldable pub unlink : Underway → Pipe → ℕ → Underway × Option Change
unlink desk pipe stream = ended desk (λ td. Unlinked td) (front pipe stream desk.under_way)

-- the TDs under way after what a line tells, and what became of one
unfoldable pub taken : Underway → News → Underway × Option Change
taken desk (Step owner) = (begin desk owner, None)
taken desk (Put pipe stream address length is_last) = put desk pipe stream address length is_last
taken desk (Moved pipe stream length) = move_bytes desk pipe stream length
taken desk (Posted pointer residual code) = complete desk pointer residual code
taken desk (Passed pipe stream) = unlink desk pipe stream
