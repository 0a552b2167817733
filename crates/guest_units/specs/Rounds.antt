-- The calls of a round, turn by turn, and those of a call of `work`.
use Rattle.std.specs.Prelude.{◌≡◌, ℕ, zero, suc, ◌<◌, Bool, true, false, List, [], ◌++◌}
use Rattle.marks.specs.Marks.{is_marked}
use Rattle.units_apart.specs.Calls.{Call}
use Rattle.xhci_machine.specs.declared.work.Worked.{Worked}
use Rattle.guest_transfers.specs.declared.control.StreamPipe.TheVariants.{Status, DataOut, DataIn}
use Rattle.xhci_machine.specs.Rounds.{Turning, command_pipe_stepped, control_stepped, data_of, front_turned, settled_in, status_of, then_commands, then_control, then_port, then_stray, turned}
use Rattle.xhci_machine.specs.Turns.{World}
use Rattle.xhci_machine.specs.Worked.{dropped_at, is_busy, round_turned, tags_turned}
use Rattle.guest_units.specs.Turns.{IsAnswerOn, IsDataOn, IsEnd, IsUnitIn, StrayMakes, TurnMakes}

-- some calls, and behind them others
abbrev pub Both : (List Call → Type 0) → (List Call → Type 0) → List Call → Type 0
Both First Then calls = (first : List Call) × (rest : List Call) × First first × Then rest × (calls ≡ first ++ rest)

-- the command pipe's turn, where memory was there up to it
abbrev pub then_unit : Turning → Turning
then_unit (at, false) = (at, false)
then_unit (at, true) = turned at.1 at.0 (command_pipe_stepped at.0)

-- Bulk-Out, and then Bulk-In, behind a status pipe that makes no call
abbrev pub StraysMake : Turning → List Call → Type 0
StraysMake pipe =
    Both (StrayMakes Status pipe)
    (Both (StrayMakes DataOut (then_stray Status pipe)) (StrayMakes DataIn (then_stray DataOut (then_stray Status pipe))))

-- endpoint 0, the command pipe, and then those; the turns before these make no call
abbrev pub FrontMakes : World × ℕ → List Call → Type 0
FrontMakes at =
    let control = then_control (then_commands (then_port (settled_in at.1 at.0))) in
    Both (TurnMakes (λ w. IsEnd) control_stepped (then_commands (then_port (settled_in at.1 at.0))))
    (Both (TurnMakes IsUnitIn command_pipe_stepped control) (StraysMake (then_unit control)))

-- the data of a tag, and then its status
abbrev pub BusyMakes : Bool → ℕ → World × ℕ → List Call → Type 0
BusyMakes false tag at = λ calls. calls ≡ []
BusyMakes true tag at =
    Both (TurnMakes (λ w. IsDataOn tag) (λ w. data_of w tag) (at, true))
    (TurnMakes (λ w. IsAnswerOn tag) (λ w. status_of w tag) (turned at.1 at.0 (data_of at.0 tag)))

-- of a tag that is active and has something to do
abbrev pub ActiveMakes : Bool → ℕ → World × ℕ → List Call → Type 0
ActiveMakes false tag at = λ calls. calls ≡ []
ActiveMakes true tag at = BusyMakes (is_busy (dropped_at at.0 tag).machine tag) tag (dropped_at at.0 tag, at.1)

abbrev pub TagMakes : ℕ → Turning → List Call → Type 0
TagMakes tag (at, false) = λ calls. calls ≡ []
TagMakes tag (at, true) = ActiveMakes (is_marked at.0.machine.device.active tag) tag at

-- the tags below one, in their order
abbrev pub TagsMake : ℕ → Turning → List Call → Type 0
TagsMake zero before = λ calls. calls ≡ []
TagsMake (suc tag) before = Both (TagsMake tag before) (TagMakes tag (tags_turned tag before))

abbrev pub RoundMakes : World × ℕ → List Call → Type 0
RoundMakes at = Both (FrontMakes at) (TagsMake 241 (front_turned at.1 at.0))

-- so many rounds, each of which took a step
abbrev pub RoundsMake : ℕ → World × ℕ → World × ℕ → List Call → Type 0
RoundsMake zero at now = λ calls. (now ≡ at) × (calls ≡ [])
RoundsMake (suc n) at now = λ calls.
    (before : World × ℕ) × ((now, true) ≡ round_turned before) × (now.1 < before.1) × Both (RoundsMake n at before) (RoundMakes before) calls

-- where the budget isn't used up, a last round, which takes no step or finds that memory isn't there
abbrev pub LastMakes : Bool → World × ℕ → List Call → Type 0
LastMakes true at = λ calls. calls ≡ []
LastMakes false at = RoundMakes at

-- THE CALLS OF `work`, with this budget and what it tells
abbrev pub WorkMakes : ℕ → World → Worked → List Call → Type 0
WorkMakes budget w worked = λ calls.
    (rounds : ℕ) × (at : World × ℕ) × Both (RoundsMake rounds (w, budget) at) (LastMakes worked.more at) calls
