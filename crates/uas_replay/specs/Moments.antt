-- The moments of a script, in the order in which its run makes them: of each line, of a drain's tries, and of the replies that
-- are taken behind them. They are a function of the number of tags, the units and the lines, whoever watches.
use Rattle.std.specs.Prelude.{ℕ, zero, suc, ◌==◌, if◌then◌else◌, List, [], ◌∷◌, ◌++◌, length, fold}
use Rattle.block_unit.specs.BlockMaps.{BlockMaps}
use Rattle.shared_machine.specs.declared.Step.{Step}
use Rattle.shared_machine.specs.declared.Step.TheVariants as step
use Rattle.shared_machine.specs.Shared.{Shared, due, greatest_tag}
use Rattle.shared_machine.specs.Drain.{round, tried_one, tries as tries_of}
use Rattle.uas_script.specs.declared.Line.{Line}
use Rattle.uas_script.specs.declared.Line.TheVariants as line
use Rattle.uas_replay.specs.declared.replay.Handed.TheVariants as hand
use Rattle.uas_replay.specs.Told.{Telling, drain_limit, drained_machine, is_due, opening_run, taken_below, taken_times, told_line}
use Rattle.uas_replay.specs.Walks.{Moment, hands, takes, tries}

-- A DRAIN

-- A try of a drain, of which so many more may act: a moment where the step is due, else none.
abbrev pub try_moments : Shared × ℕ → Step → List Moment
try_moments now step = if now.1 == 0 then [] else (if due now.0 step then tries step ∷ [] else [])

-- a list of tries, one after another
abbrev pub tried_moments : Shared × ℕ → List Step → List Moment
tried_moments now [] = []
tried_moments now (step ∷ steps) = try_moments now step ++ tried_moments (tried_one now step) steps

-- a whole round: the tries of the bus's own drain, in its order
unfoldable pub round_moments : Shared × ℕ → List Moment
round_moments now = tried_moments now (tries_of (greatest_tag now.0))

-- rounds, until nothing acts or no more step may act
unfoldable pub rounds_moments : ℕ → Shared × ℕ → List Moment
rounds_moments zero now = []
rounds_moments (suc more) now =
    let after = round now in
    round_moments now ++ (if after.1 == 0 then [] else (if after.1 == now.1 then [] else rounds_moments more after))

-- the drain, of so many steps at most
unfoldable pub drain_moments : Shared → ℕ → List Moment
drain_moments machine limit = rounds_moments (suc limit) (machine, limit)

-- REPLIES

-- a client takes a reply, where one is ready
unfoldable pub take_moments : Telling → ℕ → List Moment
take_moments run client = if is_due run.machine (step.Take client) then takes client ∷ [] else []

-- so many times at most
abbrev pub takes_moments : ℕ → Telling → ℕ → List Moment
takes_moments zero run client = []
takes_moments (suc times) run client = takes_moments times run client ++ take_moments (taken_times times run client) client

-- until none is ready
unfoldable pub all_takes_of : Telling → ℕ → List Moment
all_takes_of run client = takes_moments run.machine.tags run client

-- the clients below this number, by rising number
abbrev pub takes_below : ℕ → Telling → List Moment
takes_below zero run = []
takes_below (suc client) run = takes_below client run ++ all_takes_of (taken_below client run) client

unfoldable pub all_takes : Telling → List Moment
all_takes run = takes_below (length run.ranges) run

-- LINES

-- the line `drain`
unfoldable pub drained_moments : Telling → List Moment
drained_moments run = drain_moments run.machine drain_limit ++ all_takes (record run { machine = drained_machine run.machine drain_limit })

unfoldable pub line_moments : Telling → Line → List Moment
line_moments run (line.Submit client request) = hands client (hand.Command request) ∷ []
line_moments run (line.Task client task) = hands client (hand.Task task) ∷ []
line_moments run line.CommandPipe = tries step.CommandPipe ∷ []
line_moments run line.Engine = tries step.Engine ∷ []
line_moments run line.Event = tries step.Event ∷ []
line_moments run (line.Data tag) = tries (step.Data tag) ∷ []
line_moments run (line.Status tag) = tries (step.Status tag) ∷ []
line_moments run (line.Retire pipe tag) = tries (step.Retire pipe tag) ∷ []
line_moments run (line.Take client) = takes client ∷ []
line_moments run line.Drain = drained_moments run

abbrev pub lines_moments : Telling → List Line → List Moment
lines_moments run [] = []
lines_moments run (line ∷ lines) = line_moments run line ++ lines_moments (told_line run line) lines

-- lines, and the drain that follows the last one
abbrev pub whole_moments : Telling → List Line → List Moment
whole_moments run lines = lines_moments run lines ++ drained_moments (fold told_line run lines)

-- the moments of a script on these units, with so many tags of each client
abbrev pub moments_of : ℕ → List BlockMaps → List Line → List Moment
moments_of tags units lines = whole_moments (opening_run tags units) lines
