-- The form of a ring's consumer.
use Rattle.std.specs.Prelude.{ℕ, zero, suc, Bool}
use Rattle.guest_pipes.specs.declared.consumer.Consumer.{Consumer}
use Rattle.guest_pipes.specs.declared.consumer.EndpointState.{EndpointState}
use Rattle.guest_pipes.specs.declared.consumer.EndpointState.TheVariants.{Disabled, Running, Halted, Stopped, Error}
use Rattle.guest_pipes.specs.declared.progress.Ending.{Ending}
use Rattle.guest_pipes.specs.declared.progress.Ending.TheVariants.{Runs, Told, Owed}
use Rattle.guest_pipes.specs.declared.progress.Progress.{Progress}
use Rattle.guest_pipes.specs.Progress.{code_of}
use Rattle.machine_bytes.specs.Forms.{Form, flag, mapped, named, nothing, number, pair, tagged}

-- an endpoint's state: 0 to 4
abbrev pub state_number : EndpointState → ℕ
state_number Disabled = 0
state_number Running = 1
state_number Halted = 2
state_number Stopped = 3
state_number Error = 4

abbrev pub state_at : ℕ → EndpointState
state_at zero = Disabled
state_at (suc zero) = Running
state_at (suc (suc zero)) = Halted
state_at (suc (suc (suc zero))) = Stopped
state_at (suc (suc (suc (suc k)))) = Error

abbrev pub state_form : Form EndpointState
state_form = named 5 state_number state_at

-- how a TD goes on: 0, it runs; 1 and a code, it was told; 2, it is owed
abbrev pub ending_number : Ending → ℕ
ending_number Runs = 0
ending_number (Told code) = 1
ending_number Owed = 2

abbrev pub ending_part : ℕ → Form Ending
ending_part zero = nothing Runs
ending_part (suc zero) = mapped (λ (code : ℕ). Told code) code_of (number 1)
ending_part (suc (suc k)) = nothing Owed

abbrev pub ending_form : Form Ending
ending_form = tagged 3 ending_number ending_part

-- what is opaque of a ring: moved (4), ending, EDTLA (4), begun, fed
abbrev pub progress_form : Form Progress
progress_form = mapped to from (pair (number 4) (pair ending_form (pair (number 4) (pair flag flag))))
  where
    to : ℕ × (Ending × (ℕ × (Bool × Bool))) → Progress
    to p = record { moved = p.0; ending = p.1.0; edtla = p.1.1.0; begun = p.1.1.1.0; fed = p.1.1.1.1 }

    from : Progress → ℕ × (Ending × (ℕ × (Bool × Bool)))
    from p = (p.moved, (p.ending, (p.edtla, (p.begun, p.fed))))

-- a consumer: endpoint, state, doorbell, progress
abbrev pub consumer_form : Form Consumer
consumer_form = mapped to from (pair (number 1) (pair state_form (pair flag progress_form)))
  where
    to : ℕ × (EndpointState × (Bool × Progress)) → Consumer
    to c = record { endpoint = c.0; state = c.1.0; rung = c.1.1.0; progress = c.1.1.1 }

    from : Consumer → ℕ × (EndpointState × (Bool × Progress))
    from c = (c.endpoint, (c.state, (c.rung, c.progress)))
