-- The form of the four pipes.
use Rattle.std.specs.Prelude.{ℕ, List}
use Rattle.guest_pipes.specs.declared.consumer.Consumer.{Consumer}
use Rattle.guest_pipes.specs.Pipe.{PipeState}
use Rattle.guest_transfers.specs.declared.slot.Slot.{Slot}
use Rattle.guest_transfers.specs.State.{TransfersState}
use Rattle.machine_bytes.specs.Forms.{Form, mapped, number, pair}
use Rattle.controller_bytes.specs.Consumers.{consumer_form}
use Rattle.controller_bytes.specs.Pipes.{pipe_form}
use Rattle.controller_bytes.specs.Tags.{chunk_form}

-- the command pipe's consumer, the address of its dequeue pointer and what it gathered; status, data-out and data-in
pub record PipesState : Type 0 where
  pub command : Consumer
  pub home : ℕ
  pub gathered : List ℕ
  pub status : PipeState
  pub data_out : PipeState
  pub data_in : PipeState

-- the command pipe: consumer, the address of its dequeue pointer (8), what it gathered; status, data-out and data-in
abbrev pub pipes_form : Form PipesState
pipes_form = mapped to from (pair consumer_form (pair (number 8) (pair chunk_form (pair pipe_form (pair pipe_form pipe_form)))))
  where
    to : Consumer × (ℕ × (List ℕ × (PipeState × (PipeState × PipeState)))) → PipesState
    to t = record { command = t.0; home = t.1.0; gathered = t.1.1.0; status = t.1.1.1.0; data_out = t.1.1.1.1.0; data_in = t.1.1.1.1.1 }

    from : PipesState → Consumer × (ℕ × (List ℕ × (PipeState × (PipeState × PipeState))))
    from t = (t.command, (t.home, (t.gathered, (t.status, (t.data_out, t.data_in)))))

-- the pipes of all that is kept, and all that is kept of pipes and tags
abbrev pub pipes_in : TransfersState → PipesState
pipes_in t = record { command = t.command; home = t.home; gathered = t.gathered; status = t.status; data_out = t.data_out; data_in = t.data_in }

abbrev pub transfers_of : PipesState → List Slot → TransfersState
transfers_of p tags = record {
  command = p.command;
  home = p.home;
  gathered = p.gathered;
  status = p.status;
  data_out = p.data_out;
  data_in = p.data_in;
  tags = tags;
}
