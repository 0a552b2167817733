-- The form of a pipe with streams or without.
use Rattle.std.specs.Prelude.{ℕ, ◌==◌, nat_le, Bool, false, not, ◌&&◌, List, [], ◌∷◌}
use Rattle.guest_pipes.specs.declared.consumer.EndpointState.{EndpointState}
use Rattle.guest_pipes.specs.declared.pipe.saved.PipeHead.{PipeHead}
use Rattle.guest_pipes.specs.declared.progress.Progress.{Progress}
use Rattle.guest_pipes.specs.Pipe.{PipeState}
use Rattle.guest_pipes.specs.Progress.{fresh, runs}
use Rattle.machine_bytes.specs.Forms.{Form, checked, flag, mapped, number, pair}
use Rattle.machine_bytes.specs.Sparse.{PlaceForm, sparse}
use Rattle.controller_bytes.specs.Consumers.{progress_form, state_form}

-- how many stream contexts there are, at most 256
abbrev pub streams_form : Form ℕ
streams_form = checked (λ streams. nat_le streams 256) (number 2)

-- endpoint, state, the address of its stream contexts (8), how many there are (2), and whether a doorbell rang for a stream that
-- isn't there
abbrev pub head_form : Form PipeHead
head_form = mapped to from (pair (number 1) (pair state_form (pair (number 8) (pair streams_form flag))))
  where
    to : ℕ × (EndpointState × (ℕ × (ℕ × Bool))) → PipeHead
    to h = record { endpoint = h.0; state = h.1.0; array = h.1.1.0; streams = h.1.1.1.0; invalid = h.1.1.1.1 }

    from : PipeHead → ℕ × (EndpointState × (ℕ × (ℕ × Bool)))
    from h = (h.endpoint, (h.state, (h.array, (h.streams, h.invalid))))

-- a ring: whether its doorbell is rung, and what is opaque of it
abbrev pub Ring : Type 0
Ring = Bool × Progress

abbrev pub ring_form : Form Ring
ring_form = pair flag progress_form

-- a ring that has nothing
abbrev pub quiet_ring : Ring
quiet_ring = (false, fresh)

-- at a TD's start
abbrev pub is_fresh : Progress → Bool
is_fresh p = (p.moved == 0) && (runs p.ending && ((p.edtla == 0) && (not p.begun && not p.fed)))

abbrev pub is_quiet : Ring → Bool
is_quiet ring = not ring.0 && is_fresh ring.1

abbrev pub ring_place : PlaceForm Ring
ring_place = record { form = ring_form; is_fresh = is_quiet }

-- all rings of a pipe, by stream
abbrev pub rings_form : Form (List Ring)
rings_form = sparse 256 quiet_ring ring_place

abbrev pub doorbells_of : List Ring → List Bool
doorbells_of [] = []
doorbells_of (ring ∷ rings) = ring.0 ∷ doorbells_of rings

abbrev pub progresses_of : List Ring → List Progress
progresses_of [] = []
progresses_of (ring ∷ rings) = ring.1 ∷ progresses_of rings

abbrev pub rings_of : List Bool → List Progress → List Ring
rings_of [] progresses = []
rings_of (rung ∷ doorbells) [] = []
rings_of (rung ∷ doorbells) (progress ∷ progresses) = (rung, progress) ∷ rings_of doorbells progresses

abbrev pub head_of : PipeState → PipeHead
head_of p = record { endpoint = p.endpoint; state = p.state; array = p.array; streams = p.streams; invalid = p.invalid }

abbrev pub pipe_in : PipeHead × List Ring → PipeState
pipe_in p = record {
  endpoint = p.0.endpoint;
  state = p.0.state;
  array = p.0.array;
  streams = p.0.streams;
  invalid = p.0.invalid;
  rung = doorbells_of p.1;
  progress = progresses_of p.1;
}

-- a pipe: what it is beside its rings, and those of them that aren't quiet
abbrev pub pipe_form : Form PipeState
pipe_form = mapped pipe_in (λ p. (head_of p, rings_of p.rung p.progress)) (pair head_form rings_form)
