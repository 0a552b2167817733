-- What commands and doorbells make of the pipes.
use Rattle.std.specs.Prelude.{ℕ, ◌==◌, true, if◌then◌else◌}
use Rattle.guest_pipes.specs.declared.consumer.EndpointState.{EndpointState}
use Rattle.guest_pipes.specs.declared.consumer.EndpointState.TheVariants.{Disabled, Running, Halted, Stopped, Error}
use Rattle.guest_pipes.specs.declared.consumer.Consumer.{Consumer}
use Rattle.guest_pipes.specs.Pipe.{rung_by}
use Rattle.guest_transfers.specs.State.{TransfersState}

-- the command pipe's doorbell
abbrev pub consumer_rung : EndpointState → Consumer → Consumer
consumer_rung Disabled c = c
consumer_rung Running c = record c { rung = true }
consumer_rung Halted c = c
consumer_rung Stopped c = record c { state = Running; rung = true }
consumer_rung Error c = c

-- a doorbell by the endpoint's ID: 2 is the command pipe, 3 status, 4 data-out, 5 data-in
abbrev pub rung_at : TransfersState → ℕ → ℕ → TransfersState
rung_at t endpoint stream =
    if endpoint == 2 then record t { command = consumer_rung t.command.state t.command }
    else if endpoint == 3 then record t { status = rung_by t.status.state t.status stream }
    else if endpoint == 4 then record t { data_out = rung_by t.data_out.state t.data_out stream }
    else if endpoint == 5 then record t { data_in = rung_by t.data_in.state t.data_in stream }
    else t
