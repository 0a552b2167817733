-- The endpoint contexts of the pipes are apart.
use Rattle.std.proofs.Common.{◌≡◌, ℕ, ◌+◌, ◌*◌, ◌%◌, ◌≤◌, arith, refl}
use Rattle.uas_profile.specs.declared.Pipe.{Pipe}
use Rattle.uas_profile.specs.declared.Pipe.TheVariants.{Command, Status, DataIn, DataOut}
use Rattle.usb_descriptors.specs.declared.Endpoint.{Endpoint}
use Rattle.usb_descriptors.specs.declared.Pipes.{Pipes}
use Rattle.usb_descriptors.specs.Endpoints.{FitsEndpoint, context_index, direction_of}
use Rattle.usb_descriptors.specs.Pipes.{ContextsApart, FitsPipes}

-- an index by the address
record IsIndex (e : Endpoint) (direction : ℕ) : Type 0 where
  address : e.address ≡ 128 * direction + e.address % 16
  number : 1 ≤ e.address % 16
  index : context_index e ≡ 2 * (e.address % 16) + direction

index_of : (pipe : Pipe) (e : Endpoint) (direction : ℕ) → direction_of pipe ≡ direction → FitsEndpoint pipe e → IsIndex e direction
index_of pipe e direction way fits =
    let same : e.address % 16 ≡ e.address % 128 = omega (arith, fits.most_number) in
    record {
      address = omega (arith, same, fits.direction, way);
      number = omega (arith, same, fits.least_number);
      index = omega (arith, fits.direction, way);
    }

pub contexts_apart : (pipes : Pipes) → FitsPipes pipes → ContextsApart pipes
contexts_apart pipes fits =
    let command = index_of Command pipes.command 0 refl fits.command in
    let status = index_of Status pipes.status 1 refl fits.status in
    let data_in = index_of DataIn pipes.data_in 1 refl fits.data_in in
    let data_out = index_of DataOut pipes.data_out 0 refl fits.data_out in
    record {
      command = omega (arith, command.index, command.number);
      status = omega (arith, status.index, status.number);
      data_in = omega (arith, data_in.index, data_in.number);
      data_out = omega (arith, data_out.index, data_out.number);
      command_status = λ e. omega (arith, e, command.index, status.index);
      command_data_in = λ e. omega (arith, e, command.index, data_in.index);
      command_data_out = λ e. fits.out_apart (omega (arith, e, command.index, data_out.index, command.address, data_out.address));
      status_data_in = λ e. fits.in_apart (omega (arith, e, status.index, data_in.index, status.address, data_in.address));
      status_data_out = λ e. omega (arith, e, status.index, data_out.index);
      data_in_data_out = λ e. omega (arith, e, data_in.index, data_out.index);
    }
