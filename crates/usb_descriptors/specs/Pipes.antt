-- The pipes of a setting (INCITS 471, pipe usage).
use Rattle.std.specs.Prelude.{◌≢◌, ◌≤◌, ℕ, ◌==◌, ◌&&◌, ◌||◌, nat_le, Bool, if◌then◌else◌, List, [], ◌∷◌, length, slice_index, Option, None, Some, IfSome, is_some, Result, Ok, Err}
use Rattle.std.specs.List.{find}
use Rattle.uas_profile.specs.declared.Pipe.{Pipe}
use Rattle.uas_profile.specs.declared.Pipe.TheVariants.{Command, Status, DataIn, DataOut}
use Rattle.usb_descriptors.specs.declared.Endpoint.{Endpoint}
use Rattle.usb_descriptors.specs.declared.Pipes.{Pipes}
use Rattle.usb_descriptors.specs.declared.gathering.Found.{Found}
use Rattle.usb_descriptors.specs.declared.DescriptorFault.{DescriptorFault}
use Rattle.usb_descriptors.specs.declared.DescriptorFault.TheVariants.{BadPipes}
use Rattle.usb_descriptors.specs.Cutting.{kind_of}
use Rattle.usb_descriptors.specs.Endpoints.{FitsEndpoint, context_index, endpoint_of}

-- which descriptors these are; a usage has four bytes at least, and a shorter one of its type is none
abbrev pub is_interface : List ℕ → Bool
is_interface descriptor = kind_of descriptor == 4

abbrev pub is_endpoint : List ℕ → Bool
is_endpoint descriptor = kind_of descriptor == 5

abbrev pub is_of : ℕ → ℕ → List ℕ → Bool
is_of kind least descriptor = (kind_of descriptor == kind) && nat_le least (length descriptor)

abbrev pub is_companion : List ℕ → Bool
is_companion descriptor = is_of 0x30 6 descriptor

abbrev pub is_usage : List ℕ → Bool
is_usage descriptor = is_of 0x24 4 descriptor

-- the descriptors before the first that passes
abbrev pub before : (List ℕ → Bool) → List (List ℕ) → List (List ℕ)
before passes [] = []
before passes (d ∷ ds) = if passes d then [] else d ∷ before passes ds

-- the descriptors of a setting: those behind its interface, up to the next one
abbrev pub setting_of : List (List ℕ) → List (List ℕ)
setting_of ds = before is_interface ds

-- what is an endpoint's own, of the descriptors behind it: those up to the next endpoint
abbrev pub own_of : List (List ℕ) → List (List ℕ)
own_of ds = before is_endpoint ds

-- an endpoint with its own
pub record Group : Type 0 where
  pub endpoint : List ℕ
  pub own : List (List ℕ)

abbrev pub groups : List (List ℕ) → List Group
groups [] = []
groups (d ∷ ds) = if is_endpoint d then record { endpoint = d; own = own_of ds } ∷ groups ds else groups ds

-- the pipe of bPipeID
abbrev pub pipe_of : ℕ → Option Pipe
pipe_of id =
    if id == 1 then Some Command
    else (if id == 2 then Some Status
    else (if id == 3 then Some DataIn
    else (if id == 4 then Some DataOut
    else None)))

-- the endpoint of each pipe, as far as they are found
abbrev pub nothing_found : Found
nothing_found = record { command = None; status = None; data_in = None; data_out = None }

abbrev pub found_at : Found → Pipe → Option Endpoint
found_at found Command = found.command
found_at found Status = found.status
found_at found DataIn = found.data_in
found_at found DataOut = found.data_out

abbrev pub with_found : Found → Pipe → Endpoint → Found
with_found found Command endpoint = record found { command = Some endpoint }
with_found found Status endpoint = record found { status = Some endpoint }
with_found found DataIn endpoint = record found { data_in = Some endpoint }
with_found found DataOut endpoint = record found { data_out = Some endpoint }

-- a pipe's endpoint put to those found: each pipe is there once
abbrev pub put : Found → Pipe → Result Endpoint DescriptorFault → Result Found DescriptorFault
put found pipe (Err fault) = Err fault
put found pipe (Ok endpoint) = if is_some (found_at found pipe) then Err BadPipes else Ok (with_found found pipe endpoint)

-- one more endpoint: without a usage it is no pipe; a usage has one of the four numbers
abbrev pub by_pipe : Found → Group → Option Pipe → Result Found DescriptorFault
by_pipe found group None = Err BadPipes
by_pipe found group (Some pipe) = put found pipe (endpoint_of group.endpoint pipe (find is_companion group.own))

abbrev pub by_usage : Found → Group → Option (List ℕ) → Result Found DescriptorFault
by_usage found group None = Ok found
by_usage found group (Some usage) = by_pipe found group (pipe_of (slice_index usage 2))

abbrev pub with_group : Found → Group → Result Found DescriptorFault
with_group found group = by_usage found group (find is_usage group.own)

-- all endpoints, up to the first that is refused
abbrev pub gathered : Result Found DescriptorFault → List Group → Result Found DescriptorFault
gathered (Err fault) groups = Err fault
gathered (Ok found) [] = Ok found
gathered (Ok found) (group ∷ groups) = gathered (with_group found group) groups

-- all four, of which no two are one endpoint: those of one direction have different addresses
abbrev pub apart : Pipes → Result Pipes DescriptorFault
apart pipes =
    if (pipes.command.address == pipes.data_out.address) || (pipes.status.address == pipes.data_in.address) then Err BadPipes else Ok pipes

abbrev pub all_four : Option Endpoint → Option Endpoint → Option Endpoint → Option Endpoint → Result Pipes DescriptorFault
all_four (Some command) (Some status) (Some data_in) (Some data_out) =
    apart (record { command = command; status = status; data_in = data_in; data_out = data_out })
all_four _ _ _ _ = Err BadPipes

abbrev pub whole : Result Found DescriptorFault → Result Pipes DescriptorFault
whole (Err fault) = Err fault
whole (Ok found) = all_four found.command found.status found.data_in found.data_out

-- the pipes in the descriptors of a setting
abbrev pub pipes_of : List (List ℕ) → Result Pipes DescriptorFault
pipes_of ds = whole (gathered (Ok nothing_found) (groups ds))

-- what is so of those found
pub record FitsFound (found : Found) : Type 0 where
  pub command : IfSome found.command (FitsEndpoint Command)
  pub status : IfSome found.status (FitsEndpoint Status)
  pub data_in : IfSome found.data_in (FitsEndpoint DataIn)
  pub data_out : IfSome found.data_out (FitsEndpoint DataOut)

-- what is so of the pipes
pub record FitsPipes (pipes : Pipes) : Type 0 where
  pub command : FitsEndpoint Command pipes.command
  pub status : FitsEndpoint Status pipes.status
  pub data_in : FitsEndpoint DataIn pipes.data_in
  pub data_out : FitsEndpoint DataOut pipes.data_out
  pub out_apart : pipes.command.address ≢ pipes.data_out.address
  pub in_apart : pipes.status.address ≢ pipes.data_in.address

-- the endpoint contexts of the pipes: none is that of the slot (0) or of endpoint 0 (1), and no two are one
pub record ContextsApart (pipes : Pipes) : Type 0 where
  pub command : 2 ≤ context_index pipes.command
  pub status : 2 ≤ context_index pipes.status
  pub data_in : 2 ≤ context_index pipes.data_in
  pub data_out : 2 ≤ context_index pipes.data_out
  pub command_status : context_index pipes.command ≢ context_index pipes.status
  pub command_data_in : context_index pipes.command ≢ context_index pipes.data_in
  pub command_data_out : context_index pipes.command ≢ context_index pipes.data_out
  pub status_data_in : context_index pipes.status ≢ context_index pipes.data_in
  pub status_data_out : context_index pipes.status ≢ context_index pipes.data_out
  pub data_in_data_out : context_index pipes.data_in ≢ context_index pipes.data_out
