-- An endpoint descriptor and its companion (USB 3.2, 9.6.6 and 9.6.7).
use Rattle.std.specs.Prelude.{◌≡◌, ℕ, ◌+◌, ◌*◌, ◌/◌, ◌%◌, ◌≤◌, ◌==◌, ◌&&◌, ◌||◌, nat_lt, Bool, not, if◌then◌else◌, List, slice_index, Option, None, Some, Result, Ok, Err}
use Rattle.uas_profile.specs.declared.Pipe.{Pipe}
use Rattle.uas_profile.specs.declared.Pipe.TheVariants.{Command, Status, DataIn, DataOut}
use Rattle.usb_descriptors.specs.declared.Endpoint.{Endpoint}
use Rattle.usb_descriptors.specs.declared.DescriptorFault.{DescriptorFault}
use Rattle.usb_descriptors.specs.declared.DescriptorFault.TheVariants.{BadPipes, NoCompanion}
use Rattle.usb_descriptors.specs.Fields.{word}

-- bEndpointAddress: the number in bits 3 to 0, and bit 7, which is set where bytes go to the host
abbrev pub number_in : List ℕ → ℕ
number_in endpoint = slice_index endpoint 2 % 16

abbrev pub direction_in : List ℕ → ℕ
direction_in endpoint = slice_index endpoint 2 / 128

-- the direction of each pipe: 1 to the host
abbrev pub direction_of : Pipe → ℕ
direction_of Command = 0
direction_of Status = 1
direction_of DataIn = 1
direction_of DataOut = 0

-- An endpoint that this pipe can have: bulk (bits 1 to 0 of bmAttributes are 2), packets of 1,024 bytes, a number from 1 to 15, and the
-- pipe's direction.
abbrev pub suits : List ℕ → Pipe → Bool
suits endpoint pipe =
    (slice_index endpoint 3 % 4 == 2) && (word endpoint 4 == 1024) && not (number_in endpoint == 0) && (direction_in endpoint == direction_of pipe)

-- a companion's bMaxBurst is at most 15, and its MaxStreams, bits 4 to 0 of bmAttributes, at most 16
abbrev pub max_streams_in : List ℕ → ℕ
max_streams_in companion = slice_index companion 3 % 32

abbrev pub is_beyond : List ℕ → Bool
is_beyond companion = nat_lt 15 (slice_index companion 2) || nat_lt 16 (max_streams_in companion)

-- what the two say
abbrev pub endpoint_in : List ℕ → List ℕ → Endpoint
endpoint_in endpoint companion = record {
  address = 128 * direction_in endpoint + number_in endpoint;
  max_packet = word endpoint 4;
  burst = slice_index companion 2;
  max_streams = max_streams_in companion;
}

-- a pipe's endpoint with its companion, or what is wrong with it
abbrev pub with_companion : List ℕ → Option (List ℕ) → Result Endpoint DescriptorFault
with_companion endpoint None = Err NoCompanion
with_companion endpoint (Some companion) = if is_beyond companion then Err BadPipes else Ok (endpoint_in endpoint companion)

unfoldable pub endpoint_of : List ℕ → Pipe → Option (List ℕ) → Result Endpoint DescriptorFault
endpoint_of endpoint pipe companion = if suits endpoint pipe then with_companion endpoint companion else Err BadPipes

-- xHCI 4.5.1: the device context index of an endpoint is twice its number, and 1 more where bytes go to the host: 81h has 3, 02h has 4
abbrev pub context_index : Endpoint → ℕ
context_index endpoint = 2 * (endpoint.address % 16) + endpoint.address / 128

-- what is so of an endpoint of a pipe
pub record FitsEndpoint (pipe : Pipe) (endpoint : Endpoint) : Type 0 where
  pub least_number : 1 ≤ endpoint.address % 128
  pub most_number : endpoint.address % 128 ≤ 15
  pub direction : endpoint.address / 128 ≡ direction_of pipe
  pub max_packet : endpoint.max_packet ≡ 1024
  pub burst : endpoint.burst ≤ 15
  pub max_streams : endpoint.max_streams ≤ 16
