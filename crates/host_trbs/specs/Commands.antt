-- The TRBs of commands (xHCI 1.2, 6.4.3): their fields at their places, and 0 elsewhere.
use Rattle.std.specs.Prelude.{ℕ, ◌+◌, ◌==◌, if◌then◌else◌, Bool}
use Rattle.host_trbs.specs.declared.commands.Command.{Command}
use Rattle.host_trbs.specs.declared.commands.Command.TheVariants.{EnableSlot, DisableSlot, AddressDevice, ConfigureEndpoint, ResetEndpoint, StopEndpoint, SetDequeue}
use Rattle.host_trbs.specs.declared.words.Words.{Words}
use Rattle.host_trbs.specs.Words.{aligned, bit, bits}

-- 6.2.3, 6.2.4.1: Dequeue Cycle State is bit 0 of a dequeue pointer, Stream Context Type bits 3:1.
-- Type 1 is the primary ring of a stream; without streams the field is 0.
abbrev pub dequeue_of : ℕ → ℕ → ℕ
dequeue_of pointer stream = aligned pointer + bits 3 1 (if stream == 0 then 0 else 1) + 1

-- The parameter: 6.4.3.4 and 6.4.3.5, the input context; 6.4.3.9, the new dequeue pointer.
abbrev pub command_parameter : Command → ℕ
command_parameter (EnableSlot slot_type) = 0
command_parameter (DisableSlot slot) = 0
command_parameter (AddressDevice input slot) = aligned input
command_parameter (ConfigureEndpoint input slot) = aligned input
command_parameter (ResetEndpoint slot endpoint) = 0
command_parameter (StopEndpoint slot endpoint) = 0
command_parameter (SetDequeue pointer stream slot endpoint) = dequeue_of pointer stream

-- The status: 6.4.3.9, Stream ID in bits 31:16.
abbrev pub command_status : Command → ℕ
command_status (SetDequeue pointer stream slot endpoint) = bits 31 16 stream
command_status _ = 0

-- Slot Type or Endpoint ID in control bits 20:16, Slot ID in bits 31:24.
abbrev pub command_target : ℕ → ℕ → ℕ
command_target endpoint slot = bits 20 16 endpoint + bits 31 24 slot

-- The control without its Cycle bit: TRB Type in bits 15:10 (6.4.6). The flags in bit 9 (Block Set Address Request,
-- Deconfigure, Transfer State Preserve) and in bit 23 (Suspend) are 0.
-- Worked: Enable Slot of type 0 is 2400h, Address Device of slot 1 is 01002C00h.
abbrev pub command_control : Command → ℕ
command_control (EnableSlot slot_type) = bits 15 10 9 + command_target slot_type 0
command_control (DisableSlot slot) = bits 15 10 10 + command_target 0 slot
command_control (AddressDevice input slot) = bits 15 10 11 + command_target 0 slot
command_control (ConfigureEndpoint input slot) = bits 15 10 12 + command_target 0 slot
command_control (ResetEndpoint slot endpoint) = bits 15 10 14 + command_target endpoint slot
command_control (StopEndpoint slot endpoint) = bits 15 10 15 + command_target endpoint slot
command_control (SetDequeue pointer stream slot endpoint) = bits 15 10 16 + command_target endpoint slot

-- the TRB of a command with its Cycle bit
abbrev pub command_words : Command → Bool → Words
command_words command cycle = record {
  parameter = command_parameter command;
  status = command_status command;
  control = command_control command + bit cycle;
}
