-- Events (xHCI 1.2, 6.4.2), completion codes (6.4.5), and the states in a device context (6.2). Reserved bits aren't looked at.
use Rattle.std.specs.Prelude.{ℕ, ◌/◌, ◌%◌, ◌^◌, ◌==◌, ◌||◌, ◌&&◌, nat_le, if◌then◌else◌, Bool, true, false}
use Rattle.host_trbs.specs.declared.events.Completion.{Completion}
use Rattle.host_trbs.specs.declared.events.Completion.TheVariants.{Success, ShortPacket, Stall, Transaction, Failed, ContextState, StoppedLengthInvalid, StoppedShortPacket}
use Rattle.host_trbs.specs.declared.events.Completion.TheVariants as Completions
use Rattle.host_trbs.specs.declared.events.EndpointState.{EndpointState}
use Rattle.host_trbs.specs.declared.events.EndpointState.TheVariants as EndpointStates
use Rattle.host_trbs.specs.declared.events.Event.{Event}
use Rattle.host_trbs.specs.declared.events.Event.TheVariants as Events
use Rattle.host_trbs.specs.declared.events.SlotState.{SlotState}
use Rattle.host_trbs.specs.declared.events.SlotState.TheVariants as SlotStates
use Rattle.host_trbs.specs.declared.words.Words.{Words}
use Rattle.host_trbs.specs.Words.{aligned, type_in}

-- Completion Code, status bits 31:24
abbrev pub code_in : Words → ℕ
code_in w = w.status / 2 ^ 24

-- Endpoint ID, control bits 20:16
abbrev pub endpoint_in : Words → ℕ
endpoint_in w = w.control / 2 ^ 16 % 2 ^ 5

-- Slot ID, control bits 31:24
abbrev pub slot_in : Words → ℕ
slot_in w = w.control / 2 ^ 24

-- By TRB Type (6.4.6): 32, with TRB Transfer Length in status bits 23:0; 33, with Command TRB Pointer in parameter bits 63:4;
-- 34, with Port ID in parameter bits 31:24; 37.
abbrev pub event_in : Words → Event
event_in w =
    if type_in w == 32 then Events.Transfer w.parameter (w.status % 2 ^ 24) (code_in w) (endpoint_in w) (slot_in w)
    else if type_in w == 33 then Events.Command (aligned w.parameter) (code_in w) (slot_in w)
    else if type_in w == 34 then Events.Port (w.parameter / 2 ^ 24 % 2 ^ 8)
    else if type_in w == 37 then Events.Controller (code_in w)
    else Events.Other (type_in w)

-- a number from the first to the last
abbrev pub is_from : ℕ → ℕ → ℕ → Bool
is_from first last n = nat_le first n && nat_le n last

-- 6.4.5. 192 to 223 are a vendor's errors, 224 to 255 a vendor's information, which is a success.
abbrev pub completion_in : ℕ → Completion
completion_in code =
    if code == 1 || is_from 224 255 code then Success
    else if code == 13 then ShortPacket
    else if code == 6 then Stall
    else if code == 4 then Transaction
    else if code == 2 || code == 3 || code == 5 || code == 8 || code == 10 || code == 16 || code == 34 || code == 36 || is_from 192 223 code
    then Failed
    else if code == 19 then ContextState
    else if code == 26 then Completions.Stopped
    else if code == 27 then StoppedLengthInvalid
    else if code == 28 then StoppedShortPacket
    else Completions.Other

-- a success that left bytes of its TRB
abbrev pub short_success : Completion → ℕ → Completion
short_success Success residual = if residual == 0 then Success else ShortPacket
short_success completion residual = completion

-- 4.10.1.1: a short packet may be told as a success with a residual
abbrev pub transfer_completion : ℕ → ℕ → Completion
transfer_completion code residual = short_success (completion_in code) residual

-- the completions with which a TD has failed
abbrev pub is_failure : Completion → Bool
is_failure Stall = true
is_failure Transaction = true
is_failure Failed = true
is_failure _ = false

-- 6.2.3: EP State, bits 2:0 of the first word
abbrev pub endpoint_state_in : ℕ → EndpointState
endpoint_state_in word =
    let state = word % 2 ^ 3 in
    if state == 0 then EndpointStates.Disabled
    else if state == 1 then EndpointStates.Running
    else if state == 2 then EndpointStates.Halted
    else if state == 3 then EndpointStates.Stopped
    else if state == 4 then EndpointStates.Error
    else EndpointStates.Reserved

-- 6.2.2: Slot State, bits 31:27 of the fourth word
abbrev pub slot_state_in : ℕ → SlotState
slot_state_in word =
    let state = word / 2 ^ 27 in
    if state == 0 then SlotStates.DisabledOrEnabled
    else if state == 1 then SlotStates.Default
    else if state == 2 then SlotStates.Addressed
    else if state == 3 then SlotStates.Configured
    else SlotStates.Reserved
