-- Row 1: the capability registers (xHCI 1.2, 5.3), PAGESIZE (5.4.3) and the extended capabilities (7), and what is refused.
use Rattle.std.specs.Prelude.{ℕ, ◌+◌, ◌-◌, ◌*◌, ◌/◌, ◌%◌, ◌^◌, ◌==◌, ◌&&◌, ◌||◌, nat_le, nat_lt, not, if◌then◌else◌, Bool, false, Option, Some, None, replicate, slice_set}
use Rattle.host_layout.specs.declared.shape.PageSize.{PageSize}
use Rattle.host_layout.specs.declared.shape.PageSize.TheVariants.{Kib4}
use Rattle.host_layout.specs.Sizes.{page_of}
use Rattle.host_trbs.specs.declared.contexts.ContextSize.{ContextSize}
use Rattle.host_trbs.specs.declared.contexts.ContextSize.TheVariants.{Short, Long}
use Rattle.bring_up.specs.declared.controller.TheConstants.{MOST_CAPABILITIES}
use Rattle.bring_up.specs.declared.controller.Controller.{Controller}
use Rattle.bring_up.specs.declared.controller.Protocol.{Protocol}
use Rattle.bring_up.specs.declared.options.Options.{Options}
use Rattle.bring_up.specs.declared.survey.Capability.{Capability}
use Rattle.bring_up.specs.declared.survey.Reading.{Reading}
use Rattle.bring_up.specs.declared.survey.Reading.TheVariants as reading
use Rattle.bring_up.specs.declared.survey.Survey.{Survey}
use Rattle.bring_up.specs.declared.survey.Surveyed.{Surveyed}
use Rattle.bring_up.specs.declared.survey.Surveyed.TheVariants.{Refused, On, Found}
use Rattle.bring_up.specs.declared.why.Why.TheVariants as why
use Rattle.bring_up.specs.Registers.{doorbell, interrupter, is_set, port_register}

abbrev pub no_protocol : Protocol
no_protocol = record { first = 0; count = 0; slot_type = 0 }

abbrev pub unknown_controller : ℕ → Controller
unknown_controller bar_bytes = record {
  bar_bytes = bar_bytes;
  operational = 0;
  doorbells = 0;
  runtime = 0;
  slots = 0;
  ports = 0;
  scratchpads = 0;
  page = Kib4;
  contexts = Short;
  is_wide = false;
  max_psa_size = 0;
  legacy = None;
  protocols = replicate 64 no_protocol;
  protocol_count = 0;
}

abbrev pub begun_survey : Options → Survey
begun_survey options = record { options = options; controller = unknown_controller options.bar_bytes; reading = reading.Version }

abbrev pub looked : Survey → Controller → Reading → Surveyed
looked s controller next = On (record { options = s.options; controller = controller; reading = next })

-- WHERE EACH REGISTER IS: CAPLENGTH with HCIVERSION, HCSPARAMS1, HCSPARAMS2, HCCPARAMS1, DBOFF and RTSOFF; PAGESIZE behind USBCMD and
-- USBSTS; a capability's words

abbrev pub offset_of : Controller → Reading → ℕ
offset_of c reading.Version = 0
offset_of c reading.Counts = 4
offset_of c reading.Scratchpads = 8
offset_of c reading.Parameters = 0x10
offset_of c (reading.Doorbells list) = 0x14
offset_of c (reading.Runtime list) = 0x18
offset_of c (reading.Page list) = c.operational + 8
offset_of c (reading.Capability capability) = capability.at
offset_of c (reading.Ports capability behind) = capability.at + 8
offset_of c (reading.SlotType capability behind first count) = capability.at + 12

abbrev pub survey_offset : Survey → ℕ
survey_offset s = offset_of s.controller s.reading

-- WHAT EACH VALUE LEADS TO

-- CAPLENGTH is in bits 7:0, and its two low bits are taken as 0: registers stand at multiples of 4. HCIVERSION is in 31:16: 0100h at least
abbrev pub version_read : Survey → ℕ → Surveyed
version_read s value =
    if nat_lt (value / 2 ^ 16) 0x100 then Refused why.TooOld
    else looked s (record s.controller { operational = 4 * (value / 4 % 64) }) reading.Counts

-- MaxSlots in bits 7:0, MaxPorts in 31:24
abbrev pub counts_read : Survey → ℕ → Surveyed
counts_read s value =
    if value % 256 == 0 then Refused why.NoSlots
    else if value / 2 ^ 24 == 0 then Refused why.NoPorts
    else looked s (record s.controller { slots = value % 256; ports = value / 2 ^ 24 }) reading.Scratchpads

-- Max Scratchpad Buffers: its upper five bits in 25:21, its lower five in 31:27
abbrev pub scratchpads_in : ℕ → ℕ
scratchpads_in value = 32 * (value / 2 ^ 21 % 32) + value / 2 ^ 27

-- CSZ, bit 2
abbrev pub contexts_in : ℕ → ContextSize
contexts_in value = if is_set value 2 then Long else Short

-- AC64, bit 0; MaxPSASize in bits 15:12, xECP, in words of four bytes, in 31:16
abbrev pub parameters_read : Survey → ℕ → Surveyed
parameters_read s value =
    if (value / 2 ^ 12 % 16 == 0) || s.options.quirks.has_broken_streams then Refused why.NoStreams
    else looked s (record s.controller {
      is_wide = is_set value 0 && not s.options.quirks.is_narrow;
      contexts = contexts_in value;
      max_psa_size = value / 2 ^ 12 % 16;
    }) (reading.Doorbells (4 * (value / 2 ^ 16)))

-- the port registers, the doorbells and those of interrupter 0 end within the registers
abbrev pub has_room : Controller → Bool
has_room c =
    nat_le (port_register c c.ports + 16) c.bar_bytes && nat_le (doorbell c c.slots + 4) c.bar_bytes && nat_le (interrupter c + 32) c.bar_bytes

-- bits 4:0 of RTSOFF are reserved
abbrev pub runtime_read : Survey → ℕ → ℕ → Surveyed
runtime_read s value list =
    let c : Controller = record s.controller { runtime = value - value % 32 } in
    if not (has_room c) then Refused why.SmallBar else looked s c (reading.Page list)

-- the end of the list
abbrev pub list_ended : Controller → Surveyed
list_ended c = if c.protocol_count == 0 then Refused why.NoPorts else Found c

-- the capability at an offset; 64 of them are looked at
abbrev pub at_capability : Survey → Controller → ℕ → ℕ → Surveyed
at_capability s c at left =
    if (left == 0) || nat_lt c.bar_bytes (at + 4) then Refused why.BadList
    else looked s c (reading.Capability (record { at = at; left = left }))

abbrev pub list_begun : Survey → Controller → ℕ → Surveyed
list_begun s c list = if list == 0 then list_ended c else at_capability s c list MOST_CAPABILITIES

abbrev pub with_page : Survey → ℕ → Option PageSize → Surveyed
with_page s list None = Refused why.PageSize
with_page s list (Some page) = list_begun s (record s.controller { page = page }) list

abbrev pub page_read : Survey → ℕ → ℕ → Surveyed
page_read s value list = with_page s list (page_of value)

-- 7: the next capability stands so many words of four bytes behind; 0 ends the list
abbrev pub behind_capability : Survey → Controller → Capability → ℕ → Surveyed
behind_capability s c capability behind =
    if behind == 0 then list_ended c else at_capability s c (capability.at + 4 * behind) (capability.left - 1)

-- ID in bits 7:0, the next in 15:8. ID 1 is USB Legacy Support, of two words; ID 2 with 3 in bits 31:24 a Supported Protocol of USB 3, of four.
abbrev pub capability_read : Survey → ℕ → Capability → Surveyed
capability_read s value capability =
    if value % 256 == 1 then
    (if nat_lt s.controller.bar_bytes (capability.at + 8) then Refused why.BadList
    else behind_capability s (record s.controller { legacy = Some capability.at }) capability (value / 2 ^ 8 % 256))
    else if (value % 256 == 2) && (value / 2 ^ 24 == 3) then
    (if nat_lt s.controller.bar_bytes (capability.at + 16) then Refused why.BadList
    else looked s s.controller (reading.Ports capability (value / 2 ^ 8 % 256)))
    else behind_capability s s.controller capability (value / 2 ^ 8 % 256)

-- ports 1 to MaxPorts
abbrev pub has_ports : Controller → ℕ → ℕ → Bool
has_ports c first count = nat_le 1 first && nat_le (first - 1 + count) c.ports

-- Compatible Port Offset in bits 7:0, Compatible Port Count in 15:8
abbrev pub ports_read : Survey → ℕ → Capability → ℕ → Surveyed
ports_read s value capability behind =
    if value / 2 ^ 8 % 256 == 0 then behind_capability s s.controller capability behind
    else if not (has_ports s.controller (value % 256) (value / 2 ^ 8 % 256)) then Refused why.BadList
    else looked s s.controller (reading.SlotType capability behind (value % 256) (value / 2 ^ 8 % 256))

abbrev pub protocol_put : Controller → Protocol → Controller
protocol_put c protocol =
    if nat_lt c.protocol_count 64
    then record c { protocols = slice_set c.protocols c.protocol_count protocol; protocol_count = c.protocol_count + 1 }
    else c

-- Protocol Slot Type, bits 4:0 of the fourth word
abbrev pub slot_type_read : Survey → ℕ → Capability → ℕ → ℕ → ℕ → Surveyed
slot_type_read s value capability behind first count =
    behind_capability s (protocol_put s.controller (record { first = first; count = count; slot_type = value % 32 })) capability behind

abbrev pub value_read : Survey → ℕ → Reading → Surveyed
value_read s value reading.Version = version_read s value
value_read s value reading.Counts = counts_read s value
value_read s value reading.Scratchpads = looked s (record s.controller { scratchpads = scratchpads_in value }) reading.Parameters
value_read s value reading.Parameters = parameters_read s value
value_read s value (reading.Doorbells list) = looked s (record s.controller { doorbells = value - value % 4 }) (reading.Runtime list)
value_read s value (reading.Runtime list) = runtime_read s value list
value_read s value (reading.Page list) = page_read s value list
value_read s value (reading.Capability capability) = capability_read s value capability
value_read s value (reading.Ports capability behind) = ports_read s value capability behind
value_read s value (reading.SlotType capability behind first count) = slot_type_read s value capability behind first count

abbrev pub survey_read : Survey → ℕ → Surveyed
survey_read s value = value_read s value s.reading
