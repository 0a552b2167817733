-- Row 6: the memory is zeroed, its tables are written, and the controller is told of them (xHCI 1.2, 4.2).
use Rattle.std.specs.Prelude.{ℕ, ◌+◌, ◌-◌, ◌*◌, ◌/◌, ◌%◌, ◌^◌, ◌==◌, min, nat_lt, if◌then◌else◌, Bool, Option, Some, None, List, bit_or}
use Rattle.byteorder.specs.Endian.{little_bytes}
use Rattle.host_layout.specs.declared.layout.Area.TheVariants.{At, ScratchpadArray, Scratchpad as OneScratchpad}
use Rattle.host_layout.specs.declared.layout.Fixed.TheVariants.{CommandRing, DeviceContexts, EventRing, SegmentTable}
use Rattle.host_layout.specs.declared.layout.Layout.{Layout}
use Rattle.host_layout.specs.Places.{address_of, place_of}
use Rattle.host_layout.specs.Shapes.{bytes_of as layout_bytes}
use Rattle.host_trbs.specs.Words.{bytes_of, words_of}
use Rattle.bring_up.specs.declared.access.Access.{Access}
use Rattle.bring_up.specs.declared.access.Access.TheVariants.{Rest}
use Rattle.bring_up.specs.declared.access.Stored.TheVariants.{Eight, Sixteen, Zeros}
use Rattle.bring_up.specs.declared.controller.Controller.{Controller}
use Rattle.bring_up.specs.declared.program.Program.{Program}
use Rattle.bring_up.specs.declared.program.Program.TheVariants.{Zero, Scratchpads, Scratchpad, Segment, Set}
use Rattle.bring_up.specs.declared.program.Setting.{Setting}
use Rattle.bring_up.specs.declared.program.Setting.TheVariants.{Slots, ContextsLow, ContextsHigh, CommandsLow, CommandsHigh, Interval, Segments, DequeueLow, DequeueHigh, TableLow, TableHigh, Interrupts}
use Rattle.bring_up.specs.declared.step.Step.{Step}
use Rattle.bring_up.specs.declared.step.Step.TheVariants as step
use Rattle.bring_up.specs.declared.takeover.Run.TheVariants as run
use Rattle.bring_up.specs.Accesses.{later, store_in, write_at}
use Rattle.bring_up.specs.Registers.{command_register, interrupter}

abbrev pub low_half : ℕ → ℕ
low_half address = address % 2 ^ 32

abbrev pub high_half : ℕ → ℕ
high_half address = address / 2 ^ 32

-- 6.5: Ring Segment Base Address, and Ring Segment Size, 2,048 TRBs
abbrev pub segment_entry : ℕ → List ℕ
segment_entry ring = bytes_of (words_of ring 2048 0)

-- 6.1, 6.6: an entry of an array of addresses
abbrev pub entry_stored : Option ℕ → ℕ → Option ℕ → Access
entry_stored (Some array) number (Some address) = store_in (Some (later array (8 * number))) (Eight (little_bytes 8 address))
entry_stored (Some array) number None = Rest 0
entry_stored None number address = Rest 0

-- WHERE EACH REGISTER IS: CONFIG 38h, DCBAAP 30h and CRCR 18h of the operational registers; IMOD 4, ERSTSZ 8, ERSTBA 10h, ERDP 18h and IMAN 0
-- of interrupter 0
abbrev pub setting_offset : Setting → Controller → ℕ
setting_offset Slots c = command_register c + 0x38
setting_offset ContextsLow c = command_register c + 0x30
setting_offset ContextsHigh c = command_register c + 0x34
setting_offset CommandsLow c = command_register c + 0x18
setting_offset CommandsHigh c = command_register c + 0x1c
setting_offset Interval c = interrupter c + 4
setting_offset Segments c = interrupter c + 8
setting_offset DequeueLow c = interrupter c + 0x18
setting_offset DequeueHigh c = interrupter c + 0x1c
setting_offset TableLow c = interrupter c + 0x10
setting_offset TableHigh c = interrupter c + 0x14
setting_offset Interrupts c = interrupter c

-- what it is set to: MaxSlots; the tables and rings, CRCR with Ring Cycle State 1; 160 times 250 ns; one segment; IP cleared, IE set
abbrev pub setting_value : Setting → Controller → Layout → ℕ
setting_value Slots c layout = c.slots
setting_value ContextsLow c layout = low_half (address_of layout (At DeviceContexts))
setting_value ContextsHigh c layout = high_half (address_of layout (At DeviceContexts))
setting_value CommandsLow c layout = bit_or (low_half (address_of layout (At CommandRing))) 1
setting_value CommandsHigh c layout = high_half (address_of layout (At CommandRing))
setting_value Interval c layout = 160
setting_value Segments c layout = 1
setting_value DequeueLow c layout = low_half (address_of layout (At EventRing))
setting_value DequeueHigh c layout = high_half (address_of layout (At EventRing))
setting_value TableLow c layout = low_half (address_of layout (At SegmentTable))
setting_value TableHigh c layout = high_half (address_of layout (At SegmentTable))
setting_value Interrupts c layout = 3

-- in which order: CONFIG, DCBAAP, CRCR, IMOD, ERSTSZ, ERDP, ERSTBA, IMAN; halves low first, but of ERSTBA where it is taken at its low half
abbrev pub next_setting : Setting → Bool → Option Setting
next_setting Slots low_last = Some ContextsLow
next_setting ContextsLow low_last = Some ContextsHigh
next_setting ContextsHigh low_last = Some CommandsLow
next_setting CommandsLow low_last = Some CommandsHigh
next_setting CommandsHigh low_last = Some Interval
next_setting Interval low_last = Some Segments
next_setting Segments low_last = Some DequeueLow
next_setting DequeueLow low_last = Some DequeueHigh
next_setting DequeueHigh low_last = if low_last then Some TableHigh else Some TableLow
next_setting TableLow low_last = if low_last then Some Interrupts else Some TableHigh
next_setting TableHigh low_last = if low_last then Some TableLow else Some Interrupts
next_setting Interrupts low_last = None

-- ROW 6
abbrev pub program_access : Program → Controller → Layout → Access
program_access (Zero page) c layout = store_in (Some (later layout.base (4096 * page))) (Zeros 4096)
program_access Scratchpads c layout = entry_stored (Some (address_of layout (At DeviceContexts))) 0 (place_of layout ScratchpadArray)
program_access (Scratchpad number) c layout = entry_stored (place_of layout ScratchpadArray) number (place_of layout (OneScratchpad number))
program_access Segment c layout =
    store_in (Some (address_of layout (At SegmentTable))) (Sixteen (segment_entry (address_of layout (At EventRing))))
program_access (Set setting) c layout = write_at (setting_offset setting c) (setting_value setting c layout)

abbrev pub tables_begun : Controller → Step
tables_begun c = if c.scratchpads == 0 then step.Program Segment else step.Program Scratchpads

abbrev pub behind_entry : Controller → ℕ → Step
behind_entry c next = if nat_lt next c.scratchpads then step.Program (Scratchpad next) else step.Program Segment

abbrev pub set_after : Option Setting → Step
set_after (Some setting) = step.Program (Set setting)
set_after None = step.Run run.Command

abbrev pub next_number : ℕ → ℕ → ℕ
next_number number most = min (number + 1) most

abbrev pub zeroed : Controller → Layout → ℕ → Step
zeroed c layout next = if nat_lt (4096 * next) (layout_bytes layout.shape) then step.Program (Zero next) else tables_begun c

abbrev pub program_after : Program → Controller → Layout → Bool → Step
program_after (Zero page) c layout low_last = zeroed c layout (next_number page (2 ^ 32 - 1))
program_after Scratchpads c layout low_last = step.Program (Scratchpad 0)
program_after (Scratchpad number) c layout low_last = behind_entry c (next_number number (2 ^ 16 - 1))
program_after Segment c layout low_last = step.Program (Set Slots)
program_after (Set setting) c layout low_last = set_after (next_setting setting low_last)
