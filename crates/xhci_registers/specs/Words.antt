-- The register page of 4 KiB, read (xHCI 1.2, 5.3 to 5.6).
use Rattle.std.specs.Prelude.{ℕ, ◌+◌, ◌*◌, ◌/◌, ◌%◌, ◌^◌, ◌==◌, ◌&&◌, nat_lt, Bool, not, if◌then◌else◌}
use Rattle.xhci_registers.specs.Bits.{bit, multiple}
use Rattle.xhci_registers.specs.Ports.{port_word, wake_word}
use Rattle.xhci_registers.specs.declared.Registers.{Registers}
use Rattle.xhci_registers.specs.declared.Width.{Width}
use Rattle.xhci_registers.specs.declared.Width.TheVariants.{One, Two, Four, Eight}

-- USBCMD (5.4.1): R/S 0, INTE 2, HSEE 3, EWE 10
abbrev pub command_word : Registers → ℕ
command_word registers =
    bit registers.runs 1 + bit registers.interrupts 4 + bit registers.host_error_interrupts 8 + bit registers.wrap_events 0x400

-- USBSTS (5.4.2): HCH 0, which is R/S inverted, HSE 2, EINT 3, PCD 4, SRE 10
abbrev pub status_word : Registers → ℕ
status_word registers =
    bit (not registers.runs) 1 + bit registers.host_error 4 + bit registers.event_interrupt 8 + bit registers.port_change 16
    + bit registers.restore_error 0x400

-- IMAN (5.5.2.1): IP 0, IE 1
abbrev pub management_word : Registers → ℕ
management_word registers = bit registers.interrupter.pending 1 + bit registers.interrupter.enabled 2

-- ERDP (5.5.2.3.3): DESI 2:0, EHB 3, the pointer from bit 4 on
abbrev pub dequeue_low : Registers → ℕ
dequeue_low registers =
    multiple (registers.interrupter.dequeue % 2 ^ 32) 16 + registers.interrupter.segment % 8 + bit registers.interrupter.busy 8

-- the port on which nothing is: PLS 5 (RxDetect), PP, wake bits
abbrev pub empty_port_word : Registers → ℕ
empty_port_word registers = 0x2a0 + wake_word registers.empty_port_wake

-- Capability registers (5.3). CAPLENGTH 40h and HCIVERSION 0110h; 1 slot, 1 interrupter, 2 ports; AC64, NSS, SPC, MaxPSASize 7, xECP at 20h
-- (8 words); DBOFF; RTSOFF.
abbrev pub capability_word : ℕ → ℕ
capability_word at =
    if at == 0x00 then 0x01100040
    else (if at == 0x04 then 0x02000101
    else (if at == 0x10 then 0x00087281
    else (if at == 0x14 then 0x800
    else (if at == 0x18 then 0x600
    else protocol_word at))))
  where
    -- Supported Protocol capabilities (7.2): USB 2.0 with port 1, the next 4 words on; USB 3.0 with port 2, the last
    protocol_word : ℕ → ℕ
    protocol_word at =
        if at == 0x20 then 0x02000402
        else (if at == 0x24 then 0x20425355
        else (if at == 0x28 then 0x101
        else (if at == 0x30 then 0x03000002
        else (if at == 0x34 then 0x20425355
        else (if at == 0x38 then 0x102
        else 0)))))

-- Operational registers (5.4) at 40h: USBCMD, USBSTS, PAGESIZE, DNCTRL, CRCR (of which CRR alone reads), DCBAAP, CONFIG
abbrev pub operational_word : Registers → ℕ → ℕ
operational_word registers at =
    if at == 0x40 then command_word registers
    else (if at == 0x44 then status_word registers
    else (if at == 0x48 then 1
    else (if at == 0x54 then registers.notifications
    else (if at == 0x58 then bit registers.command_ring.runs 8
    else (if at == 0x70 then registers.contexts % 2 ^ 32
    else (if at == 0x74 then registers.contexts / 2 ^ 32
    else (if at == 0x78 then registers.config
    else 0)))))))

-- PORTSC and PORTPMSC of both ports, at 440h and 450h
abbrev pub ports_word : Registers → ℕ → ℕ
ports_word registers at =
    if at == 0x440 then empty_port_word registers
    else (if at == 0x450 then port_word registers.port
    else (if at == 0x454 then registers.port.power
    else 0))

-- Runtime registers (5.5) at 600h: MFINDEX, and interrupter 0's at 620h: IMAN, IMOD, ERSTSZ, ERSTBA, ERDP
abbrev pub runtime_word : Registers → ℕ → ℕ
runtime_word registers at =
    if at == 0x600 then registers.frame_index
    else (if at == 0x620 then management_word registers
    else (if at == 0x624 then registers.interrupter.moderation
    else (if at == 0x628 then registers.interrupter.table_size
    else (if at == 0x630 then registers.interrupter.table % 2 ^ 32
    else (if at == 0x634 then registers.interrupter.table / 2 ^ 32
    else (if at == 0x638 then dequeue_low registers
    else (if at == 0x63c then registers.interrupter.dequeue / 2 ^ 32
    else 0)))))))

-- the word at a multiple of 4; doorbells read as 0, and so does what isn't there
abbrev pub word_at : Registers → ℕ → ℕ
word_at registers at =
    if nat_lt at 0x40 then capability_word at
    else (if nat_lt at 0x400 then operational_word registers at
    else (if nat_lt at 0x600 then ports_word registers at
    else runtime_word registers at))

-- the byte of a word at a place, or the two bytes there, as a number with so many values
abbrev pub part_of : ℕ → ℕ → ℕ → ℕ
part_of word place values = word / 2 ^ (8 * place) % values

abbrev pub bytes_of : Width → ℕ
bytes_of One = 1
bytes_of Two = 2
bytes_of Four = 4
bytes_of Eight = 8

-- where an access lies on the page, at a multiple of its width
abbrev pub is_aligned : ℕ → Width → Bool
is_aligned offset width = nat_lt offset 4096 && offset % bytes_of width == 0

abbrev pub aligned_read : Registers → ℕ → Width → ℕ
aligned_read registers offset One = part_of (word_at registers (offset / 4 * 4)) (offset % 4) 0x100
aligned_read registers offset Two = part_of (word_at registers (offset / 4 * 4)) (offset % 4) 0x10000
aligned_read registers offset Four = word_at registers offset
aligned_read registers offset Eight = word_at registers offset + 2 ^ 32 * word_at registers (offset + 4)

-- A read of 1, 2, 4 or 8 bytes at their multiple; any other reads 0.
abbrev pub read_of : Registers → ℕ → Width → ℕ
read_of registers offset width = if is_aligned offset width then aligned_read registers offset width else 0
