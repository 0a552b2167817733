-- What a controller may post for the TRBs that the host puts, and what it means (xHCI 1.2, 4.6.9, 4.10.1 and table 6-90).
use Rattle.std.specs.Prelude.{ℕ, ◌+◌, ◌-◌, ◌%◌, ◌==◌, ◌&&◌, not, nat_le, min, Bool, true, false, if◌then◌else◌, List, [], ◌∷◌, Option, Some, None}
use Rattle.xhci_trb.specs.declared.Trb.{Trb}
use Rattle.xhci_trb.specs.declared.Trb.TheVariants.{Normal}
use Rattle.xhci_trb.specs.Text.{has_chain}
use Rattle.uas_profile.specs.declared.Pipe.{Pipe}
use Rattle.uas_profile.specs.declared.Pipe.TheVariants.{Command, Status, DataIn, DataOut}
use Rattle.uas_profile.specs.declared.TheConstants.{WINDOW_BYTES, WINDOW_SPAN}
use Rattle.uas_driver.specs.declared.Meaning.{Meaning}
use Rattle.uas_driver.specs.declared.Meaning.TheVariants.{Consumed, NotConsumed, EndedShort, Failed, Stray}

-- THE CODES

-- a short packet ends a TD that the device fills: data to the host, or a status
abbrev pub short_on : Pipe → Meaning
short_on Command = Stray
short_on Status = EndedShort
short_on DataIn = EndedShort
short_on DataOut = Stray

-- a Stopped event comes between Stop Endpoint's doorbell and its event (4.6.9)
abbrev pub stopped_if : Bool → Meaning
stopped_if stopping = if stopping then NotConsumed else Stray

-- the meaning of a code in a table, and that a code without an entry says nothing
abbrev pub meaning_in : List (ℕ × Meaning) → ℕ → Meaning
meaning_in [] code = Stray
meaning_in ((key, meaning) ∷ table) code = if code == key then meaning else meaning_in table code

-- The codes of a transfer event on a pipe: Success 1, Data Buffer Error 2, Babble 3, USB Transaction Error 4, TRB Error 5, Stall 6,
-- Resource Error 8, Invalid Stream Type 10, Short Packet 13, Secondary Bandwidth Error 16, the three Stopped codes 26 to 28, Invalid
-- Stream ID 34, Split Transaction Error 36. After Data Buffer Error alone the endpoint runs on.
abbrev pub meaning : Pipe → Bool → ℕ → Meaning
meaning pipe stopping =
    meaning_in ((1, Consumed) ∷ (2, Failed false) ∷ (3, Failed true) ∷ (4, Failed true) ∷ (5, Failed true) ∷ (6, Failed true) ∷ (8, Failed true)
    ∷ (10, Failed true) ∷ (13, short_on pipe) ∷ (16, Failed true) ∷ (26, stopped_if stopping) ∷ (27, stopped_if stopping)
    ∷ (28, stopped_if stopping) ∷ (34, Failed true) ∷ (36, Failed true) ∷ [])

-- BYTES

-- no more bytes are moved than a window has
abbrev pub in_window : ℕ → ℕ
in_window bytes = min bytes WINDOW_BYTES

-- how many bytes of its TD come before the end of so many bytes of the buffer at an address in the tag's window
abbrev pub moved_up_to : ℕ → ℕ → ℕ
moved_up_to pointer bytes = in_window (pointer % WINDOW_SPAN + bytes)

-- A short packet is told at its own TRB where that has ISP, and else at the TD's last TRB, which has IOC and of which nothing was moved then
-- (4.10.1.1). So Short Packet at the last TRB with a residual of all its bytes leaves open where on the TRBs before it the TD ended. Worked:
-- of two TRBs of 4,096 bytes each, Short Packet at the second with residual 4,096 comes of 0 bytes, of 100 and of 4,096.
abbrev pub leaves_open : Trb → ℕ → ℕ → Bool
leaves_open (Normal pointer length td_size flags) code residual =
    code == 13 && (not (has_chain (Normal pointer length td_size flags)) && (nat_le length residual && not (pointer % WINDOW_SPAN == 0)))
leaves_open _ code residual = false

-- How many bytes of its TD were moved, by the event of a data TRB: those of the TRBs before it, and of its own all with Success, else all
-- but the residual. Stopped, Short Packet (28) tells the TD's bytes in place of a residual, and Stopped, Length Invalid (27) nothing. An
-- event that leaves open where the TD ended tells nothing either: what the events before it told stays, and no more was counted than did
-- move. Worked: of the second TRB of a TD, whose buffer is 4,096 bytes at 100121000h, Short Packet with residual 96 tells 8,096 bytes.
abbrev pub moved_by : Trb → ℕ → ℕ → Option ℕ
moved_by (Normal pointer length td_size flags) code residual =
    if leaves_open (Normal pointer length td_size flags) code residual then None
    else (if code == 1 then Some (moved_up_to pointer length)
    else (if code == 28 then Some (in_window residual)
    else (if code == 27 then None else Some (moved_up_to pointer (length - residual)))))
moved_by _ code residual = None
