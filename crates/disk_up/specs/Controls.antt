-- A control transfer on endpoint 0's ring (xHCI 1.2, 4.11.2.2): alone in its third, its Link behind it.
use Rattle.std.specs.Prelude.{ℕ, ◌-◌, ◌==◌, if◌then◌else◌, Bool, true, false, Option, Some, None}
use Rattle.byteorder.specs.Endian.{little_bytes}
use Rattle.bring_up.specs.declared.access.Access.{Access}
use Rattle.bring_up.specs.declared.access.Access.TheVariants.{Rest}
use Rattle.bring_up.specs.declared.access.Stored.TheVariants.{Four, Sixteen, Zeros as ZeroBytes}
use Rattle.bring_up.specs.declared.controller.Controller.{Controller}
use Rattle.bring_up.specs.Accesses.{later, store_in, write_at}
use Rattle.bring_up.specs.Registers.{doorbell}
use Rattle.host_layout.specs.declared.layout.Area.TheVariants.{At}
use Rattle.host_layout.specs.declared.layout.Fixed.TheVariants.{Buffer}
use Rattle.host_layout.specs.declared.layout.Layout.{Layout}
use Rattle.host_layout.specs.declared.rings.Ring.TheVariants.{Control}
use Rattle.host_layout.specs.Places.{address_of}
use Rattle.host_layout.specs.Rings.{trb_of}
use Rattle.host_trbs.specs.declared.events.Completion.{Completion}
use Rattle.host_trbs.specs.declared.events.Completion.TheVariants as completion
use Rattle.host_trbs.specs.declared.events.Event.{Event}
use Rattle.host_trbs.specs.declared.events.Event.TheVariants as event
use Rattle.host_trbs.specs.declared.transfers.LinkTrb.{LinkTrb}
use Rattle.host_trbs.specs.declared.words.Words.{Words}
use Rattle.host_trbs.specs.Events.{transfer_completion}
use Rattle.host_trbs.specs.Transfers.{data_stage_words, link_words, setup_words, status_stage_words}
use Rattle.host_trbs.specs.Words.{bytes_of}
use Rattle.disk_up.specs.declared.control.Seen.{Seen}
use Rattle.disk_up.specs.declared.control.Seen.TheVariants.{Other, Moved, Done, Stalled, Failed}
use Rattle.disk_up.specs.declared.control.Sending.{Sending}
use Rattle.disk_up.specs.declared.control.Sending.TheVariants.{Zeros, Setup, Data, Status, Link, Last, Bell}
use Rattle.disk_up.specs.declared.requests.Request.{Request}
use Rattle.disk_up.specs.Requests.{packet_of}

-- THIRDS

abbrev pub trb_in : Layout → ℕ → ℕ → Option ℕ
trb_in layout third place = trb_of layout (record { ring = Control; segment = third; place = place })

abbrev pub next_third : ℕ → ℕ
next_third third = if third == 0 then 1 else if third == 1 then 2 else 0

-- Setup, Data where there are bytes, Status, Link
abbrev pub status_place : Request → ℕ
status_place request = if (packet_of request).length == 0 then 1 else 2

abbrev pub link_place : Request → ℕ
link_place request = if (packet_of request).length == 0 then 2 else 3

abbrev pub trb_stored : Option ℕ → Words → Access
trb_stored at words = store_in at (Sixteen (bytes_of words))

abbrev pub last_stored : Option ℕ → Words → Access
last_stored (Some at) words = store_in (Some (later at 12)) (Four (little_bytes 4 words.control))
last_stored None words = Rest 0

abbrev pub at_or_zero : Option ℕ → ℕ
at_or_zero (Some at) = at
at_or_zero None = 0

abbrev pub link_to : Option ℕ → LinkTrb
link_to at = record { to = at_or_zero at; toggles = false }

-- zeros over the next third; TRBs and Link, the first TRB with Cycle 0; then its last word, with Cycle 1; doorbell target 1 (4.7)
abbrev pub send_access : Controller → Layout → ℕ → ℕ → Request → Sending → Access
send_access c layout slot third request Zeros = store_in (trb_in layout (next_third third) 0) (ZeroBytes 64)
send_access c layout slot third request Setup = trb_stored (trb_in layout third 0) (setup_words (packet_of request) false)
send_access c layout slot third request Data =
    trb_stored (trb_in layout third 1)
    (data_stage_words (record { at = address_of layout (At Buffer); length = (packet_of request).length; is_in = true }) true)
send_access c layout slot third request Status = trb_stored (trb_in layout third (status_place request)) (status_stage_words (packet_of request) true)
send_access c layout slot third request Link =
    trb_stored (trb_in layout third (link_place request)) (link_words (link_to (trb_in layout (next_third third) 0)) true)
send_access c layout slot third request Last = last_stored (trb_in layout third 0) (setup_words (packet_of request) true)
send_access c layout slot third request Bell = write_at (doorbell c slot) 1

abbrev pub send_after : Request → Sending → Option Sending
send_after request Zeros = Some Setup
send_after request Setup = if (packet_of request).length == 0 then Some Status else Some Data
send_after request Data = Some Status
send_after request Status = Some Link
send_after request Link = Some Last
send_after request Last = Some Bell
send_after request Bell = None

-- WHAT AN EVENT SAYS: a Transfer Event of endpoint 0 (6.4.2.1). A short packet of the Data Stage tells how much came; the Status Stage ends the
-- transfer; a failing code fails it, whatever TRB it names.

abbrev pub is_at : Option ℕ → ℕ → Bool
is_at (Some at) trb = at == trb
is_at None trb = false

abbrev pub left_of : Request → ℕ → ℕ
left_of request residual = (packet_of request).length - residual

abbrev pub behind_completion : Request → Completion → ℕ → Bool → Bool → Seen
behind_completion request completion.Stall residual second status = Stalled
behind_completion request completion.Transaction residual second status = Failed
behind_completion request completion.Failed residual second status = Failed
behind_completion request completion.Success residual second status = if status then Done else Other
behind_completion request completion.ShortPacket residual second status =
    if status then Done else if second then Moved (left_of request residual) else Other
behind_completion request completion.ContextState residual second status = Other
behind_completion request completion.Stopped residual second status = Other
behind_completion request completion.StoppedLengthInvalid residual second status = Other
behind_completion request completion.StoppedShortPacket residual second status = Other
behind_completion request completion.Other residual second status = Other

abbrev pub transfer_seen : Bool → Layout → ℕ → Request → ℕ → ℕ → ℕ → Seen
transfer_seen true layout third request trb residual code =
    behind_completion request (transfer_completion code residual) residual (is_at (trb_in layout third 1) trb)
    (is_at (trb_in layout third (status_place request)) trb)
transfer_seen false layout third request trb residual code = Other

abbrev pub event_seen : Layout → ℕ → Request → Event → Seen
event_seen layout third request (event.Transfer trb residual code endpoint slot) =
    transfer_seen (endpoint == 1) layout third request trb residual code
event_seen layout third request (event.Command trb code slot) = Other
event_seen layout third request (event.Port port) = Other
event_seen layout third request (event.Controller code) = Other
event_seen layout third request (event.Other kind) = Other
