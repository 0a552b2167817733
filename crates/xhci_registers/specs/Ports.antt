-- The port of the disk: PORTSC (xHCI 1.2, 5.4.8) and what changes it.
use Rattle.std.specs.Prelude.{ℕ, ◌+◌, ◌*◌, ◌==◌, Bool, true, false, not, ◌&&◌, ◌||◌, if◌then◌else◌}
use Rattle.xhci_registers.specs.Bits.{bit, field, is_set}
use Rattle.xhci_registers.specs.declared.ports.Changes.{Changes}
use Rattle.xhci_registers.specs.declared.ports.Link.{Link}
use Rattle.xhci_registers.specs.declared.ports.Link.TheVariants.{U0, U3, Disabled, RxDetect}
use Rattle.xhci_registers.specs.declared.ports.Port.{Port}
use Rattle.xhci_registers.specs.declared.ports.Wake.{Wake}

-- PLS (table 5-27)
abbrev pub link_number : Link → ℕ
link_number U0 = 0
link_number U3 = 3
link_number Disabled = 4
link_number RxDetect = 5

abbrev pub is_suspended : Link → Bool
is_suspended U0 = false
is_suspended U3 = true
is_suspended Disabled = false
is_suspended RxDetect = false

abbrev pub is_disabled : Link → Bool
is_disabled U0 = false
is_disabled U3 = false
is_disabled Disabled = true
is_disabled RxDetect = false

abbrev pub no_changes : Changes
no_changes = record { connect = false; warm_reset = false; reset = false; link = false }

abbrev pub no_wake : Wake
no_wake = record { connect = false; disconnect = false; over_current = false }

-- nothing is enabled or told yet; the device may be there
abbrev pub idle_port : Bool → Port
idle_port attached = record { attached = attached; connected = false; enabled = false; link = RxDetect; changes = no_changes; owes_event = false; wake = no_wake; power = 0 }

-- 4.19.2: some change bit is set
abbrev pub has_change : Changes → Bool
has_change changes = changes.connect || changes.warm_reset || changes.reset || changes.link

-- The port with these change bits more. An event is owed where none was set before (4.19.2, the port status change event generation).
abbrev pub changed : Port → Changes → Port
changed port more = record port {
  changes = record {
    connect = port.changes.connect || more.connect;
    warm_reset = port.changes.warm_reset || more.warm_reset;
    reset = port.changes.reset || more.reset;
    link = port.changes.link || more.link;
  };
  owes_event = port.owes_event || (not (has_change port.changes) && has_change more);
}

-- nothing was detected yet, and the port isn't disabled
abbrev pub is_idle : Port → Bool
is_idle port = not port.connected && is_detecting port.link
  where
    is_detecting : Link → Bool
    is_detecting U0 = false
    is_detecting U3 = false
    is_detecting Disabled = false
    is_detecting RxDetect = true

-- the device is detected: CCS, CSC, PED, U0
abbrev pub detected : Port → Port
detected port = changed (record port { connected = true; enabled = true; link = U0 }) (record no_changes { connect = true })

-- the device is gone: not connected, not enabled, CSC
abbrev pub lost : Port → Port
lost port = changed (record port { connected = false; enabled = false; link = RxDetect }) (record no_changes { connect = true })

-- the change bits without those that are written 1: CSC 17, WRC 19, PRC 21, PLC 22
abbrev pub cleared : Changes → ℕ → Changes
cleared changes value = record {
  connect = changes.connect && not (is_set value 17);
  warm_reset = changes.warm_reset && not (is_set value 19);
  reset = changes.reset && not (is_set value 21);
  link = changes.link && not (is_set value 22);
}

-- WCE 25, WDE 26, WOE 27
abbrev pub wake_in : ℕ → Wake
wake_in value = record { connect = is_set value 25; disconnect = is_set value 26; over_current = is_set value 27 }

abbrev pub wake_word : Wake → ℕ
wake_word wake = bit wake.connect 0x2000000 + bit wake.disconnect 0x4000000 + bit wake.over_current 0x8000000

-- the wake bits are kept, the change bits cleared
abbrev pub acknowledged : Port → ℕ → Port
acknowledged port value = record port { changes = cleared port.changes value; wake = wake_in value }

-- PED written 1 disables the port, which isn't connected then (4.19.1.2, our reading): CSC
abbrev pub disabled_by : Port → ℕ → Port
disabled_by port value =
    if is_set value 1 && port.enabled
    then changed (record port { connected = false; enabled = false; link = Disabled }) (record no_changes { connect = true })
    else port

-- PR or, with WRC too, WPR resets the device that is there
abbrev pub resets : Port → ℕ → Bool
resets port value = port.connected && (is_set value 4 || is_set value 31)

abbrev pub link_after_reset : Port → Link
link_after_reset port = if port.enabled then U0 else port.link

abbrev pub reset_by : Port → ℕ → Port
reset_by port value =
    if resets port value
    then changed (record port { link = link_after_reset port }) (record no_changes { reset = true; warm_reset = is_set value 31 })
    else port

-- a disabled port looks for the device anew
abbrev pub looked_for : Port → Port
looked_for port = if port.attached then detected port else record port { link = RxDetect }

-- PLS is written with LWS, bit 16: 3 suspends an enabled port; 0 resumes a suspended one, and PLC tells when that is done; 5 is for a disabled one
abbrev pub linked_by : Port → ℕ → Port
linked_by port value = if is_set value 16 then linked port (field value 5 16) else port
  where
    linked : Port → ℕ → Port
    linked port state =
        if state == 3 && port.enabled then record port { link = U3 }
        else (if state == 0 && is_suspended port.link then changed (record port { link = U0 }) (record no_changes { link = true })
        else (if state == 5 && is_disabled port.link then looked_for port
        else port))

-- the port once PORTSC was written
abbrev pub port_written : Port → ℕ → Port
port_written port value = linked_by (reset_by (disabled_by (acknowledged port value) value) value) value

-- whether that reset the device
abbrev pub is_reset_by : Port → ℕ → Bool
is_reset_by port value = resets (disabled_by (acknowledged port value) value) value

-- PORTSC: CCS 0, PED 1, PLS 8:5, PP 9 (always 1), speed 13:10 (4 where connected), CSC 17, WRC 19, PRC 21, PLC 22, wake bits 27:25
abbrev pub port_word : Port → ℕ
port_word port =
    bit port.connected 1 + bit port.enabled 2 + 32 * link_number port.link + 512 + bit port.connected 4096
    + bit port.changes.connect 0x20000 + bit port.changes.warm_reset 0x80000 + bit port.changes.reset 0x200000
    + bit port.changes.link 0x400000 + wake_word port.wake
