-- What is refused of regions that are lent for a call.
use Rattle.std.specs.Prelude.{◌≡◌, ℕ, ◌+◌, ◌^◌, nat_le, nat_lt, ◌&&◌, not, Bool, true, if◌then◌else◌, List, [], ◌∷◌, length}
use Rattle.std.specs.List.{list_all}
use Rattle.guest_memory.specs.declared.lend.Lent.{Lent}
use Rattle.uas_xhci_c.specs.declared.regions.TheConstants.{MOST_REGIONS, XHCI_MANY, XHCI_WRAPS, XHCI_OVERLAP, XHCI_NULL}
use Rattle.uas_xhci_c.specs.declared.saving.TheConstants.{XHCI_OUT, XHCI_ROOM, XHCI_SHORT, XHCI_MAGIC, XHCI_VERSION, XHCI_LENGTH, XHCI_SUM, XHCI_SHAPE, XHCI_VALUE}

-- the address behind its last byte
abbrev pub end : Lent → ℕ
end region = region.base + length region.bytes.now

-- no address of it is 2 ^ 64 or more
abbrev pub fits : Lent → Bool
fits region = nat_le (end region) (2 ^ 64)

-- an address is in both: the greater of their first ones is below both ends
abbrev pub overlap : Lent → Lent → Bool
overlap one other = nat_lt one.base (end one) && (nat_lt one.base (end other) && (nat_lt other.base (end one) && nat_lt other.base (end other)))

-- no address is in two of them
abbrev pub are_apart : List Lent → Bool
are_apart [] = true
are_apart (first ∷ others) = list_all (λ other. not (overlap first other)) others && are_apart others

-- the first fault of regions, or 0
abbrev pub regions_fault : List Lent → ℕ
regions_fault regions =
    if nat_lt MOST_REGIONS (length regions) then XHCI_MANY
    else if not (list_all fits regions) then XHCI_WRAPS
    else if not (are_apart regions) then XHCI_OVERLAP
    else 0

-- all faults of a controller's own
abbrev pub xhci_faults : List ℕ
xhci_faults =
    XHCI_MANY ∷ XHCI_WRAPS ∷ XHCI_OVERLAP ∷ XHCI_NULL ∷ XHCI_OUT ∷ XHCI_ROOM ∷ XHCI_SHORT ∷ XHCI_MAGIC ∷ XHCI_VERSION ∷ XHCI_LENGTH ∷ XHCI_SUM ∷ XHCI_SHAPE
    ∷ XHCI_VALUE ∷ []
