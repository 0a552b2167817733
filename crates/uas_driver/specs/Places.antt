-- What the controller beyond reads at a place of a ring (xHCI 1.2, 4.9.2 and 4.11.5.1).
use Rattle.std.specs.Prelude.{ℕ, ◌+◌, ◌-◌, ◌*◌, ◌==◌, if◌then◌else◌, List, Option, None, option_and_then}
use Rattle.std.specs.Option.{option_map_or}
use Rattle.cycle_ring.specs.Ring.{item_at}
use Rattle.cycle_ring.specs.Items.{ItemRing, raw_image, raw_link_image}

-- the bytes at the Link's address: those of the Link behind the item before it, where that item is there
abbrev pub link_read : ℕ → ItemRing → ℕ → Option (List ℕ)
link_read n ring address =
    if address == ring.base + 16 * (n - 1) then option_and_then (raw_link_image n ring) (item_at n ring (address - 16)) else None

-- The bytes at an address of a ring of n places: of the item that stands there, or of the Link. Worked: of one item on the ring at
-- 43012000h, 43012000h has its 16 bytes, and 43012010h none.
abbrev pub place_read : ℕ → ItemRing → ℕ → Option (List ℕ)
place_read n ring address = option_map_or (raw_image n ring) (item_at n ring address) (link_read n ring address)
