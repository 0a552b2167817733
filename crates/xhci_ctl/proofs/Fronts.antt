-- What is in front of a ring, by what its two calls tell: the TRB, or that there are bytes.
use Rattle.std.proofs.Common.{◌≡◌, ℕ, List, Option, Some, None, option_map, refl, sym, ap, ◌∙◌}
use Rattle.std.specs.Prelude.{slice_get, option_and_then}
use Rattle.std.proofs.lemmas.Option.{none-some, same_Some}
use Rattle.xhci_trb.specs.declared.Trb.{Trb}
use Rattle.cycle_ring.specs.Ring.{cycle_of, pointer_of}
use Rattle.cycle_ring.specs.Items.{Item, ItemRing, foreign, item_text, known, known_front_of, known_of, raw_front_of}
use Rattle.xhci_ctl.specs.Steps.{front_at}

-- by the item, if there is one
abbrev known_by : ℕ → Option Item → Option (ℕ × Trb)
known_by pointer item = option_map (λ trb. (pointer, trb)) (option_and_then known_of item)

abbrev raw_by : ℕ → (Item → List ℕ) → Option Item → Option (ℕ × List ℕ)
raw_by pointer look item = option_map (λ one. (pointer, look one)) item

abbrev front_by : ℕ → Option Item → Option (ℕ × Option Trb)
front_by pointer item = option_map (λ one. (pointer, known_of one)) item

by-known : (pointer : ℕ) (item : Option Item) (at : ℕ × Trb) → Some at ≡ known_by pointer item → Some (at.0, Some at.1) ≡ front_by pointer item
by-known pointer None at is = absurd (none-some at (sym is))
by-known pointer (Some (known trb)) at is = ap (λ (found : ℕ × Trb). Some (found.0, Some found.1)) (same_Some at (pointer, trb) is)
by-known pointer (Some (foreign bytes)) at is = absurd (none-some at (sym is))

by-raw : (pointer : ℕ) (look : Item → List ℕ) (item : Option Item) (at : ℕ × List ℕ) → None ≡ known_by pointer item → Some at ≡ raw_by pointer look item
    → Some (at.0, None) ≡ front_by pointer item
by-raw pointer look None at none is = absurd (none-some at (sym is))
by-raw pointer look (Some (known trb)) at none is = absurd (none-some (pointer, trb) none)
by-raw pointer look (Some (foreign bytes)) at none is =
    ap (λ (found : ℕ × List ℕ). Some (found.0, None)) (same_Some at (pointer, look (foreign bytes)) is)

by-none : (pointer : ℕ) (look : Item → List ℕ) (item : Option Item) → None ≡ raw_by pointer look item → None ≡ front_by pointer item
by-none pointer look None none = refl
by-none pointer look (Some item) none = absurd (none-some (pointer, look item) none)

pub front_known : (n : ℕ) (ring : ItemRing) (at : ℕ × Trb) → Some at ≡ known_front_of n ring → Some (at.0, Some at.1) ≡ front_at n ring
front_known n ring at is = by-known (pointer_of n ring ring.got) (slice_get ring.put ring.got) at is

pub front_raw : (n : ℕ) (ring : ItemRing) (at : ℕ × List ℕ) → None ≡ known_front_of n ring → Some at ≡ raw_front_of n ring
    → Some (at.0, None) ≡ front_at n ring
front_raw n ring at none is =
    by-raw (pointer_of n ring ring.got) (λ item. item_text item (cycle_of n ring ring.got)) (slice_get ring.put ring.got) at none is

pub front_none : (n : ℕ) (ring : ItemRing) → None ≡ raw_front_of n ring → None ≡ front_at n ring
front_none n ring none =
    by-none (pointer_of n ring ring.got) (λ item. item_text item (cycle_of n ring ring.got)) (slice_get ring.put ring.got) none
