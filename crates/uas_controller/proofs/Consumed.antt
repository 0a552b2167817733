-- What a ring's calls tell of an item at an address, as its place among those that weren't given back.
use Rattle.std.proofs.Common.{◌≡◌, ℕ, ◌≤◌, true, false, nat_lt, Option, Some, None, option_map, refl, inl, inr}
use Rattle.std.specs.Prelude.{is_some, option_and_then}
use Rattle.std.proofs.lemmas.Bool.{cases_Bool, ltb-true}
use Rattle.cycle_ring.specs.Ring.{IsConsumed, NamedItemsHaveAddressesOf, consumed_item, item_at}
use Rattle.cycle_ring.specs.Items.{Item, ItemRing, chain_consumed_at, item_chain}

consumed_by : (n : ℕ) (ring : ItemRing) (address : ℕ) (item : Option ℕ) → NamedItemsHaveAddressesOf Item → 4 ≤ n → item_at n ring address ≡ item
    → is_some (option_map item_chain (option_and_then (consumed_item ring) item)) ≡ true → (k : ℕ) × IsConsumed n ring k address
consumed_by n ring address None only places at is = absurd (cc)
consumed_by n ring address (Some k) only places at is =
    elim (cases_Bool (nat_lt k ring.got)) as (λ _. (k : ℕ) × IsConsumed n ring k address) [
      | inl before ↦ (k, (ltb-true k ring.got before, (only n k address ring places at).1))
      | inr behind ↦ let none : false ≡ true = rw behind at is in absurd (cc)
    ]

pub chain-consumed : (n : ℕ) (ring : ItemRing) (address : ℕ) → NamedItemsHaveAddressesOf Item → 4 ≤ n
    → is_some (chain_consumed_at n ring address) ≡ true → (k : ℕ) × IsConsumed n ring k address
chain-consumed n ring address only places is = consumed_by n ring address (item_at n ring address) only places refl is
