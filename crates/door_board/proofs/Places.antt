-- Places of clients, for each number of tags.
use Rattle.std.proofs.Common.{◌≡◌, ℕ, ◌+◌, ◌-◌, ◌*◌, ◌/◌, ◌%◌, ◌<◌, ◌≤◌, arith}
use Rattle.std.proofs.lemmas.Nat.{mul-le, same_from_place}
use Rattle.uas_profile.specs.Tags.{AreTags}
use Rattle.door_board.specs.Counts.{place_of}

-- a client's places are in its word
pub in_word : (tags client i : ℕ) → AreTags tags → 1 ≤ i → i ≤ tags → tags * (client / 4 % 4) + (i - 1) < 64
in_word tags client i are low high = omega (arith, are.most, mul-le tags (client / 4 % 4) tags 3 (omega arith) (omega arith))

-- a client is known by its word and its four places there
client_alone : (client other : ℕ) → other % 4 + 4 * (other / 16) ≡ client % 4 + 4 * (client / 16) → other / 4 % 4 ≡ client / 4 % 4 → other ≡ client
client_alone client other word row = omega (arith, word, row)

-- a place is of one client and one index
pub place_alone : (tags client i other j : ℕ) → AreTags tags → 1 ≤ i → i ≤ tags → 1 ≤ j → j ≤ tags
    → place_of tags other j ≡ place_of tags client i → (other ≡ client) × (j ≡ i)
place_alone tags client i other j are low high below above same =
    let word : ℕ → ℕ = λ c. c % 4 + 4 * (c / 16) in
    let one : (word other ≡ word client) × (tags * (other / 4 % 4) + (j - 1) ≡ tags * (client / 4 % 4) + (i - 1)) =
    same_from_place (word other) (tags * (other / 4 % 4) + (j - 1)) (word client) (tags * (client / 4 % 4) + (i - 1)) 64 (in_word tags other j are below above)
    (in_word tags client i are low high) (omega (arith, same)) in
    let two : (other / 4 % 4 ≡ client / 4 % 4) × (j - 1 ≡ i - 1) =
    same_from_place (other / 4 % 4) (j - 1) (client / 4 % 4) (i - 1) tags (omega arith) (omega arith) (let e = one.1 in omega arith) in
    (client_alone client other one.0 two.0, let b = two.1 in omega arith)
