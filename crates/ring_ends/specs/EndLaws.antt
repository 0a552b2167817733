-- Laws of the ends of a ring: an end's counted place, the place behind it, and the Cycle bits of the turn that it begins.
use Rattle.std.proofs.Common.{◌≡◌, ℕ, ◌+◌, ◌-◌, ◌*◌, ◌/◌, ◌%◌, ◌^◌, ◌<◌, ◌≤◌, ◌⊎◌, true, false, not, ◌==◌, List, slice_index, get_or-drop, refl}
use Rattle.std.proofs.Common.{sym, ap, ◌∙◌, arith, inl, inr}
use Rattle.std.proofs.Math.Nat.{mod-lt, mod-eq_of_lt, mod-add-mod, add-mod_right, div-add-mod, div-eq_of_lt}
use Rattle.std.proofs.lemmas.Nat.{div-mul-add, mod-mul-add}
use Rattle.std.proofs.lemmas.Bool.{le-leb, lt-leb, cases_lt, cases_eq, eq-eqb, ne_eqb}
use Rattle.ring_ends.specs.Counted.{turn_bit, counted, distance, IsEnd, next_end, bit_from}
use Rattle.xhci_trb.specs.Words.{words_in}
use Rattle.xhci_trb.specs.Reader.{cycle_in}
use Rattle.ring_ends.specs.Held.{chain_in}
use Rattle.ring_ends.specs.TurnLaws.{wraps_once, place_ahead, place_behind}
use Rattle.ring_ends.specs.declared.End.{End}

-- a number by its turn and its place
turn_of : (m q r j : ℕ) → r < m → j ≡ q * m + r → (j / m ≡ q) × (j % m ≡ r)
turn_of m q r j below e = (ap (λ (x : ℕ). x / m) e ∙ div-mul-add q m r below, ap (λ (x : ℕ). x % m) e ∙ mod-mul-add q m r below)

-- the turns alternate
other_turn : (q : ℕ) → ((q + 1) % 2 == 0) ≡ not (q % 2 == 0)
other_turn q =
    let half : 2 * (q / 2) + q % 2 ≡ q = div-add-mod q 2 in
    elim (cases_eq (q % 2) 0) as (λ _. ((q + 1) % 2 == 0) ≡ not (q % 2 == 0)) [
      | inl even ↦
          let odd : (q + 1) % 2 ≡ 1 = omega arith in
          rw (even, odd) refl
      | inr odd ↦
          let one : q % 2 ≡ 1 = omega arith in
          let even : (q + 1) % 2 ≡ 0 = omega arith in
          rw (one, even) refl
    ]

-- one turn on: the same place, the other Cycle bit
pub turn_bit-next : (m j : ℕ) → 0 < m → turn_bit m (j + m) ≡ not (turn_bit m j)
turn_bit-next m j some =
    let below : j % m < m = mod-lt j some in
    let split : m * (j / m) + j % m ≡ j = div-add-mod j m in
    let e : j + m ≡ (j / m + 1) * m + j % m = omega arith in
    rw ((turn_of m (j / m + 1) (j % m) (j + m) below e).0) (other_turn (j / m))

-- the two turns that are counted
pub two_turns : (m j : ℕ) → j < 2 * m → ((j < m) × (j % m ≡ j) × (turn_bit m j ≡ true)) ⊎ ((m ≤ j) × (m + j % m ≡ j) × (turn_bit m j ≡ false))
two_turns m j below = elim (cases_lt j m) [
  | inl low ↦
      let e : j ≡ 0 * m + j = omega arith in
      let here = turn_of m 0 j j low e in
      let bit : turn_bit m j ≡ true = rw (here.0) refl in
      inl (low, here.1, bit)
  | inr high ↦
      let e : j ≡ 1 * m + (j - m) = omega arith in
      let here = turn_of m 1 (j - m) j (omega arith) e in
      let bit : turn_bit m j ≡ false = rw (here.0) refl in
      inr (high, omega (arith, here.1), bit)
]

-- an end's counted place
pub counted-end : (m j : ℕ) (end : End) → j < 2 * m → IsEnd m j end → counted m end ≡ j
counted-end m j end below is = elim (two_turns m j below) as (λ _. counted m end ≡ j) [
  | inl low ↦ rw (is.cycle, low.2, is.place) (low.1)
  | inr high ↦ rw (is.cycle, high.2, is.place) (high.1)
]

-- the end behind an end
pub IsEnd-next : (m j : ℕ) (end : End) → 0 < m → IsEnd m j end → IsEnd m (j + 1) (next_end m end)
IsEnd-next m j end some is =
    let below : j % m < m = mod-lt j some in
    let split : m * (j / m) + j % m ≡ j = div-add-mod j m in
    let here : end.place ≡ j % m = is.place in
    elim (cases_eq (end.place + 1) m) as (λ _. IsEnd m (j + 1) (next_end m end)) [
      | inl last ↦
          let e : j + 1 ≡ (j / m + 1) * m + 0 = omega arith in
          let next = turn_of m (j / m + 1) 0 (j + 1) some e in
          rw (eq-eqb (end.place + 1) m last) (record {
            place = sym next.1;
            cycle = rw (next.0, is.cycle) (sym (other_turn (j / m)));
          })
      | inr inside ↦
          let e : j + 1 ≡ j / m * m + (j % m + 1) = omega arith in
          let next = turn_of m (j / m) (j % m + 1) (j + 1) (omega arith) e in
          rw (ne_eqb (end.place + 1) m inside) (record {
            place = rw (next.1, is.place) refl;
            cycle = rw (next.0) (is.cycle);
          })
    ]

-- the Cycle bit of a place of the turn that starts at the counted place at
pub turn_bit-ahead : (m at k : ℕ) → k < m → turn_bit m (at + k) ≡ bit_from (at % m) (turn_bit m at) ((at + k) % m)
turn_bit-ahead m at k within =
    let below : at % m < m = mod-lt at (omega arith) in
    let split : m * (at / m) + at % m ≡ at = div-add-mod at m in
    elim (cases_lt (at % m + k) m) as (λ _. turn_bit m (at + k) ≡ bit_from (at % m) (turn_bit m at) ((at + k) % m)) [
      | inl low ↦
          let e : at + k ≡ at / m * m + (at % m + k) = omega arith in
          let here = turn_of m (at / m) (at % m + k) (at + k) low e in
          rw (here.1, here.0, le-leb (at % m) (at % m + k) (omega arith)) refl
      | inr high ↦
          let e : at + k ≡ (at / m + 1) * m + (at % m + k - m) = omega arith in
          let here = turn_of m (at / m + 1) (at % m + k - m) (at + k) (omega arith) e in
          rw (here.1, here.0, lt-leb (at % m) (at % m + k - m) (omega arith)) (other_turn (at / m))
    ]

-- the Cycle bit by byte 12
pub cycle_in-byte : (bytes : List ℕ) → cycle_in (words_in bytes) ≡ (slice_index bytes 12 % 2 == 1)
unfolding words_in
cycle_in-byte bytes =
    let low : (words_in bytes).control % 2 ≡ slice_index bytes 12 % 2 = omega (arith, get_or-drop 12 bytes 0 0) in
    ap (λ (x : ℕ). x == 1) low

-- the Chain bit by byte 12
pub chain_in-byte : (bytes : List ℕ) → chain_in (words_in bytes) ≡ (slice_index bytes 12 / 16 % 2 == 1)
unfolding words_in
chain_in-byte bytes =
    let low : (words_in bytes).control / 2 ^ 4 % 2 ≡ slice_index bytes 12 / 16 % 2 = omega (arith, get_or-drop 12 bytes 0 0) in
    ap (λ (x : ℕ). x == 1) low

-- the place that so many steps of one place lead to: before the end of the turn, and past it
pub ahead_below : (m from steps : ℕ) → from + steps < m → from + steps ≡ (from + steps) % m
ahead_below m from steps below = sym (mod-eq_of_lt below)

pub ahead_past : (m from steps : ℕ) → from < m → steps ≤ m → m ≤ from + steps → from + steps - m ≡ (from + steps) % m
ahead_past m from steps first most past =
    let rest : from + steps - m < m = omega arith in
    let back : from + steps - m + m ≡ from + steps = omega arith in
    sym (mod-eq_of_lt rest) ∙ sym (add-mod_right (from + steps - m) m) ∙ ap (λ (x : ℕ). x % m) back

-- the first end of a ring of zeros
pub IsEnd-first : (m j : ℕ) → 0 < m → j ≡ 0 → IsEnd m j (record { place = 0; cycle = true })
IsEnd-first m j some zeroth =
    let place : j % m ≡ 0 = mod-eq_of_lt (omega arith) ∙ zeroth in
    let turn : j / m ≡ 0 = div-eq_of_lt (omega arith) in
    record { place = sym place; cycle = sym (ap (λ (q : ℕ). q % 2 == 0) turn) }

-- steps from the first place of a turn to the place of item k
pub distance-ahead : (m at k : ℕ) → k < m → distance m (at % m) ((at + k) % m) ≡ k
distance-ahead m at k below =
    let first : at % m < m = mod-lt at (omega arith) in
    let place : (at % m + k) % m ≡ (at + k) % m = mod-add-mod at m k in
    elim (wraps_once m (at % m + k) (omega arith)) as (λ _. distance m (at % m) ((at + k) % m) ≡ k) [
      | inl low ↦ rw (le-leb (at % m) ((at + k) % m) (omega arith)) (omega arith)
      | inr high ↦ rw (lt-leb (at % m) ((at + k) % m) (omega arith)) (omega arith)
    ]

-- the item so many steps ahead stands at the place
pub distance-place : (m at place : ℕ) → place < m → (distance m (at % m) place < m) × ((at + distance m (at % m) place) % m ≡ place)
distance-place m at place below =
    let first : at % m < m = mod-lt at (omega arith) in
    elim (cases_lt place (at % m)) as (λ _. (distance m (at % m) place < m) × ((at + distance m (at % m) place) % m ≡ place)) [
      | inl behind ↦ rw (lt-leb (at % m) place behind) (omega arith, place_behind m at place (place + m - at % m) below (omega arith))
      | inr ahead ↦ rw (le-leb (at % m) place ahead) (omega arith, place_ahead m at place (place - at % m) below (omega arith))
    ]

-- an end at a place, by the Cycle bit of the turn that begins at another end
pub IsEnd-place : (m at place : ℕ) (start : End) → place < m → IsEnd m at start
    → IsEnd m (at + distance m (at % m) place) (record { place = place; cycle = bit_from start.place start.cycle place })
IsEnd-place m at place start below is =
    let there = distance-place m at place below in
    let ahead = turn_bit-ahead m at (distance m (at % m) place) there.0 in
    record {
      place = sym there.1;
      cycle = rw (is.place, is.cycle) (ap (bit_from (at % m) (turn_bit m at)) (sym there.1) ∙ sym ahead);
    }
