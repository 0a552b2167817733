-- The ends of a ring whose turns have m places (xHCI 1.2, 4.9.2): a counted place j is place `j mod m` of turn `j div m`.
use Rattle.std.specs.Prelude.{◌≡◌, ℕ, ◌+◌, ◌-◌, ◌/◌, ◌%◌, Bool, not, ◌==◌, nat_le, if◌then◌else◌}
use Rattle.ring_ends.specs.declared.End.{End}

-- the Cycle bit of the counted place j on turns of m places: 1 on even turns
abbrev pub turn_bit : ℕ → ℕ → Bool
turn_bit m j = j / m % 2 == 0

-- the counted place of an end
abbrev pub counted : ℕ → End → ℕ
counted m end = if end.cycle then end.place else (m + end.place)

-- an end that stands at the counted place j
pub record IsEnd (m j : ℕ) (end : End) : Type 0 where
  pub place : end.place ≡ j % m
  pub cycle : end.cycle ≡ turn_bit m j

-- the end behind this one
abbrev pub next_end : ℕ → End → End
next_end m end = if end.place + 1 == m then record { place = 0; cycle = not end.cycle } else record { place = end.place + 1; cycle = end.cycle }

-- the Cycle bit of a place on the turn that starts at this end
abbrev pub bit_from : ℕ → Bool → ℕ → Bool
bit_from first cycle place = if nat_le first place then cycle else not cycle

-- How many steps lead from one place to another.
-- Worked: on turns of 16 places, 3 from place 14 to place 1.
abbrev pub distance : ℕ → ℕ → ℕ → ℕ
distance m from to = if nat_le from to then to - from else (to + m - from)
