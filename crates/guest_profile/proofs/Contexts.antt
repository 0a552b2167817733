-- What a look at a context finds.
use Rattle.std.proofs.Common.{◌≡◌, ℕ, ◌+◌, ◌*◌, ◌/◌, ◌%◌, ◌<◌, Bool, true, false, [], refl, arith}
use Rattle.byteorder.specs.Endian.{little_bytes, little_number}
use Rattle.byteorder.specs.Numbers.{little_number-reads_back}
use Rattle.guest_memory.specs.declared.rings.cursor.Cursor.{Cursor}
use Rattle.guest_memory.specs.declared.rings.context.Home.{Home}
use Rattle.guest_memory.specs.declared.rings.context.Home.TheVariants.{Stream, Endpoint}
use Rattle.guest_memory.specs.rings.Words.{bit}
use Rattle.guest_memory.specs.rings.Ends.{cursor_in, found_at, home_bytes, is_ring, looked, number_of, pointer_bytes, stream_bytes}
use Rattle.guest_profile.specs.Contexts.{EndIsLooked, IsDequeue}

-- bits 3:1 of the quadword where an end is kept
abbrev low_of : Home → ℕ
low_of (Stream at) = 1
low_of (Endpoint at) = 0

-- a cursor's quadword gives it back
cursor_in-number_of : (cursor : Cursor) (low : ℕ) → low < 8 → cursor.place % 16 ≡ 0 → cursor_in (number_of cursor low) ≡ cursor
cursor_in-number_of cursor low small aligned = by_cycle cursor.cycle
  where
    same_cursor : (place : ℕ) (cycle bit : Bool) → place ≡ cursor.place → cycle ≡ bit
        → ◌≡◌ {A = Cursor} (record { place = place; cycle = cycle }) (record { place = cursor.place; cycle = bit })
    same_cursor place cycle bit a b = rw (a, b) refl

    by_cycle : (cycle : Bool) → cursor_in (16 * (cursor.place / 16) + 2 * low + bit cycle) ≡ record { place = cursor.place; cycle = cycle }
    by_cycle true =
        let odd : (16 * (cursor.place / 16) + 2 * low + 1) % 2 ≡ 1 = omega arith in
        same_cursor _ _ true (omega arith) (rw odd refl)
    by_cycle false =
        let even : (16 * (cursor.place / 16) + 2 * low + 0) % 2 ≡ 0 = omega arith in
        same_cursor _ _ false (omega arith) (rw even refl)

bit-small : (b : Bool) → bit b < 2
bit-small true = omega arith
bit-small false = omega arith

-- the quadword in what is kept
number_kept : (home : Home) (cursor : Cursor) → IsDequeue cursor → little_number 8 (home_bytes home 1 cursor) ≡ number_of cursor (low_of home)
unfolding stream_bytes pointer_bytes
number_kept (Stream at) cursor is =
    let b = bit-small cursor.cycle in
    little_number-reads_back 8 (number_of cursor 1) (little_bytes 8 0) (omega (arith, is.0, is.1))
number_kept (Endpoint at) cursor is =
    let b = bit-small cursor.cycle in
    little_number-reads_back 8 (number_of cursor 0) [] (omega (arith, is.0, is.1))

-- there is a ring
ring_kept : (home : Home) (cursor : Cursor) → is_ring home (number_of cursor (low_of home)) ≡ true
ring_kept (Stream at) cursor =
    let b = bit-small cursor.cycle in
    let kind : number_of cursor 1 / 2 % 8 ≡ 1 = omega arith in
    rw kind refl
ring_kept (Endpoint at) cursor = refl

low-small : (home : Home) → low_of home < 8
low-small (Stream at) = omega arith
low-small (Endpoint at) = omega arith

pub end_is_looked : EndIsLooked
unfolding looked found_at
end_is_looked memory home cursor words has is fetches =
    let number = number_kept home cursor is in
    let ring = ring_kept home cursor in
    let here : cursor_in (number_of cursor (low_of home)) ≡ cursor = cursor_in-number_of cursor (low_of home) (low-small home) is.0 in
    rw (has, number, ring, here, fetches) refl
