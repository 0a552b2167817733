-- The first range of memory that isn't there, of several that are looked at one behind another.
use Rattle.std.specs.Prelude.{◌≡◌, ℕ, ◌+◌, ◌^◌, ◌≤◌, ◌==◌, nat_lt, false, if◌then◌else◌, Option, Some, None, IfSome, option_map}
use Rattle.byteorder.specs.Endian.{little_number}
use Rattle.guest_memory.specs.Bytes.{Memory, bytes_from, is_there}
use Rattle.guest_memory.specs.declared.rings.context.Home.{Home}
use Rattle.guest_memory.specs.declared.rings.wanting.Range.{Range}
use Rattle.guest_memory.specs.rings.Ends.{cursor_in, home_at, home_size, is_ring}

-- a range where a byte of it isn't there; else what is missing of those behind it
abbrev pub missing : Memory → Range → Option Range → Option Range
missing memory range rest = if is_there memory range.at range.count then rest else Some range

-- what is asked for isn't empty, and not all of it is there
abbrev pub LacksIt : Memory → Option Range → Type 0
LacksIt memory wanted = IfSome wanted (λ range. (1 ≤ range.count) × (is_there memory range.at range.count ≡ false))

-- so many bytes so far ahead of an address; from that address on where they begin at 2 ^ 64 or above, where no memory is
abbrev pub range_ahead : ℕ → ℕ → ℕ → Range
range_ahead base ahead count =
    if nat_lt (base + ahead) (2 ^ 64) then record { at = base + ahead; count = count } else record { at = base; count = ahead + count }

-- so many bytes of a buffer behind those that were moved
abbrev pub part_wanted : Memory → ℕ → ℕ → ℕ → Option Range
part_wanted memory pointer moved count = if count == 0 then None else missing memory (range_ahead pointer moved count) None

-- where a consumer's end is kept
abbrev pub home_range : Home → Range
home_range home = record { at = home_at home; count = home_size home }

-- the TRB where the consumer stands, by the quadword where its end is kept
abbrev pub trb_range : ℕ → Range
trb_range number = record { at = (cursor_in number).place; count = 16 }

abbrev pub trb_wanted : Memory → Home → ℕ → Option Range
trb_wanted memory home number = if is_ring home number then missing memory (trb_range number) None else None

abbrev pub end_wanted : Memory → Home → Option ℕ → Option Range
end_wanted memory home None = Some (home_range home)
end_wanted memory home (Some number) = trb_wanted memory home number

-- of what `looked` reads: where the end is kept, and then the TRB
unfoldable pub look_wanted : Memory → Home → Option Range
look_wanted memory home = end_wanted memory home (option_map (little_number 8) (bytes_from memory (home_at home) (home_size home)))
