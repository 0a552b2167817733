-- The Cycle bit by the one byte that has it.
use Rattle.ring_ends.specs.EndLaws.{cycle_in-byte}

pub ruleset bit_of_byte = (cycle_in-byte)
