-- Where the bytes of a TRB of an OUT pipe are.
use Rattle.std.specs.Prelude.{ℕ, ◌+◌, ◌%◌, ◌^◌, nat_le, Bool, true, ◌&&◌, if◌then◌else◌, List, take, drop, Option, Some}
use Rattle.byteorder.specs.Endian.{little_bytes}
use Rattle.guest_memory.specs.Bytes.{Memory, bytes_from}
use Rattle.guest_pipes.specs.declared.progress.Progress.{Progress}
use Rattle.guest_tags.specs.declared.buffer.Buffer.{Buffer}

-- Immediate Data: the bytes are the pointer field, where it has room for the length
abbrev pub is_immediate : Buffer → Bool
is_immediate buffer = buffer.flags.idt && nat_le buffer.length 8

abbrev pub immediate_bytes : Buffer → ℕ → ℕ → List ℕ
immediate_bytes buffer moved count = take count (drop moved (little_bytes 8 buffer.pointer))

-- so many bytes behind those that were moved, where they are there
unfoldable pub bytes_out : Memory → Buffer → ℕ → ℕ → Option (List ℕ)
bytes_out memory buffer moved count =
    if is_immediate buffer then Some (immediate_bytes buffer moved count) else bytes_from memory (buffer.pointer + moved) count

-- bytes were moved of a TRB whose place in the TD isn't looked at again
abbrev pub tallied : Progress → ℕ → Progress
tallied progress count = record progress { edtla = (progress.edtla + count) % 2 ^ 24; begun = true }
