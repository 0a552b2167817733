-- What a request is refused for, and what one that is served is told.
use Rattle.std.specs.Prelude.{ℕ, ◌+◌, ◌==◌, nat_lt, ◌||◌, Bool, true, false, if◌then◌else◌, Result, Ok, Err}
use Rattle.file_disk.specs.declared.DiskFault.{DiskFault}
use Rattle.nbd.specs.declared.transmission.Command.{Command}
use Rattle.nbd.specs.declared.transmission.Command.TheVariants.{Read, Write, Disconnect, Flush, Other}
use Rattle.nbd.specs.declared.transmission.ErrorNumber.{ErrorNumber}
use Rattle.nbd.specs.declared.transmission.ErrorNumber.TheVariants as error
use Rattle.nbd.specs.declared.transmission.Request.{Request}

-- a request has at most 33,554,432 bytes
abbrev pub most_bytes : ℕ
most_bytes = 33554432

-- the request names no byte or too many
abbrev pub has_bad_length : Request → Bool
has_bad_length request = (request.length == 0) || nat_lt most_bytes request.length

-- the request goes beyond the end of an export of this size. By hand: of 1,024 bytes, 512 from byte 513 on do, from byte 512 on not
abbrev pub is_beyond : ℕ → Request → Bool
is_beyond size request = nat_lt size (request.offset + request.length)

-- what a request of a command is refused for; `None` for one that is served
abbrev pub refusal_of_command : ℕ → Request → Command → ErrorNumber
refusal_of_command size request Read = if has_bad_length request || is_beyond size request then error.Invalid else error.None
refusal_of_command size request Write =
    if has_bad_length request then error.Invalid else (if is_beyond size request then error.NoSpace else error.None)
refusal_of_command size request Disconnect = error.None
refusal_of_command size request Flush = error.None
refusal_of_command size request (Other number) = error.Invalid

-- a flag other than FUA, which is 1, wasn't offered
abbrev pub refusal_of : ℕ → Request → ErrorNumber
refusal_of size request = if nat_lt 1 request.flags.0 then error.Invalid else refusal_of_command size request request.command

-- a client leaves by a disconnection, and by no other command
abbrev pub is_disconnection : Command → Bool
is_disconnection Read = false
is_disconnection Write = false
is_disconnection Disconnect = true
is_disconnection Flush = false
is_disconnection (Other number) = false

-- a request that the file failed is told EIO
abbrev pub error_of : Result (Unit {0}) DiskFault → ErrorNumber
error_of (Ok done) = error.None
error_of (Err failed) = error.Io
