-- Requests and simple replies, as bytes. All numbers are big endian.
use Rattle.std.specs.Prelude.{◌≡◌, ℕ, ◌<◌, ◌^◌, ◌==◌, if◌then◌else◌, List, ◌++◌, drop, Result, Ok, Err}
use Rattle.byteorder.specs.Endian.{big_bytes, big_number}
use Rattle.nbd.specs.declared.NotNbd.{NotNbd}
use Rattle.nbd.specs.declared.transmission.Command.{Command}
use Rattle.nbd.specs.declared.transmission.Command.TheVariants.{Read, Write, Disconnect, Flush, Other}
use Rattle.nbd.specs.declared.transmission.ErrorNumber.{ErrorNumber}
use Rattle.nbd.specs.declared.transmission.ErrorNumber.TheVariants as error
use Rattle.nbd.specs.declared.transmission.Reply.{Reply}
use Rattle.nbd.specs.declared.transmission.Request.{Request}

abbrev pub request_magic : ℕ
request_magic = 0x25609513

abbrev pub reply_magic : ℕ
reply_magic = 0x67446698

-- COMMANDS AND ERRORS

abbrev pub number_of_command : Command → ℕ
number_of_command Read = 0
number_of_command Write = 1
number_of_command Disconnect = 2
number_of_command Flush = 3
number_of_command (Other number) = number

abbrev pub command_of : ℕ → Command
command_of number =
    if number == 0 then Read else (if number == 1 then Write else (if number == 2 then Disconnect else (if number == 3 then Flush else Other number)))

-- a command is named by its own name
abbrev pub IsCommand : Command → Type 0
IsCommand command = command_of (number_of_command command) ≡ command

-- the numbers of Linux: EIO, ENOMEM, EINVAL, ENOSPC
abbrev pub number_of_error : ErrorNumber → ℕ
number_of_error error.None = 0
number_of_error error.Io = 5
number_of_error error.NoMemory = 12
number_of_error error.Invalid = 22
number_of_error error.NoSpace = 28
number_of_error (error.Other number) = number

abbrev pub error_of : ℕ → ErrorNumber
error_of number =
    if number == 0 then error.None
    else (if number == 5 then error.Io
    else (if number == 12 then error.NoMemory
    else (if number == 22 then error.Invalid
    else (if number == 28 then error.NoSpace else error.Other number))))

abbrev pub IsError : ErrorNumber → Type 0
IsError error = error_of (number_of_error error) ≡ error

-- REQUESTS

-- magic, flags, command, cookie, offset, length: 28 bytes
unfoldable pub request_text : Request → List ℕ
request_text request =
    big_bytes 4 request_magic ++ big_bytes 2 request.flags.0 ++ big_bytes 2 (number_of_command request.command)
    ++ big_bytes 8 request.cookie ++ big_bytes 8 request.offset ++ big_bytes 4 request.length

-- the request in 28 bytes, where they begin with its magic
unfoldable pub request_in : List ℕ → Result Request NotNbd
request_in bytes =
    if big_number 4 bytes == request_magic then Ok (record {
      flags = record { 0 = big_number 2 (drop 4 bytes) };
      command = command_of (big_number 2 (drop 6 bytes));
      cookie = big_number 8 (drop 8 bytes);
      offset = big_number 8 (drop 16 bytes);
      length = big_number 4 (drop 24 bytes);
    }) else Err (record {})

-- each field fits its width, and the command is named by its own name
pub record FitsRequest (request : Request) : Type 0 where
  pub flags : request.flags.0 < 2 ^ 16
  pub command : number_of_command request.command < 2 ^ 16
  pub named : IsCommand request.command
  pub cookie : request.cookie < 2 ^ 64
  pub offset : request.offset < 2 ^ 64
  pub length : request.length < 2 ^ 32

-- REPLIES

-- magic, error, cookie: 16 bytes
unfoldable pub reply_text : Reply → List ℕ
reply_text reply = big_bytes 4 reply_magic ++ big_bytes 4 (number_of_error reply.error) ++ big_bytes 8 reply.cookie

-- the reply in 16 bytes, where they begin with its magic
unfoldable pub reply_in : List ℕ → Result Reply NotNbd
reply_in bytes =
    if big_number 4 bytes == reply_magic then Ok (record {
      error = error_of (big_number 4 (drop 4 bytes));
      cookie = big_number 8 (drop 8 bytes);
    }) else Err (record {})

pub record FitsReply (reply : Reply) : Type 0 where
  pub error : number_of_error reply.error < 2 ^ 32
  pub named : IsError reply.error
  pub cookie : reply.cookie < 2 ^ 64
