-- The messages of the handshake, as bytes. All numbers are big endian.
use Rattle.std.specs.Prelude.{◌≡◌, ℕ, ◌<◌, ◌^◌, ◌==◌, ◌&&◌, if◌then◌else◌, List, ◌++◌, drop, Result, Ok, Err}
use Rattle.byteorder.specs.Endian.{big_bytes, big_number}
use Rattle.nbd.specs.declared.NotNbd.{NotNbd}
use Rattle.nbd.specs.declared.flags.ServerFlags.{ServerFlags}
use Rattle.nbd.specs.declared.handshake.BlockSizes.{BlockSizes}
use Rattle.nbd.specs.declared.handshake.Export.{Export}
use Rattle.nbd.specs.declared.handshake.OptionHead.{OptionHead}
use Rattle.nbd.specs.declared.handshake.OptionKind.{OptionKind}
use Rattle.nbd.specs.declared.handshake.OptionKind.TheVariants as option
use Rattle.nbd.specs.declared.handshake.OptionReply.{OptionReply}
use Rattle.nbd.specs.declared.handshake.ReplyKind.{ReplyKind}
use Rattle.nbd.specs.declared.handshake.ReplyKind.TheVariants as reply

-- `NBDMAGIC`
abbrev pub server_magic : ℕ
server_magic = 0x4e42444d41474943

-- `IHAVEOPT`
abbrev pub option_magic : ℕ
option_magic = 0x49484156454f5054

abbrev pub option_reply_magic : ℕ
option_reply_magic = 0x0003e889045565a9

-- THE GREETING

-- two words and the flags: 18 bytes
unfoldable pub greeting_text : ServerFlags → List ℕ
greeting_text flags = big_bytes 8 server_magic ++ big_bytes 8 option_magic ++ big_bytes 2 flags.0

unfoldable pub greeting_in : List ℕ → Result ServerFlags NotNbd
greeting_in bytes =
    if (big_number 8 bytes == server_magic) && (big_number 8 (drop 8 bytes) == option_magic)
    then Ok (record { 0 = big_number 2 (drop 16 bytes) }) else Err (record {})

-- OPTIONS

abbrev pub number_of_option : OptionKind → ℕ
number_of_option option.ExportName = 1
number_of_option option.Abort = 2
number_of_option option.List = 3
number_of_option option.Info = 6
number_of_option option.Go = 7
number_of_option (option.Other number) = number

abbrev pub option_of : ℕ → OptionKind
option_of number =
    if number == 1 then option.ExportName
    else (if number == 2 then option.Abort
    else (if number == 3 then option.List
    else (if number == 6 then option.Info
    else (if number == 7 then option.Go else option.Other number))))

-- magic, option, length of its data: 16 bytes
unfoldable pub option_text : OptionHead → List ℕ
option_text head = big_bytes 8 option_magic ++ big_bytes 4 (number_of_option head.option) ++ big_bytes 4 head.length

unfoldable pub option_in : List ℕ → Result OptionHead NotNbd
option_in bytes =
    if big_number 8 bytes == option_magic then Ok (record {
      option = option_of (big_number 4 (drop 8 bytes));
      length = big_number 4 (drop 12 bytes);
    }) else Err (record {})

-- each field fits its width, and the option is named by its own name
pub record FitsOption (head : OptionHead) : Type 0 where
  pub option : number_of_option head.option < 2 ^ 32
  pub named : option_of (number_of_option head.option) ≡ head.option
  pub length : head.length < 2 ^ 32

-- REPLIES TO OPTIONS

-- errors have the highest bit
abbrev pub number_of_kind : ReplyKind → ℕ
number_of_kind reply.Ack = 1
number_of_kind reply.Server = 2
number_of_kind reply.Info = 3
number_of_kind reply.Unsupported = 0x80000001
number_of_kind reply.Invalid = 0x80000003
number_of_kind (reply.Other number) = number

abbrev pub kind_of : ℕ → ReplyKind
kind_of number =
    if number == 1 then reply.Ack
    else (if number == 2 then reply.Server
    else (if number == 3 then reply.Info
    else (if number == 0x80000001 then reply.Unsupported
    else (if number == 0x80000003 then reply.Invalid else reply.Other number))))

-- magic, option, kind, length of its data: 20 bytes
unfoldable pub option_reply_text : OptionReply → List ℕ
option_reply_text head =
    big_bytes 8 option_reply_magic ++ big_bytes 4 (number_of_option head.option) ++ big_bytes 4 (number_of_kind head.kind)
    ++ big_bytes 4 head.length

unfoldable pub option_reply_in : List ℕ → Result OptionReply NotNbd
option_reply_in bytes =
    if big_number 8 bytes == option_reply_magic then Ok (record {
      option = option_of (big_number 4 (drop 8 bytes));
      kind = kind_of (big_number 4 (drop 12 bytes));
      length = big_number 4 (drop 16 bytes);
    }) else Err (record {})

pub record FitsOptionReply (head : OptionReply) : Type 0 where
  pub option : number_of_option head.option < 2 ^ 32
  pub named : option_of (number_of_option head.option) ≡ head.option
  pub kind : number_of_kind head.kind < 2 ^ 32
  pub known : kind_of (number_of_kind head.kind) ≡ head.kind
  pub length : head.length < 2 ^ 32

-- EXPORTS

-- size and flags: 10 bytes
unfoldable pub export_text : Export → List ℕ
export_text export = big_bytes 8 export.size ++ big_bytes 2 export.flags.0

unfoldable pub export_in : List ℕ → Export
export_in bytes = record { size = big_number 8 bytes; flags = record { 0 = big_number 2 (drop 8 bytes) } }

pub record FitsExport (export : Export) : Type 0 where
  pub size : export.size < 2 ^ 64
  pub flags : export.flags.0 < 2 ^ 16

-- the least, the preferred and the greatest size of a request: 12 bytes
unfoldable pub block_sizes_text : BlockSizes → List ℕ
block_sizes_text sizes = big_bytes 4 sizes.least ++ big_bytes 4 sizes.preferred ++ big_bytes 4 sizes.most
