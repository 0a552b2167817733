-- The handshake as bytes: the greeting, what a client asks, and what it is told. All numbers are big endian.
use Rattle.std.specs.Prelude.{◌≡◌, ℕ, ◌+◌, ◌*◌, ◌==◌, nat_lt, ◌⊎◌, Bool, true, false, if◌then◌else◌}
use Rattle.std.specs.Prelude.{List, [], ◌∷◌, ◌++◌, length, drop, replicate, Option, Some, None, Ok, ⊤}
use Rattle.std.specs.Io.KnownBytes.{Appends, Consumes, IsAtEnd}
use Rattle.byteorder.specs.Endian.{big_bytes, big_number}
use Rattle.nbd.specs.declared.flags.ServerFlags.{ServerFlags}
use Rattle.nbd.specs.declared.handshake.Export.{Export}
use Rattle.nbd.specs.declared.handshake.OptionHead.{OptionHead}
use Rattle.nbd.specs.declared.handshake.OptionKind.{OptionKind}
use Rattle.nbd.specs.declared.handshake.OptionKind.TheVariants as option
use Rattle.nbd.specs.declared.handshake.ReplyKind.{ReplyKind}
use Rattle.nbd.specs.declared.handshake.ReplyKind.TheVariants as reply
use Rattle.nbd.specs.Handshake.{block_sizes_text, export_text, greeting_text, option_in, option_reply_text}
use Rattle.serve_run.specs.declared.handshake.Next.{Next}
use Rattle.serve_run.specs.declared.handshake.Next.TheVariants as next
use Rattle.serve_run.specs.Serves.{most_bytes}

-- FLAGS

-- what the server offers: FIXED_NEWSTYLE, which is 1, and NO_ZEROES, which is 2
abbrev pub offered : ServerFlags
offered = record { 0 = 3 }

-- a client may take what is offered, and nothing else
abbrev pub may_take : List ℕ → Bool
may_take flags = nat_lt (big_number 4 flags) 4

-- it took NO_ZEROES: the zeros behind an export are left out
abbrev pub lacks_zeros : List ℕ → Bool
lacks_zeros flags = nat_lt 1 (big_number 4 flags)

-- THE EXPORT

-- of so many bytes: it has flags, which is 1, and takes FLUSH, which is 4, and FUA, which is 8
abbrev pub export_of : ℕ → Export
export_of size = record { size = size; flags = record { 0 = 13 } }

unfoldable pub export_zeros : List ℕ
export_zeros = replicate 124 0

-- what EXPORT_NAME is told: the export, and the zeros behind it
abbrev pub told_export : ℕ → Bool → List ℕ
told_export size lacks = export_text (export_of size) ++ (if lacks then [] else export_zeros)

-- the information 0, on the export
abbrev pub export_information : ℕ → List ℕ
export_information size = big_bytes 2 0 ++ export_text (export_of size)

-- the information 3, on the sizes of a request: at least 1 byte, best 4,096, at most 33,554,432
abbrev pub sizes_information : List ℕ
sizes_information = big_bytes 2 3 ++ block_sizes_text (record { least = 1; preferred = 4096; most = most_bytes })

-- WHAT AN OPTION IS TOLD

-- a reply to an option, with its data
abbrev pub replied : OptionKind → ReplyKind → List ℕ → List ℕ
replied kind told bytes = option_reply_text (record { option = kind; kind = told; length = length bytes }) ++ bytes

-- INFO and GO are told of the export and of the sizes of a request
abbrev pub informed : ℕ → OptionKind → List ℕ
informed size kind =
    replied kind reply.Info (export_information size) ++ (replied kind reply.Info sizes_information ++ replied kind reply.Ack [])

-- LIST is told the one export, whose name has 0 bytes
abbrev pub listed : List ℕ
listed = replied option.List reply.Server (big_bytes 4 0) ++ replied option.List reply.Ack []

-- The data of INFO and GO are the length of a name, the name, how many informations are asked for, and two bytes for each of them. By
-- hand: 00 00 00 01, 'a', 00 01, 00 03 are 9 bytes, and 6 + 1 + 2 * 1 is 9.
abbrev pub is_whole_ask : List ℕ → Bool
is_whole_ask brought = length brought == 6 + big_number 4 brought + 2 * big_number 2 (drop (4 + big_number 4 brought) brought)

-- LIST has no data, and those of EXPORT_NAME, which are a name, of ABORT and of an option that isn't known may be any
abbrev pub is_well_formed : OptionKind → List ℕ → Bool
is_well_formed option.ExportName brought = true
is_well_formed option.Abort brought = true
is_well_formed option.List brought = length brought == 0
is_well_formed option.Info brought = is_whole_ask brought
is_well_formed option.Go brought = is_whole_ask brought
is_well_formed (option.Other number) brought = true

-- what an option is told whose data are well formed
abbrev pub answer_text : ℕ → Bool → OptionKind → List ℕ
answer_text size lacks option.ExportName = told_export size lacks
answer_text size lacks option.Abort = replied option.Abort reply.Ack []
answer_text size lacks option.List = listed
answer_text size lacks option.Info = informed size option.Info
answer_text size lacks option.Go = informed size option.Go
answer_text size lacks (option.Other number) = replied (option.Other number) reply.Unsupported []

abbrev pub told_option : ℕ → Bool → OptionKind → Bool → List ℕ
told_option size lacks kind well_formed = if well_formed then answer_text size lacks kind else replied kind reply.Invalid []

-- how the handshake goes on behind an option: a GO whose data aren't well formed begins nothing
abbrev pub next_of : OptionKind → Bool → Next
next_of option.ExportName well_formed = next.Transmission
next_of option.Abort well_formed = next.End
next_of option.List well_formed = next.Option
next_of option.Info well_formed = next.Option
next_of option.Go well_formed = if well_formed then next.Transmission else next.Option
next_of (option.Other number) well_formed = next.Option

-- ONE OPTION

-- An option that a client asked: the 16 bytes of its head, what they name, and the data behind them.
pub record Asked : Type 0 where
  pub head : List ℕ
  pub option : OptionKind
  pub brought : List ℕ

-- the head names the option and the length of the data
abbrev pub IsAsked : Asked → Type 0
IsAsked asked = (length asked.head ≡ 16) × (option_in asked.head ≡ Ok (record { option = asked.option; length = length asked.brought }))

abbrev pub asked_text : Asked → List ℕ
asked_text asked = asked.head ++ asked.brought

abbrev pub told_text : ℕ → Bool → Asked → List ℕ
told_text size lacks asked = told_option size lacks asked.option (is_well_formed asked.option asked.brought)

abbrev pub next_behind : Asked → Next
next_behind asked = next_of asked.option (is_well_formed asked.option asked.brought)

-- the head of the next option was read, or none where the client left before it
abbrev pub ReadsHead : Option OptionHead → Option (List ℕ) → Option (List ℕ) → Type 0
ReadsHead (Some head) left left_new = (bytes : List ℕ) × Consumes left left_new bytes × (length bytes ≡ 16) × (option_in bytes ≡ Ok head)
ReadsHead None left left_new = Consumes left left_new [] × IsAtEnd left_new

-- so many bytes were read, and this is what a test of them says
pub record Tested (test : List ℕ → Bool) (count : ℕ) (says : Bool) (left left_new : Option (List ℕ)) : Type 0 where
  pub brought : List ℕ
  pub len : length brought ≡ count
  pub read : Consumes left left_new brought
  pub tests : says ≡ test brought

-- The option of a head was answered: its data were read, and what it is told was sent.
pub record OptionAnswered (size : ℕ) (lacks : Bool) (head : OptionHead) (onward : Next) (left left_new : Option (List ℕ)) (Sent : List ℕ → Type 0)
    : Type 0 where
  pub brought : List ℕ
  pub len : length brought ≡ head.length
  pub read : Consumes left left_new brought
  pub sent : Sent (told_option size lacks head.option (is_well_formed head.option brought))
  pub goes_on : onward ≡ next_of head.option (is_well_formed head.option brought)

-- THE HANDSHAKE

-- all that a client asked, and all that it was told, in their order
abbrev pub options_text : List Asked → List ℕ
options_text [] = []
options_text (asked ∷ others) = asked_text asked ++ options_text others

abbrev pub answers_text : ℕ → Bool → List Asked → List ℕ
answers_text size lacks [] = []
answers_text size lacks (asked ∷ others) = told_text size lacks asked ++ answers_text size lacks others

-- each is an option behind which the handshake goes on
abbrev pub AreAnswered : List Asked → Type 0
AreAnswered [] = ⊤
AreAnswered (asked ∷ others) = IsAsked asked × (next_behind asked ≡ next.Option) × AreAnswered others

-- How it ends: with an option that begins the transmission, with one that ends the session, or as the client left before another option.
abbrev pub EndsWith : Bool → List Asked → Option (List ℕ) → Type 0
EndsWith true last left_new = (asked : Asked) × (last ≡ asked ∷ []) × IsAsked asked × (next_behind asked ≡ next.Transmission)
EndsWith false last left_new =
    ((last ≡ []) × IsAtEnd left_new) ⊎ ((asked : Asked) × (last ≡ asked ∷ []) × IsAsked asked × (next_behind asked ≡ next.End))

-- a client takes flags, which are 4 bytes; one that leaves before them has none, and asks nothing
abbrev pub IsTaken : List ℕ → List Asked → Type 0
IsTaken flags asked = ((length flags ≡ 4) × (may_take flags ≡ true)) ⊎ ((flags ≡ []) × (asked ≡ []))

-- Flags were taken, and so many options answered behind which the handshake goes on.
pub record Shaking (size : ℕ) (lacks : Bool) (count : ℕ) (left left_new written written_new : Option (List ℕ)) : Type 0 where
  pub flags : List ℕ
  pub options : List Asked
  pub many : length options ≡ count
  pub len : length flags ≡ 4
  pub may : may_take flags ≡ true
  pub zeros : lacks_zeros flags ≡ lacks
  pub answered : AreAnswered options
  pub read : Consumes left left_new (flags ++ options_text options)
  pub sent : Appends written written_new (greeting_text offered ++ answers_text size lacks options)

-- A handshake: the flags that the client took, the options behind which it went on, and how it ended.
pub record Shaken (size : ℕ) (begins : Bool) (left left_new written written_new : Option (List ℕ)) : Type 0 where
  pub flags : List ℕ
  pub options : List Asked
  pub last : List Asked
  pub taken : IsTaken flags (options ++ last)
  pub answered : AreAnswered options
  pub ends : EndsWith begins last left_new
  pub read : Consumes left left_new (flags ++ options_text (options ++ last))
  pub sent : Appends written written_new (greeting_text offered ++ answers_text size (lacks_zeros flags) (options ++ last))
