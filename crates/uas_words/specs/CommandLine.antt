-- What a command line asks for: the subcommands with their arguments, and what is read of each.
use Rattle.std.specs.Prelude.{◌≡◌, ◌≢◌, ◌≤◌, ◌⊎◌, ◌==◌, ◌||◌, ◌-◌, ℕ, Bool, not, true, false, List, [], ◌∷◌, Option, Some, None, is_some, option_map}
use Rattle.std.specs.Prelude.{option_and_then, if◌then◌else◌, codes, length, nat_le, ◌&&◌}
use Rattle.std.specs.Str.{bytes_eq}
use Rattle.std.specs.Char.{is_ascii_hexdigit}
use Rattle.std.specs.List.{list_all}
use Rattle.std.specs.Str.Parse.{digits_value, without_leading_plus}
use Rattle.clap.specs.Words.{Kinds, Row, Text, fault_of, first_of, one_of, subcommand_of}
use Rattle.clap.specs.Kinds.{or_else}
use Rattle.clap.specs.declared.error.kind.ErrorKind.{ErrorKind}
use Rattle.clap.specs.declared.error.kind.ErrorKind.TheVariants.{DisplayHelp, DisplayVersion, OutOfMemory, ValueValidation}
use Rattle.uas_profile.specs.Tags.{most_clients}
use Rattle.uas_profile.specs.declared.TheConstants.{LEAST_TAGS, MAX_BLOCKS, MOST_BLOCKS_MOVED, MOST_TAGS, TAGS, USUAL_CLIENTS}
use Rattle.byte_io.specs.declared.disks.Extent.{Extent}
use Rattle.uas_words.specs.Subcommands.{last_block, max_lba, max_rounds, program_app}
use Rattle.uas_words.specs.declared.Run.{Run}
use Rattle.uas_words.specs.declared.Run.TheVariants.{Replay, Trace, Work, Keep, Decode, Make, Info, Dump, Fill, Audit, Draw, Page, Capture}
use Rattle.byte_io.specs.Words.{number_in}

-- What is asked for, with a file's name as its text: to run a script of so many clients, tags of each and blocks, and of the block that is
-- bad in every unit, if one is; to run one and show its steps; to let so many clients with so many tags each, with so many commands out at a time, work for so many rounds, and to save their log in a
-- file, if one is named, or to keep it there while it grows, synced after so many steps; to tell what lines of bytes say; to make an image of so many
-- blocks, in place of a file that is there or not, to tell the size of one, to print its
-- blocks from a number on, so many of them, or to fill them with a byte; to audit a saved log, and to find there a checksum, if one is named; to draw a
-- script's run as a picture, or as a page; to write it to a file as a capture.
pub data Asked : Type 0 where
  replay : ℕ → ℕ → ℕ → Option ℕ → Asked
  trace : ℕ → ℕ → ℕ → Option ℕ → Asked
  work : ℕ → ℕ → ℕ → ℕ → Option Text → Asked
  keep : ℕ → ℕ → ℕ → ℕ → Text → ℕ → Asked
  decode : Asked
  make : Text → ℕ → Bool → Asked
  info : Text → Asked
  dump : Text → ℕ → ℕ → Asked
  fill : Text → ℕ → ℕ → ℕ → Asked
  audit : Text → Option ℕ → Asked
  draw : ℕ → ℕ → ℕ → Option ℕ → Asked
  page : ℕ → ℕ → ℕ → Option ℕ → Asked
  capture : ℕ → ℕ → ℕ → Text → Option ℕ → Asked

abbrev pub asked_by : Run → Asked
asked_by (Replay disks) = replay disks.clients disks.tags disks.blocks disks.bad
asked_by (Trace disks) = trace disks.clients disks.tags disks.blocks disks.bad
asked_by (Work clients tags depth rounds log) = work clients tags depth rounds (option_map (λ name. name.now) log)
asked_by (Keep clients tags depth rounds log every) = keep clients tags depth rounds log.now every
asked_by Decode = decode
asked_by (Make file blocks replaces) = make file.now blocks replaces
asked_by (Info file) = info file.now
asked_by (Dump file extent) = dump file.now extent.lba extent.count
asked_by (Fill file extent byte) = fill file.now extent.lba extent.count byte
asked_by (Audit log head) = audit log.now head
asked_by (Draw disks) = draw disks.clients disks.tags disks.blocks disks.bad
asked_by (Page disks) = page disks.clients disks.tags disks.blocks disks.bad
asked_by (Capture disks file) = capture disks.clients disks.tags disks.blocks file.now disks.bad

-- ---- the arguments of a subcommand, by what was found for it

-- A number of a command line may have a plus before its digits.
abbrev pub number_of : ℕ → ℕ → Text → Option ℕ
number_of least most word = number_in least most (without_leading_plus word)

-- `--tags N` may stand or not, and N is a number from 2 to 16; 16 is the usual one
abbrev pub usual_tags : Option Text → Option ℕ
usual_tags None = Some TAGS
usual_tags (Some word) = number_of LEAST_TAGS MOST_TAGS word

abbrev pub tags_of : List Row → Option ℕ
tags_of rows = usual_tags (one_of (codes "tags") rows)

-- `--depth D` may stand or not, and D is a number from 1 to one less than there are tags; 1 is the usual one
abbrev pub usual_depth : ℕ → Option Text → Option ℕ
usual_depth tags None = Some 1
usual_depth tags (Some word) = number_of 1 (tags - 1) word

abbrev pub depth_of : ℕ → List Row → Option ℕ
depth_of tags rows = usual_depth tags (one_of (codes "depth") rows)

-- CLIENTS is a number from 1 to the most clients of so many tags; of 16 tags 15, of 8 tags 31
abbrev pub clients_of : ℕ → List Row → Option ℕ
clients_of tags rows = option_and_then (number_of 1 (most_clients tags)) (one_of (codes "CLIENTS") rows)

-- BLOCKS is a number from 1 to 65,536
abbrev pub blocks_of : List Row → Option ℕ
blocks_of rows = option_and_then (number_of 1 MAX_BLOCKS) (one_of (codes "BLOCKS") rows)

-- ROUNDS is a number from 1 to 1,000
abbrev pub rounds_of : List Row → Option ℕ
rounds_of rows = option_and_then (number_of 1 max_rounds) (one_of (codes "ROUNDS") rows)

-- What an option's number comes to: none where the option isn't there. A word that is no number of this range comes to nothing.
abbrev pub optional_number : ℕ → ℕ → Option Text → Option (Option ℕ)
optional_number least most None = Some None
optional_number least most (Some word) = option_map (λ number. Some number) (number_of least most word)

-- `--bad LBA` may stand or not, and LBA is a number from 0 to 65,535
abbrev pub bad_of : List Row → Option (Option ℕ)
bad_of rows = optional_number 0 last_block (one_of (codes "bad") rows)

-- LBA is a number from 0 to 4,294,967,295
abbrev pub lba_of : List Row → Option ℕ
lba_of rows = option_and_then (number_of 0 max_lba) (one_of (codes "LBA") rows)

-- COUNT is a number from 1 to 128, the most blocks of one READ or WRITE
abbrev pub count_of : List Row → Option ℕ
count_of rows = option_and_then (number_of 1 MOST_BLOCKS_MOVED) (one_of (codes "COUNT") rows)

-- BYTE is a number from 0 to 255
abbrev pub byte_of : List Row → Option ℕ
byte_of rows = option_and_then (number_of 0 255) (one_of (codes "BYTE") rows)

-- FILE is any text
abbrev pub file_of : List Row → Option Text
file_of rows = first_of (codes "FILE") rows

-- CLIENTS BLOCKS [--bad LBA] [--tags N]
abbrev pub script_of : (ℕ → ℕ → ℕ → Option ℕ → Asked) → List Row → Option Asked
script_of run rows =
    option_and_then (λ tags. option_and_then (λ clients. option_and_then (λ blocks. option_map (run clients tags blocks) (bad_of rows))
    (blocks_of rows)) (clients_of tags rows)) (tags_of rows)

-- `--page` may stand or not
abbrev pub is_true : Option Text → Bool
is_true None = false
is_true (Some word) = bytes_eq word (codes "true")

abbrev pub has_page : List Row → Bool
has_page rows = is_true (first_of (codes "page") rows)

-- `--force` may stand or not
abbrev pub has_force : List Row → Bool
has_force rows = is_true (first_of (codes "force") rows)

-- FILE BLOCKS [--force]
abbrev pub make_of : List Row → Option Asked
make_of rows = option_and_then (λ file. option_map (λ blocks. make file blocks (has_force rows)) (blocks_of rows)) (file_of rows)

-- `--color WHEN` may stand or not, and WHEN is `always`, `auto` or `never`. It changes how lines are shown, and not what is asked for.
abbrev pub is_when : Option Text → Bool
is_when None = true
is_when (Some word) = bytes_eq word (codes "always") || (bytes_eq word (codes "auto") || bytes_eq word (codes "never"))

abbrev pub has_when : List Row → Bool
has_when rows = is_when (first_of (codes "color") rows)

-- CLIENTS BLOCKS [--bad LBA] [--tags N] [--color WHEN]
abbrev pub trace_of : List Row → Option Asked
trace_of rows = if has_when rows then script_of trace rows else None

-- [--color WHEN]
abbrev pub decode_of : List Row → Option Asked
decode_of rows = if has_when rows then Some decode else None

-- CLIENTS BLOCKS [--page] [--bad LBA] [--tags N]
abbrev pub draw_of : List Row → Option Asked
draw_of rows = script_of (if has_page rows then page else draw) rows

-- LOG is any text, and may stand or not
abbrev pub log_of : List Row → Option Text
log_of rows = first_of (codes "LOG") rows

-- `--sync N` may stand or not, and N is a number from 0 to 4,294,967,295
abbrev pub sync_of : List Row → Option (Option ℕ)
sync_of rows = optional_number 0 max_lba (one_of (codes "sync") rows)

-- a log is kept only in a file
abbrev pub worked : ℕ → ℕ → ℕ → ℕ → Option Text → Option ℕ → Option Asked
worked clients tags depth rounds log None = Some (work clients tags depth rounds log)
worked clients tags depth rounds None (Some every) = None
worked clients tags depth rounds (Some log) (Some every) = Some (keep clients tags depth rounds log every)

-- CLIENTS ROUNDS [LOG [--sync N]] [--tags N] [--depth D]
abbrev pub work_of : List Row → Option Asked
work_of rows = option_and_then (λ tags. option_and_then (λ clients. option_and_then (λ depth. option_and_then (λ rounds.
    option_and_then (worked clients tags depth rounds (log_of rows)) (sync_of rows)) (rounds_of rows)) (depth_of tags rows)) (clients_of tags rows))
    (tags_of rows)

-- A checksum is written in 1 to 8 hexadecimal digits of either case.
abbrev pub is_hex : Text → Bool
is_hex word = nat_le 1 (length word) && (nat_le (length word) 8 && list_all is_ascii_hexdigit word)

-- its number; by hand: 1f is 31
abbrev pub hex_number : Text → Option ℕ
hex_number word = if is_hex word then Some (digits_value 16 word) else None

-- `--head HEX` may stand or not, and HEX is a checksum
abbrev pub optional_hex : Option Text → Option (Option ℕ)
optional_hex None = Some None
optional_hex (Some word) = option_map (λ number. Some number) (hex_number word)

abbrev pub head_of : List Row → Option (Option ℕ)
head_of rows = optional_hex (first_of (codes "head") rows)

-- LOG [--head HEX]
abbrev pub audit_of : List Row → Option Asked
audit_of rows = option_and_then (λ log. option_map (audit log) (head_of rows)) (log_of rows)

-- CLIENTS BLOCKS FILE [--bad LBA] [--tags N]
abbrev pub capture_of : List Row → Option Asked
capture_of rows = option_and_then (λ file. script_of (λ clients tags blocks bad. capture clients tags blocks file bad) rows) (file_of rows)

-- so many blocks from this one on
abbrev pub extent_from : ℕ → ℕ → Extent
extent_from lba count = record { lba = lba; count = count }

-- LBA COUNT
abbrev pub extent_of : List Row → Option Extent
extent_of rows = option_and_then (λ lba. option_map (λ count. extent_from lba count) (count_of rows)) (lba_of rows)

-- FILE LBA COUNT
abbrev pub dump_of : List Row → Option Asked
dump_of rows = option_and_then (λ file. option_map (λ extent. dump file extent.lba extent.count) (extent_of rows)) (file_of rows)

-- FILE LBA COUNT BYTE
abbrev pub fill_of : List Row → Option Asked
fill_of rows =
    option_and_then (λ file. option_and_then (λ extent. option_map (fill file extent.lba extent.count) (byte_of rows)) (extent_of rows)) (file_of rows)

-- what a subcommand asks for, by its name
abbrev pub asked_of : Text → List Row → Option Asked
asked_of name rows =
    if bytes_eq name (codes "replay")
    then script_of replay rows
    else (if bytes_eq name (codes "trace")
    then trace_of rows
    else (if bytes_eq name (codes "work") then work_of rows
    else (if bytes_eq name (codes "decode") then decode_of rows
    else (if bytes_eq name (codes "make") then make_of rows
    else (if bytes_eq name (codes "info") then option_map info (file_of rows)
    else (if bytes_eq name (codes "dump") then dump_of rows
    else (if bytes_eq name (codes "fill") then fill_of rows
    else (if bytes_eq name (codes "audit") then audit_of rows
    else (if bytes_eq name (codes "draw") then draw_of rows
    else (if bytes_eq name (codes "capture") then capture_of rows else None))))))))))

abbrev pub asked_in : Option (Text × List Row) → Option Asked
asked_in subcommand = option_and_then (λ s. asked_of s.0 s.1) subcommand

-- ---- the words, the program's own name first

-- what the words ask for
unfoldable pub asked_for : List Text → Option Asked
asked_for words = asked_in (subcommand_of program_app words)

-- The kinds of error that the words are refused with, a call for help among them. None where they ask for a run.
unfoldable pub refusals : List Text → Kinds
refusals words =
    or_else (fault_of program_app words) (if is_some (asked_for words) then [] else ValueValidation ∷ [])

-- A file's name that can't be taken for a flag: it isn't empty, and doesn't begin with a hyphen (45).
abbrev pub is_plain_name : Text → Bool
is_plain_name [] = false
is_plain_name (byte ∷ bytes) = not (byte == 45)

-- the words ask to run a script by the subcommand of this name, with the usual number of tags: `NAME CLIENTS BLOCKS`, or
-- `NAME CLIENTS BLOCKS --bad LBA`
abbrev pub AsksScript : Text → ℕ → ℕ → ℕ → Option ℕ → List Text → Type 0
AsksScript name clients tags blocks None words = (program first second : Text) × (words ≡ program ∷ name ∷ first ∷ second ∷ [])
    × (number_in 1 USUAL_CLIENTS first ≡ Some clients) × (number_in 1 MAX_BLOCKS second ≡ Some blocks) × (tags ≡ TAGS)
AsksScript name clients tags blocks (Some bad) words =
    (program first second third : Text) × (words ≡ program ∷ name ∷ first ∷ second ∷ codes "--bad" ∷ third ∷ [])
    × (number_in 1 USUAL_CLIENTS first ≡ Some clients) × (number_in 1 MAX_BLOCKS second ≡ Some blocks) × (number_in 0 last_block third ≡ Some bad)
    × (tags ≡ TAGS)

-- the words ask for a page: `draw CLIENTS BLOCKS --page`, or `draw CLIENTS BLOCKS --page --bad LBA`
abbrev pub AsksPage : ℕ → ℕ → ℕ → Option ℕ → List Text → Type 0
AsksPage clients tags blocks None words = (program first second : Text) × (words ≡ program ∷ codes "draw" ∷ first ∷ second ∷ codes "--page" ∷ [])
    × (number_in 1 USUAL_CLIENTS first ≡ Some clients) × (number_in 1 MAX_BLOCKS second ≡ Some blocks) × (tags ≡ TAGS)
AsksPage clients tags blocks (Some bad) words =
    (program first second third : Text) × (words ≡ program ∷ codes "draw" ∷ first ∷ second ∷ codes "--page" ∷ codes "--bad" ∷ third ∷ [])
    × (number_in 1 USUAL_CLIENTS first ≡ Some clients) × (number_in 1 MAX_BLOCKS second ≡ Some blocks) × (number_in 0 last_block third ≡ Some bad)
    × (tags ≡ TAGS)

-- the words ask to let clients work: `work CLIENTS ROUNDS`, or `work CLIENTS ROUNDS LOG`
abbrev pub AsksWork : ℕ → ℕ → ℕ → ℕ → Option Text → List Text → Type 0
AsksWork clients tags depth rounds None words = (program first second : Text) × (words ≡ program ∷ codes "work" ∷ first ∷ second ∷ [])
    × (number_in 1 USUAL_CLIENTS first ≡ Some clients) × (number_in 1 max_rounds second ≡ Some rounds) × (tags ≡ TAGS) × (depth ≡ 1)
AsksWork clients tags depth rounds (Some log) words = (program first second : Text) × (words ≡ program ∷ codes "work" ∷ first ∷ second ∷ log ∷ [])
    × (is_plain_name log ≡ true) × (number_in 1 USUAL_CLIENTS first ≡ Some clients) × (number_in 1 max_rounds second ≡ Some rounds) × (tags ≡ TAGS) × (depth ≡ 1)

-- the words ask to capture a run: `capture CLIENTS BLOCKS FILE`, or `capture CLIENTS BLOCKS FILE --bad LBA`
abbrev pub AsksCapture : ℕ → ℕ → ℕ → Text → Option ℕ → List Text → Type 0
AsksCapture clients tags blocks file None words = (program first second : Text) × (words ≡ program ∷ codes "capture" ∷ first ∷ second ∷ file ∷ [])
    × (is_plain_name file ≡ true) × (number_in 1 USUAL_CLIENTS first ≡ Some clients) × (number_in 1 MAX_BLOCKS second ≡ Some blocks) × (tags ≡ TAGS)
AsksCapture clients tags blocks file (Some bad) words =
    (program first second third : Text) × (words ≡ program ∷ codes "capture" ∷ first ∷ second ∷ file ∷ codes "--bad" ∷ third ∷ [])
    × (is_plain_name file ≡ true) × (number_in 1 USUAL_CLIENTS first ≡ Some clients) × (number_in 1 MAX_BLOCKS second ≡ Some blocks)
    × (number_in 0 last_block third ≡ Some bad) × (tags ≡ TAGS)

-- the words ask to audit a log: `audit LOG`, or `audit LOG --head HEX`
abbrev pub AsksAudit : Text → Option ℕ → List Text → Type 0
AsksAudit log None words = (program : Text) × (words ≡ program ∷ codes "audit" ∷ log ∷ []) × (is_plain_name log ≡ true)
AsksAudit log (Some head) words = (program second : Text) × (words ≡ program ∷ codes "audit" ∷ log ∷ codes "--head" ∷ second ∷ [])
    × (is_plain_name log ≡ true) × (hex_number second ≡ Some head)

-- The words ask for a run in their plain form: a subcommand and its arguments, each number in decimal digits, and an option after them;
-- no plain form is told of another number of tags than 16, of more commands out than 1, of a log that is kept, and of an image in place of a file.
abbrev pub AsksPlainly : Asked → List Text → Type 0
AsksPlainly (replay clients tags blocks bad) words = AsksScript (codes "replay") clients tags blocks bad words
AsksPlainly (trace clients tags blocks bad) words = AsksScript (codes "trace") clients tags blocks bad words
AsksPlainly (work clients tags depth rounds log) words = AsksWork clients tags depth rounds log words
AsksPlainly (keep clients tags depth rounds log every) words = ⊥
AsksPlainly decode words = (program : Text) × (words ≡ program ∷ codes "decode" ∷ [])
AsksPlainly (make file blocks true) words = ⊥
AsksPlainly (make file blocks false) words = (program second : Text) × (words ≡ program ∷ codes "make" ∷ file ∷ second ∷ [])
    × (is_plain_name file ≡ true) × (number_in 1 MAX_BLOCKS second ≡ Some blocks)
AsksPlainly (info file) words = (program : Text) × (words ≡ program ∷ codes "info" ∷ file ∷ []) × (is_plain_name file ≡ true)
AsksPlainly (dump file lba count) words =
    (program second third : Text) × (words ≡ program ∷ codes "dump" ∷ file ∷ second ∷ third ∷ []) × (is_plain_name file ≡ true)
    × (number_in 0 max_lba second ≡ Some lba) × (number_in 1 MOST_BLOCKS_MOVED third ≡ Some count)
AsksPlainly (fill file lba count byte) words =
    (program second third fourth : Text) × (words ≡ program ∷ codes "fill" ∷ file ∷ second ∷ third ∷ fourth ∷ []) × (is_plain_name file ≡ true)
    × (number_in 0 max_lba second ≡ Some lba) × (number_in 1 MOST_BLOCKS_MOVED third ≡ Some count) × (number_in 0 255 fourth ≡ Some byte)
AsksPlainly (audit log head) words = AsksAudit log head words
AsksPlainly (draw clients tags blocks bad) words = AsksScript (codes "draw") clients tags blocks bad words
AsksPlainly (page clients tags blocks bad) words = AsksPage clients tags blocks bad words
AsksPlainly (capture clients tags blocks file bad) words = AsksCapture clients tags blocks file bad words

-- a plain line asks for what it says, and isn't refused
abbrev pub PlainLinesAsk : Type 0
PlainLinesAsk = (asked : Asked) (words : List Text) → AsksPlainly asked words → (asked_for words ≡ Some asked) × (refusals words ≡ [])

-- ---- exit statuses

-- A run ends with 0, 3 or 4, and one that submits commands or refuses lines with 1 too.
abbrev pub MayEndRun : Asked → ℕ → Type 0
MayEndRun (replay clients tags blocks bad) status = (status ≤ 1) ⊎ ((status ≡ 3) ⊎ (status ≡ 4))
MayEndRun (trace clients tags blocks bad) status = (status ≤ 1) ⊎ ((status ≡ 3) ⊎ (status ≡ 4))
MayEndRun (work clients tags depth rounds log) status = (status ≤ 1) ⊎ ((status ≡ 3) ⊎ (status ≡ 4))
MayEndRun (keep clients tags depth rounds log every) status = (status ≤ 1) ⊎ ((status ≡ 3) ⊎ (status ≡ 4))
MayEndRun decode status = (status ≤ 1) ⊎ ((status ≡ 3) ⊎ (status ≡ 4))
MayEndRun (make file blocks replaces) status = (status ≡ 0) ⊎ ((status ≡ 3) ⊎ (status ≡ 4))
MayEndRun (info file) status = (status ≡ 0) ⊎ ((status ≡ 3) ⊎ (status ≡ 4))
MayEndRun (dump file lba count) status = (status ≤ 1) ⊎ ((status ≡ 3) ⊎ (status ≡ 4))
MayEndRun (fill file lba count byte) status = (status ≤ 1) ⊎ ((status ≡ 3) ⊎ (status ≡ 4))
MayEndRun (audit log head) status = (status ≡ 0) ⊎ ((status ≡ 3) ⊎ (status ≡ 4))
MayEndRun (draw clients tags blocks bad) status = (status ≤ 1) ⊎ ((status ≡ 3) ⊎ (status ≡ 4))
MayEndRun (page clients tags blocks bad) status = (status ≤ 1) ⊎ ((status ≡ 3) ⊎ (status ≡ 4))
MayEndRun (capture clients tags blocks file bad) status = (status ≤ 1) ⊎ ((status ≡ 3) ⊎ (status ≡ 4))

-- Help or the version is asked for.
abbrev pub IsRequest : ErrorKind → Type 0
IsRequest kind = (kind ≡ DisplayHelp) ⊎ (kind ≡ DisplayVersion)

-- Words that are refused end with 2, for want of memory with 4. A request ends with 0, or with 3 or 4 where its text
-- can't be printed or has no memory.
pub record EndsRefused (kind : ErrorKind) (status : ℕ) : Type 0 where
  pub memory : kind ≡ OutOfMemory → status ≡ 4
  pub request : IsRequest kind → (status ≡ 0) ⊎ ((status ≡ 3) ⊎ (status ≡ 4))
  pub mistake : kind ≢ OutOfMemory → ¬ (IsRequest kind) → status ≡ 2
