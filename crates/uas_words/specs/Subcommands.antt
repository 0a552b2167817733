-- The program's subcommands with their arguments, as the words' parser has them.
use Rattle.std.specs.Prelude.{◌-◌, ℕ, pos, true, Some, codes}
use Rattle.clap.specs.Simple.{Shape, on_top}
use Rattle.clap.specs.Words.{App, Rule, Text, new_app, new_rule, with_rule, with_subcommand}
use Rattle.clap.specs.declared.builder.ArgAction.TheVariants.{Set, SetTrue}
use Rattle.clap.specs.declared.builder.value_parser.ValueParser.TheVariants as parser
use Rattle.uas_profile.specs.declared.TheConstants.{LEAST_TAGS, MAX_BLOCKS, MAX_CLIENTS, MOST_BLOCKS_MOVED, MOST_TAGS}

-- ---- the limits of their numbers

-- the most rounds of a client that works
abbrev pub max_rounds : ℕ
max_rounds = 1000

-- the greatest number of a block that a unit can have
abbrev pub last_block : ℕ
last_block = 65535

-- the greatest number of a block that a CDB can name, which needs no block of the unit
abbrev pub max_lba : ℕ
max_lba = 4294967295

-- ---- the arguments

abbrev pub required_rule : Text → Rule
required_rule name = record (new_rule name) { required = true; action = Some Set }

abbrev pub file_rule : Rule
file_rule = required_rule (codes "FILE")

-- the file of a log, which may be left out
abbrev pub log_rule : Rule
log_rule = record (new_rule (codes "LOG")) { action = Some Set }

-- the file of a log that is audited
abbrev pub saved_log_rule : Rule
saved_log_rule = required_rule (codes "LOG")

-- a number from `least` to `most`
abbrev pub number_rule : Text → ℕ → ℕ → Rule
number_rule name least most = record (required_rule name) { parser = Some (parser.Signed (pos least) (pos most)) }

abbrev pub clients_rule : Rule
clients_rule = number_rule (codes "CLIENTS") 1 MAX_CLIENTS

abbrev pub rounds_rule : Rule
rounds_rule = number_rule (codes "ROUNDS") 1 max_rounds

abbrev pub blocks_rule : Rule
blocks_rule = number_rule (codes "BLOCKS") 1 MAX_BLOCKS

abbrev pub lba_rule : Rule
lba_rule = number_rule (codes "LBA") 0 max_lba

abbrev pub count_rule : Rule
count_rule = number_rule (codes "COUNT") 1 MOST_BLOCKS_MOVED

abbrev pub byte_rule : Rule
byte_rule = number_rule (codes "BYTE") 0 255

-- an option with a word behind it
abbrev pub option_rule : Text → Rule
option_rule name = record (new_rule name) { long = Some name; action = Some Set; value_names = 1 }

-- an option with a number from `least` to `most` behind it
abbrev pub number_option_rule : Text → ℕ → ℕ → Rule
number_option_rule name least most = record (option_rule name) { parser = Some (parser.Signed (pos least) (pos most)) }

-- the option `--bad LBA`
abbrev pub bad_rule : Rule
bad_rule = number_option_rule (codes "bad") 0 last_block

-- the option `--tags N`
abbrev pub tags_rule : Rule
tags_rule = number_option_rule (codes "tags") LEAST_TAGS MOST_TAGS

-- the option `--depth D`
abbrev pub depth_rule : Rule
depth_rule = number_option_rule (codes "depth") 1 (MOST_TAGS - 1)

-- the option `--sync N`
abbrev pub sync_rule : Rule
sync_rule = number_option_rule (codes "sync") 0 max_lba

-- the option `--head HEX`
abbrev pub head_rule : Rule
head_rule = option_rule (codes "head")

-- an option behind which no word stands
abbrev pub flag_rule : Text → Rule
flag_rule name = record (new_rule name) { long = Some name; action = Some SetTrue }

-- the option `--page`
abbrev pub page_rule : Rule
page_rule = flag_rule (codes "page")

-- the option `--force`
abbrev pub force_rule : Rule
force_rule = flag_rule (codes "force")

-- the option `--color WHEN`
abbrev pub color_rule : Rule
color_rule = option_rule (codes "color")

-- the option `--json`, which changes how lines are told, and not what is asked for
abbrev pub json_rule : Rule
json_rule = flag_rule (codes "json")

-- a subcommand that runs a script: CLIENTS BLOCKS [--bad LBA] [--tags N]
abbrev pub with_disks : App → App
with_disks app = with_rule (with_rule (with_rule (with_rule app clients_rule) blocks_rule) bad_rule) tags_rule

-- replay CLIENTS BLOCKS [--bad LBA] [--tags N] [--json]
abbrev pub replay_app : App
replay_app = with_rule (with_disks (new_app (codes "replay"))) json_rule

-- trace CLIENTS BLOCKS [--bad LBA] [--tags N] [--color WHEN] [--json]
abbrev pub trace_app : App
trace_app = with_rule (with_rule (with_disks (new_app (codes "trace"))) color_rule) json_rule

-- clients that work: CLIENTS ROUNDS [LOG] [--tags N]
abbrev pub with_work : App → App
with_work app = with_rule (with_rule (with_rule (with_rule app clients_rule) rounds_rule) log_rule) tags_rule

-- work CLIENTS ROUNDS [LOG] [--tags N] [--depth D] [--sync N]
abbrev pub work_app : App
work_app = with_rule (with_rule (with_work (new_app (codes "work"))) depth_rule) sync_rule

-- decode [--color WHEN] [--json]
abbrev pub decode_app : App
decode_app = with_rule (with_rule (new_app (codes "decode")) color_rule) json_rule

-- make FILE BLOCKS [--force]
abbrev pub make_app : App
make_app = with_rule (with_rule (with_rule (new_app (codes "make")) file_rule) blocks_rule) force_rule

-- info FILE [--json]
abbrev pub info_app : App
info_app = with_rule (with_rule (new_app (codes "info")) file_rule) json_rule

-- a subcommand on blocks of an image: FILE LBA COUNT
abbrev pub with_extent : App → App
with_extent app = with_rule (with_rule (with_rule app file_rule) lba_rule) count_rule

abbrev pub dump_app : App
dump_app = with_extent (new_app (codes "dump"))

-- fill FILE LBA COUNT BYTE
abbrev pub fill_app : App
fill_app = with_rule (with_extent (new_app (codes "fill"))) byte_rule

-- audit LOG [--head HEX] [--json]
abbrev pub audit_app : App
audit_app = with_rule (with_rule (with_rule (new_app (codes "audit")) saved_log_rule) head_rule) json_rule

-- draw CLIENTS BLOCKS [--page] [--bad LBA] [--tags N]
abbrev pub draw_app : App
draw_app = with_rule (with_disks (new_app (codes "draw"))) page_rule

-- capture CLIENTS BLOCKS FILE [--bad LBA] [--tags N]
abbrev pub capture_app : App
capture_app = with_rule (with_disks (new_app (codes "capture"))) file_rule

abbrev pub wants_subcommand : Shape → Shape
wants_subcommand s = record s { subcommand_required = true; arg_required_else_help = true; has_version = true }

abbrev pub top_app : App
top_app = on_top wants_subcommand (new_app (codes "uasdisk"))

-- The program wants a subcommand, tells its help with no words, and its version where that is asked for.
abbrev pub program_app : App
program_app =
    with_subcommand (with_subcommand (with_subcommand (with_subcommand (with_subcommand (with_subcommand (with_subcommand (with_subcommand (with_subcommand
    (with_subcommand (with_subcommand top_app replay_app.top) trace_app.top) work_app.top) decode_app.top) make_app.top) info_app.top) dump_app.top)
    fill_app.top) audit_app.top) draw_app.top) capture_app.top
