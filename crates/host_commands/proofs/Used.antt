-- What a CDB asks is a function of the bits that are told as used. Cited by the law `usage_is_what_is_read`.
use Rattle.std.proofs.Common.{◌≡◌, ℕ, ◌+◌, ◌*◌, ◌/◌, ◌%◌, ◌^◌, ◌-◌, ◌==◌, Bool, true, false, not, ◌||◌, nat_lt, if◌then◌else◌, List, slice_index, Option, Some}
use Rattle.std.proofs.Common.{Result, Ok, Err, refl, sym, ap, ap₂, ◌∙◌, arith}
use Rattle.scsi_cmd.specs.declared.Sense.{Sense}
use Rattle.scsi_cmd.specs.Fields.{field_of_four, field_of_two, is_bit_set}
use Rattle.scsi_cmd.specs.Meaning.{asks_for_protection}
use Rattle.scsi_cmd.specs.Sense.{invalid_field_in_cdb, unit_not_supported}
use Rattle.host_commands.specs.declared.Data.TheVariants.{Inquiry as InquiryData, RequestSense as SenseData, LogicalUnits, TaskManagementFunctions, LongCapacity}
use Rattle.host_commands.specs.declared.fields.Extent.{Extent}
use Rattle.host_commands.specs.declared.HostCommand.{HostCommand}
use Rattle.host_commands.specs.declared.HostCommand.TheVariants.{TestUnitReady, RequestSense, Read6, Write6, Inquiry, ModeSense6, StartStopUnit, ReadCapacity10}
use Rattle.host_commands.specs.declared.HostCommand.TheVariants.{Read10, Write10, Verify10, SynchronizeCache10, ModeSense10, Read16, Write16, Verify16}
use Rattle.host_commands.specs.declared.HostCommand.TheVariants.{SynchronizeCache16, ReadCapacity16, ReportLuns, ReportSupportedOperationCodes}
use Rattle.host_commands.specs.declared.HostCommand.TheVariants.{ReportSupportedTaskManagementFunctions, Read12, Write12, Verify12}
use Rattle.host_commands.specs.declared.ModeForm.{ModeForm}
use Rattle.host_commands.specs.declared.ModeForm.TheVariants.{Six, Ten}
use Rattle.disk_units.specs.declared.names.UnitNames.{UnitNames}
use Rattle.host_commands.specs.declared.UnitAttention.{UnitAttention}
use Rattle.host_commands.specs.declared.Work.{Work}
use Rattle.host_commands.specs.declared.Work.TheVariants.{Nothing, Gives, Synchronizes, Verifies, Compares}
use Rattle.host_commands.specs.Commands.{has_service_actions, named_command, of_maintenance, sixteen_usage, ten_usage, twelve_usage, usage_of}
use Rattle.host_commands.specs.Fields.{action_in, code_in, short_extent, sixteen_extent, ten_extent, twelve_extent}
use Rattle.host_commands.specs.Meaning.{asked_of, asked_of_none, codes_asked, command_asked, descriptor_asked, in_range, inquiry_asked}
use Rattle.host_commands.specs.Meaning.{mode_sense_asked, named_asked, operation_codes_asked, page_asked, pages_asked, reads, report_luns_asked, request_sense_asked}
use Rattle.host_commands.specs.Meaning.{saving_not_supported, sense_told, start_stop_asked, synchronizes, task_functions_asked, transferred, verifies, writes}
use Rattle.host_commands.specs.ModeData.{pages_of}
use Rattle.disk_units.specs.Names.{usual_names}
use Rattle.host_commands.specs.OperationCodes.{action_of}
use Rattle.host_commands.specs.Pages.{page_of}
use Rattle.host_commands.specs.Shapes.{Shape}
use Rattle.host_commands.specs.Told.{code_of}
use Rattle.host_commands.specs.Usage.{AgreeWhereRead, IsCdbOf, UsageIsWhatIsRead, UsageIsWhatIsReadOfNone, is_read}
use Rattle.host_commands.proofs.UsedBits.{eight, four, high_four, high_three, high_two, low_five, low_three, middle_two, protects, sixteen, ten, twelve, two, whole}

pub three : {A B C D : Type 0} (f : A → B → C → D) {x y : A} {u v : B} {s t : C} → x ≡ y → u ≡ v → s ≡ t → f x u s ≡ f y v t
three {A = A} {B = B} f {y = y} {v = v} {s = s} p q r = ap₂ (λ (a : A) (b : B). f a b s) p q ∙ ap (f y v) r

-- two CDBs of a command that agree where it is read
pub record Pair (command : HostCommand) (one other : List ℕ) : Type 0 where
  pub one_is : IsCdbOf command one
  pub other_is : IsCdbOf command other
  pub agree : AgreeWhereRead command one other

-- a byte whose bits are all told
pub byte : (command : HostCommand) (one other : List ℕ) → Pair command one other → (usage : List ℕ) → usage_of command ≡ usage → (place : ℕ)
    → slice_index usage place ≡ 0xff → (place == 1) ≡ false → slice_index one place ≡ slice_index other place
byte command one other pair usage is place full behind =
    whole command one other pair.one_is pair.other_is pair.agree place (ap (λ (u : List ℕ). slice_index u place) is ∙ full) behind

-- THE BLOCKS AND FLAGS OF A CDB

ten_same : (command : HostCommand) (one other : List ℕ) → Pair command one other → (code flags : ℕ) → usage_of command ≡ ten_usage code flags
    → ten_extent one ≡ ten_extent other
ten_same command one other pair code flags is =
    let at = byte command one other pair (ten_usage code flags) is in
    ten one other (four one other 2 (two one other 2 (at 2 refl refl) (at 3 refl refl)) (two one other 4 (at 4 refl refl) (at 5 refl refl)))
    (two one other 7 (at 7 refl refl) (at 8 refl refl))

twelve_same : (command : HostCommand) (one other : List ℕ) → Pair command one other → (code flags : ℕ) → usage_of command ≡ twelve_usage code flags
    → twelve_extent one ≡ twelve_extent other
twelve_same command one other pair code flags is =
    let at = byte command one other pair (twelve_usage code flags) is in
    twelve one other (four one other 2 (two one other 2 (at 2 refl refl) (at 3 refl refl)) (two one other 4 (at 4 refl refl) (at 5 refl refl)))
    (four one other 6 (two one other 6 (at 6 refl refl) (at 7 refl refl)) (two one other 8 (at 8 refl refl) (at 9 refl refl)))

sixteen_same : (command : HostCommand) (one other : List ℕ) → Pair command one other → (code flags : ℕ) → usage_of command ≡ sixteen_usage code flags
    → sixteen_extent one ≡ sixteen_extent other
sixteen_same command one other pair code flags is =
    let at = byte command one other pair (sixteen_usage code flags) is in
    sixteen one other (eight one other 2
    (four one other 2 (two one other 2 (at 2 refl refl) (at 3 refl refl)) (two one other 4 (at 4 refl refl) (at 5 refl refl)))
    (four one other 6 (two one other 6 (at 6 refl refl) (at 7 refl refl)) (two one other 8 (at 8 refl refl) (at 9 refl refl))))
    (four one other 10 (two one other 10 (at 10 refl refl) (at 11 refl refl)) (two one other 12 (at 12 refl refl) (at 13 refl refl)))

-- of 6 bytes
abbrev short_by : ℕ → ℕ → ℕ → Extent
short_by high low count = record { lba = 2 ^ 16 * high + low; count = if count == 0 then 256 else count }

short_same : (command : HostCommand) (one other : List ℕ) → Pair command one other → action_in one ≡ action_in other
    → slice_index (usage_of command) 2 ≡ 0xff → slice_index (usage_of command) 3 ≡ 0xff → slice_index (usage_of command) 4 ≡ 0xff
    → short_extent one ≡ short_extent other
short_same command one other pair high u2 u3 u4 =
    let at = byte command one other pair (usage_of command) refl in
    three short_by high (two one other 2 (at 2 u2 refl) (at 3 u3 refl)) (at 4 u4 refl)

high_block : (command : HostCommand) (one other : List ℕ) → AgreeWhereRead command one other → is_read command 1 0 ≡ true → is_read command 1 1 ≡ true
    → is_read command 1 2 ≡ true → is_read command 1 3 ≡ true → is_read command 1 4 ≡ true → action_in one ≡ action_in other
high_block command one other agree s0 s1 s2 s3 s4 =
    let low : slice_index one 1 % 2 ^ 3 ≡ slice_index other 1 % 2 ^ 3 =
    low_three (slice_index one 1) (slice_index other 1) (agree 1 0 (omega arith) s0) (agree 1 1 (omega arith) s1) (agree 1 2 (omega arith) s2) in
    low_five (slice_index one 1) (slice_index other 1) low (agree 1 3 (omega arith) s3) (agree 1 4 (omega arith) s4)

-- RDPROTECT, WRPROTECT, VRPROTECT
protected : (command : HostCommand) (one other : List ℕ) → Pair command one other → is_read command 1 5 ≡ true → is_read command 1 6 ≡ true
    → is_read command 1 7 ≡ true → asks_for_protection one ≡ asks_for_protection other
protected command one other pair s5 s6 s7 =
    protects command one other pair.one_is pair.other_is (pair.agree 1 5 (omega arith) s5) (pair.agree 1 6 (omega arith) s6)
    (pair.agree 1 7 (omega arith) s7)

-- COMMANDS WITH BLOCKS

reads_same : (invalid invalid' : Bool) (extent extent' : Extent) (maximum blocks : ℕ) → invalid ≡ invalid' → extent ≡ extent'
    → reads invalid extent maximum blocks ≡ reads invalid' extent' maximum blocks
reads_same invalid invalid' extent extent' maximum blocks p q = ap₂ (λ (i : Bool) (e : Extent). reads i e maximum blocks) p q

writes_same : (invalid invalid' : Bool) (extent extent' : Extent) (through through' : Bool) (maximum : ℕ) (shape : Shape) → invalid ≡ invalid'
    → extent ≡ extent' → through ≡ through' → writes invalid extent through maximum shape ≡ writes invalid' extent' through' maximum shape
writes_same invalid invalid' extent extent' through through' maximum shape p q r =
    three (λ (i : Bool) (e : Extent) (t : Bool). writes i e t maximum shape) p q r

abbrev verified : ℕ → ℕ → Bool → ℕ → Extent → Result Work Sense
verified maximum blocks invalid check extent =
    if invalid || nat_lt 1 check then Err invalid_field_in_cdb
    else (if check == 0 then in_range blocks extent.lba extent.count (Verifies extent.lba extent.count)
    else transferred false maximum blocks extent.lba extent.count (Compares extent.lba extent.count))

verifies_same : (one other : List ℕ) (extent extent' : Extent) (maximum blocks : ℕ) → asks_for_protection one ≡ asks_for_protection other
    → is_bit_set (slice_index one 1) 1 ≡ is_bit_set (slice_index other 1) 1 → is_bit_set (slice_index one 1) 2 ≡ is_bit_set (slice_index other 1) 2
    → extent ≡ extent' → verifies one extent maximum blocks ≡ verifies other extent' maximum blocks
verifies_same one other extent extent' maximum blocks p s1 s2 q =
    three (verified maximum blocks) p (middle_two (slice_index one 1) (slice_index other 1) s1 s2) q

-- COMMANDS THAT GIVE DATA

abbrev sense_by : Sense → Bool → ℕ → Result Work Sense
sense_by sense desc allocation = if desc then Err invalid_field_in_cdb else Ok (Gives (SenseData sense) allocation)

sense_same : (one other : List ℕ) (sense : Sense) → Pair RequestSense one other → request_sense_asked one sense ≡ request_sense_asked other sense
sense_same one other sense pair =
    let at = byte RequestSense one other pair (usage_of RequestSense) refl in
    ap₂ (sense_by sense) (pair.agree 1 0 (omega arith) refl) (at 4 refl refl)

abbrev inquiry_by : Bool → ℕ → UnitNames → ℕ → Bool → ℕ → ℕ → Result Work Sense
inquiry_by present serial names maximum vital page allocation =
    if vital then page_asked present allocation (page_of page serial names maximum)
    else (if page == 0 then Ok (Gives (InquiryData present names) allocation) else Err invalid_field_in_cdb)

inquiry_same : (one other : List ℕ) (present : Bool) (serial : ℕ) (names : UnitNames) (maximum : ℕ) → Pair Inquiry one other
    → inquiry_asked one present serial names maximum ≡ inquiry_asked other present serial names maximum
inquiry_same one other present serial names maximum pair =
    let at = byte Inquiry one other pair (usage_of Inquiry) refl in
    three (inquiry_by present serial names maximum) (pair.agree 1 0 (omega arith) refl) (at 2 refl refl) (two one other 3 (at 3 refl refl) (at 4 refl refl))

abbrev mode_by : ModeForm → Shape → ℕ → Bool → ℕ → ℕ → Result Work Sense
mode_by form shape allocation disabled page subpage =
    let control = page / 2 ^ 6 in
    if control == 3 then Err saving_not_supported
    else pages_asked form allocation shape.read_only (control == 1) (descriptor_asked disabled shape) (pages_of (page % 2 ^ 6) subpage)

mode_same : (one other : List ℕ) (form : ModeForm) (shape : Shape) (allocation allocation' : ℕ) → allocation ≡ allocation'
    → is_bit_set (slice_index one 1) 3 ≡ is_bit_set (slice_index other 1) 3 → slice_index one 2 ≡ slice_index other 2 → slice_index one 3 ≡ slice_index other 3
    → mode_sense_asked form allocation one shape ≡ mode_sense_asked form allocation' other shape
mode_same one other form shape allocation allocation' p s3 page subpage =
    three (mode_by form shape allocation) s3 page subpage ∙ ap (λ (a : ℕ). mode_sense_asked form a other shape) p

abbrev luns_by : ℕ → ℕ → ℕ → Result Work Sense
luns_by count select allocation =
    if nat_lt allocation 16 then Err invalid_field_in_cdb
    else (if select == 0 || select == 2 then Ok (Gives (LogicalUnits count) allocation)
    else (if select == 1 then Ok (Gives (LogicalUnits 0) allocation)
    else Err invalid_field_in_cdb))

luns_same : (one other : List ℕ) (count : ℕ) → Pair ReportLuns one other → report_luns_asked one count ≡ report_luns_asked other count
luns_same one other count pair =
    let at = byte ReportLuns one other pair (usage_of ReportLuns) refl in
    ap₂ (luns_by count) (at 2 refl refl) (four one other 6 (two one other 6 (at 6 refl refl) (at 7 refl refl)) (two one other 8 (at 8 refl refl) (at 9 refl refl)))

abbrev start_by : Bool → ℕ → Bool → Result Work Sense
start_by eject power leaves =
    if eject || not (power == 0) then Err invalid_field_in_cdb else (if leaves then Ok Nothing else Ok (Synchronizes 0 0))

start_same : (one other : List ℕ) → Pair StartStopUnit one other → start_stop_asked one ≡ start_stop_asked other
start_same one other pair =
    let x : ℕ = slice_index one 4 in
    let y : ℕ = slice_index other 4 in
    let s0 : is_bit_set x 0 ≡ is_bit_set y 0 = pair.agree 4 0 (omega arith) refl in
    let s1 : is_bit_set x 1 ≡ is_bit_set y 1 = pair.agree 4 1 (omega arith) refl in
    let s2 : is_bit_set x 2 ≡ is_bit_set y 2 = pair.agree 4 2 (omega arith) refl in
    let high : x / 2 ^ 6 ≡ y / 2 ^ 6 =
    high_two x y (pair.one_is.bytes 4) (pair.other_is.bytes 4) (pair.agree 4 6 (omega arith) refl) (pair.agree 4 7 (omega arith) refl) in
    let power : x / 2 ^ 4 ≡ y / 2 ^ 4 =
    high_four x y (pair.agree 4 4 (omega arith) refl) (high_three x y (pair.agree 4 5 (omega arith) refl) high) in
    three start_by s1 power (ap₂ ◌||◌ s0 s2)

-- of whatever set
pub codes_fields : (asked : ℕ → ℕ → ℕ → ℕ → Bool → Result Work Sense) (one other : List ℕ) → Pair ReportSupportedOperationCodes one other
    → asked (slice_index one 2 % 2 ^ 3) (slice_index one 3) (field_of_two one 4) (field_of_four one 6) (is_bit_set (slice_index one 2) 7)
    ≡ asked (slice_index other 2 % 2 ^ 3) (slice_index other 3) (field_of_two other 4) (field_of_four other 6) (is_bit_set (slice_index other 2) 7)
codes_fields asked one other pair =
    let at = byte ReportSupportedOperationCodes one other pair (usage_of ReportSupportedOperationCodes) refl in
    let x : ℕ = slice_index one 2 in
    let y : ℕ = slice_index other 2 in
    let option : x % 2 ^ 3 ≡ y % 2 ^ 3 =
    low_three x y (pair.agree 2 0 (omega arith) refl) (pair.agree 2 1 (omega arith) refl) (pair.agree 2 2 (omega arith) refl) in
    let timeouts : is_bit_set x 7 ≡ is_bit_set y 7 = pair.agree 2 7 (omega arith) refl in
    let action : field_of_two one 4 ≡ field_of_two other 4 = two one other 4 (at 4 refl refl) (at 5 refl refl) in
    let allocation : field_of_four one 6 ≡ field_of_four other 6 =
    four one other 6 (two one other 6 (at 6 refl refl) (at 7 refl refl)) (two one other 8 (at 8 refl refl) (at 9 refl refl)) in
    three (λ (o c a : ℕ). asked o c a (field_of_four one 6) (is_bit_set x 7)) option (at 3 refl refl) action
    ∙ ap₂ (asked (y % 2 ^ 3) (slice_index other 3) (field_of_two other 4)) allocation timeouts

codes_same : (one other : List ℕ) → Pair ReportSupportedOperationCodes one other → operation_codes_asked one ≡ operation_codes_asked other
codes_same one other pair = codes_fields codes_asked one other pair

abbrev functions_by : Bool → ℕ → Result Work Sense
functions_by extended allocation =
    if nat_lt allocation (if extended then 16 else 4) then Err invalid_field_in_cdb else Ok (Gives (TaskManagementFunctions extended) allocation)

functions_same : (one other : List ℕ) → Pair ReportSupportedTaskManagementFunctions one other → task_functions_asked one ≡ task_functions_asked other
functions_same one other pair =
    let at = byte ReportSupportedTaskManagementFunctions one other pair (usage_of ReportSupportedTaskManagementFunctions) refl in
    ap₂ functions_by (pair.agree 2 7 (omega arith) refl)
    (four one other 6 (two one other 6 (at 6 refl refl) (at 7 refl refl)) (two one other 8 (at 8 refl refl) (at 9 refl refl)))

abbrev capacity_by : Shape → ℕ → ℕ → Result Work Sense
capacity_by shape action allocation =
    if not (action == 0x10) then Err invalid_field_in_cdb else Ok (Gives (LongCapacity (shape.blocks - 1) shape.block_length) allocation)

-- EVERY COMMAND

pub command_same : (command : HostCommand) (one other : List ℕ) (maximum count : ℕ) (shape : Shape) (attention : Option UnitAttention) → Pair command one other
    → command_asked command one maximum shape count attention ≡ command_asked command other maximum shape count attention
command_same TestUnitReady one other maximum count shape attention pair = refl
command_same RequestSense one other maximum count shape attention pair = sense_same one other (sense_told attention) pair
command_same Read6 one other maximum count shape attention pair =
    reads_same false false (short_extent one) (short_extent other) maximum shape.blocks refl
    (short_same Read6 one other pair (high_block Read6 one other pair.agree refl refl refl refl refl) refl refl refl)
command_same Write6 one other maximum count shape attention pair =
    writes_same false false (short_extent one) (short_extent other) false false maximum shape refl
    (short_same Write6 one other pair (high_block Write6 one other pair.agree refl refl refl refl refl) refl refl refl) refl
command_same Inquiry one other maximum count shape attention pair = inquiry_same one other true shape.serial shape.names maximum pair
command_same ModeSense6 one other maximum count shape attention pair =
    let at = byte ModeSense6 one other pair (usage_of ModeSense6) refl in
    mode_same one other Six shape (slice_index one 4) (slice_index other 4) (at 4 refl refl) (pair.agree 1 3 (omega arith) refl) (at 2 refl refl) (at 3 refl refl)
command_same StartStopUnit one other maximum count shape attention pair = start_same one other pair
command_same ReadCapacity10 one other maximum count shape attention pair = refl
command_same Read10 one other maximum count shape attention pair =
    reads_same _ _ (ten_extent one) (ten_extent other) maximum shape.blocks (protected Read10 one other pair refl refl refl) (ten_same Read10 one other pair _ _ refl)
command_same Write10 one other maximum count shape attention pair =
    writes_same _ _ (ten_extent one) (ten_extent other) _ _ maximum shape (protected Write10 one other pair refl refl refl)
    (ten_same Write10 one other pair _ _ refl) (pair.agree 1 3 (omega arith) refl)
command_same Verify10 one other maximum count shape attention pair =
    verifies_same one other (ten_extent one) (ten_extent other) maximum shape.blocks (protected Verify10 one other pair refl refl refl)
    (pair.agree 1 1 (omega arith) refl) (pair.agree 1 2 (omega arith) refl) (ten_same Verify10 one other pair _ _ refl)
command_same SynchronizeCache10 one other maximum count shape attention pair =
    ap (λ (e : Extent). synchronizes e shape.blocks) (ten_same SynchronizeCache10 one other pair _ _ refl)
command_same ModeSense10 one other maximum count shape attention pair =
    let at = byte ModeSense10 one other pair (usage_of ModeSense10) refl in
    mode_same one other Ten shape (field_of_two one 7) (field_of_two other 7) (two one other 7 (at 7 refl refl) (at 8 refl refl))
    (pair.agree 1 3 (omega arith) refl) (at 2 refl refl) (at 3 refl refl)
command_same Read16 one other maximum count shape attention pair =
    reads_same _ _ (sixteen_extent one) (sixteen_extent other) maximum shape.blocks (protected Read16 one other pair refl refl refl)
    (sixteen_same Read16 one other pair _ _ refl)
command_same Write16 one other maximum count shape attention pair =
    writes_same _ _ (sixteen_extent one) (sixteen_extent other) _ _ maximum shape (protected Write16 one other pair refl refl refl)
    (sixteen_same Write16 one other pair _ _ refl) (pair.agree 1 3 (omega arith) refl)
command_same Verify16 one other maximum count shape attention pair =
    verifies_same one other (sixteen_extent one) (sixteen_extent other) maximum shape.blocks (protected Verify16 one other pair refl refl refl)
    (pair.agree 1 1 (omega arith) refl) (pair.agree 1 2 (omega arith) refl) (sixteen_same Verify16 one other pair _ _ refl)
command_same SynchronizeCache16 one other maximum count shape attention pair =
    ap (λ (e : Extent). synchronizes e shape.blocks) (sixteen_same SynchronizeCache16 one other pair _ _ refl)
command_same ReadCapacity16 one other maximum count shape attention pair =
    let at = byte ReadCapacity16 one other pair (usage_of ReadCapacity16) refl in
    ap₂ (capacity_by shape) (pair.one_is.action refl ∙ sym (pair.other_is.action refl))
    (four one other 10 (two one other 10 (at 10 refl refl) (at 11 refl refl)) (two one other 12 (at 12 refl refl) (at 13 refl refl)))
command_same ReportLuns one other maximum count shape attention pair = luns_same one other count pair
command_same ReportSupportedOperationCodes one other maximum count shape attention pair = codes_same one other pair
command_same ReportSupportedTaskManagementFunctions one other maximum count shape attention pair = functions_same one other pair
command_same Read12 one other maximum count shape attention pair =
    reads_same _ _ (twelve_extent one) (twelve_extent other) maximum shape.blocks (protected Read12 one other pair refl refl refl)
    (twelve_same Read12 one other pair _ _ refl)
command_same Write12 one other maximum count shape attention pair =
    writes_same _ _ (twelve_extent one) (twelve_extent other) _ _ maximum shape (protected Write12 one other pair refl refl refl)
    (twelve_same Write12 one other pair _ _ refl) (pair.agree 1 3 (omega arith) refl)
command_same Verify12 one other maximum count shape attention pair =
    verifies_same one other (twelve_extent one) (twelve_extent other) maximum shape.blocks (protected Verify12 one other pair refl refl refl)
    (pair.agree 1 1 (omega arith) refl) (pair.agree 1 2 (omega arith) refl) (twelve_same Verify12 one other pair _ _ refl)

-- by its operation code and its service action
by_code : (command : HostCommand) (action : ℕ) → (has_service_actions (code_of command) ≡ true → action ≡ action_of command)
    → named_command (code_of command) action ≡ Some command
by_code ReportSupportedOperationCodes action is = ap of_maintenance (is refl)
by_code ReportSupportedTaskManagementFunctions action is = ap of_maintenance (is refl)
by_code TestUnitReady action is = refl
by_code RequestSense action is = refl
by_code Read6 action is = refl
by_code Write6 action is = refl
by_code Inquiry action is = refl
by_code ModeSense6 action is = refl
by_code StartStopUnit action is = refl
by_code ReadCapacity10 action is = refl
by_code Read10 action is = refl
by_code Write10 action is = refl
by_code Verify10 action is = refl
by_code SynchronizeCache10 action is = refl
by_code ModeSense10 action is = refl
by_code Read16 action is = refl
by_code Write16 action is = refl
by_code Verify16 action is = refl
by_code SynchronizeCache16 action is = refl
by_code ReadCapacity16 action is = refl
by_code ReportLuns action is = refl
by_code Read12 action is = refl
by_code Write12 action is = refl
by_code Verify12 action is = refl

pub named : (command : HostCommand) (cdb : List ℕ) → IsCdbOf command cdb → named_command (code_in cdb) (action_in cdb) ≡ Some command
named command cdb is = ap (λ (code : ℕ). named_command code (action_in cdb)) is.code ∙ by_code command (action_in cdb) is.action

pub usage_is_read : UsageIsWhatIsRead
unfolding asked_of
usage_is_read maximum command one other count shape attention one_is other_is agree =
    let pair : Pair command one other = record { one_is = one_is; other_is = other_is; agree = agree } in
    ap (λ (c : Option HostCommand). named_asked c one maximum shape count attention) (named command one one_is)
    ∙ command_same command one other maximum count shape attention pair
    ∙ sym (ap (λ (c : Option HostCommand). named_asked c other maximum shape count attention) (named command other other_is))

-- WHERE NO LOGICAL UNIT IS

abbrev pub none_by : List ℕ → ℕ → ℕ → ℕ → Result Work Sense
none_by cdb maximum count code =
    if code == 0x12 then inquiry_asked cdb false 0 usual_names maximum
    else (if code == 0xa0 then report_luns_asked cdb count
    else (if code == 0x03 then request_sense_asked cdb unit_not_supported
    else Err unit_not_supported))

pub none_same : (command : HostCommand) (one other : List ℕ) (maximum count : ℕ) → Pair command one other
    → none_by one maximum count (code_of command) ≡ none_by other maximum count (code_of command)
none_same RequestSense one other maximum count pair = sense_same one other unit_not_supported pair
none_same Inquiry one other maximum count pair = inquiry_same one other false 0 usual_names maximum pair
none_same ReportLuns one other maximum count pair = luns_same one other count pair
none_same command one other maximum count pair = refl

pub usage_is_read_of_none : UsageIsWhatIsReadOfNone
unfolding asked_of_none
usage_is_read_of_none maximum command one other count one_is other_is agree =
    let pair : Pair command one other = record { one_is = one_is; other_is = other_is; agree = agree } in
    ap (none_by one maximum count) one_is.code ∙ none_same command one other maximum count pair ∙ sym (ap (none_by other maximum count) other_is.code)
