-- The commands of the host set (SPC, SBC): their operation codes, the bits of their CDBs, and unit attentions.
use Rattle.std.specs.Prelude.{ℕ, ◌/◌, ◌^◌, ◌==◌, Bool, ◌||◌, if◌then◌else◌, List, [], ◌∷◌, ◌++◌, Option, Some, None}
use Rattle.scsi_cmd.specs.Fields.{zeros}
use Rattle.host_commands.specs.declared.Attention.{Attention}
use Rattle.host_commands.specs.declared.Attention.TheVariants.{Ignored, Given, Reported}
use Rattle.host_commands.specs.declared.CommandSet.{CommandSet}
use Rattle.host_commands.specs.declared.CommandSet.TheVariants.{Profile, Host, Disk}
use Rattle.host_commands.specs.declared.HostCommand.{HostCommand}
use Rattle.host_commands.specs.declared.HostCommand.TheVariants.{TestUnitReady, RequestSense, Read6, Write6, Inquiry, ModeSense6, StartStopUnit, ReadCapacity10}
use Rattle.host_commands.specs.declared.HostCommand.TheVariants.{Read10, Write10, Verify10, SynchronizeCache10, ModeSense10, Read16, Write16, Verify16}
use Rattle.host_commands.specs.declared.HostCommand.TheVariants.{SynchronizeCache16, ReadCapacity16, ReportLuns, ReportSupportedOperationCodes}
use Rattle.host_commands.specs.declared.HostCommand.TheVariants.{ReportSupportedTaskManagementFunctions, Read12, Write12, Verify12}
use Rattle.host_commands.specs.Fields.{ones}

-- OPERATION CODES: bits 7 to 5 are the group code, which says how long the CDB is

abbrev pub of_six : ℕ → Option HostCommand
of_six code =
    if code == 0x00 then Some TestUnitReady
    else (if code == 0x03 then Some RequestSense
    else (if code == 0x08 then Some Read6
    else (if code == 0x0a then Some Write6
    else (if code == 0x12 then Some Inquiry
    else (if code == 0x1a then Some ModeSense6
    else (if code == 0x1b then Some StartStopUnit
    else None))))))

abbrev pub of_ten : ℕ → Option HostCommand
of_ten code =
    if code == 0x25 then Some ReadCapacity10
    else (if code == 0x28 then Some Read10
    else (if code == 0x2a then Some Write10
    else (if code == 0x2f then Some Verify10
    else (if code == 0x35 then Some SynchronizeCache10
    else (if code == 0x5a then Some ModeSense10
    else None)))))

-- the service actions of 9Eh (SERVICE ACTION IN(16)) other than 10h are faults of a field
abbrev pub of_sixteen : ℕ → Option HostCommand
of_sixteen code =
    if code == 0x88 then Some Read16
    else (if code == 0x8a then Some Write16
    else (if code == 0x8f then Some Verify16
    else (if code == 0x91 then Some SynchronizeCache16
    else (if code == 0x9e then Some ReadCapacity16
    else None))))

-- the service actions of A3h (MAINTENANCE IN)
abbrev pub of_maintenance : ℕ → Option HostCommand
of_maintenance action =
    if action == 0x0c then Some ReportSupportedOperationCodes
    else (if action == 0x0d then Some ReportSupportedTaskManagementFunctions
    else None)

abbrev pub of_twelve : ℕ → ℕ → Option HostCommand
of_twelve code action =
    if code == 0xa0 then Some ReportLuns
    else (if code == 0xa3 then of_maintenance action
    else (if code == 0xa8 then Some Read12
    else (if code == 0xaa then Some Write12
    else (if code == 0xaf then Some Verify12
    else None))))

-- the command of an operation code and a service action, which only A3h looks at
abbrev pub named_command : ℕ → ℕ → Option HostCommand
named_command code action =
    let group = code / 2 ^ 5 in
    if group == 0 then of_six code
    else (if group == 1 || group == 2 then of_ten code
    else (if group == 4 then of_sixteen code
    else (if group == 5 then of_twelve code action
    else None)))

-- the operation codes whose commands are told apart by a service action
abbrev pub has_service_actions : ℕ → Bool
has_service_actions code = code == 0x9e || code == 0xa3

-- THE BITS OF A CDB THAT ARE USED: byte 0 is the operation code, and the service action is itself

-- byte 1 of READ and WRITE: RDPROTECT or WRPROTECT 7:5, DPO 4, FUA 3
abbrev pub transfer_flags : ℕ
transfer_flags = 0xf8

-- byte 1 of VERIFY: VRPROTECT 7:5, DPO 4, BYTCHK 2:1
abbrev pub verify_flags : ℕ
verify_flags = 0xf6

-- 6 bytes: the block in bits 4 to 0 of byte 1 and in bytes 2 and 3, the count in byte 4, CONTROL
abbrev pub short_usage : ℕ → List ℕ
short_usage code = (code ∷ 0x1f ∷ []) ++ ones 3 ++ zeros 1

-- 10 bytes: flags, block 2-5, group number, count 7-8, CONTROL
abbrev pub ten_usage : ℕ → ℕ → List ℕ
ten_usage code flags = (code ∷ flags ∷ []) ++ ones 4 ++ zeros 1 ++ ones 2 ++ zeros 1

-- 12 bytes: flags, block 2-5, count 6-9, group number, CONTROL
abbrev pub twelve_usage : ℕ → ℕ → List ℕ
twelve_usage code flags = (code ∷ flags ∷ []) ++ ones 8 ++ zeros 2

-- 16 bytes: flags, block 2-9, count 10-13, group number, CONTROL
abbrev pub sixteen_usage : ℕ → ℕ → List ℕ
sixteen_usage code flags = (code ∷ flags ∷ []) ++ ones 12 ++ zeros 2

-- one list for each command, in the order of the operation codes
abbrev pub usage_of : HostCommand → List ℕ
usage_of TestUnitReady = 0x00 ∷ zeros 5
-- DESC is bit 0 of byte 1; allocation length 4
usage_of RequestSense = 0x03 ∷ 0x01 ∷ 0 ∷ 0 ∷ 0xff ∷ 0 ∷ []
usage_of Read6 = short_usage 0x08
usage_of Write6 = short_usage 0x0a
-- EVPD is bit 0 of byte 1; page 2, allocation length 3-4
usage_of Inquiry = (0x12 ∷ 0x01 ∷ []) ++ ones 3 ++ zeros 1
-- DBD is bit 3 of byte 1; page control and page 2, subpage 3, allocation length 4
usage_of ModeSense6 = (0x1a ∷ 0x08 ∷ []) ++ ones 3 ++ zeros 1
-- byte 4: power condition 7:4, NO FLUSH 2, LOEJ 1, START 0
usage_of StartStopUnit = 0x1b ∷ 0 ∷ 0 ∷ 0 ∷ 0xf7 ∷ 0 ∷ []
usage_of ReadCapacity10 = 0x25 ∷ zeros 9
usage_of Read10 = ten_usage 0x28 transfer_flags
usage_of Write10 = ten_usage 0x2a transfer_flags
usage_of Verify10 = ten_usage 0x2f verify_flags
usage_of SynchronizeCache10 = ten_usage 0x35 0
-- DBD, page control and page, subpage as in MODE SENSE(6); allocation length 7-8
usage_of ModeSense10 = (0x5a ∷ 0x08 ∷ []) ++ ones 2 ++ zeros 3 ++ ones 2 ++ zeros 1
usage_of Read16 = sixteen_usage 0x88 transfer_flags
usage_of Write16 = sixteen_usage 0x8a transfer_flags
usage_of Verify16 = sixteen_usage 0x8f verify_flags
usage_of SynchronizeCache16 = sixteen_usage 0x91 0
-- allocation length 10-13
usage_of ReadCapacity16 = (0x9e ∷ 0x10 ∷ []) ++ zeros 8 ++ ones 4 ++ zeros 2
-- SELECT REPORT 2, allocation length 6-9
usage_of ReportLuns = (0xa0 ∷ 0 ∷ 0xff ∷ []) ++ zeros 3 ++ ones 4 ++ zeros 2
-- byte 2: RCTD 7, REPORTING OPTIONS 2:0; operation code 3, service action 4-5, allocation length 6-9
usage_of ReportSupportedOperationCodes = (0xa3 ∷ 0x0c ∷ 0x87 ∷ []) ++ ones 7 ++ zeros 2
-- REPD is bit 7 of byte 2; allocation length 6-9
usage_of ReportSupportedTaskManagementFunctions = (0xa3 ∷ 0x0d ∷ 0x80 ∷ []) ++ zeros 3 ++ ones 4 ++ zeros 2
usage_of Read12 = twelve_usage 0xa8 transfer_flags
usage_of Write12 = twelve_usage 0xaa transfer_flags
usage_of Verify12 = twelve_usage 0xaf verify_flags

-- all commands, by rising operation code and service action
abbrev pub all_commands : List HostCommand
all_commands =
    TestUnitReady ∷ RequestSense ∷ Read6 ∷ Write6 ∷ Inquiry ∷ ModeSense6 ∷ StartStopUnit
    ∷ ReadCapacity10 ∷ Read10 ∷ Write10 ∷ Verify10 ∷ SynchronizeCache10 ∷ ModeSense10
    ∷ Read16 ∷ Write16 ∷ Verify16 ∷ SynchronizeCache16 ∷ ReadCapacity16
    ∷ ReportLuns ∷ ReportSupportedOperationCodes ∷ ReportSupportedTaskManagementFunctions
    ∷ Read12 ∷ Write12 ∷ Verify12 ∷ []

-- UNIT ATTENTIONS (SAM)

-- by its operation code alone, so also where its CDB has a fault: INQUIRY and REPORT LUNS ignore one, REQUEST SENSE gives it
abbrev pub host_attention : ℕ → Attention
host_attention code =
    if code == 0x12 || code == 0xa0 then Ignored else (if code == 0x03 then Given else Reported)

-- in the profile's set INQUIRY alone ignores one
abbrev pub attention_of : ℕ → CommandSet → Attention
attention_of code Profile = if code == 0x12 then Ignored else Reported
attention_of code (Host maximum) = host_attention code
attention_of code Disk = host_attention code
