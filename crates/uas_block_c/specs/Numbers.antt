-- The numbers by which C knows rows, refusals, losses and faults.
use Rattle.std.specs.Prelude.{ℕ, List, [], ◌∷◌}
use Rattle.bring_up.specs.declared.bring_up.LendFault.{LendFault}
use Rattle.bring_up.specs.declared.bring_up.LendFault.TheVariants as lend
use Rattle.bring_up.specs.declared.step.Row.{Row}
use Rattle.bring_up.specs.declared.step.Row.TheVariants as row
use Rattle.bring_up.specs.declared.why.Why.{Why}
use Rattle.bring_up.specs.declared.why.Why.TheVariants as why
use Rattle.block_requests.specs.declared.SubmitFault.{SubmitFault}
use Rattle.block_requests.specs.declared.SubmitFault.TheVariants as submit
use Rattle.block_driver.specs.declared.Fault.{Fault}
use Rattle.block_driver.specs.declared.Fault.TheVariants as fault
use Rattle.block_driver.specs.declared.table.Loss.{Loss}
use Rattle.block_driver.specs.declared.table.Loss.TheVariants as loss
use Rattle.uas_block_c.specs.declared.faults.TheConstants.{BLOCK_CALL, BLOCK_OPTIONS, BLOCK_NOT_ASKED, BLOCK_LENGTH, BLOCK_ALIGNMENT, BLOCK_REACH}
use Rattle.uas_block_c.specs.declared.faults.TheConstants.{BLOCK_NOT_READY, BLOCK_OTHER_DISK, BLOCK_RANGE, BLOCK_TOO_LONG, BLOCK_NO_UNMAP, BLOCK_NO_FUA}
use Rattle.uas_block_c.specs.declared.faults.TheConstants.{BLOCK_PIECES, BLOCK_NO_TAG, BLOCK_NO_SUCH_TAG}

abbrev pub block_faults : List ℕ
block_faults =
    BLOCK_CALL ∷ BLOCK_OPTIONS ∷ BLOCK_NOT_ASKED ∷ BLOCK_LENGTH ∷ BLOCK_ALIGNMENT ∷ BLOCK_REACH ∷ BLOCK_NOT_READY ∷ BLOCK_OTHER_DISK ∷ BLOCK_RANGE
    ∷ BLOCK_TOO_LONG ∷ BLOCK_NO_UNMAP ∷ BLOCK_NO_FUA ∷ BLOCK_PIECES ∷ BLOCK_NO_TAG ∷ BLOCK_NO_SUCH_TAG ∷ []

-- the rows of the table of bring_up
abbrev pub row_number : Row → ℕ
row_number row.Handoff = 3
row_number row.Halt = 4
row_number row.Reset = 5
row_number row.Program = 6
row_number row.Run = 7
row_number row.Ports = 8
row_number row.PortReset = 9
row_number row.EnableSlot = 10
row_number row.AddressDevice = 11
row_number row.DisableSlot = 12

-- why a controller, or a device, isn't used
abbrev pub why_number : Why → ℕ
why_number why.TooOld = 1
why_number why.SmallBar = 2
why_number why.BadList = 3
why_number why.NoSlots = 4
why_number why.NoPorts = 5
why_number why.NoStreams = 6
why_number why.PageSize = 7
why_number why.StillRuns = 8
why_number why.NoReset = 9
why_number why.NotSuperSpeed = 10
why_number why.NoAddress = 11
why_number why.Silent = 12
why_number why.BadDevice = 13
why_number why.Hub = 14
why_number why.LongConfiguration = 15
why_number why.BadDescriptor = 16
why_number why.NoUas = 17
why_number why.BadPipes = 18
why_number why.NoCompanion = 19
why_number why.BrokenUas = 20
why_number why.NotConfigured = 21
why_number why.NotADisk = 22
why_number why.NoMedium = 23
why_number why.NeverReady = 24
why_number why.BadCapacity = 25
why_number why.BlockLength = 26

-- why it isn't known what a command came to
abbrev pub loss_number : Loss → ℕ
loss_number loss.Late = 1
loss_number loss.Failed = 2
loss_number loss.BadUnit = 3
loss_number loss.Disabled = 4
loss_number loss.Pulled = 5
loss_number loss.Broken = 6
loss_number loss.Gone = 7
loss_number loss.Restarted = 8

-- why memory isn't taken
abbrev pub lend_number : LendFault → ℕ
lend_number lend.NotAsked = BLOCK_NOT_ASKED
lend_number lend.Alignment = BLOCK_ALIGNMENT
lend_number lend.Reach = BLOCK_REACH

-- why a disk doesn't take a request
abbrev pub submit_number : SubmitFault → ℕ
submit_number submit.Range = BLOCK_RANGE
submit_number submit.TooLong = BLOCK_TOO_LONG
submit_number submit.NoUnmap = BLOCK_NO_UNMAP
submit_number submit.NoFua = BLOCK_NO_FUA
submit_number submit.Length = BLOCK_LENGTH
submit_number submit.Alignment = BLOCK_ALIGNMENT
submit_number submit.Reach = BLOCK_REACH
submit_number submit.Pieces = BLOCK_PIECES

-- why a command isn't taken
abbrev pub put_number : Fault → ℕ
put_number fault.NotReady = BLOCK_NOT_READY
put_number fault.OtherDisk = BLOCK_OTHER_DISK
put_number (fault.Request of) = submit_number of
put_number fault.NoTag = BLOCK_NO_TAG
