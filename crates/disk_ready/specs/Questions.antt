-- Rows 15 and 16: what a disk is asked, and what its answers lead to (SPC-4, SBC-3).
use Rattle.std.specs.Prelude.{ℕ, ◌+◌, ◌==◌, ◌&&◌, nat_le, nat_lt, if◌then◌else◌, Bool, true, false, List, Option, Some, None, Result, Ok, Err}
use Rattle.bring_up.specs.declared.why.Why.{Why}
use Rattle.bring_up.specs.declared.why.Why.TheVariants as why
use Rattle.disk_requests.specs.declared.Asking.{Asking}
use Rattle.disk_requests.specs.declared.Asking.TheVariants as asking
use Rattle.disk_requests.specs.declared.DiskFault.{DiskFault}
use Rattle.disk_requests.specs.declared.DiskFault.TheVariants as fault
use Rattle.disk_requests.specs.declared.answers.Capacity.{Capacity}
use Rattle.disk_requests.specs.declared.answers.InquiryData.{InquiryData}
use Rattle.disk_requests.specs.declared.answers.ShortCapacity.{ShortCapacity as Short}
use Rattle.disk_requests.specs.declared.answers.ShortCapacity.TheVariants.{Known, AskLong}
use Rattle.disk_requests.specs.declared.senses.Readiness.{Readiness}
use Rattle.disk_requests.specs.declared.senses.Readiness.TheVariants as readiness
use Rattle.disk_requests.specs.Capacities.{long_capacity_in, short_capacity_in}
use Rattle.disk_requests.specs.Inquiry.{inquiry_in}
use Rattle.disk_requests.specs.Pages.{limits_in, lists_page}
use Rattle.disk_ready.specs.declared.questions.Heard.{Heard}
use Rattle.disk_ready.specs.declared.questions.Learned.{Learned}
use Rattle.disk_ready.specs.declared.questions.Next.{Next}
use Rattle.disk_ready.specs.declared.questions.Next.TheVariants.{Ask, Size, Pause, Refused, Ready}
use Rattle.disk_ready.specs.declared.questions.Question.{Question}
use Rattle.disk_ready.specs.declared.questions.Question.TheVariants.{Inquiry, UnitReady, StartUnit, ShortCapacity, LongCapacity, PageList, Limits}

-- page 00h lists the pages, B0h is Block Limits
abbrev pub asking_of : Question → Asking
asking_of Inquiry = asking.Inquiry None 36
asking_of UnitReady = asking.TestUnitReady
asking_of StartUnit = asking.StartUnit
asking_of ShortCapacity = asking.ReadCapacity10
asking_of LongCapacity = asking.ReadCapacity16
asking_of PageList = asking.Inquiry (Some 0x00) 255
asking_of Limits = asking.Inquiry (Some 0xb0) 64

-- the most bytes of an answer
abbrev pub data_bytes : Question → ℕ
data_bytes Inquiry = 36
data_bytes UnitReady = 0
data_bytes StartUnit = 0
data_bytes ShortCapacity = 8
data_bytes LongCapacity = 32
data_bytes PageList = 255
data_bytes Limits = 64

abbrev pub nothing_learned : Learned
nothing_learned = record { inquiry = None; capacity = None; limits = None; attentions = 0; is_started = false }

abbrev pub on : Learned → Next → Heard
on learned next = record { learned = learned; next = next }

-- ROW 15: INQUIRY

abbrev pub behind_inquiry : Learned → Result InquiryData DiskFault → Heard
behind_inquiry learned (Err fault) = on learned (Refused why.NotADisk)
behind_inquiry learned (Ok inquiry) = on (record learned { inquiry = Some inquiry }) (Ask UnitReady)

-- what may pass: UNIT ATTENTION, 2/04, BUSY and TASK SET FULL
abbrev pub may_pass : Readiness → Bool
may_pass readiness.Ready = false
may_pass readiness.Again = true
may_pass readiness.Start = true
may_pass readiness.Wait = true
may_pass readiness.NoMedium = false
may_pass readiness.Busy = true
may_pass readiness.Failed = false

-- it is asked again a little later, or the disk isn't used
abbrev pub paused_or : Learned → Question → Readiness → Why → Heard
paused_or learned question how why = if may_pass how then on learned (Pause question) else on learned (Refused why)

abbrev pub inquiry_heard : Learned → Readiness → List ℕ → Heard
inquiry_heard learned readiness.Ready bytes = behind_inquiry learned (inquiry_in bytes)
inquiry_heard learned how bytes = paused_or learned Inquiry how why.NotADisk

-- TEST UNIT READY until GOOD: a disk that asks for it is started, once; else it is asked again a little later. Row 16 counts UNIT ATTENTIONs anew.

abbrev pub unit_heard : Learned → Readiness → Heard
unit_heard learned readiness.Ready = on (record learned { attentions = 0 }) Size
unit_heard learned readiness.Start =
    if learned.is_started then on learned (Pause UnitReady) else on (record learned { is_started = true }) (Ask StartUnit)
unit_heard learned readiness.Wait = on learned (Pause UnitReady)
unit_heard learned readiness.NoMedium = on learned (Refused why.NoMedium)
unit_heard learned readiness.Again = on learned (Refused why.NeverReady)
unit_heard learned readiness.Busy = on learned (Pause UnitReady)
unit_heard learned readiness.Failed = on learned (Pause UnitReady)

-- ROW 16: READ CAPACITY(10); where VERSION is 5 or more, SPC-3, also (16) and the pages; (16) too where the short one can't tell

abbrev pub why_of : DiskFault → Why
why_of fault.NotADisk = why.NotADisk
why_of fault.BadCapacity = why.BadCapacity
why_of fault.BlockLength = why.BlockLength

abbrev pub has_version_5 : Option InquiryData → Bool
has_version_5 None = false
has_version_5 (Some inquiry) = nat_le 5 inquiry.version

abbrev pub behind_short : Learned → Result Short DiskFault → Heard
behind_short learned (Err fault) = on learned (Refused (why_of fault))
behind_short learned (Ok AskLong) = on learned (Ask LongCapacity)
behind_short learned (Ok (Known capacity)) =
    on (record learned { capacity = Some capacity }) (if has_version_5 learned.inquiry then Ask LongCapacity else Ready)

abbrev pub short_heard : Learned → Readiness → List ℕ → Heard
short_heard learned readiness.Ready bytes = behind_short learned (short_capacity_in bytes)
short_heard learned how bytes = paused_or learned ShortCapacity how why.BadCapacity

abbrev pub pages_next : Learned → Next
pages_next learned = if has_version_5 learned.inquiry then Ask PageList else Ready

-- a disk may refuse (16) where the short one told its size
abbrev pub by_short : Option Capacity → Learned → Heard
by_short None learned = on learned (Refused why.BadCapacity)
by_short (Some capacity) learned = on learned (pages_next learned)

-- both tell blocks of as many bytes
abbrev pub is_as_short : Option Capacity → Capacity → Bool
is_as_short None capacity = true
is_as_short (Some short) capacity = capacity.block_bytes == short.block_bytes

abbrev pub behind_long : Learned → Result Capacity DiskFault → Heard
behind_long learned (Err fault) = on learned (Refused (why_of fault))
behind_long learned (Ok capacity) =
    if is_as_short learned.capacity capacity then on (record learned { capacity = Some capacity }) (pages_next learned)
    else on learned (Refused why.BlockLength)

abbrev pub long_heard : Learned → Readiness → List ℕ → Heard
long_heard learned readiness.Ready bytes = behind_long learned (long_capacity_in bytes)
long_heard learned _ bytes = by_short learned.capacity learned

abbrev pub list_heard : Learned → Readiness → List ℕ → Heard
list_heard learned readiness.Ready bytes = on learned (if lists_page bytes 0xb0 then Ask Limits else Ready)
list_heard learned _ bytes = on learned Ready

abbrev pub limits_heard : Learned → Readiness → List ℕ → Heard
limits_heard learned readiness.Ready bytes = on (record learned { limits = limits_in bytes }) Ready
limits_heard learned _ bytes = on learned Ready

abbrev pub question_heard : Question → Learned → Readiness → List ℕ → Heard
question_heard Inquiry learned how bytes = inquiry_heard learned how bytes
question_heard UnitReady learned how bytes = unit_heard learned how
question_heard StartUnit learned how bytes = on learned (Ask UnitReady)
question_heard ShortCapacity learned how bytes = short_heard learned how bytes
question_heard LongCapacity learned how bytes = long_heard learned how bytes
question_heard PageList learned how bytes = list_heard learned how bytes
question_heard Limits learned how bytes = limits_heard learned how bytes

-- a UNIT ATTENTION: asked again, ten times in a row of the table
abbrev pub is_attention : Readiness → Bool
is_attention readiness.Again = true
is_attention readiness.Ready = false
is_attention readiness.Start = false
is_attention readiness.Wait = false
is_attention readiness.NoMedium = false
is_attention readiness.Busy = false
is_attention readiness.Failed = false

abbrev pub heard : Learned → Question → Readiness → List ℕ → Heard
heard learned question how bytes =
    if is_attention how && nat_lt learned.attentions 10 then on (record learned { attentions = learned.attentions + 1 }) (Ask question)
    else question_heard question learned how bytes
