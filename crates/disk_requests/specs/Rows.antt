-- Units and parameter lists byte by byte.
use Rattle.std.specs.Prelude.{◌≡◌, ℕ, ◌^◌, true, false, List, [], ◌∷◌, ◌++◌, codes, Some, Ok, Err}
use Rattle.scsi_cmd.specs.Data.{inquiry_bytes}
use Rattle.scsi_cmd.specs.Fields.{zeros}
use Rattle.disk_requests.specs.declared.Asking.TheVariants as asking
use Rattle.disk_requests.specs.declared.Request.TheVariants.{Read, Write, Unmap}
use Rattle.disk_requests.specs.declared.DiskFault.TheVariants.{BlockLength, NotADisk}
use Rattle.disk_requests.specs.declared.answers.ShortCapacity.TheVariants.{Known, AskLong}
use Rattle.disk_requests.specs.declared.StatusKind.TheVariants.{Sense, Response}
use Rattle.disk_requests.specs.declared.senses.Readiness.TheVariants as readiness
use Rattle.disk_requests.specs.Capacities.{long_capacity_in, short_capacity_in}
use Rattle.disk_requests.specs.Commands.{asking_cdb, request_cdb, unmap_list}
use Rattle.disk_requests.specs.Inquiry.{inquiry_in}
use Rattle.disk_requests.specs.Senses.{readiness_in}
use Rattle.disk_requests.specs.Statuses.{status_in}
use Rattle.disk_requests.specs.Units.{command_text, task_text}

-- READ(16) of 8 blocks from 1000h on, on tag 1, to logical unit 0
abbrev pub RowRead : Type 0
RowRead =
    command_text 1 0 (request_cdb (Read 0x1000 8) true)
    ≡ 0x01 ∷ 0x00 ∷ 0x00 ∷ 0x01 ∷ 0 ∷ 0 ∷ 0 ∷ 0 ∷ 0 ∷ 0 ∷ 0 ∷ 0 ∷ 0 ∷ 0 ∷ 0 ∷ 0
    ∷ 0x88 ∷ 0 ∷ 0 ∷ 0 ∷ 0 ∷ 0 ∷ 0 ∷ 0 ∷ 0x10 ∷ 0x00 ∷ 0x00 ∷ 0x00 ∷ 0x00 ∷ 0x08 ∷ 0 ∷ 0 ∷ []

-- the same READ of a smaller disk, of 10 bytes; a WRITE with FUA of a block that 10 bytes don't have
abbrev pub RowShortRead : Type 0
RowShortRead = request_cdb (Read 0x1000 8) false ≡ 0x28 ∷ 0 ∷ 0x00 ∷ 0x00 ∷ 0x10 ∷ 0x00 ∷ 0 ∷ 0x00 ∷ 0x08 ∷ 0 ∷ 0 ∷ 0 ∷ 0 ∷ 0 ∷ 0 ∷ 0 ∷ []

abbrev pub RowFarWrite : Type 0
RowFarWrite = request_cdb (Write (2 ^ 32) 1 true) false ≡ 0x8a ∷ 0x08 ∷ 0 ∷ 0 ∷ 0 ∷ 1 ∷ 0 ∷ 0 ∷ 0 ∷ 0 ∷ 0 ∷ 0 ∷ 0 ∷ 1 ∷ 0 ∷ 0 ∷ []

-- UNMAP of 8 blocks from 1000h on
abbrev pub RowUnmap : Type 0
RowUnmap = request_cdb (Unmap 0x1000 8) true ≡ 0x42 ∷ 0 ∷ 0 ∷ 0 ∷ 0 ∷ 0 ∷ 0 ∷ 0 ∷ 0x18 ∷ zeros 7

abbrev pub RowUnmapList : Type 0
RowUnmapList =
    unmap_list 0x1000 8
    ≡ 0x00 ∷ 0x16 ∷ 0x00 ∷ 0x10 ∷ 0 ∷ 0 ∷ 0 ∷ 0 ∷ 0 ∷ 0 ∷ 0 ∷ 0 ∷ 0 ∷ 0 ∷ 0x10 ∷ 0x00 ∷ 0 ∷ 0 ∷ 0 ∷ 0x08 ∷ 0 ∷ 0 ∷ 0 ∷ 0 ∷ []

-- INQUIRY of page B0h, 64 bytes of it; READ CAPACITY(16)
abbrev pub RowPage : Type 0
RowPage = asking_cdb (asking.Inquiry (Some 0xb0) 64) ≡ 0x12 ∷ 0x01 ∷ 0xb0 ∷ 0x00 ∷ 0x40 ∷ zeros 11

abbrev pub RowCapacity : Type 0
RowCapacity = asking_cdb asking.ReadCapacity16 ≡ 0x9e ∷ 0x10 ∷ zeros 11 ++ (0x20 ∷ 0 ∷ 0 ∷ [])

-- ABORT TASK of tag 7 on tag 15
abbrev pub RowAbort : Type 0
RowAbort = task_text 15 0x01 7 0 ≡ 0x05 ∷ 0x00 ∷ 0x00 ∷ 0x0f ∷ 0x01 ∷ 0x00 ∷ 0x00 ∷ 0x07 ∷ zeros 8

-- CHECK CONDITION on tag 7 with 6/29/00 in the fixed format, in a unit with reserved bytes set; the answer of an ABORT TASK on tag 15
abbrev pub attention : List ℕ
attention = 0x70 ∷ 0 ∷ 0x06 ∷ 0 ∷ 0 ∷ 0 ∷ 0 ∷ 0x0a ∷ 0 ∷ 0 ∷ 0 ∷ 0 ∷ 0x29 ∷ 0 ∷ 0 ∷ 0 ∷ 0 ∷ 0 ∷ []

abbrev pub RowAttention : Type 0
RowAttention =
    status_in ((0x03 ∷ 0xff ∷ 0x00 ∷ 0x07 ∷ 0 ∷ 0 ∷ 0x02 ∷ 0xff ∷ 0 ∷ 0 ∷ 0 ∷ 0 ∷ 0 ∷ 0 ∷ 0x00 ∷ 0x12 ∷ []) ++ attention)
    ≡ Some (record { tag = 7; kind = Sense 0x02 (record { items = attention }) })

abbrev pub RowResponse : Type 0
RowResponse = status_in (0x04 ∷ 0 ∷ 0x00 ∷ 0x0f ∷ 0 ∷ 0 ∷ 0 ∷ 0x08 ∷ []) ≡ Some (record { tag = 15; kind = Response 0x08 })

-- a Sense unit that tells more sense than came
abbrev pub RowShortSense : Type 0
RowShortSense =
    status_in (0x03 ∷ 0 ∷ 0x00 ∷ 0x07 ∷ 0 ∷ 0 ∷ 0x02 ∷ 0 ∷ 0 ∷ 0 ∷ 0 ∷ 0 ∷ 0 ∷ 0 ∷ 0x00 ∷ 0x12 ∷ 0x72 ∷ 0x06 ∷ [])
    ≡ Some (record { tag = 7; kind = Sense 0x02 (record { items = 0x72 ∷ 0x06 ∷ [] }) })

-- 100 blocks of 512 bytes; FFFFFFFFh; 2^33 blocks of 4,096 bytes that can be unmapped; blocks of 256 bytes
abbrev pub RowBlocks : Type 0
RowBlocks = short_capacity_in (0 ∷ 0 ∷ 0 ∷ 0x63 ∷ 0 ∷ 0 ∷ 0x02 ∷ 0x00 ∷ []) ≡ Ok (Known (record { blocks = 100; block_bytes = 512; is_provisioned = false }))

abbrev pub RowAskLong : Type 0
RowAskLong = short_capacity_in (0xff ∷ 0xff ∷ 0xff ∷ 0xff ∷ 0 ∷ 0 ∷ 0 ∷ 0 ∷ []) ≡ Ok AskLong

abbrev pub RowLongCapacity : Type 0
RowLongCapacity =
    long_capacity_in ((0 ∷ 0 ∷ 0 ∷ 1 ∷ 0xff ∷ 0xff ∷ 0xff ∷ 0xff ∷ 0 ∷ 0 ∷ 0x10 ∷ 0 ∷ 0 ∷ 0 ∷ 0x80 ∷ []) ++ zeros 17)
    ≡ Ok (record { blocks = 2 ^ 33; block_bytes = 4096; is_provisioned = true })

abbrev pub RowBlockLength : Type 0
RowBlockLength = short_capacity_in (0 ∷ 0 ∷ 0 ∷ 0x63 ∷ 0 ∷ 0 ∷ 0x01 ∷ 0x00 ∷ []) ≡ Err BlockLength

-- a disk that was reset, that is to be started, that becomes ready, without a medium, and that is busy
abbrev pub RowReadiness : Type 0
RowReadiness =
    (readiness_in 0x02 attention ≡ readiness.Again) × (readiness_in 0x02 (0x72 ∷ 0x02 ∷ 0x04 ∷ 0x02 ∷ []) ≡ readiness.Start)
    × (readiness_in 0x02 (0x72 ∷ 0x02 ∷ 0x04 ∷ 0x01 ∷ []) ≡ readiness.Wait) × (readiness_in 0x02 (0x72 ∷ 0x02 ∷ 0x3a ∷ 0 ∷ []) ≡ readiness.NoMedium)
    × (readiness_in 0x02 [] ≡ readiness.Failed) × (readiness_in 0x08 [] ≡ readiness.Busy) × (readiness_in 0x28 [] ≡ readiness.Busy)

-- THE ANSWERS OF THIS REPOSITORY'S OWN DISK

-- its INQUIRY data
abbrev pub RowInquiry : Type 0
RowInquiry =
    inquiry_in (inquiry_bytes true)
    ≡ Ok (record { is_removable = false; version = 6; vendor = codes "SIMDISK "; product = codes "UAS SIM DISK    "; revision = codes "0001" })

-- no unit
abbrev pub RowNoUnit : Type 0
RowNoUnit = inquiry_in (inquiry_bytes false) ≡ Err NotADisk
