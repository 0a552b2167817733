-- What a disk that is ready can be asked.
use Rattle.std.specs.Prelude.{ℕ, ◌*◌, ◌/◌, ◌==◌, ◌&&◌, ◌||◌, min, not, if◌then◌else◌, Bool, Option, Some, None}
use Rattle.disk_requests.specs.declared.answers.BlockLimits.{BlockLimits}
use Rattle.disk_requests.specs.declared.answers.Capacity.{Capacity}
use Rattle.disk_requests.specs.declared.refusals.DiskShape.{DiskShape}
use Rattle.disk_up.specs.Bridges.{is_asm105x}
use Rattle.disk_up.specs.declared.requests.Known.{Known}
use Rattle.usb_descriptors.specs.declared.UasFunction.{UasFunction}
use Rattle.usb_descriptors.specs.declared.stream_tags.Streams.{Streams}
use Rattle.disk_ready.specs.declared.shapes.ReadyDisk.{ReadyDisk}
use Rattle.disk_ready.specs.declared.questions.Learned.{Learned}

-- a page that isn't there tells no limit
abbrev pub no_limits : BlockLimits
no_limits = record { most_blocks = 0; optimal_blocks = 0; most_unmap = 0; unmap_descriptors = 0 }

abbrev pub limits_or_none : Option BlockLimits → BlockLimits
limits_or_none (Some limits) = limits
limits_or_none None = no_limits

-- of two limits the lower; 0 is none
abbrev pub lower_limit : ℕ → ℕ → ℕ
lower_limit a b = if a == 0 then b else if b == 0 then a else min a b

-- ASMedia's ASM1053, an ASM105x without 2^5 streams: 240 sectors of 512 bytes
abbrev pub has_240_sectors : Known → UasFunction → Bool
has_240_sectors known function = is_asm105x known function && not (function.pipes.status.max_streams == 5)

abbrev pub bridge_limit : Known → UasFunction → ℕ → ℕ
bridge_limit known function block_bytes =
    if has_240_sectors known function && not (block_bytes == 0) then 240 * 512 / block_bytes else 0

-- JMicron's 152d:0567 and 0578 take no FUA
abbrev pub has_fua : Known → Bool
has_fua known = not ((known.vendor == 0x152d) && ((known.product == 0x0567) || (known.product == 0x0578)))

-- SBC-3, 6.5.3 and 5.16: blocks can be unmapped where LBPME is 1 and neither UNMAP limit is 0
abbrev pub can_unmap : Capacity → BlockLimits → Bool
can_unmap capacity limits = capacity.is_provisioned && not (limits.most_unmap == 0) && not (limits.unmap_descriptors == 0)

abbrev pub shape_of : Known → UasFunction → Capacity → BlockLimits → DiskShape
shape_of known function capacity limits = record {
  blocks = capacity.blocks;
  block_bytes = capacity.block_bytes;
  most_blocks = lower_limit limits.most_blocks (bridge_limit known function capacity.block_bytes);
  most_unmap = limits.most_unmap;
  can_unmap = can_unmap capacity limits;
  has_fua = has_fua known;
}

abbrev pub disk_with : Known → Option (UasFunction × Streams) → Option Capacity → Option BlockLimits → Option ReadyDisk
disk_with known None capacity limits = None
disk_with known (Some found) None limits = None
disk_with known (Some found) (Some capacity) limits =
    Some (record { shape = shape_of known found.0 capacity (limits_or_none limits); tags = found.1.tags })

abbrev pub disk_of : Known → Learned → Option ReadyDisk
disk_of known learned = disk_with known known.disk learned.capacity learned.limits
