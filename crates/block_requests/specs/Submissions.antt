-- Which requests of a disk's users are taken, and what is put for one.
use Rattle.std.specs.Prelude.{ℕ, ◌+◌, ◌-◌, ◌^◌, ◌%◌, ◌==◌, ◌||◌, min, nat_lt, not, if◌then◌else◌, Bool, Option, Some, None, List, [], length, replicate, ◌++◌}
use Rattle.std.specs.List.{list_any, sum_by}
use Rattle.disk_ready.specs.declared.puts.Way.{Way}
use Rattle.disk_ready.specs.declared.puts.Way.TheVariants.{Nothing, In, Out}
use Rattle.disk_requests.specs.declared.Request.{Request}
use Rattle.disk_requests.specs.declared.Request.TheVariants.{Read, Write, Sync, Unmap, Ready}
use Rattle.disk_requests.specs.declared.refusals.DiskShape.{DiskShape}
use Rattle.disk_requests.specs.declared.refusals.Refusal.{Refusal}
use Rattle.disk_requests.specs.declared.refusals.Refusal.TheVariants as refusal
use Rattle.disk_requests.specs.Commands.{request_cdb, unmap_list}
use Rattle.disk_requests.specs.Refusals.{refusal_of}
use Rattle.host_layout.specs.declared.segments.Segment.{Segment}
use Rattle.host_layout.specs.declared.shape.Pieces.{Pieces}
use Rattle.host_layout.specs.Cutting.{is_beyond, is_empty, pieces_from}
use Rattle.host_layout.specs.Sizes.{pieces_number}
use Rattle.block_requests.specs.declared.SubmitFault.{SubmitFault}
use Rattle.block_requests.specs.declared.SubmitFault.TheVariants as fault
use Rattle.block_requests.specs.declared.Submission.{Submission}

-- THE REFUSALS

abbrev pub fault_of : Refusal → SubmitFault
fault_of refusal.Range = fault.Range
fault_of refusal.TooLong = fault.TooLong
fault_of refusal.NoUnmap = fault.NoUnmap
fault_of refusal.NoFua = fault.NoFua
fault_of refusal.Length = fault.Length

-- the bytes that segments lend, as many as 64 bits tell
abbrev pub length_in : Segment → ℕ
length_in segment = segment.length

abbrev pub lent_bytes : List Segment → ℕ
lent_bytes segments = min (sum_by length_in segments) (2 ^ 64 - 1)

-- not of whole 512 bytes, or not at a multiple of 512
abbrev pub is_uneven : Segment → Bool
is_uneven segment = not (segment.address % 512 == 0) || not (segment.length % 512 == 0)

-- it has bytes at `reach`, the first address that isn't reached, or behind it
abbrev pub is_out : ℕ → Segment → Bool
is_out reach segment = nat_lt reach (segment.address + segment.length)

-- a segment without bytes is one of a wrong length; none is reached that doesn't end below 2^64
abbrev pub segments_fault : List Segment → ℕ → Pieces → Option SubmitFault
segments_fault segments reach most =
    if list_any is_empty segments then Some fault.Length
    else if list_any is_uneven segments then Some fault.Alignment
    else if list_any (λ segment. is_out reach segment) segments || list_any is_beyond segments then Some fault.Reach
    else if nat_lt (pieces_number most) (length (pieces_from 0 segments)) then Some fault.Pieces
    else None

abbrev pub behind_refusal : Option Refusal → List Segment → ℕ → Pieces → Option SubmitFault
behind_refusal (Some refused) segments reach most = Some (fault_of refused)
behind_refusal None segments reach most = segments_fault segments reach most

-- the first that holds: of the request, then of its segments
abbrev pub submit_fault : Request → DiskShape → List Segment → ℕ → Pieces → Option SubmitFault
submit_fault request disk segments reach most = behind_refusal (refusal_of request disk (lent_bytes segments)) segments reach most

-- WHAT IS PUT

-- a READ or WRITE of no blocks moves nothing
abbrev pub way_of : Request → Way
way_of (Read block count) = if count == 0 then Nothing else In
way_of (Write block count fua) = if count == 0 then Nothing else Out
way_of Sync = Nothing
way_of (Unmap block count) = Out
way_of Ready = Nothing

-- UNMAP's parameter list of 24 bytes, in 32
abbrev pub list_of : Request → Option (List ℕ)
list_of (Read block count) = None
list_of (Write block count fua) = None
list_of Sync = None
list_of (Unmap block count) = Some (unmap_list block count ++ replicate 8 0)
list_of Ready = None

-- more than 2^32 blocks have CDBs of 16 bytes
abbrev pub submission_of : Request → DiskShape → List Segment → Submission
submission_of request disk segments = record {
  way = way_of request;
  cdb = request_cdb request (nat_lt (2 ^ 32) disk.blocks);
  list = list_of request;
  pieces = record { items = pieces_from 0 segments };
}
