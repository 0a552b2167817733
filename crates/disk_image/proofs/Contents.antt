-- What a GOOD of a command alone tells of the image. Cited by the answers of the runs `dump` and `fill`.
use Rattle.std.proofs.Common.{◌≡◌, ℕ, ◌+◌, ◌*◌, ◌/◌, ◌%◌, Bool, true, false, not, ◌&&◌, cond, List, [], ◌++◌, length, take, drop, replicate, Option, Some, None, IfSome, Result, Ok, Err}
use Rattle.std.proofs.Common.{arith, refl, ap, sym, subst, ◌∙◌}
use Rattle.std.specs.Prelude.{nat_lt, ◌==◌, slice_get}
use Rattle.std.specs.Option.{option_map_or}
use Rattle.std.proofs.lemmas.Bool.{and_parts, eqb-true}
use Rattle.std.proofs.lemmas.List.{length-replicate}
use Rattle.std.specs.Io.KnownBytes.{Appends}
use Rattle.block_unit.specs.BlockMaps.{BlockMaps, blocks_read, bytes_from, imaged, with_bytes, written}
use Rattle.block_unit.specs.Laws.{IsSized}
use Rattle.block_unit.specs.declared.ImageFault.{ImageFault}
use Rattle.block_unit.specs.declared.ImageFault.TheVariants.{NotWhole, TooLarge}
use Rattle.scsi_cmd.specs.declared.Command.{Command}
use Rattle.scsi_cmd.specs.declared.Reply.{Reply}
use Rattle.scsi_cmd.specs.declared.Reply.TheVariants.{Status, Aborted, Task}
use Rattle.uas_profile.specs.declared.TheConstants.{TAGS}
use Rattle.scsi_cmd.specs.declared.TheConstants.{GOOD}
use Rattle.shared_machine.specs.Part.{Part}
use Rattle.shared_machine.specs.Shared.{Shared}
use Rattle.isolation.specs.Isolation.{nobody, own_state, solo_of}
use Rattle.whole_commands.specs.OnTheBus.{alone}
use Rattle.whole_commands.specs.Reads.{AreItsBlocks}
use Rattle.whole_commands.specs.Writes.{HasItsBytes}
use Rattle.whole_commands.proofs.BusRuns.{read-alone, write-alone}
use Rattle.uas_script.specs.declared.Request.{Request}
use Rattle.uas_replay.specs.Told.{command_of, drain_limit, drained_machine, step_of}
use Rattle.uas_replay.specs.Printed.{sense_line}
use Rattle.disk_image.specs.Alone.{answered, blocks_at, dump_lines, dumped, fill_request, filled, filled_image, filled_medium, good_text, medium_of, read_request, told_of}
use Rattle.disk_image.specs.Images.{blocks_in, max_image_bytes}
use Rattle.disk_image.specs.Stops.{AnswersOf}

-- an image fills its blocks
image-sized : (image : List ℕ) (blocks : ℕ) → blocks_in image ≡ Ok blocks → IsSized (imaged image [])
unfolding imaged
image-sized image blocks = elim (nat_lt max_image_bytes (length image)) as
    (λ b. cond {A = Result ℕ ImageFault} b (Err TooLarge) (cond (not (length image == 0) && (length image % 512 == 0)) (Ok (length image / 512)) (Err NotWhole)) ≡ Ok blocks
    → IsSized (imaged image [])) [
      | true ↦ λ no. absurd (let it : Err TooLarge ≡ Ok blocks = no in cc)
      | false ↦ elim (not (length image == 0) && (length image % 512 == 0)) as
          (λ b. (not (length image == 0) && (length image % 512 == 0)) ≡ b → cond {A = Result ℕ ImageFault} b (Ok (length image / 512)) (Err NotWhole) ≡ Ok blocks
          → IsSized (imaged image [])) [
            | true ↦ λ whole is.
                let rest : length image % 512 ≡ 0 = eqb-true _ _ (and_parts _ _ whole).1 in
                let size : length image ≡ 512 * (length image / 512) = omega arith in
                record { blocks = size; medium = size }
            | false ↦ λ whole no. absurd (let it : Err NotWhole ≡ Ok blocks = no in cc)
          ] refl
    ]

-- a GOOD with these bytes
abbrev IsGoodWith : List ℕ → Reply → Type 0
IsGoodWith bytes (Status tag ticket status sense buffer) = (status ≡ GOOD) × (buffer ≡ bytes)
IsGoodWith bytes (Aborted tag ticket buffer) = ⊥
IsGoodWith bytes (Task tag ticket code) = ⊥

-- what is told with the exit status 0 is a GOOD
record IsGood (good : List ℕ → List ℕ) (told : Option Reply) : Type 0 where
  reply : Reply
  bytes : List ℕ
  is : told ≡ Some reply
  has : IsGoodWith bytes reply
  text : (told_of good told).0 ≡ good bytes

told-good : (good : List ℕ → List ℕ) (told : Option Reply) → (told_of good told).1 ≡ 0 → IsGood good told
told-good good None zero = absurd (omega (arith, zero))
told-good good (Some (Status tag ticket status sense buffer)) zero = by_status (status == 0) refl zero
  where
    by_status : (b : Bool) → (status == 0) ≡ b → (cond {A = List ℕ × ℕ} b (good buffer, 0) (sense_line sense.items, 1)).1 ≡ 0 →
        IsGood good (Some (Status tag ticket status sense buffer))
    by_status true is zero = record {
      reply = Status tag ticket status sense buffer;
      bytes = buffer;
      is = refl;
      has = (eqb-true status 0 is, refl);
      text = ap (λ b. (cond {A = List ℕ × ℕ} b (good buffer, 0) (sense_line sense.items, 1)).0) is;
    }
    by_status false is zero = absurd (omega (arith, zero))
told-good good (Some (Aborted tag ticket buffer)) zero = absurd (omega (arith, zero))
told-good good (Some (Task tag ticket code)) zero = absurd (omega (arith, zero))

-- the laws of one command alone, of such a reply
read-good : (unit : BlockMaps) (command : Command) (bytes : List ℕ) (reply : Reply) → IsSized unit →
    (alone TAGS unit 1 0 command drain_limit).1.reply ≡ Some reply → IsGoodWith bytes reply → AreItsBlocks unit command.op bytes
read-good unit command bytes (Status tag ticket status sense buffer) sized is good =
    subst (AreItsBlocks unit command.op) good.1
    (read-alone TAGS unit 1 0 command drain_limit tag ticket sense buffer sized (is ∙ ap (λ n. Some (Status tag ticket n sense buffer)) good.0))
read-good unit command bytes (Aborted tag ticket buffer) sized is good = absurd good
read-good unit command bytes (Task tag ticket code) sized is good = absurd good

write-good : (unit : BlockMaps) (command : Command) (bytes : List ℕ) (reply : Reply) → IsSized unit →
    (alone TAGS unit 1 0 command drain_limit).1.reply ≡ Some reply → IsGoodWith bytes reply →
    HasItsBytes unit command.op command.buffer (own_state (alone TAGS unit 1 0 command drain_limit).0 0).unit
write-good unit command bytes (Status tag ticket status sense buffer) sized is good =
    write-alone TAGS unit 1 0 command drain_limit tag ticket sense buffer sized (is ∙ ap (λ n. Some (Status tag ticket n sense buffer)) good.0)
write-good unit command bytes (Aborted tag ticket buffer) sized is good = absurd good
write-good unit command bytes (Task tag ticket code) sized is good = absurd good

-- the definitions, opened

answered-alone : (unit : BlockMaps) (request : Request) → answered unit request ≡ alone TAGS unit 1 0 (command_of request) drain_limit
unfolding answered step_of drained_machine
answered-alone unit request = refl

dumped-is : (unit : BlockMaps) (lba count : ℕ) → dumped unit lba count ≡ told_of (dump_lines lba) (answered unit (read_request lba count)).1.reply
unfolding dumped
dumped-is unit lba count = refl

filled-is : (unit : BlockMaps) (lba count byte : ℕ) →
    filled unit lba count byte ≡ told_of (λ buffer. good_text) (answered unit (fill_request lba count byte)).1.reply
unfolding filled
filled-is unit lba count byte = refl

filled_medium-is : (unit : BlockMaps) (lba count byte : ℕ) → filled_medium unit lba count byte ≡ medium_of (answered unit (fill_request lba count byte)).0
unfolding filled_medium
filled_medium-is unit lba count byte = refl

-- the blocks of an image's unit are the image's own
blocks-read : (image : List ℕ) (lba count : ℕ) → blocks_read (imaged image []) lba count ≡ blocks_at image lba count
unfolding blocks_read bytes_from imaged blocks_at
blocks-read image lba count = refl

medium-written : (image : List ℕ) (lba count byte : ℕ) → (written (imaged image []) lba (replicate (512 * count) byte) true).medium ≡ filled_image image lba count byte
unfolding written with_bytes imaged filled_image
medium-written image lba count byte =
    let end : 512 * lba + length (replicate (512 * count) byte) ≡ 512 * (lba + count) = omega (arith, length-replicate (512 * count) byte) in
    ap (λ n. take (512 * lba) image ++ replicate (512 * count) byte ++ drop n image) end

-- the medium of a bus is that of its client's part
medium-own : (state : Shared) → medium_of state ≡ (own_state state 0).unit.medium
medium-own state = elim (slice_get state.parts 0) as (λ found.
    option_map_or (λ (part : Part). part.unit.medium) found [] ≡ (option_map_or (solo_of state.tags 0) found (nobody state.tags)).unit.medium) [
      | None ↦ refl
      | Some part ↦ refl
    ]

-- DUMP

-- what is told of a GOOD
dump-good : (image : List ℕ) (blocks lba count : ℕ) → blocks_in image ≡ Ok blocks → (dumped (imaged image []) lba count).1 ≡ 0 →
    (dumped (imaged image []) lba count).0 ≡ dump_lines lba (blocks_at image lba count)
dump-good image blocks lba count whole zero =
    let unit : BlockMaps = imaged image [] in
    let request : Request = read_request lba count in
    let good = told-good (dump_lines lba) (answered unit request).1.reply (sym (ap (λ said. said.1) (dumped-is unit lba count)) ∙ zero) in
    let came = read-good unit (command_of request) good.bytes good.reply (image-sized image blocks whole)
    (sym (ap (λ after. after.1.reply) (answered-alone unit request)) ∙ good.is) good.has in
    ap (λ said. said.0) (dumped-is unit lba count) ∙ good.text ∙ ap (dump_lines lba) (came ∙ blocks-read image lba count)

dump-at : (image : List ℕ) (lba count status : ℕ) (old new : Option (List ℕ)) (form : Result ℕ ImageFault) → blocks_in image ≡ form →
    AnswersOf form (dumped (imaged image []) lba count) old new status → status ≡ 0 → Appends old new (dump_lines lba (blocks_at image lba count))
dump-at image lba count status old new (Ok blocks) whole says zero =
    subst (Appends old new) (dump-good image blocks lba count whole (sym says.1 ∙ zero)) says.0
dump-at image lba count status old new (Err fault) whole says zero = absurd says

pub dump-shows : (left : Option (List ℕ)) (lba count status : ℕ) (old new : Option (List ℕ)) →
    IfSome left (λ bytes. AnswersOf (blocks_in bytes) (dumped (imaged bytes []) lba count) old new status) → status ≡ 0 →
    IfSome left (λ bytes. Appends old new (dump_lines lba (blocks_at bytes lba count)))
dump-shows None lba count status old new says zero = tt
dump-shows (Some bytes) lba count status old new says zero = dump-at bytes lba count status old new (blocks_in bytes) refl says zero

-- FILL

-- the medium after a GOOD
fill-good : (image : List ℕ) (blocks lba count byte : ℕ) → blocks_in image ≡ Ok blocks → (filled (imaged image []) lba count byte).1 ≡ 0 →
    filled_medium (imaged image []) lba count byte ≡ filled_image image lba count byte
fill-good image blocks lba count byte whole zero =
    let unit : BlockMaps = imaged image [] in
    let request : Request = fill_request lba count byte in
    let good = told-good (λ buffer. good_text) (answered unit request).1.reply (sym (ap (λ said. said.1) (filled-is unit lba count byte)) ∙ zero) in
    let wrote = write-good unit (command_of request) good.bytes good.reply (image-sized image blocks whole)
    (sym (ap (λ after. after.1.reply) (answered-alone unit request)) ∙ good.is) good.has in
    filled_medium-is unit lba count byte ∙ ap (λ after. medium_of after.0) (answered-alone unit request)
    ∙ medium-own (alone TAGS unit 1 0 (command_of request) drain_limit).0 ∙ ap (λ now. now.medium) wrote ∙ medium-written image lba count byte

fill-at : (image : List ℕ) (lba count byte status : ℕ) (old new now : Option (List ℕ)) (form : Result ℕ ImageFault) → blocks_in image ≡ form →
    AnswersOf form (filled (imaged image []) lba count byte) old new status → now ≡ Some (filled_medium (imaged image []) lba count byte) → status ≡ 0 →
    now ≡ Some (filled_image image lba count byte)
fill-at image lba count byte status old new now (Ok blocks) whole says holds zero =
    holds ∙ ap Some (fill-good image blocks lba count byte whole (sym says.1 ∙ zero))
fill-at image lba count byte status old new now (Err fault) whole says holds zero = absurd says

pub fill-holds : (held : Option (List ℕ)) (lba count byte status : ℕ) (old new now : Option (List ℕ)) →
    IfSome held (λ bytes. AnswersOf (blocks_in bytes) (filled (imaged bytes []) lba count byte) old new status) →
    IfSome held (λ bytes. now ≡ Some (filled_medium (imaged bytes []) lba count byte)) → status ≡ 0 →
    IfSome held (λ bytes. now ≡ Some (filled_image bytes lba count byte))
fill-holds None lba count byte status old new now says holds zero = tt
fill-holds (Some bytes) lba count byte status old new now says holds zero =
    fill-at bytes lba count byte status old new now (blocks_in bytes) refl says holds zero
