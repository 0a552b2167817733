-- A worked run, so that the law isn't one of no run: a block is read, and one that is bad, and both devices show it so.
use Rattle.std.proofs.Common.{◌≡◌, ℕ, false, List, [], ◌∷◌, ◌++◌, replicate, Some, None, Ok, refl, arith, ◌∙◌}
use Rattle.block_unit.specs.BlockMaps.{BlockMaps, blocks_read, bytes_from, covers, meets_bad}
use Rattle.host_commands.specs.declared.BlockLength.TheVariants.{Bytes512}
use Rattle.host_commands.specs.Shapes.{Shape, plain_shape}
use Rattle.scsi_cmd.specs.Fields.{zeros}
use Rattle.scsi_cmd.specs.Meaning.{asked}
use Rattle.scsi_cmd.specs.Sense.{sense_bytes, unrecovered_read_error}
use Rattle.uas_iu.specs.declared.Iu.TheVariants.{Sense}
use Rattle.uas_iu.specs.Faults.{first_fault}
use Rattle.uas_target.specs.declared.Took.TheVariants.{Began}
use Rattle.uas_profile.specs.declared.TheConstants.{GREATEST_TAG}
use Rattle.uas_target.specs.Device.{Call, Receive, Give, Send, opening}
use Rattle.task_laws.specs.Backed.{backed_opening}
use Rattle.task_laws.specs.Laws.{AreWanted, Given, Received, Seen, Sent, all_backed_seen, all_seen}
use Rattle.task_laws.proofs.Calls.{one_device}

-- a logical unit of one block, of bytes 7, that is good or bad
seven : List ℕ → BlockMaps
seven bad = record { count = 1; blocks = replicate 512 7; medium = replicate 512 7; attention = false; bad = bad }

shape : Shape
shape = plain_shape 1 Bytes512 0

-- READ of it on tag 1
calls : List Call
calls = Receive ((1 ∷ 0 ∷ 0 ∷ 1 ∷ []) ++ zeros 12 ++ (0x28 ∷ 0 ∷ 0 ∷ 0 ∷ 0 ∷ 0 ∷ 0 ∷ 0 ∷ 1 ∷ []) ++ zeros 7) ∷ Give 1 ∷ Send 1 ∷ []

wanted_good : AreWanted (opening GREATEST_TAG (seven [] ∷ [])) calls
unfolding asked calls seven meets_bad first_fault
wanted_good = (tt, (tt, (tt, tt)))

wanted_bad : AreWanted (opening GREATEST_TAG (seven (0 ∷ []) ∷ [])) calls
unfolding asked calls seven meets_bad first_fault
wanted_bad = (tt, (tt, (tt, tt)))

-- its bytes, and GOOD
seen_good : List Seen
seen_good = Received (Ok (Began 1)) ∷ Given (Some (replicate 512 7)) ∷ Sent (Some (Sense 1 0 (record { items = [] }))) ∷ []

-- no bytes, and CHECK CONDITION with UNRECOVERED READ ERROR
seen_bad : List Seen
seen_bad = Received (Ok (Began 1)) ∷ Given None ∷ Sent (Some (Sense 1 2 (record { items = sense_bytes unrecovered_read_error }))) ∷ []

good_row : all_seen (opening GREATEST_TAG (seven [] ∷ [])) calls ≡ seen_good
unfolding asked calls seven meets_bad first_fault blocks_read bytes_from seen_good
good_row = refl

bad_row : all_seen (opening GREATEST_TAG (seven (0 ∷ []) ∷ [])) calls ≡ seen_bad
unfolding asked calls seven meets_bad covers first_fault seen_bad
bad_row = refl

backed_good_row : all_backed_seen (backed_opening (shape ∷ []) (seven [] ∷ [])) calls ≡ seen_good
unfolding seven shape
backed_good_row =
    one_device (seven [] ∷ []) (shape ∷ []) calls
    (record { blocks = refl; plain = record { read_only = refl; names = refl }; block_length = refl; few = omega arith; sized = record { blocks = refl; medium = refl }; quiet = refl }, tt) wanted_good
    ∙ good_row

backed_bad_row : all_backed_seen (backed_opening (shape ∷ []) (seven (0 ∷ []) ∷ [])) calls ≡ seen_bad
unfolding seven shape
backed_bad_row =
    one_device (seven (0 ∷ []) ∷ []) (shape ∷ []) calls
    (record { blocks = refl; plain = record { read_only = refl; names = refl }; block_length = refl; few = omega arith; sized = record { blocks = refl; medium = refl }; quiet = refl }, tt) wanted_bad
    ∙ bad_row
