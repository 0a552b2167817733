-- While bytes are left of H a step tells no CSW, unless it halts an endpoint.
use Rattle.std.proofs.Common.{◌≡◌, ℕ, ◌+◌, ◌==◌, Bool, true, false, List, length, Option, Some, None, sym, subst}
use Rattle.std.specs.Prelude.{nat_le}
use Rattle.std.proofs.lemmas.Bool.{cond_both}
use Rattle.guest_memory.specs.Bytes.{is_there}
use Rattle.guest_memory.specs.declared.rings.context.Front.{Front}
use Rattle.guest_pipes.specs.Step.{filled}
use Rattle.guest_out.specs.Immediate.{bytes_out}
use Rattle.guest_tags.specs.declared.buffer.Buffer.{Buffer}
use Rattle.guest_tags.specs.declared.device.Phase.{Phase}
use Rattle.guest_tags.specs.declared.device.Phase.TheVariants.{Absent, Gives, Takes, Ended}
use Rattle.guest_tags.specs.Devices.{Kind}
use Rattle.guest_bulk.specs.declared.bulk.BulkCommand.{BulkCommand}
use Rattle.guest_bulk.specs.declared.bulk.BulkStage.TheVariants.{Moves}
use Rattle.guest_bulk.specs.declared.bulk.Stepped.{Stepped}
use Rattle.guest_bulk.specs.Commands.{BulkWorld, with_moved, with_ring}
use Rattle.guest_bulk.specs.Verdicts.{has_chunk}
use Rattle.guest_bulk.specs.Incoming.{chunk_moved, chunk_poured, command_given, in_by, in_count, in_filled, in_lost, in_ran, moved_if, refilled, refilled_moved, zeros_moved, zeros_poured}
use Rattle.guest_bulk.specs.Outgoing.{data_dropped, handed_if, out_broken, out_by, out_drawn, out_gathered, out_handed, out_moved, out_ran, out_count, rest_dropped, worked}
use Rattle.guest_bulk.specs.Laws.{IsMoving, IsNoHalt}

module _ {D : Type 0} (kind : Kind D) where
  abbrev StillMoves : BulkWorld D × Stepped → Type 0
  StillMoves after = IsNoHalt after.1.halts → IsMoving after.0.bulk.stage

  as_before : (w : BulkWorld D) (command : BulkCommand) → w.bulk.stage ≡ Moves command → IsMoving w.bulk.stage
  as_before w command at = subst IsMoving (sym at) (tt {0})

  chunk_moving : (w : BulkWorld D) (command : BulkCommand) (front : Front) (buffer : Buffer) → IsMoving w.bulk.stage
      → IsMoving (chunk_moved kind w command front buffer).bulk.stage
  unfolding chunk_moved chunk_poured
  chunk_moving w command front buffer moves =
      let count = in_count kind w command (length w.bulk.chunk) buffer in
      let to = buffer.pointer + w.ring.consumer.progress.moved in
      cond_both (is_there w.ring.memory to count)
      (in_filled kind (w.ring.consumer.progress.moved + count == buffer.length) (chunk_poured kind w command to count) front buffer)
      (in_lost kind w front buffer) (λ (v : BulkWorld D). IsMoving v.bulk.stage) (λ yes. tt {0}) (λ no. moves)

  zeros_moving : (w : BulkWorld D) (command : BulkCommand) (front : Front) (buffer : Buffer) → IsMoving w.bulk.stage
      → IsMoving (zeros_moved kind w command front buffer).bulk.stage
  unfolding zeros_moved zeros_poured
  zeros_moving w command front buffer moves =
      let count = in_count kind w command 4096 buffer in
      let to = buffer.pointer + w.ring.consumer.progress.moved in
      cond_both (is_there w.ring.memory to count)
      (in_filled kind (w.ring.consumer.progress.moved + count == buffer.length) (zeros_poured kind w command to count) front buffer)
      (in_lost kind w front buffer) (λ (v : BulkWorld D). IsMoving v.bulk.stage) (λ yes. tt {0}) (λ no. moves)

  given_moving : (some : Bool) (w : BulkWorld D) (command : BulkCommand) (front : Front) (buffer : Buffer) → IsMoving w.bulk.stage
      → IsMoving (moved_if kind some w command front buffer).bulk.stage
  given_moving true w command front buffer moves = chunk_moving w command front buffer moves
  given_moving false w command front buffer moves = moves

  refilled_moving : (w : BulkWorld D) (command : BulkCommand) (front : Front) (buffer : Buffer)
      → IsMoving (refilled_moved kind (refilled kind w command) command front buffer).bulk.stage
  unfolding refilled
  refilled_moving w command front buffer =
      let after = refilled kind w command in
      given_moving (has_chunk after.bulk) after (command_given command (length after.bulk.chunk)) front buffer (tt {0})

  in_by_moving : (phase : Phase) (w : BulkWorld D) (command : BulkCommand) (front : Front) (buffer : Buffer) → IsMoving w.bulk.stage
      → StillMoves (in_by kind phase w command front buffer)
  in_by_moving Absent w command front buffer moves plain = moves
  in_by_moving (Gives count) w command front buffer moves plain = refilled_moving w command front buffer
  in_by_moving (Takes count) w command front buffer moves plain = absurd plain
  in_by_moving (Ended end) w command front buffer moves plain = zeros_moving w command front buffer moves

  pub in_moving : (w : BulkWorld D) (command : BulkCommand) (front : Front) (buffer : Buffer) → w.bulk.stage ≡ Moves command
      → StillMoves (in_ran kind w command front buffer)
  unfolding in_ran
  in_moving w command front buffer at =
      let moves = as_before w command at in
      let by_device = in_by kind (kind.phase w.device 1) w command front buffer in
      let kept : BulkWorld D × Stepped = (zeros_moved kind w command front buffer, worked) in
      let chunk : BulkWorld D × Stepped = (chunk_moved kind w command front buffer, worked) in
      let full : BulkWorld D × Stepped = (with_ring w (filled w.ring front buffer.flags), worked) in
      cond_both (nat_le buffer.length w.ring.consumer.progress.moved) full _ StillMoves (λ yes plain. moves)
      (λ no. cond_both (has_chunk w.bulk) chunk _ StillMoves (λ yes plain. chunk_moving w command front buffer moves)
      (λ no. cond_both command.is_kept kept by_device StillMoves (λ yes plain. zeros_moving w command front buffer moves)
      (λ no. in_by_moving (kind.phase w.device 1) w command front buffer moves)))

  dropped_moving : (w : BulkWorld D) (command : BulkCommand) (front : Front) (buffer : Buffer)
      → IsMoving (data_dropped kind w command front buffer).bulk.stage
  unfolding data_dropped rest_dropped
  dropped_moving w command front buffer = tt {0}

  handed_moving : (full : Bool) (w : BulkWorld D) (command : BulkCommand) → IsMoving w.bulk.stage → IsMoving (handed_if kind full w command).bulk.stage
  unfolding out_handed
  handed_moving true w command moves = tt {0}
  handed_moving false w command moves = moves

  drawn_moving : (bytes : Option (List ℕ)) (w : BulkWorld D) (command : BulkCommand) (count : ℕ) (front : Front) (buffer : Buffer) → IsMoving w.bulk.stage
      → IsMoving (out_drawn kind bytes w command count front buffer).bulk.stage
  unfolding out_gathered
  drawn_moving None w command count front buffer moves = moves
  drawn_moving (Some bytes) w command count front buffer moves =
      let after = out_gathered kind w command bytes in
      handed_moving (length after.bulk.taken == count) after (with_moved command (length bytes)) (tt {0})

  out_moved_moving : (w : BulkWorld D) (command : BulkCommand) (count : ℕ) (front : Front) (buffer : Buffer) → IsMoving w.bulk.stage
      → IsMoving (out_moved kind w command count front buffer).bulk.stage
  unfolding out_moved
  out_moved_moving w command count front buffer moves =
      drawn_moving (bytes_out w.ring.memory buffer w.ring.consumer.progress.moved (out_count kind w command count buffer)) w command count front buffer moves

  out_by_moving : (phase : Phase) (w : BulkWorld D) (command : BulkCommand) (front : Front) (buffer : Buffer) → IsMoving w.bulk.stage
      → StillMoves (out_by kind phase w command front buffer)
  out_by_moving Absent w command front buffer moves plain = moves
  out_by_moving (Gives count) w command front buffer moves plain = absurd plain
  out_by_moving (Takes count) w command front buffer moves plain = out_moved_moving w command count front buffer moves
  out_by_moving (Ended end) w command front buffer moves plain = dropped_moving w command front buffer

  pub out_moving : (w : BulkWorld D) (command : BulkCommand) (front : Front) (buffer : Buffer) → w.bulk.stage ≡ Moves command
      → StillMoves (out_ran kind w command front buffer)
  unfolding out_ran
  out_moving w command front buffer at =
      let moves = as_before w command at in
      let by_device = out_by kind (kind.phase w.device 1) w command front buffer in
      let kept : BulkWorld D × Stepped = (data_dropped kind w command front buffer, worked) in
      let full : BulkWorld D × Stepped = (with_ring w (filled w.ring front buffer.flags), worked) in
      cond_both (nat_le buffer.length w.ring.consumer.progress.moved) full _ StillMoves (λ yes plain. moves)
      (λ no. cond_both (has_chunk w.bulk) (out_broken kind w command 0) _ StillMoves (λ yes plain. absurd plain)
      (λ no. cond_both command.is_kept kept by_device StillMoves (λ yes plain. dropped_moving w command front buffer)
      (λ no. out_by_moving (kind.phase w.device 1) w command front buffer moves)))
