-- Once: each ticket that a client is answered for was accepted once before, and is answered once.
use Rattle.std.specs.Prelude.{◌≡◌, ℕ, ◌<◌, List, [], ◌∷◌, ◌++◌, Some, All, Contains, slice_get}
use Rattle.block_unit.specs.BlockMaps.{BlockMaps}
use Rattle.scsi_cmd.specs.declared.Reply.{Reply}
use Rattle.scsi_cmd.specs.Replies.{reply_ticket}
use Rattle.solo_model.specs.declared.Label.{Label}
use Rattle.solo_model.specs.declared.Label.TheVariants.{Submit, Task, Carry, Move, Send, Settle}
use Rattle.solo_model.specs.Solo.{SoloState, solo_run, opening as solo_opening}
use Rattle.shared_machine.specs.declared.Step.{Step}
use Rattle.shared_machine.specs.Replay.{replay}
use Rattle.isolation.specs.Isolation.{own_labels, own_replies}

-- the ticket was accepted, and isn't settled yet
pub record IsOwed (accepted settled : List ℕ) (ticket : ℕ) : Type 0 where
  pub accepted_before : Contains accepted ticket
  pub not_settled : Contains settled ticket → ⊥

-- Of a run after these tickets were accepted and those settled: the ticket of each Submit or Task is above all that were accepted
-- before, so none is accepted twice; each Settle has the next reply, whose ticket is owed, so none is settled twice or
-- before it was accepted; and there are no further replies. Checked by hand: Submit 1 of ticket 5 and Settle 1 with a reply
-- of ticket 5 are so; a second Settle with ticket 5, one with ticket 4, and a second Submit of ticket 5 aren't.
abbrev pub SettlesOnce : List ℕ → List ℕ → List Label → List Reply → Type 0
SettlesOnce accepted settled [] replies = replies ≡ []
SettlesOnce accepted settled (Submit index ticket command ∷ labels) replies =
    All (λ earlier. earlier < ticket) accepted × SettlesOnce (accepted ++ ticket ∷ []) settled labels replies
SettlesOnce accepted settled (Task ticket task ∷ labels) replies =
    All (λ earlier. earlier < ticket) accepted × SettlesOnce (accepted ++ ticket ∷ []) settled labels replies
SettlesOnce accepted settled (Carry index ∷ labels) replies = SettlesOnce accepted settled labels replies
SettlesOnce accepted settled (Move index ∷ labels) replies = SettlesOnce accepted settled labels replies
SettlesOnce accepted settled (Send index ∷ labels) replies = SettlesOnce accepted settled labels replies
SettlesOnce accepted settled (Settle index ∷ labels) [] = ⊥
SettlesOnce accepted settled (Settle index ∷ labels) (reply ∷ replies) =
    IsOwed accepted settled (reply_ticket reply)
    × SettlesOnce accepted (settled ++ reply_ticket reply ∷ []) labels replies

-- A solo run from a new unit accepts and settles each ticket once.
abbrev pub SoloSettlesOnce : Type 0
SoloSettlesOnce =
    (tags : ℕ) (unit : BlockMaps) (labels : List Label) (last : SoloState) (replies : List Reply)
    → solo_run (solo_opening tags unit) labels ≡ Some (last, replies)
    → SettlesOnce [] [] labels replies

-- So does each client's part of a replay.
abbrev pub ReplaySettlesOnce : Type 0
ReplaySettlesOnce =
    (tags : ℕ) (units : List BlockMaps) (steps : List Step) (client : ℕ) (unit : BlockMaps)
    → slice_get units client ≡ Some unit
    → SettlesOnce [] [] (own_labels tags client steps (replay tags units steps).1) (own_replies tags client (replay tags units steps).1)
