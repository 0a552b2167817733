-- BYTES IN ORDER, OUT: a device takes the bytes of the buffers of a data-out TD in the order of the ring, whole.
use Rattle.std.specs.Prelude.{◌≡◌, ℕ, List, [], ◌∷◌, ◌++◌, Option, Some, None, unwrap_or}
use Rattle.guest_memory.specs.declared.rings.context.Home.{Home}
use Rattle.guest_pipes.specs.Gate.{after}
use Rattle.guest_tags.specs.declared.buffer.Buffer.{Buffer}
use Rattle.guest_tags.specs.declared.device.Phase.{Phase}
use Rattle.guest_tags.specs.declared.device.Phase.TheVariants.{Absent, Gives, Takes, Ended}
use Rattle.guest_tags.specs.Devices.{Kind}
use Rattle.guest_out.specs.DataOut.{out_count, stepped_out}
use Rattle.guest_out.specs.Immediate.{bytes_out}
use Rattle.guest_out.specs.Worlds.{OutWorld}
use Rattle.td_laws.specs.Noting.{Noted, noting}
use Rattle.td_laws.specs.Places.{buffer_in_front}
use Rattle.td_laws.specs.Runs.{Others, Steps, TagTurn}

module _ {D : Type 0} (kind : Kind D) (number : ℕ) (home : Home) where
  abbrev pub out_stepped : OutWorld D → OutWorld D
  out_stepped w = (after w (stepped_out kind w number home)).0

  -- the bytes of a buffer that a step moves
  abbrev pub taken_by : Phase → OutWorld D → Buffer → List ℕ
  taken_by Absent w buffer = []
  taken_by (Gives count) w buffer = []
  taken_by (Takes count) w buffer = unwrap_or (bytes_out w.ring.memory buffer w.ring.consumer.progress.moved (out_count kind w count buffer)) []
  taken_by (Ended end) w buffer = []

  abbrev pub taken_of : Option Buffer → OutWorld D → List ℕ
  taken_of None w = []
  taken_of (Some buffer) w = taken_by (kind.phase w.device number) w buffer

  abbrev pub bytes_taken : OutWorld D → List ℕ
  bytes_taken w = taken_of (buffer_in_front w.ring home) w

  abbrev pub all_out_stepped : OutWorld D → List (TagTurn (OutWorld D)) → OutWorld D
  all_out_stepped w [] = w
  all_out_stepped w (Steps ∷ turns) = all_out_stepped (out_stepped w) turns
  all_out_stepped w (Others other ∷ turns) = all_out_stepped other turns

  -- the bytes that these steps move, in order
  abbrev pub all_taken : OutWorld D → List (TagTurn (OutWorld D)) → List ℕ
  all_taken w [] = []
  all_taken w (Steps ∷ turns) = bytes_taken w ++ all_taken (out_stepped w) turns
  all_taken w (Others other ∷ turns) = all_taken other turns

-- what the device has taken, with what is gathered for its next chunk
abbrev pub handed : {D : Type 0} → OutWorld (Noted D) → List ℕ
handed w = w.device.taken ++ w.taken

module _ {D : Type 0} (kind : Kind D) (number : ℕ) (home : Home) where
  -- others leave that
  abbrev pub LeaveHanded : OutWorld (Noted D) → List (TagTurn (OutWorld (Noted D))) → Type 0
  LeaveHanded w [] = Unit {0}
  LeaveHanded w (Steps ∷ turns) = LeaveHanded (out_stepped (noting kind) number home w) turns
  LeaveHanded w (Others other ∷ turns) = (handed other ≡ handed w) × LeaveHanded other turns

  -- THE LAW: the device is handed the bytes of the buffers in order, whole
  abbrev pub TakenInOrder : Type 0
  TakenInOrder =
      (w : OutWorld (Noted D)) (turns : List (TagTurn (OutWorld (Noted D)))) → LeaveHanded w turns
      → handed (all_out_stepped (noting kind) number home w turns) ≡ handed w ++ all_taken (noting kind) number home w turns
