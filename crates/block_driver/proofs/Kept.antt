-- Replies stand in each change of a tag but their taking.
use Rattle.std.proofs.Common.{◌≡◌, ℕ, zero, suc, List, [], ◌∷◌, Some, ap, refl}
use Rattle.std.specs.Prelude.{slice_get, slice_index_or, slice_set}
use Rattle.std.proofs.lemmas.Option.{same_Some}
use Rattle.block_driver.specs.declared.kinds.StreamPipe.{StreamPipe}
use Rattle.block_driver.specs.declared.kinds.StreamPipe.TheVariants as pipe
use Rattle.block_driver.specs.declared.table.Came.{Came}
use Rattle.block_driver.specs.declared.table.Entry.{Entry}
use Rattle.block_driver.specs.declared.table.Entry.TheVariants.{Replied}
use Rattle.block_driver.specs.declared.table.Loss.{Loss}
use Rattle.block_driver.specs.Table.{RepliesStand, all_lost, entry_lost, entry_off}

pub kept_same : (tags : List Entry) → RepliesStand tags tags
kept_same tags = record { stand = λ place came at. at }

pub kept_then : (first second third : List Entry) → RepliesStand first second → RepliesStand second third → RepliesStand first third
kept_then first second third one other = record { stand = λ place came at. other.stand place came (one.stand place came at) }

set_stands : (tags : List Entry) (place : ℕ) (now other : Entry) → ((came : Came) → slice_index_or tags place other ≡ Replied came → now ≡ Replied came)
    → (q : ℕ) (came : Came) → slice_get tags q ≡ Some (Replied came) → slice_get (slice_set tags place now) q ≡ Some (Replied came)
set_stands [] place now other same q came at = absurd (cc at)
set_stands (first ∷ tags) zero now other same zero came at = ap Some (same came (same_Some _ _ at))
set_stands (first ∷ tags) zero now other same (suc q) came at = at
set_stands (first ∷ tags) (suc place) now other same zero came at = at
set_stands (first ∷ tags) (suc place) now other same (suc q) came at = set_stands tags place now other same q came at

pub kept_set : (tags : List Entry) (place : ℕ) (now other : Entry) → ((came : Came) → slice_index_or tags place other ≡ Replied came → now ≡ Replied came)
    → RepliesStand tags (slice_set tags place now)
kept_set tags place now other same = record { stand = set_stands tags place now other same }

lost_stands : (tags : List Entry) (loss : Loss) (q : ℕ) (came : Came) → slice_get tags q ≡ Some (Replied came)
    → slice_get (all_lost tags loss) q ≡ Some (Replied came)
lost_stands [] loss q came at = absurd (cc at)
lost_stands (first ∷ tags) loss zero came at = ap Some (ap (entry_lost loss) (same_Some _ _ at))
lost_stands (first ∷ tags) loss (suc q) came at = lost_stands tags loss q came at

pub kept_lost : (tags : List Entry) (loss : Loss) → RepliesStand tags (all_lost tags loss)
kept_lost tags loss = record { stand = lost_stands tags loss }

-- a reply stands where a TD is taken off
pub off_replied : (on : StreamPipe) (came : Came) → entry_off on (Replied came) ≡ Replied came
off_replied pipe.DataIn came = refl
off_replied pipe.DataOut came = refl
off_replied pipe.Status came = refl
