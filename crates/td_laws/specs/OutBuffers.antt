-- WHOLE BUFFERS: what steps of data-out take bit by bit are the bytes of the buffers of the ring's TRBs, in its order.
use Rattle.std.specs.Prelude.{◌≡◌, ℕ, ◌+◌, ◌==◌, if◌then◌else◌, List, [], ◌∷◌, ◌++◌, length as list_length, Option, unwrap_or}
use Rattle.guest_memory.specs.Bytes.{Memory, ◌>>=◌}
use Rattle.guest_memory.specs.declared.rings.context.Home.{Home}
use Rattle.guest_memory.specs.rings.Ends.{looked}
use Rattle.guest_memory.specs.rings.Wanted.{home_range}
use Rattle.guest_tags.specs.declared.buffer.Buffer.{Buffer}
use Rattle.guest_tags.specs.Devices.{Kind}
use Rattle.guest_tags.specs.Wanted.{moving}
use Rattle.guest_out.specs.Immediate.{bytes_out}
use Rattle.guest_out.specs.Worlds.{OutWorld}
use Rattle.td_laws.specs.Places.{AreApart, buffer_in_front, event_range}
use Rattle.td_laws.specs.OutInOrder.{all_out_stepped, all_taken, bytes_taken, out_stepped}
use Rattle.td_laws.specs.Runs.{Others, Steps, TagTurn}

-- the first so many bytes of a buffer, where they are there
abbrev pub front_bytes : Memory → Option Buffer → ℕ → Option (List ℕ)
front_bytes memory buffer count = buffer >>= (λ b. bytes_out memory b 0 count)

module _ {D : Type 0} (kind : Kind D) (number : ℕ) (home : Home) where
  -- what was taken of the TRB where the consumer stands
  abbrev pub begun_bytes : OutWorld D → Option (List ℕ)
  begun_bytes w = front_bytes w.ring.memory (looked w.ring.memory home >>= moving w.ring.consumer) w.ring.consumer.progress.moved

  -- what a step leaves behind: so many bytes of a buffer that isn't in front any more
  abbrev pub bytes_left_behind : OutWorld D → List ℕ
  bytes_left_behind w =
      let moved = w.ring.consumer.progress.moved + list_length (bytes_taken kind number home w) in
      if (out_stepped kind number home w).ring.consumer.progress.moved == moved then []
      else unwrap_or (front_bytes w.ring.memory (buffer_in_front w.ring home) moved) []

  abbrev pub all_bytes_left_behind : OutWorld D → List (TagTurn (OutWorld D)) → List ℕ
  all_bytes_left_behind w [] = []
  all_bytes_left_behind w (Steps ∷ turns) = bytes_left_behind w ++ all_bytes_left_behind (out_stepped kind number home w) turns
  all_bytes_left_behind w (Others other ∷ turns) = all_bytes_left_behind other turns

  -- others leave the TRB in front, and what was taken of it
  pub record OutAreBeside (w other : OutWorld D) : Type 0 where
    pub progress : other.ring.consumer.progress ≡ w.ring.consumer.progress
    pub front : looked other.ring.memory home ≡ looked w.ring.memory home
    pub bytes : begun_bytes other ≡ begun_bytes w

  -- no event goes to where the ring's end is kept
  abbrev pub StayInFront : OutWorld D → List (TagTurn (OutWorld D)) → Type 0
  StayInFront w [] = Unit {0}
  StayInFront w (Steps ∷ turns) = AreApart (event_range w.ring.events) (home_range home) × StayInFront (out_stepped kind number home w) turns
  StayInFront w (Others other ∷ turns) = OutAreBeside w other × StayInFront other turns

  -- THE LAW: from a TRB's beginning on, the bytes that are taken are those of each buffer that was left behind, and what was taken of the
  -- one in front. A TRB that is left behind was taken whole, unless its task ended, or a byte of it isn't there (OutResidualsAddUp)
  abbrev pub BuffersAreTaken : Type 0
  BuffersAreTaken =
      (w : OutWorld D) (turns : List (TagTurn (OutWorld D))) → StayInFront w turns → w.ring.consumer.progress.moved ≡ 0
      → all_taken kind number home w turns
      ≡ all_bytes_left_behind w turns ++ unwrap_or (begun_bytes (all_out_stepped kind number home w turns)) []
