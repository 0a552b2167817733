-- THE BUFFERS HOLD WHAT WAS GIVEN: the buffers of a data-in TD, put together in the order of the ring.
use Rattle.std.specs.Prelude.{◌≡◌, ℕ, false, List, [], ◌++◌, map, Option, Some}
use Rattle.guest_memory.specs.Bytes.{Memory}
use Rattle.guest_memory.specs.declared.rings.context.Home.{Home}
use Rattle.guest_tags.specs.Devices.{Kind}
use Rattle.guest_tags.specs.Tags.{TagWorld}
use Rattle.td_laws.specs.Noting.{Noted, noting}
use Rattle.td_laws.specs.Runs.{TagTurn, all_stepped}
use Rattle.td_laws.specs.InOrder.{StayFilled}
use Rattle.td_laws.specs.Buffers.{StayClear, addresses, all_addresses, all_left_behind, begun_part}

-- what stands at addresses, one by one
abbrev pub standing : Memory → List ℕ → List (Option ℕ)
standing memory places = map memory places

-- THE HEADLINE. From a TD's beginning on, with what was left of the chunk then: what stands in the buffers of the TRBs that were left
-- behind, and in what has moved of the one in front, in the ring's order, and then what is left of the chunk, are the bytes that the device
-- gave. Where the TD ended as a short packet nothing is left of the chunk (ResidualsAddUp): the buffers hold all that was given.
module _ {D : Type 0} (kind : Kind D) (number : ℕ) (home : Home) where
  abbrev pub BuffersHoldWhatWasGiven : Type 0
  BuffersHoldWhatWasGiven =
      (w : TagWorld (Noted D)) (turns : List (TagTurn (TagWorld (Noted D)))) → StayFilled kind number home [] w turns
      → StayClear (noting kind) number home w turns → w.tag.chunk ≡ w.device.given → w.ring.consumer.progress.moved ≡ 0
      → (all_stepped (noting kind) number home w turns).tag.drops ≡ false
      → standing (all_stepped (noting kind) number home w turns).ring.memory
      (all_addresses (all_left_behind (noting kind) number home w turns) ++ addresses (begun_part (noting kind) number home (all_stepped (noting kind) number home w turns)))
      ++ map Some (all_stepped (noting kind) number home w turns).tag.chunk
      ≡ map Some (all_stepped (noting kind) number home w turns).device.given
