-- EDTLA ADDS UP over the steps of a data-in TD.
use Rattle.std.specs.Prelude.{◌≡◌, ℕ, ◌+◌, ◌%◌, ◌^◌, true, List, [], ◌∷◌, IfSome}
use Rattle.guest_memory.specs.declared.rings.context.Home.{Home}
use Rattle.guest_memory.specs.declared.rings.context.Found.{Found}
use Rattle.guest_memory.specs.declared.rings.context.Found.TheVariants.{WrongKind, NotYet, Item}
use Rattle.guest_memory.specs.declared.rings.trb.PipeTrb.TheVariants.{Normal, Link, NoOp, EventData, Foreign}
use Rattle.guest_memory.specs.declared.rings.wanting.Range.{Range}
use Rattle.guest_tags.specs.Devices.{Kind}
use Rattle.guest_tags.specs.Tags.{TagWorld}
use Rattle.td_laws.specs.Places.{front_of}
use Rattle.td_laws.specs.Runs.{Others, Steps, TagTurn, all_stepped, parts_filled, stepped}
use Rattle.td_laws.specs.Buffers.{StayClear}

-- a TRB behind which EDTLA goes on: its TD doesn't end with it, and it is no Event Data TRB
abbrev pub GoesOn : Found → Type 0
GoesOn WrongKind = Unit {0}
GoesOn NotYet = Unit {0}
GoesOn (Item (Normal pointer length flags)) = flags.chain ≡ true
GoesOn (Item (Link pointer toggle flags)) = Unit {0}
GoesOn (Item (NoOp flags)) = flags.chain ≡ true
GoesOn (Item (EventData parameter flags)) = ⊥
GoesOn (Item Foreign) = Unit {0}

-- how many bytes several parts have
abbrev pub moved_in_all : List Range → ℕ
moved_in_all [] = 0
moved_in_all (part ∷ parts) = part.count + moved_in_all parts

module _ {D : Type 0} (kind : Kind D) (number : ℕ) (home : Home) where
  -- each TRB that a step finds is one behind which EDTLA goes on
  abbrev pub AllGoOn : TagWorld D → List (TagTurn (TagWorld D)) → Type 0
  AllGoOn w [] = Unit {0}
  AllGoOn w (Steps ∷ turns) = IfSome (front_of w.ring home) (λ front. GoesOn front.found) × AllGoOn (stepped kind number home w) turns
  AllGoOn w (Others other ∷ turns) = AllGoOn other turns

  -- THE LAW: from a TRB's beginning on, up to an Event Data TRB or the TD's last one, EDTLA grows by what is moved. It is 0 at a TD's
  -- beginning, and behind an Event Data TRB (AnEventEach)
  abbrev pub EdtlaAddsUp : Type 0
  EdtlaAddsUp =
      (w : TagWorld D) (turns : List (TagTurn (TagWorld D))) → StayClear kind number home w turns → AllGoOn w turns → w.ring.consumer.progress.moved ≡ 0
      → (all_stepped kind number home w turns).ring.consumer.progress.edtla % 2 ^ 24
      ≡ (w.ring.consumer.progress.edtla + moved_in_all (parts_filled kind number home w turns)) % 2 ^ 24
