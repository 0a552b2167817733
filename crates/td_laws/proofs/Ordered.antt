-- The bytes that a device gives, over any steps of data-in for its tag.
use Rattle.std.proofs.Common.{◌≡◌, ℕ, ◌+◌, false, List, [], ◌∷◌, ◌++◌, Option, refl, sym, ap, ◌∙◌, append_assoc, append-nil}
use Rattle.std.specs.Prelude.{unwrap_or}
use Rattle.std.specs.List.{AllByRecursion}
use Rattle.guest_memory.specs.Bytes.{Memory}
use Rattle.guest_memory.specs.Ranges.{same_from}
use Rattle.guest_memory.specs.declared.rings.context.Home.{Home}
use Rattle.guest_memory.specs.declared.rings.wanting.Range.{Range}
use Rattle.guest_memory.specs.rings.Events.{EventEnd}
use Rattle.guest_memory.specs.rings.Wanted.{home_range}
use Rattle.guest_pipes.specs.Step.{World}
use Rattle.guest_tags.specs.Devices.{Kind}
use Rattle.guest_tags.specs.Tags.{TagWorld}
use Rattle.td_laws.specs.Noting.{Noted, noting}
use Rattle.td_laws.specs.NothingElse.{LeavesElse}
use Rattle.td_laws.specs.Places.{AreApart, event_range}
use Rattle.td_laws.specs.InOrder.{GivenInOrder, StayFilled, held_by, held_in}
use Rattle.td_laws.specs.Runs.{Others, Steps, TagTurn, all_stepped, part_filled, parts_filled, stepped}
use Rattle.td_laws.proofs.DataInElse.{data_in_leaves}
use Rattle.td_laws.proofs.Noted.{step-orders}

-- parts hold the same in two memories
abbrev HoldTheSame : Memory → Memory → List Range → Type 0
HoldTheSame new old parts = AllByRecursion (λ part. held_in new part ≡ held_in old part) parts

itself : (memory : Memory) (parts : List Range) → HoldTheSame memory memory parts
itself memory [] = tt
itself memory (part ∷ parts) = (refl, itself memory parts)

through_both : (new between old : Memory) (parts : List Range) → HoldTheSame new between parts → HoldTheSame between old parts → HoldTheSame new old parts
through_both new between old [] later earlier = tt
through_both new between old (part ∷ parts) later earlier = (later.0 ∙ earlier.0, through_both new between old parts later.1 earlier.1)

left_same : (memory : Memory) (events : EventEnd) (new : World) (home : Home) (part : Range) → LeavesElse memory events new home part → (parts : List Range)
    → AllByRecursion (λ earlier. AreApart earlier part) parts → AllByRecursion (λ earlier. AreApart earlier (event_range events)) parts
    → AllByRecursion (λ earlier. AreApart earlier (home_range home)) parts → HoldTheSame new.memory memory parts
left_same memory events new home part left [] refilled posts ends = tt
left_same memory events new home part left (earlier ∷ parts) refilled posts ends =
    let here : held_in new.memory earlier ≡ held_in memory earlier = same_from new.memory memory earlier.at earlier.count (λ k below.
    left.others (earlier.at + k) (refilled.0 k below) (posts.0 k below) (ends.0 k below)) in
    (here, left_same memory events new home part left parts refilled.1 posts.1 ends.1)

module _ {D : Type 0} (kind : Kind D) (number : ℕ) (home : Home) where
  abbrev Tags : Type 0
  Tags = TagWorld (Noted D)

  abbrev final : Tags → List (TagTurn Tags) → Tags
  final w turns = all_stepped (noting kind) number home w turns

  -- what was filled stays
  pub stays : (turns : List (TagTurn Tags)) (parts : List Range) (w : Tags) → StayFilled kind number home parts w turns
      → HoldTheSame (final w turns).ring.memory w.ring.memory parts
  stays [] parts w filled = itself w.ring.memory parts
  stays (Steps ∷ turns) parts w filled =
      let v = stepped (noting kind) number home w in
      let part = part_filled (noting kind) number home w in
      through_both (final v turns).ring.memory v.ring.memory w.ring.memory parts (stays turns (part ∷ parts) v filled.1).1
      (left_same w.ring.memory w.ring.events v.ring home part (data_in_leaves (noting kind) w number home) parts filled.0.refilled filled.0.events.1 filled.0.ends.1)
  stays (Others other ∷ turns) parts w filled =
      through_both (final other turns).ring.memory other.ring.memory w.ring.memory parts (stays turns parts other filled.1) filled.0.bytes

  -- what a task gives isn't dropped before
  pub kept_before : (turns : List (TagTurn Tags)) (parts : List Range) (w : Tags) → StayFilled kind number home parts w turns
      → (final w turns).tag.drops ≡ false → w.tag.drops ≡ false
  kept_before [] parts w filled kept = kept
  kept_before (Steps ∷ turns) parts w filled kept =
      let v = stepped (noting kind) number home w in
      (step-orders kind w number home).drops (kept_before turns (part_filled (noting kind) number home w ∷ parts) v filled.1 kept)
  kept_before (Others other ∷ turns) parts w filled kept = sym filled.0.drops ∙ kept_before turns parts other filled.1 kept

  in_order : (turns : List (TagTurn Tags)) (parts : List Range) (w : Tags) (before : List ℕ) → StayFilled kind number home parts w turns
      → (final w turns).tag.drops ≡ false → before ++ w.tag.chunk ≡ w.device.given
      → (before ++ held_by (final w turns).ring.memory (parts_filled (noting kind) number home w turns)) ++ (final w turns).tag.chunk ≡ (final w turns).device.given
  in_order [] parts w before filled kept is = ap (λ (b : List ℕ). b ++ w.tag.chunk) (append-nil before) ∙ is
  in_order (Steps ∷ turns) parts w before filled kept is =
      let v = stepped (noting kind) number home w in
      let part = part_filled (noting kind) number home w in
      let end = final v turns in
      let kept_there = kept_before turns (part ∷ parts) v filled.1 kept in
      let one = (step-orders kind w number home).order kept_there filled.0.events.0 filled.0.ends.0 before is in
      let same : held_in end.ring.memory part ≡ held_in v.ring.memory part = (stays turns (part ∷ parts) v filled.1).0 in
      let here = unwrap_or (held_in end.ring.memory part) [] in
      let now : (before ++ here) ++ v.tag.chunk ≡ v.device.given =
      ap (λ (h : Option (List ℕ)). (before ++ unwrap_or h []) ++ v.tag.chunk) same ∙ one in
      ap (λ (b : List ℕ). b ++ end.tag.chunk) (sym (append_assoc before here (held_by end.ring.memory (parts_filled (noting kind) number home v turns))))
      ∙ in_order turns (part ∷ parts) v (before ++ here) filled.1 kept now
  in_order (Others other ∷ turns) parts w before filled kept is =
      in_order turns parts other before filled.1 kept (ap (λ (c : List ℕ). before ++ c) filled.0.chunk ∙ is ∙ sym filled.0.given)

  pub given_in_order : GivenInOrder kind number home
  given_in_order w turns filled begins kept = in_order turns [] w [] filled kept begins
