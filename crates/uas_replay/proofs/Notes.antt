-- What a script's run notes of its clients' tickets.
use Rattle.std.proofs.Common.{◌≡◌, ◌∙◌, ℕ, zero, suc, Bool, true, false, cond, ◌+◌, List, [], ◌∷◌, ◌++◌, length, length-append, Option, Some, None}
use Rattle.std.proofs.Common.{refl, ap, sym, subst, arith, true≢false}
use Rattle.std.proofs.lemmas.Bool.{eqb-true, eqb-false}
use Rattle.std.proofs.Math.Dec.{eqb-zero-suc, eqb-suc-zero, eqb-suc-suc}
use Rattle.std.specs.Prelude.{is_none, ◌==◌, ◌||◌, slice_get, slice_set, slice_index_or, replicate}
use Rattle.block_unit.specs.BlockMaps.{BlockMaps}
use Rattle.tag_range.specs.Tags.{CountedTags, opening_counted, free_counted, is_issued_counted, task_tag, entry_of}
use Rattle.uas_replay.specs.Told.{Telling, opening_ranges, opening_run, freed_tags, freed_range, freed_run, noted, is_brought_in}
use Rattle.uas_replay.proofs.Goes.{IsNotedOf, IsNoted, Knows, or-false}

-- LISTS

none_is_some : {T : Type 0} (x : T) → None ≡ Some x → ⊥
none_is_some x same = true≢false (ap is_none same)

pub get-set_same : {T : Type 0} (list : List T) (at : ℕ) (was now : T) → slice_get list at ≡ Some was → slice_get (slice_set list at now) at ≡ Some now
get-set_same [] at was now is = absurd (none_is_some was is)
get-set_same (first ∷ rest) zero was now is = refl
get-set_same (first ∷ rest) (suc at) was now is = get-set_same rest at was now is

pub get-set_other : {T : Type 0} (list : List T) (at other : ℕ) (now : T) → (at ≡ other → ⊥) → slice_get (slice_set list at now) other ≡ slice_get list other
get-set_other [] at other now apart = refl
get-set_other (first ∷ rest) zero zero now apart = absurd (apart refl)
get-set_other (first ∷ rest) zero (suc other) now apart = refl
get-set_other (first ∷ rest) (suc at) zero now apart = refl
get-set_other (first ∷ rest) (suc at) (suc other) now apart = get-set_other rest at other now (λ same. apart (ap suc same))

-- the last of the flags is one more
index-last : (flags : List Bool) (last : Bool) (at : ℕ)
    → slice_index_or (flags ++ last ∷ []) at false ≡ (slice_index_or flags at false || cond (length flags == at) last false)
index-last [] last zero = refl
index-last [] last (suc at) = rw (eqb-zero-suc at) refl
index-last (flag ∷ flags) last zero = rw (eqb-suc-zero (length flags)) (sym (or-false flag))
index-last (flag ∷ flags) last (suc at) = rw (eqb-suc-suc (length flags) at) (index-last flags last at)

-- ONE MORE NOTE

pub noted_after : (all : List (List Bool)) (client : ℕ) (last : Bool) (flags : List Bool) → slice_get all client ≡ Some flags → (other ticket : ℕ)
    → is_brought_in (noted all client last (slice_get all client)) other ticket
    ≡ (is_brought_in all other ticket || cond (client == other) (cond (length flags == ticket) last false) false)
noted_after all client last flags found other ticket =
    rw found (elim (client == other) as (λ b. (client == other) ≡ b → is_brought_in (slice_set all client (flags ++ last ∷ [])) other ticket
    ≡ (is_brought_in all other ticket || cond b (cond (length flags == ticket) last false) false)) [
      | true ↦ λ same.
          let it : client ≡ other = eqb-true client other same in
          let there : slice_get all other ≡ Some flags = ap (slice_get all) (sym it) ∙ found in
          let now : slice_get (slice_set all client (flags ++ last ∷ [])) other ≡ Some (flags ++ last ∷ []) =
          ap (slice_get (slice_set all client (flags ++ last ∷ []))) (sym it) ∙ get-set_same all client flags (flags ++ last ∷ []) found in
          rw (now, there) (index-last flags last ticket)
      | false ↦ λ apart.
          rw (get-set_other all client other (flags ++ last ∷ []) (eqb-false client other apart)) (sym (or-false (is_brought_in all other ticket)))
    ] refl)

-- AS MANY NOTES AS TICKETS

-- the flags of a client with tags
pub record AreFlags (tags : CountedTags) (found : Option (List Bool)) : Type 0 where
  pub flags : List Bool
  pub is : found ≡ Some flags
  pub count : length flags ≡ tags.held.next

are_flags : (tags : CountedTags) (found : Option (List Bool)) → IsNotedOf (Some tags) found → AreFlags tags found
are_flags tags None none = absurd none
are_flags tags (Some flags) count = record { flags = flags; is = refl; count = count }

pub flags_of : (run : Telling) (client : ℕ) (tags : CountedTags) → IsNoted run → slice_get run.ranges client ≡ Some tags
    → AreFlags tags (slice_get run.brings_in client)
flags_of run client tags is found =
    are_flags tags (slice_get run.brings_in client) (subst (λ (o : Option CountedTags). IsNotedOf o (slice_get run.brings_in client)) found (is client))

-- a client's tags are written, which gave out no further ticket
pub ranges_noted : (run new : Telling) (client : ℕ) (tags now : CountedTags) → slice_get run.ranges client ≡ Some tags → now.held.next ≡ tags.held.next
    → new.ranges ≡ slice_set run.ranges client now → new.brings_in ≡ run.brings_in → IsNoted run → IsNoted new
ranges_noted run new client tags now found next wrote same is other =
    rw (wrote, same) (elim (client == other) as (λ b. (client == other) ≡ b
    → IsNotedOf (slice_get (slice_set run.ranges client now) other) (slice_get run.brings_in other)) [
      | true ↦ λ equal.
          let it : client ≡ other = eqb-true client other equal in
          let flags = flags_of run client tags is found in
          let there : slice_get (slice_set run.ranges client now) other ≡ Some now =
          ap (slice_get (slice_set run.ranges client now)) (sym it) ∙ get-set_same run.ranges client tags now found in
          let noted_there : slice_get run.brings_in other ≡ Some flags.flags = ap (slice_get run.brings_in) (sym it) ∙ flags.is in
          rw (there, noted_there) (flags.count ∙ sym next)
      | false ↦ λ apart. rw (get-set_other run.ranges client other now (eqb-false client other apart)) (is other)
    ] refl)

-- a client's tags are written, which gave out one more ticket, and that is noted
pub ticket_noted : (run new : Telling) (client : ℕ) (tags now : CountedTags) (last : Bool) → slice_get run.ranges client ≡ Some tags → now.held.next ≡ tags.held.next + 1
    → new.ranges ≡ slice_set run.ranges client now → new.brings_in ≡ noted run.brings_in client last (slice_get run.brings_in client)
    → IsNoted run → IsNoted new
ticket_noted run new client tags now last found next wrote notes is other =
    let flags = flags_of run client tags is found in
    let written : new.brings_in ≡ slice_set run.brings_in client (flags.flags ++ last ∷ []) = notes ∙ ap (noted run.brings_in client last) flags.is in
    rw (wrote, written) (elim (client == other) as (λ b. (client == other) ≡ b
    → IsNotedOf (slice_get (slice_set run.ranges client now) other) (slice_get (slice_set run.brings_in client (flags.flags ++ last ∷ [])) other)) [
      | true ↦ λ equal.
          let it : client ≡ other = eqb-true client other equal in
          let there : slice_get (slice_set run.ranges client now) other ≡ Some now =
          ap (slice_get (slice_set run.ranges client now)) (sym it) ∙ get-set_same run.ranges client tags now found in
          let noted_there : slice_get (slice_set run.brings_in client (flags.flags ++ last ∷ [])) other ≡ Some (flags.flags ++ last ∷ []) =
          ap (slice_get (slice_set run.brings_in client (flags.flags ++ last ∷ []))) (sym it)
          ∙ get-set_same run.brings_in client flags.flags (flags.flags ++ last ∷ []) flags.is in
          let count : length flags.flags ≡ tags.held.next = flags.count in
          rw (there, noted_there) (omega (arith, count, next, length-append flags.flags (last ∷ [])))
      | false ↦ λ apart.
          rw (
            get-set_other run.ranges client other now (eqb-false client other apart),
            get-set_other run.brings_in client other (flags.flags ++ last ∷ []) (eqb-false client other apart),
          ) (is other)
    ] refl)

-- FREED TAGS

free-next : (tags : CountedTags) (tag : ℕ) → (free_counted tags tag).held.next ≡ tags.held.next
free-next tags tag = go (tag == task_tag tags.tags tags.held.client)
  where
    go : (b : Bool) → (cond b (record tags.held { task_out = false })
        (record tags.held { out = slice_set tags.held.out (entry_of tags.tags tags.held tag) false })).next ≡ tags.held.next
    go true = refl
    go false = refl

freed_tags-next : (tags : CountedTags) (tag : ℕ) → (freed_tags tags tag).held.next ≡ tags.held.next
freed_tags-next tags tag = go (is_issued_counted tags tag)
  where
    go : (b : Bool) → (cond b (free_counted tags tag) tags).held.next ≡ tags.held.next
    go true = free-next tags tag
    go false = refl

pub freed_noted : (run : Telling) (client tag : ℕ) → IsNoted run → IsNoted (freed_run run client tag)
freed_noted run client tag is = go (slice_get run.ranges client) refl
  where
    go : (found : Option CountedTags) → slice_get run.ranges client ≡ found → IsNoted (record run { ranges = freed_range run.ranges client tag found })
    go None there = is
    go (Some tags) there =
        ranges_noted run (record run { ranges = slice_set run.ranges client (freed_tags tags tag) }) client tags (freed_tags tags tag) there
        (freed_tags-next tags tag) refl refl is

-- AT FIRST

abbrev AreFresh : List CountedTags → List (List Bool) → Type 0
AreFresh [] [] = Unit {0}
AreFresh [] (flags ∷ all) = ⊥
AreFresh (tags ∷ ranges) [] = ⊥
AreFresh (tags ∷ ranges) (flags ∷ all) = (length flags ≡ tags.held.next) × AreFresh ranges all

fresh-push : (ranges : List CountedTags) (all : List (List Bool)) (tags : CountedTags) (flags : List Bool) → AreFresh ranges all → length flags ≡ tags.held.next
    → AreFresh (ranges ++ tags ∷ []) (all ++ flags ∷ [])
fresh-push [] [] tags flags fresh count = (count, tt)
fresh-push [] (one ∷ all) tags flags fresh count = absurd fresh
fresh-push (one ∷ ranges) [] tags flags fresh count = absurd fresh
fresh-push (one ∷ ranges) (its ∷ all) tags flags fresh count = (fresh.0, fresh-push ranges all tags flags fresh.1 count)

fresh-at : (ranges : List CountedTags) (all : List (List Bool)) (client : ℕ) → AreFresh ranges all → IsNotedOf (slice_get ranges client) (slice_get all client)
fresh-at [] all client fresh = tt
fresh-at (tags ∷ ranges) [] client fresh = absurd fresh
fresh-at (tags ∷ ranges) (flags ∷ all) zero fresh = fresh.0
fresh-at (tags ∷ ranges) (flags ∷ all) (suc client) fresh = fresh-at ranges all client fresh.1

one_more : (none : List Bool) (n : ℕ) → replicate n none ++ none ∷ [] ≡ replicate (suc n) none
one_more none zero = refl
one_more none (suc n) = ap (λ (l : List (List Bool)). none ∷ l) (one_more none n)

opening-fresh : (tags clients : ℕ) → AreFresh (opening_ranges tags clients) (replicate clients [])
opening-fresh tags zero = tt
opening-fresh tags (suc clients) =
    subst (AreFresh (opening_ranges tags clients ++ opening_counted tags clients ∷ [])) (one_more [] clients)
    (fresh-push (opening_ranges tags clients) (replicate clients []) (opening_counted tags clients) [] (opening-fresh tags clients) refl)

pub opening_noted : (tags : ℕ) (units : List BlockMaps) → IsNoted (opening_run tags units)
opening_noted tags units client = fresh-at (opening_ranges tags (length units)) (replicate (length units) []) client (opening-fresh tags (length units))

pub opening_knows : (tags : ℕ) (units : List BlockMaps) (client : ℕ) → Knows client [] (opening_run tags units)
opening_knows tags units client ticket = go (length units) client
  where
    go : (n at : ℕ) → is_brought_in (replicate n []) at ticket ≡ false
    go zero at = refl
    go (suc n) zero = refl
    go (suc n) (suc at) = go n at
