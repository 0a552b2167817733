-- A loan that ends and begins again with the same bytes, and how long one can be.
use Rattle.std.proofs.Common.{◌≡◌, ℕ, ◌-◌, ◌<◌, ◌≤◌, ◌↔◌, true, false, nat_lt, nat_le, List, length, Option, Some, None, Result, Ok, Err, refl, sym, ap, ◌∙◌, arith}
use Rattle.std.specs.Prelude.{IsErr, IsSome, OnOk, is_some}
use Rattle.std.proofs.Math.ListN.{set}
use Rattle.std.proofs.lemmas.Bool.{and_parts, leb-true, ltb-true}
use Rattle.std.proofs.lemmas.List.{get_or-set_same, set-get_or, set-set}
use Rattle.frame_store.specs.declared.TagBuffers.{TagBuffers}
use Rattle.frame_store.specs.Buffers.{IsWhole, held_for, no_buffers, with_lent}
use Rattle.stream_array.specs.Contexts.{has_stream}
use Rattle.uas_profile.specs.declared.TheConstants.{STREAMS, WINDOW_BYTES}

-- a tag that has buffers
pub record HasBuffers (tag : ℕ) : Type 0 where
  pub first : 1 ≤ tag
  pub last : tag ≤ STREAMS

pub has_stream-is : (tag : ℕ) → has_stream tag ≡ true → HasBuffers tag
has_stream-is tag is =
    let parts = and_parts (nat_lt 0 tag) (nat_le tag STREAMS) is in
    record { first = ltb-true 0 tag parts.0; last = leb-true tag STREAMS parts.1 }

pub lent-fits : (frames : List TagBuffers) (tag : ℕ) (bytes : List ℕ) → IsWhole frames → HasBuffers tag
    → (held_for frames tag).lent ≡ Some bytes → length bytes ≤ WINDOW_BYTES
lent-fits frames tag bytes whole has is = rw is at ((whole.sizes tag has.first has.last).lent)

pub lent-again : (frames : List TagBuffers) (tag : ℕ) (bytes : List ℕ) → IsWhole frames → HasBuffers tag
    → (held_for frames tag).lent ≡ Some bytes → with_lent (with_lent frames tag None) tag (Some bytes) ≡ frames
lent-again frames tag bytes whole has is =
    let held = held_for frames tag in
    let empty : TagBuffers = record held { lent = None } in
    let within : tag - 1 < length frames = omega (arith, whole.tags, has.first, has.last) in
    ap (λ (now : TagBuffers). set (set frames (tag - 1) empty) (tag - 1) (record now { lent = Some bytes }))
    (get_or-set_same frames (tag - 1) empty no_buffers within)
    ∙ set-set frames (tag - 1) empty (record held { lent = Some bytes })
    ∙ ap (λ (lent : Option (List ℕ)). set frames (tag - 1) (record held { lent = lent })) (sym is)
    ∙ set-get_or frames (tag - 1) no_buffers

-- the tag has nothing lent in between
pub lent-none : (frames : List TagBuffers) (tag : ℕ) → IsWhole frames → HasBuffers tag → (held_for (with_lent frames tag None) tag).lent ≡ None
lent-none frames tag whole has =
    let held = held_for frames tag in
    let empty : TagBuffers = record held { lent = None } in
    let within : tag - 1 < length frames = omega (arith, whole.tags, has.first, has.last) in
    ap (λ (now : TagBuffers). now.lent) (get_or-set_same frames (tag - 1) empty no_buffers within)

-- so it can be lent again, and then the store is as it was
pub lent-after : {E : Type 0} (frames now after : List TagBuffers) (tag : ℕ) (bytes : List ℕ) (result : Result (Unit {0}) E) → IsWhole frames
    → HasBuffers tag → (held_for frames tag).lent ≡ Some bytes → now ≡ with_lent frames tag None
    → (IsErr result ↔ IsSome (held_for now tag).lent) → OnOk result (after ≡ with_lent now tag (Some bytes)) → after ≡ frames
lent-after frames now after tag bytes (Ok done) whole has is taken already lent =
    lent ∙ ap (λ (store : List TagBuffers). with_lent store tag (Some bytes)) taken ∙ lent-again frames tag bytes whole has is
lent-after frames now after tag bytes (Err error) whole has is taken already lent =
    let none : (held_for now tag).lent ≡ None =
    ap (λ (store : List TagBuffers). (held_for store tag).lent) taken ∙ lent-none frames tag whole has in
    let some : is_some (held_for now tag).lent ≡ true = already.0 refl in
    let no : false ≡ true = rw none at some in absurd (cc)
