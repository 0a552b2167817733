-- A vector that is given back and lent again at once, and which bytes can be read.
use Rattle.std.proofs.Common.{◌≡◌, ℕ, ◌-◌, ◌<◌, ◌≤◌, ◌↔◌, true, false, List, length, Option, Some, None, Result, Ok, Err, sym, ap, ◌∙◌, arith, refl}
use Rattle.std.specs.Prelude.{IsErr, IsOk, IsSome, OnOk, is_err, is_some}
use Rattle.std.proofs.Math.ListN.{set}
use Rattle.std.proofs.lemmas.Bool.{le-leb}
use Rattle.std.proofs.lemmas.List.{get_or-set_same, set-get_or, set-set}
use Rattle.frame_store.specs.declared.TagBuffers.{TagBuffers}
use Rattle.frame_store.specs.Buffers.{IsNamed, IsWhole, held_for, left_at, no_buffers, with_lent}
use Rattle.frame_store.proofs.FramesLaws.{left_at-named}
use Rattle.uas_profile.specs.declared.TheConstants.{STREAMS}
use Rattle.uas_driver.specs.Calls.{is_named}

-- what the tag has while its vector is out
abbrev out : List TagBuffers → ℕ → TagBuffers
out frames tag = record (held_for frames tag) { lent = None }

back-in : (frames : List TagBuffers) (tag : ℕ) → IsWhole frames → 1 ≤ tag → tag ≤ STREAMS
    → held_for (with_lent frames tag None) tag ≡ out frames tag
back-in frames tag whole first last =
    let within : tag - 1 < length frames = omega (arith, whole.tags, first, last) in
    get_or-set_same frames (tag - 1) (out frames tag) no_buffers within

-- lent again the store is as it was
lent-twice : (frames : List TagBuffers) (tag : ℕ) (bytes : List ℕ) → IsWhole frames → 1 ≤ tag → tag ≤ STREAMS
    → (held_for frames tag).lent ≡ Some bytes → with_lent (with_lent frames tag None) tag (Some bytes) ≡ frames
lent-twice frames tag bytes whole first last is =
    let held = held_for frames tag in
    ap (λ (now : TagBuffers). set (set frames (tag - 1) (out frames tag)) (tag - 1) (record now { lent = Some bytes }))
    (back-in frames tag whole first last)
    ∙ set-set frames (tag - 1) (out frames tag) (record held { lent = Some bytes })
    ∙ ap (λ (lent : Option (List ℕ)). set frames (tag - 1) (record held { lent = lent })) (sym is)
    ∙ set-get_or frames (tag - 1) no_buffers

pub lent-back : {E : Type 0} (frames now after : List TagBuffers) (tag : ℕ) (bytes : List ℕ) (result : Result (Unit {0}) E) → IsWhole frames
    → 1 ≤ tag → tag ≤ STREAMS → (held_for frames tag).lent ≡ Some bytes → now ≡ with_lent frames tag None
    → (IsErr result ↔ IsSome (held_for now tag).lent) → OnOk result (after ≡ with_lent now tag (Some bytes)) → after ≡ frames
lent-back frames now after tag bytes (Ok done) whole first last is taken already lent =
    lent ∙ ap (λ (store : List TagBuffers). with_lent store tag (Some bytes)) taken ∙ lent-twice frames tag bytes whole first last is
lent-back frames now after tag bytes (Err error) whole first last is taken already lent =
    let none : (held_for now tag).lent ≡ None =
    ap (λ (store : List TagBuffers). (held_for store tag).lent) taken ∙ ap (λ (held : TagBuffers). held.lent) (back-in frames tag whole first last) in
    let some : is_some (held_for now tag).lent ≡ true = already.0 refl in
    let no : false ≡ true = rw none at some in absurd (cc)

-- what the store's own test answers, as the definition's
pub named-passes : {E : Type 0} (frames : List TagBuffers) (address len : ℕ) (checked : Result (Unit {0}) E) → IsWhole frames
    → (IsOk checked ↔ IsNamed frames address len) → is_err checked ≡ false → is_named frames address len ≡ true
named-passes frames address len (Ok done) whole named passed =
    le-leb len (left_at frames address) ((left_at-named frames address len whole).1 (named.0 refl))
named-passes frames address len (Err fault) whole named passed = absurd (cc)
