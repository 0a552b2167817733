-- The form of a device is exact.
use Rattle.std.proofs.Common.{◌≡◌, ℕ, zero, suc, ◌<◌, Bool, true, false, List, [], ◌∷◌, length, Option, None, Some, refl, arith}
use Rattle.std.specs.Prelude.{◌==◌, is_some, not}
use Rattle.std.proofs.lemmas.Bool.{and_parts, eqb-true}
use Rattle.uas_tasks.specs.declared.LogicalUnit.{LogicalUnit}
use Rattle.uas_tasks.specs.declared.Task.{Task}
use Rattle.machine_bytes.specs.Exact.{IsExact}
use Rattle.machine_bytes.specs.Forms.{counted}
use Rattle.machine_bytes.proofs.Exact.{checked-exact, counted-exact, mapped-exact, named-exact, number-exact, of_some-exact, optional-exact, pair-exact}
use Rattle.machine_bytes.proofs.SparseExact.{sparse-exact}
use Rattle.device_bytes.specs.Devices.{MOST_CHUNK, SavedTag, attention_at, attention_form, attention_number, attentions_form, device_form, fresh_tag, is_fresh_tag, is_sound_tag, state_form, tag_form, tag_place, tags_form, unit_place}
use Rattle.device_bytes.proofs.TasksExact.{task-exact}

pub attention-exact : IsExact attention_form
attention-exact = named-exact 2 attention_number attention_at same
  where
    same : (k : ℕ) → k < 2 → attention_number (attention_at k) ≡ k
    same zero few = refl
    same (suc zero) few = refl
    same (suc (suc k)) few = absurd (omega (arith, few))

apart : {P : Type 0} → ◌≡◌ {A = Bool} false true → P
apart is = let it : ⊥ = cc in absurd it

none-fresh : {A : Type 0} (x : Option A) → not (is_some x) ≡ true → x ≡ None
none-fresh None is = refl
none-fresh (Some a) is = apart is

pub attentions-exact : (many : ℕ) → many < 65535 → IsExact (attentions_form many)
attentions-exact many few = sparse-exact many None unit_place few (of_some-exact attention_form attention-exact) refl none-fresh

pub state-exact : IsExact state_form
state-exact = mapped-exact _ _ _ (pair-exact _ _ (optional-exact _ task-exact) (number-exact 4)) (λ state has. refl)

pub tag-exact : IsExact tag_form
tag-exact = pair-exact state_form (counted 4 MOST_CHUNK) state-exact (counted-exact 4 MOST_CHUNK)

empty : (bytes : List ℕ) → (length bytes == 0) ≡ true → bytes ≡ []
empty [] is = refl
empty (byte ∷ bytes) is = let none = eqb-true (length (byte ∷ bytes)) 0 is in absurd (omega (arith, none))

pub tag-fresh : (tag : SavedTag) → is_fresh_tag tag ≡ true → tag ≡ fresh_tag
tag-fresh tag is =
    let parts = and_parts _ _ is in
    let state = and_parts _ _ parts.0 in
    let task = none-fresh tag.0.task state.0 in
    let turn = eqb-true tag.0.turn 0 state.1 in
    same tag.0.task tag.0.turn tag.1 task turn (empty tag.1 parts.1)
  where
    same : (task : Option Task) (turn : ℕ) (bytes : List ℕ) → task ≡ None → turn ≡ 0 → bytes ≡ [] →
        let it : SavedTag = (record { task = task; turn = turn }, bytes) in it ≡ fresh_tag
    same task turn bytes one two three = rw (one, two, three) refl

pub tags-exact : (units : List LogicalUnit) (chunk : ℕ) → IsExact (tags_form units chunk)
tags-exact units chunk =
    sparse-exact 240 fresh_tag (tag_place units chunk) (omega arith) (checked-exact (is_sound_tag units chunk) tag_form tag-exact) refl tag-fresh

pub device-exact : (units : List LogicalUnit) (chunk : ℕ) → length units < 65535 → IsExact (device_form units chunk)
device-exact units chunk few =
    pair-exact (attentions_form (length units)) (tags_form units chunk) (attentions-exact (length units) few) (tags-exact units chunk)
