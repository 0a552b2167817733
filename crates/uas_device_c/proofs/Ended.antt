-- Which tags have tasks, and whose a received unit ends: none but by task management. Cited by the answers of ended.rt.
use Rattle.std.proofs.Common.{◌≡◌, ℕ, zero, suc, ◌+◌, ◌-◌, ◌*◌, ◌<◌, ◌≤◌, Bool, true, false, not, ◌&&◌, cond, List, ◌∷◌, length, get_or, map, replicate}
use Rattle.std.proofs.Common.{Option, Some, None, IfSome, Result, Ok, Err, refl, ap, sym, ◌∙◌, arith, inl, inr}
use Rattle.std.specs.Prelude.{◌==◌, nat_le, is_some, slice_set, IfNone, IsSome}
use Rattle.std.specs.List.{range_with_len}
use Rattle.std.proofs.lemmas.List.Edits.{fill_by_more}
use Rattle.std.proofs.lemmas.List.FromFn.{fill_by_all}
use Rattle.std.proofs.lemmas.Bool.{cases_Bool, cases_eq, eq-eqb, ne_eqb}
use Rattle.uas_iu.specs.Faults.{first_fault, identifier}
use Rattle.uas_target.specs.declared.DeviceTask.{DeviceTask}
use Rattle.uas_target.specs.declared.Overlap.{Overlap}
use Rattle.uas_target.specs.declared.Took.{Took}
use Rattle.uas_target.specs.declared.Took.TheVariants.{Began}
use Rattle.uas_target.specs.Device.{Device, Receive, dropped, executed, has_place, managed, on_its_tag, received, received_unit, received_unreadable, task_of}
use Rattle.uas_target.specs.Device.{with_code, with_response, with_units_and_task}
use Rattle.uas_target.specs.Fields.{tag_in, lun_in, cdb_in, function_in, task_tag_in}
use Rattle.uas_target.specs.Laws.{OtherTagsAreKept}
use Rattle.c_common.proofs.Least.{find-least, find-none}
use Rattle.uas_device_c.specs.DeviceCall.{byte_from, has_ended, mask_of, next_task}

-- WHICH TAGS HAVE TASKS

-- what a search for the next tag answers
pub next-is : (device : Device) (tag : ℕ) (result : Option ℕ)
    → IfSome result (λ next. (tag < next) × (next ≤ length device.tasks) × IsSome (task_of device next)
    × ((other : ℕ) → tag < other → other < next → task_of device other ≡ None))
    → IfNone result ((other : ℕ) → tag < other → task_of device other ≡ None) → result ≡ next_task device tag
next-is device tag (Some next) there none =
    sym (find-least (λ other. is_some (task_of device other)) (length device.tasks - tag) (tag + 1) next (omega (arith, there.0))
    (omega (arith, there.0, there.1)) there.2
    (λ other above below. ap is_some (there.3 other (omega (arith, above)) below)))
next-is device tag None there none =
    sym (find-none (λ other. is_some (task_of device other)) (length device.tasks - tag) (tag + 1)
    (λ other above. ap is_some (none other (omega (arith, above)))))

-- whether the next tag above the one before it is the tag itself
pub found-is : (device : Device) (tag next : ℕ) → 1 ≤ tag
    → (tag - 1 < next) × (next ≤ length device.tasks) × IsSome (task_of device next)
    × ((other : ℕ) → tag - 1 < other → other < next → task_of device other ≡ None) → (next == tag) ≡ is_some (task_of device tag)
found-is device tag next some there =
    elim (cases_eq next tag) as (λ _. (next == tag) ≡ is_some (task_of device tag)) [
      | inl same ↦ eq-eqb next tag same ∙ sym (ap (λ t. is_some (task_of device t)) (sym same) ∙ there.2)
      | inr apart ↦
          ne_eqb next tag apart
          ∙ sym (ap is_some (there.3 tag (omega (arith, some)) (let above : tag - 1 < next = there.0 in omega (arith, above, apart, some))))
    ]

-- WHOSE TASKS ARE ENDED

-- so it is of a device that is one of two
either : (P : Device → Type 0) (test : Bool) (first second : Device × Result Took Overlap) → (test ≡ true → P first.0) → (test ≡ false → P second.0) →
    P (cond test first second).0
either P true first second one two = one refl
either P false first second one two = two refl

not_both : (b : Bool) → b ≡ false → b ≡ true → ⊥
not_both true fails holds = let it : ◌≡◌ {A = Bool} true false = fails in cc
not_both false fails holds = let it : ◌≡◌ {A = Bool} false true = holds in cc

right_holds : (a b : Bool) → (a && b) ≡ true → b ≡ true
right_holds true b holds = holds
right_holds false b holds = let it : ◌≡◌ {A = Bool} false true = holds in cc

busy_begins : (device after : Device) (tag : ℕ) → is_some (task_of device tag) ≡ true → (on_its_tag device tag after).0 ≡ device
busy_begins device after tag busy =
    let P : Device → Type 0 = λ d. d ≡ device in
    either P (not (has_place device tag)) (dropped device) (cond (is_some (task_of device tag)) (device, Err (record {})) (after, Ok (Began tag))) (λ is. refl)
    (λ is.
    either P (is_some (task_of device tag)) (device, Err (record {})) (after, Ok (Began tag)) (λ there. refl)
    (λ empty. absurd (not_both (is_some (task_of device tag)) empty busy)))

-- where the tag of the bytes has a task, nothing comes of them
busy_stays : (device : Device) (bytes : List ℕ) → is_some (task_of device (tag_in bytes)) ≡ true → (received device bytes).0 ≡ device
busy_stays device bytes busy =
    let P : Device → Type 0 = λ d. d ≡ device in
    let tag = tag_in bytes in
    let commanded = with_units_and_task device tag (executed device.units (lun_in bytes) (cdb_in bytes)) in
    let after = with_code tag (managed device (function_in bytes) (task_tag_in bytes) (lun_in bytes)) in
    let held = is_some (task_of device tag) in
    either P (is_some (first_fault bytes)) (received_unreadable device bytes tag) (received_unit device bytes tag)
    (λ fault.
    either P (nat_le 4 (length bytes) && has_place device tag && not held) (with_response device tag 2, Ok (Began tag)) (dropped device)
    (λ free. absurd (not_both (not held) (ap not busy) (right_holds (nat_le 4 (length bytes) && has_place device tag) (not held) free))) (λ is. refl))
    (λ readable.
    either P (identifier bytes == 1) (on_its_tag device tag commanded) (cond (identifier bytes == 5) (on_its_tag device tag after) (dropped device))
    (λ is. busy_begins device commanded tag busy)
    (λ is. either P (identifier bytes == 5) (on_its_tag device tag after) (dropped device) (λ task. busy_begins device after tag busy) (λ other. refl)))

stays : (before after : Option DeviceTask) → after ≡ before → (is_some before && not (is_some after)) ≡ false
stays None after is = refl
stays (Some task) after is = rw is refl

-- but a Task Management unit, no bytes end a task
pub none_ended : OtherTagsAreKept → (device : Device) (bytes : List ℕ) → (identifier bytes == 5) ≡ false → (tag : ℕ) →
    has_ended device (received device bytes).0 tag ≡ false
none_ended law device bytes other tag =
    let after = (received device bytes).0 in
    elim (cases_eq tag (tag_in bytes)) as (λ _. has_ended device after tag ≡ false) [
      | inl same ↦
          elim (cases_Bool (is_some (task_of device tag))) as (λ _. has_ended device after tag ≡ false) [
            | inl busy ↦
                stays (task_of device tag) (task_of after tag)
                (ap (λ d. task_of d tag) (busy_stays device bytes (ap (λ t. is_some (task_of device t)) (sym same) ∙ busy)))
            | inr free ↦ rw free refl
          ]
      | inr apart ↦ stays (task_of device tag) (task_of after tag) (law device (Receive bytes) tag apart (rw other refl))
    ]

-- MASKS

range_same : (one other : ℕ → ℕ) (from many : ℕ) → ((k : ℕ) → from ≤ k → k < from + many → one k ≡ other k) →
    map one (range_with_len from many) ≡ map other (range_with_len from many)
range_same one other from zero same = refl
range_same one other from (suc many) same =
    ap (λ x. x ∷ map one (range_with_len (from + 1) many)) (same from (omega arith) (omega arith))
    ∙ ap (λ rest. other from ∷ rest)
    (range_same one other (from + 1) many (λ k above below. same k (omega (arith, above)) (omega (arith, below))))

byte_same : (one other : ℕ → Bool) (first : ℕ) → ((k : ℕ) → k < first + 8 → one k ≡ other k) → byte_from one first ≡ byte_from other first
byte_same one other first same =
    rw (
      same first (omega arith),
      same (first + 1) (omega arith),
      same (first + 2) (omega arith),
      same (first + 3) (omega arith),
      same (first + 4) (omega arith),
      same (first + 5) (omega arith),
      same (first + 6) (omega arith),
      same (first + 7) (omega arith),
    ) refl

-- two tests that are the same of all tags have one mask
pub mask_same : (one other : ℕ → Bool) → ((tag : ℕ) → tag < 256 → one tag ≡ other tag) → mask_of one ≡ mask_of other
unfolding mask_of
mask_same one other same =
    range_same (λ place. byte_from one (8 * place)) (λ place. byte_from other (8 * place)) 0 32
    (λ place above below. byte_same one other (8 * place) (λ k within. same k (omega (arith, within, below))))

-- one place more of what is filled place by place
pub filled_more : {X : Type 0} (f : ℕ → X) (xs : List X) (place : ℕ) (past x : X) → place < length xs → x ≡ f place →
    ((k : ℕ) → k < place → get_or xs k past ≡ f k) → (k : ℕ) → k < place + 1 → get_or (slice_set xs place x) k past ≡ f k
filled_more f xs place past x within is before k below =
    ap (λ y. get_or (slice_set xs place y) k past) is ∙ fill_by_more f xs place past within before k below

mask_empty : mask_of (λ tag. false) ≡ replicate 32 0
unfolding mask_of
mask_empty = refl

pub mask_none : (test : ℕ → Bool) → ((tag : ℕ) → test tag ≡ false) → mask_of test ≡ replicate 32 0
mask_none test none = mask_same test (λ tag. false) (λ tag below. none tag) ∙ mask_empty

pub mask_filled : (test : ℕ → Bool) (bytes : List ℕ) → length bytes ≡ 32
    → ((place : ℕ) → place < 32 → get_or bytes place 0 ≡ byte_from test (8 * place)) → bytes ≡ mask_of test
unfolding mask_of
mask_filled test bytes long each = fill_by_all (λ place. byte_from test (8 * place)) bytes 32 0 long each
