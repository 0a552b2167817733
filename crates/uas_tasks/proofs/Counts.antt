-- The count of stale requests of each logical unit, as slots are written. Cited by Places and by the answers of the calls that change it.
use Rattle.std.proofs.Common.{◌≡◌, ℕ, ◌+◌, ◌-◌, ◌<◌, ◌≤◌, Bool, true, false, ◌&&◌, ◌||◌, cond, List, [], ◌∷◌, All, length, take, Option, Some, None, IfSome}
use Rattle.std.proofs.Common.{refl, arith, ap, sym, ◌∙◌, subst, inl, inr, length-set}
use Rattle.std.specs.Prelude.{count_by, nat_lt, slice_index_or, slice_set, ◌==◌}
use Rattle.std.specs.List.{list_any}
use Rattle.std.specs.Option.{option_map_or}
use Rattle.std.proofs.lemmas.Bool.{cases_eq, cases_lt, ne_eqb}
use Rattle.std.proofs.lemmas.Bool.Decides.{nat_tests}
use Rattle.std.proofs.lemmas.List.{get_or-set_other, get_or-set_same, get_or_default, get_or_past, length-take, take_all}
use Rattle.std.proofs.lemmas.List.Elements.{All-get_or}
use Rattle.std.proofs.lemmas.List.Sums.{count_by-le-length, get_or-le-sum_by, sum_by-cons, sum_by-set, sum_by_more}
use Rattle.host_commands.specs.Shapes.{Shape}
use Rattle.uas_target.specs.Tasks.{is_at}
use Rattle.uas_tasks.specs.declared.Task.{Task}
use Rattle.uas_tasks.specs.Slots.{SlotState, has_command, is_command_of, spared_slot, task_waits}
use Rattle.uas_tasks.specs.Soundness.{AreCounted, IsWithin, IsWritten, counted_down, counted_up}
use Rattle.uas_tasks.specs.Stale.{is_stale, stale_unit, stale_without, writes_out}

abbrev pub one : Bool → ℕ
one b = cond b 1 0

-- of one slot more
count-cons : {T : Type 0} (p : T → Bool) (x : T) (xs : List T) → count_by p (x ∷ xs) ≡ one (p x) + count_by p xs
count-cons p x xs = sum_by-cons (λ y. cond (p y) 1 0) x xs

-- ARE THERE ANY

some-none : (b c : Bool) (n : ℕ) → c ≡ nat_lt 0 n → (b || c) ≡ nat_lt 0 (one b + n)
some-none true c n is = grind (arith, nat_tests)
some-none false c n is = let e : 0 + n ≡ n = omega arith in rw e is

pub any_counted : {T : Type 0} (p : T → Bool) (xs : List T) → list_any p xs ≡ nat_lt 0 (count_by p xs)
any_counted p [] = refl
any_counted p (x ∷ xs) = some-none (p x) (list_any p xs) (count_by p xs) (any_counted p xs) ∙ ap (nat_lt 0) (sym (count-cons p x xs))

-- A SLOT IS WRITTEN

-- the same is stale as before, and all is of logical units that are there where it was
pub record Keeps (shapes : List Shape) (before after : SlotState) : Type 0 where
  pub within : IsWithin shapes before → IsWithin shapes after
  pub stale : stale_unit after ≡ stale_unit before

count-set : (number : ℕ) (slots : List SlotState) (place : ℕ) (read now : SlotState) → place < length slots → read ≡ slice_index_or slots place read →
    count_by (is_stale number) (slice_set slots place now) + one (is_stale number read) ≡ count_by (is_stale number) slots + one (is_stale number now)
count-set number slots place read now within is =
    let P : SlotState → Type 0 = λ s. count_by (is_stale number) (slice_set slots place now) + one (is_stale number s)
    ≡ count_by (is_stale number) slots + one (is_stale number now) in
    subst P (sym is) (sum_by-set (λ s. cond (is_stale number s) 1 0) slots place now read within)

pub AreCounted-kept : (stale : List ℕ) (slots : List SlotState) (place : ℕ) (read now : SlotState) → AreCounted stale slots → place < length slots →
    read ≡ slice_index_or slots place read → stale_unit now ≡ stale_unit read → AreCounted stale (slice_set slots place now)
AreCounted-kept stale slots place read now counted within is same number =
    let all = count-set number slots place read now within is in
    let alike : one (is_stale number now) ≡ one (is_stale number read) = ap (λ unit. one (is_at number unit)) same in
    omega (arith, counted number, all, alike)

-- the count of a logical unit that is told once more
up-at : (stale : List ℕ) (left : Option ℕ) (number : ℕ) → IfSome left (λ unit. unit < length stale) →
    slice_index_or (counted_up stale left) number 0 ≡ slice_index_or stale number 0 + one (is_at number left)
up-at stale None number there = omega arith
up-at stale (Some unit) number there =
    elim (cases_eq unit number) [
      | inl same ↦
          let P : ℕ → Type 0 = λ n. slice_index_or (counted_up stale (Some unit)) n 0 ≡ slice_index_or stale n 0 + one (unit == n) in
          let here : (unit == unit) ≡ true = grind (arith, nat_tests) in
          subst P same (get_or-set_same stale unit (slice_index_or stale unit 0 + 1) 0 there ∙ sym (ap (λ b. slice_index_or stale unit 0 + one b) here))
      | inr other ↦
          let apart : (unit == number) ≡ false = ne_eqb unit number other in
          let away = get_or-set_other stale unit number (slice_index_or stale unit 0 + 1) 0 (λ is. other (sym is)) in
          rw apart (omega (arith, away))
    ]

down-at : (stale : List ℕ) (left : Option ℕ) (number : ℕ) → IfSome left (λ unit. (unit < length stale) × (1 ≤ slice_index_or stale unit 0)) →
    slice_index_or (counted_down stale left) number 0 + one (is_at number left) ≡ slice_index_or stale number 0
down-at stale None number there = omega arith
down-at stale (Some unit) number there =
    elim (cases_eq unit number) [
      | inl same ↦
          let P : ℕ → Type 0 = λ n. slice_index_or (counted_down stale (Some unit)) n 0 + one (unit == n) ≡ slice_index_or stale n 0 in
          let here : (unit == unit) ≡ true = grind (arith, nat_tests) in
          let set = get_or-set_same stale unit (slice_index_or stale unit 0 - 1) 0 there.0 in
          subst P same (rw here (omega (arith, set, there.1)))
      | inr other ↦
          let apart : (unit == number) ≡ false = ne_eqb unit number other in
          let away = get_or-set_other stale unit number (slice_index_or stale unit 0 - 1) 0 (λ is. other (sym is)) in
          rw apart (omega (arith, away))
    ]

pub AreCounted-up : (stale : List ℕ) (slots : List SlotState) (place : ℕ) (read now : SlotState) (left : Option ℕ) → AreCounted stale slots →
    place < length slots → read ≡ slice_index_or slots place read → IfSome left (λ unit. unit < length stale) →
    ((number : ℕ) → one (is_stale number now) ≡ one (is_stale number read) + one (is_at number left)) →
    AreCounted (counted_up stale left) (slice_set slots place now)
AreCounted-up stale slots place read now left counted within is there more number =
    let all = count-set number slots place read now within is in
    omega (arith, counted number, all, more number, up-at stale left number there)

pub AreCounted-down : (stale : List ℕ) (slots : List SlotState) (place : ℕ) (read now : SlotState) (left : Option ℕ) → AreCounted stale slots →
    place < length slots → read ≡ slice_index_or slots place read → IfSome left (λ unit. (unit < length stale) × (1 ≤ slice_index_or stale unit 0)) →
    ((number : ℕ) → one (is_stale number read) ≡ one (is_stale number now) + one (is_at number left)) →
    AreCounted (counted_down stale left) (slice_set slots place now)
AreCounted-down stale slots place read now left counted within is there fewer number =
    let all = count-set number slots place read now within is in
    omega (arith, counted number, all, fewer number, down-at stale left number there)

pub length-up : (stale : List ℕ) (left : Option ℕ) → length (counted_up stale left) ≡ length stale
length-up stale None = refl
length-up stale (Some unit) = length-set stale unit (slice_index_or stale unit 0 + 1)

pub length-down : (stale : List ℕ) (left : Option ℕ) → length (counted_down stale left) ≡ length stale
length-down stale None = refl
length-down stale (Some unit) = length-set stale unit (slice_index_or stale unit 0 - 1)

-- A COMMAND IS ENDED: the Write that it waited for is stale from then on

split-task : (number : ℕ) (written : Option ℕ) (task : Task) (ends : Bool) →
    one (is_at number (cond (option_map_or task_waits (cond ends None (Some task)) false) None written))
    ≡ one (is_at number (cond (task_waits task) None written)) + one (is_at number (cond (task_waits task && ends) written None))
split-task number written task true =
    elim (task_waits task) as (λ b. one (is_at number written)
    ≡ one (is_at number (cond b None written)) + one (is_at number (cond (b && true) written None))) [ true ↦ omega arith | false ↦ omega arith ]
split-task number written task false =
    elim (task_waits task) as (λ b. one (is_at number (cond b None written))
    ≡ one (is_at number (cond b None written)) + one (is_at number (cond (b && false) written None))) [ true ↦ refl | false ↦ omega arith ]

pub spared-split : (number unit : ℕ) (slot : SlotState) →
    one (is_stale number (spared_slot unit slot)) ≡ one (is_stale number slot) + one (is_at number (stale_without unit slot))
spared-split number unit slot =
    elim slot.task as (λ task. one (is_at number (cond (option_map_or task_waits (cond (option_map_or (is_command_of unit) task false) None task) false) None (writes_out slot)))
    ≡ one (is_at number (cond (option_map_or task_waits task false) None (writes_out slot)))
    + one (is_at number (cond (option_map_or task_waits task false && option_map_or (is_command_of unit) task false) (writes_out slot) None))) [
      | None ↦ omega arith
      | Some task ↦ split-task number (writes_out slot) task (is_command_of unit task)
    ]

-- THE COUNT TELLS WHETHER THERE ARE ANY

pub stale_here : (stale : List ℕ) (slots : List SlotState) (number count : ℕ) → AreCounted stale slots → true ≡ nat_lt number (length stale) →
    count ≡ slice_index_or stale number count → nat_lt 0 count ≡ list_any (is_stale number) slots
stale_here stale slots number count counted here is =
    let within : number < length stale = grind (arith, nat_tests) in
    let read : count ≡ slice_index_or stale number 0 = is ∙ get_or_default stale number count 0 within in
    ap (nat_lt 0) (read ∙ counted number) ∙ sym (any_counted (is_stale number) slots)

pub stale_past : (stale : List ℕ) (slots : List SlotState) (number : ℕ) → AreCounted stale slots → false ≡ nat_lt number (length stale) →
    false ≡ list_any (is_stale number) slots
stale_past stale slots number counted past =
    let beyond : length stale ≤ number = grind (arith, nat_tests) in
    sym (any_counted (is_stale number) slots ∙ ap (nat_lt 0) (sym (counted number) ∙ get_or_past stale number 0 beyond))

-- THEY ARE COUNTED ANEW, slot by slot

pub stale_within : (many : ℕ) (slot : SlotState) → IsWritten many slot → IfSome (stale_unit slot) (λ unit. unit < many)
stale_within many slot within =
    elim (option_map_or task_waits slot.task false) as (λ b. IfSome (cond b None (writes_out slot)) (λ unit. unit < many)) [
      | true ↦ tt
      | false ↦ within
    ]

with_small : (many most : ℕ) (stale : List ℕ) (left : Option ℕ) → ((number : ℕ) → slice_index_or stale number 0 < most) → IfSome left (λ unit. unit < many) →
    IfSome left (λ unit. (unit < many) × (slice_index_or stale unit 0 < most))
with_small many most stale None small there = tt
with_small many most stale (Some unit) small there = (there, small unit)

few_counted : (stale : List ℕ) (slots : List SlotState) (most number : ℕ) → AreCounted stale slots → length slots ≤ most → slice_index_or stale number 0 ≤ most
few_counted stale slots most number counted few = omega (arith, counted number, count_by-le-length (is_stale number) slots, few)

-- so one more fits
pub may_count : (stale : List ℕ) (slots : List SlotState) (slot : SlotState) (left : Option ℕ) → AreCounted stale slots → length slots ≤ 240 →
    IfSome left (λ unit. unit < length stale) → IfSome left (λ unit. (unit < length stale) × (slice_index_or stale unit 0 < 255))
may_count stale slots slot left counted few =
    with_small (length stale) 255 stale left (λ number. omega (arith, few_counted stale slots 240 number counted few))

pub may_count_next : (stale : List ℕ) (slots : List SlotState) (at : ℕ) (slot : SlotState) → AreCounted stale (take at slots) → length slots ≤ 240 →
    IsWritten (length stale) slot → IfSome (stale_unit slot) (λ unit. (unit < length stale) × (slice_index_or stale unit 0 < 255))
may_count_next stale slots at slot counted few within =
    may_count stale (take at slots) slot (stale_unit slot) counted (omega (arith, length-take at slots, few)) (stale_within (length stale) slot within)

pub counted_next : (stale : List ℕ) (slots : List SlotState) (at : ℕ) (slot : SlotState) → AreCounted stale (take at slots) → at < length slots →
    slot ≡ slice_index_or slots at slot → IsWritten (length stale) slot → AreCounted (counted_up stale (stale_unit slot)) (take (at + 1) slots)
counted_next stale slots at slot counted within is sound number =
    let P : SlotState → Type 0 = λ s. count_by (is_stale number) (take (at + 1) slots) ≡ count_by (is_stale number) (take at slots) + one (is_stale number s) in
    let more = subst P (sym is) (sum_by_more (λ s. cond (is_stale number s) 1 0) slots at slot within) in
    omega (arith, counted number, more, up-at stale (stale_unit slot) number (stale_within (length stale) slot sound))

pub zeros : (stale : List ℕ) → ((number : ℕ) → number < length stale → slice_index_or stale number 0 ≡ 0) → (number : ℕ) → slice_index_or stale number 0 ≡ 0
zeros stale all number = elim (cases_lt number (length stale)) [ inl within ↦ all number within | inr past ↦ get_or_past stale number 0 past ]

pub all_counted : (stale : List ℕ) (slots : List SlotState) (at : ℕ) → AreCounted stale (take at slots) → length slots ≤ at → AreCounted stale slots
all_counted stale slots at counted all number = counted number ∙ ap (λ front. count_by (is_stale number) front) (take_all at slots all)

pub within_next : (many before : ℕ) (slots : List SlotState) (at : ℕ) (slot : SlotState) → many ≡ before → All (IsWritten before) slots → at < length slots →
    slot ≡ slice_index_or slots at slot → IsWritten many slot
within_next many before slots at slot same all within is =
    rw same (subst (IsWritten before) (sym is) (All-get_or (IsWritten before) slots at slot within all))

-- A COMMAND IS ENDED, OR A REQUEST ANSWERED

pub left_within : (many unit : ℕ) (slot : SlotState) → IsWritten many slot → IfSome (stale_without unit slot) (λ number. number < many)
left_within many unit slot within =
    elim (option_map_or task_waits slot.task false && has_command unit slot) as (λ b. IfSome (cond b (writes_out slot) None) (λ number. number < many)) [
      | true ↦ within
      | false ↦ tt
    ]

some_counted : (stale : List ℕ) (slots : List SlotState) (place : ℕ) (slot : SlotState) (unit : ℕ) → AreCounted stale slots → place < length slots →
    slot ≡ slice_index_or slots place slot → stale_unit slot ≡ Some unit → 1 ≤ slice_index_or stale unit 0
some_counted stale slots place slot unit counted within is stale_is =
    let here : (unit == unit) ≡ true = grind (arith, nat_tests) in
    let P : SlotState → Type 0 = λ s. one (is_stale unit s) ≤ count_by (is_stale unit) slots in
    let most = subst P (sym is) (get_or-le-sum_by (λ s. cond (is_stale unit s) 1 0) slots place slot within) in
    let this : one (is_stale unit slot) ≡ 1 = ap (λ o. one (is_at unit o)) stale_is ∙ ap one here in
    omega (arith, counted unit, most, this)

pub may_count_down : (stale : List ℕ) (slots : List SlotState) (place : ℕ) (slot : SlotState) → AreCounted stale slots → place < length slots →
    slot ≡ slice_index_or slots place slot → IsWritten (length stale) slot →
    IfSome (stale_unit slot) (λ unit. (unit < length stale) × (1 ≤ slice_index_or stale unit 0))
may_count_down stale slots place slot counted within is sound = by_unit (stale_unit slot) (stale_within (length stale) slot sound) (some_counted stale slots place slot)
  where
    by_unit : (unit : Option ℕ) → IfSome unit (λ u. u < length stale) →
        ((u : ℕ) → AreCounted stale slots → place < length slots → slot ≡ slice_index_or slots place slot → unit ≡ Some u → 1 ≤ slice_index_or stale u 0) →
        IfSome unit (λ u. (u < length stale) × (1 ≤ slice_index_or stale u 0))
    by_unit None there some = tt
    by_unit (Some u) there some = (there, some u counted within is refl)

pub none-split : (number : ℕ) (before after : SlotState) → stale_unit after ≡ None →
    one (is_stale number before) ≡ one (is_stale number after) + one (is_at number (stale_unit before))
none-split number before after none =
    let zero_after : one (is_stale number after) ≡ 0 = ap (λ o. one (is_at number o)) none in
    omega (arith, zero_after)
