-- A command that lacks nothing isn't refused, and what it lacks isn't there.
use Rattle.std.proofs.Common.{◌≡◌, ℕ, ◌+◌, ◌-◌, ◌*◌, ◌%◌, ◌^◌, ◌<◌, ◌≤◌, Bool, true, false, Option, Some, None, List, refl, sym, ap, ◌∙◌, arith, inl, inr}
use Rattle.std.proofs.lemmas.Bool.{false≢true, and_parts, and_from, cases_Bool, cases_lt}
use Rattle.std.proofs.lemmas.Option.{none-some}
use Rattle.std.proofs.Math.Nat.{mod-eq_of_lt}
use Rattle.std.specs.Prelude.{is_some, if◌then◌else◌}
use Rattle.byteorder.specs.Endian.{little_number}
use Rattle.guest_memory.specs.Bytes.{Memory, IsWithinAddresses, bytes_from, is_there, ◌>>=◌}
use Rattle.guest_memory.specs.Ranges.{there_by_each, there_each}
use Rattle.guest_memory.specs.declared.rings.wanting.Range.{Range}
use Rattle.guest_memory.specs.rings.Wanted.{LacksIt}
use Rattle.guest_memory.specs.rings.WantedLaws.{missing_lacks, there_if}
use Rattle.xhci_slots.specs.declared.contexts.DeviceContext.{DeviceContext}
use Rattle.xhci_slots.specs.declared.contexts.EndpointState.{EndpointState}
use Rattle.xhci_slots.specs.declared.contexts.InputContext.{InputContext}
use Rattle.xhci_slots.specs.declared.contexts.Number.{Number}
use Rattle.xhci_slots.specs.declared.contexts.SlotState.{SlotState}
use Rattle.xhci_slots.specs.contexts.Contexts.{context_at, device_at, endpoint_at, endpoint_in, has_device, slot_at, slot_in}
use Rattle.xhci_slots.specs.contexts.Inputs.{input_at, is_bad_address, is_bad_configuration, is_bad_evaluation}
use Rattle.xhci_slots.specs.declared.SlotCommand.{SlotCommand}
use Rattle.xhci_slots.specs.declared.SlotCommand.TheVariants.{Enable, Disable, Address, Configure, Evaluate, Reset}
use Rattle.xhci_slots.specs.Slots.{World, address_step, addressed_by, configure_step, configured_by, context_disabled, deconfigure_step, disable_step, entry_at, evaluate_step, evaluated_by, executed, has_context, may_address, may_configure, may_evaluate, reset_step, slot_step, told}
use Rattle.xhci_slots.specs.Wanted.{address_wanted, command_wanted, configure_wanted, device_wanted, entry_wanted, evaluate_wanted, input_wanted, read_wanted, slot_wanted, tell_wanted, unless_bad, wanted_in}

-- two parts, neither of which is missing
both : {A B : Type 0} (o : Option A) (f : A → Option B) → is_some o ≡ true → ((a : A) → is_some (f a) ≡ true) → is_some (o >>= f) ≡ true
both None f some rest = absurd (false≢true some)
both (Some a) f some rest = rest a

-- A DEVICE CONTEXT

slot_there : (memory : Memory) (at : ℕ) → is_there memory at 32 ≡ true → is_some (slot_at memory at) ≡ true
unfolding slot_at
slot_there memory at there = both (bytes_from memory at 32) (λ bytes. Some (slot_in bytes)) there (λ bytes. refl)

endpoint_there : (memory : Memory) (at : ℕ) → is_there memory at 32 ≡ true → is_some (endpoint_at memory at) ≡ true
unfolding endpoint_at
endpoint_there memory at there = both (bytes_from memory at 32) (λ bytes. Some (endpoint_in bytes)) there (λ bytes. refl)

device_there : (memory : Memory) (base : ℕ) → has_device memory base ≡ true → is_some (device_at memory base) ≡ true
unfolding device_at
device_there memory base there =
    let fifth = and_parts _ _ there in
    let fourth = and_parts _ _ fifth.0 in
    let third = and_parts _ _ fourth.0 in
    let second = and_parts _ _ third.0 in
    let first = and_parts _ _ second.0 in
    both (slot_at memory base) _ (slot_there memory base first.0) (λ slot.
    both (endpoint_at memory (context_at base 1)) _ (endpoint_there memory (context_at base 1) first.1) (λ control.
    both (endpoint_at memory (context_at base 2)) _ (endpoint_there memory (context_at base 2) second.1) (λ command.
    both (endpoint_at memory (context_at base 3)) _ (endpoint_there memory (context_at base 3) third.1) (λ status.
    both (endpoint_at memory (context_at base 4)) _ (endpoint_there memory (context_at base 4) fourth.1) (λ data_out.
    both (endpoint_at memory (context_at base 5)) _ (endpoint_there memory (context_at base 5) fifth.1) (λ data_in. refl))))))

-- the context of a number where all 192 bytes are there
part_there : (memory : Memory) (base number : ℕ) → base + 192 ≤ 2 ^ 64 → number < 6 → is_there memory base 192 ≡ true
    → is_there memory (context_at base number) 32 ≡ true
part_there memory base number ends below there =
    let here : (base + 32 * number) % 2 ^ 64 ≡ base + 32 * number = mod-eq_of_lt (omega (arith, ends, below)) in
    ap (λ at. is_there memory at 32) here ∙ there_by_each memory (base + 32 * number) 32 (λ k within.
    let e : base + 32 * number + k ≡ base + (32 * number + k) = omega arith in
    ap (λ at. is_some (memory at)) e ∙ there_each memory base 192 there (32 * number + k) (omega (arith, below, within)))

first_there : (memory : Memory) (base : ℕ) → is_there memory base 192 ≡ true → is_there memory base 32 ≡ true
first_there memory base there = there_by_each memory base 32 (λ k within. there_each memory base 192 there k (omega (arith, within)))

-- bytes that are there end at 2 ^ 64 at the latest
ends_below : (memory : Memory) (base : ℕ) → IsWithinAddresses memory → is_there memory base 192 ≡ true → base + 192 ≤ 2 ^ 64
ends_below memory base ends there = elim (cases_lt (base + 191) (2 ^ 64)) [
  | inl below ↦ omega (arith, below)
  | inr past ↦ absurd (false≢true (ap is_some (sym (ends (base + 191) past)) ∙ there_each memory base 192 there 191 (omega arith)))
]

whole_there : (memory : Memory) (base : ℕ) → IsWithinAddresses memory → is_there memory base 192 ≡ true → has_device memory base ≡ true
whole_there memory base ends there =
    let last = ends_below memory base ends there in
    and_from _ _ (and_from _ _ (and_from _ _ (and_from _ _ (and_from _ _ (first_there memory base there)
    (part_there memory base 1 last (omega arith) there)) (part_there memory base 2 last (omega arith) there))
    (part_there memory base 3 last (omega arith) there)) (part_there memory base 4 last (omega arith) there))
    (part_there memory base 5 last (omega arith) there)

device_lacks : (memory : Memory) (base : ℕ) → IsWithinAddresses memory → LacksIt memory (device_wanted memory base)
device_lacks memory base ends = by_test (has_device memory base) refl
  where
    by_test : (has : Bool) → has_device memory base ≡ has → LacksIt memory (if has then None else Some (record { at = base; count = 192 }))
    by_test true is = tt
    by_test false is = (
      omega arith,
      elim (cases_Bool (is_there memory base 192)) [
        | inl there ↦ absurd (false≢true (sym is ∙ whole_there memory base ends there))
        | inr lacks ↦ lacks
      ],
    )

device_found : (memory : Memory) (base : ℕ) → device_wanted memory base ≡ None → is_some (device_at memory base) ≡ true
device_found memory base none = device_there memory base (there_if (has_device memory base) _ None none).0

-- AN INPUT CONTEXT

input_found : (memory : Memory) (input : ℕ) → input_wanted memory input ≡ None → is_some (input_at memory input) ≡ true
unfolding input_at
input_found memory input none =
    let parts = there_if (is_there memory input 8) _ (device_wanted memory (context_at input 1)) none in
    both (bytes_from memory input 8) _ parts.0 (λ flags.
    both (device_at memory (context_at input 1)) _ (device_found memory (context_at input 1) parts.1) (λ device. refl))

input_lacks : (memory : Memory) (input : ℕ) → IsWithinAddresses memory → LacksIt memory (input_wanted memory input)
input_lacks memory input ends =
    missing_lacks memory (record { at = input; count = 8 }) (device_wanted memory (context_at input 1)) (device_lacks memory (context_at input 1) ends)

entry_found : {R : Type 0} (memory : Memory) (array : ℕ) (entry : Option ℕ) (made : ℕ → DeviceContext → R) → entry_wanted array memory entry ≡ None
    → is_some (entry >>= (λ at. device_at memory at >>= (λ device. Some (made at device)))) ≡ true
entry_found memory array None made none = absurd (none-some _ (sym none))
entry_found memory array (Some at) made none = both (device_at memory at) _ (device_found memory at none) (λ device. refl)

entry_lacks : (memory : Memory) (array : ℕ) → IsWithinAddresses memory → LacksIt memory (entry_wanted array memory (entry_at memory array))
unfolding entry_at
entry_lacks memory array ends = by_bytes (bytes_from memory ((array + 8) % 2 ^ 64) 8) refl
  where
    by_bytes : (bytes : Option (List ℕ)) → bytes_from memory ((array + 8) % 2 ^ 64) 8 ≡ bytes
        → LacksIt memory (entry_wanted array memory (bytes >>= (λ bytes. Some (little_number 8 bytes - little_number 8 bytes % 64))))
    by_bytes None is = (omega arith, ap is_some is)
    by_bytes (Some bytes) is = device_lacks memory (little_number 8 bytes - little_number 8 bytes % 64) ends

read_lacks : (memory : Memory) (read : Option InputContext) (lacks : Option Range) (is_bad : InputContext → Bool) (rest : Option Range)
    → LacksIt memory lacks → LacksIt memory rest → LacksIt memory (read_wanted read lacks (λ input. unless_bad (is_bad input) rest))
read_lacks memory None lacks is_bad rest at_first behind = at_first
read_lacks memory (Some input) lacks is_bad rest at_first behind = by_test (is_bad input)
  where
    by_test : (bad : Bool) → LacksIt memory (unless_bad bad rest)
    by_test true = tt
    by_test false = behind

read_found : {R : Type 0} (read : Option InputContext) (lacks : Option Range) (is_bad : InputContext → Bool) (rest : Option Range) (bad : R)
    (step : InputContext → Option R) → (lacks ≡ None → is_some read ≡ true) → (rest ≡ None → (input : InputContext) → is_some (step input) ≡ true)
    → read_wanted read lacks (λ input. unless_bad (is_bad input) rest) ≡ None
    → is_some (read >>= (λ input. if is_bad input then Some bad else step input)) ≡ true
read_found None lacks is_bad rest bad step at_first behind none = absurd (false≢true (at_first none))
read_found (Some input) lacks is_bad rest bad step at_first behind none = by_test (is_bad input) none
  where
    by_test : (is : Bool) → unless_bad is rest ≡ None → is_some (if is then Some bad else step input) ≡ true
    by_test true none = refl
    by_test false none = behind none input

-- THE COMMANDS

device_step : {R : Type 0} (w : World) (made : DeviceContext → R) → tell_wanted w ≡ None
    → is_some (device_at w.memory w.slot.context >>= (λ device. Some (made device))) ≡ true
device_step w made none = both (device_at w.memory w.slot.context) _ (device_found w.memory w.slot.context none) (λ device. refl)

pub tell_there : (w : World) (number : Number) (state : EndpointState) → tell_wanted w ≡ None → is_some (told w number state) ≡ true
unfolding told
tell_there w number state none = device_step w _ none

address_found : (w : World) (array input : ℕ) (blocked : Bool) → address_wanted w array input ≡ None → is_some (address_step w array input blocked) ≡ true
unfolding address_step addressed_by
address_found w array input blocked none =
    read_found (input_at w.memory input) (input_wanted w.memory input) is_bad_address (entry_wanted array w.memory (entry_at w.memory array)) _ _
    (input_found w.memory input) (λ rest read. entry_found w.memory array (entry_at w.memory array) _ rest) none

configure_found : (w : World) (input : ℕ) → configure_wanted w input ≡ None → is_some (configure_step w input) ≡ true
unfolding configure_step configured_by
configure_found w input none =
    read_found (input_at w.memory input) (input_wanted w.memory input) is_bad_configuration (tell_wanted w) _ _
    (input_found w.memory input) (λ rest read. device_step w _ rest) none

evaluate_found : (w : World) (input : ℕ) (state : SlotState) → evaluate_wanted w input ≡ None → is_some (evaluate_step w input state) ≡ true
unfolding evaluate_step evaluated_by
evaluate_found w input state none =
    read_found (input_at w.memory input) (input_wanted w.memory input) is_bad_evaluation (tell_wanted w) _ _
    (input_found w.memory input) (λ rest read. device_step w _ rest) none

-- a command that its state lets run, or doesn't
if_let : {R : Type 0} (may : Bool) (wanted : Option Range) (step : Option R) (not_now : R) → (wanted ≡ None → is_some step ≡ true)
    → (if may then wanted else None) ≡ None → is_some (if may then step else Some not_now) ≡ true
if_let true wanted step not_now found none = found none
if_let false wanted step not_now found none = refl

step_there : (w : World) (array : ℕ) (command : SlotCommand) (state : SlotState) → command_wanted w array command state ≡ None
    → is_some (slot_step w array command state) ≡ true
unfolding disable_step context_disabled deconfigure_step reset_step
step_there w array Enable state none = refl
step_there w array Disable state none = if_let (has_context state) (tell_wanted w) _ _ (device_step w _) none
step_there w array (Address input blocked) state none =
    if_let (may_address state blocked) (address_wanted w array input) _ _ (address_found w array input blocked) none
step_there w array (Configure input true) state none = if_let (may_configure state) (tell_wanted w) _ _ (device_step w _) none
step_there w array (Configure input false) state none = if_let (may_configure state) (configure_wanted w input) _ _ (configure_found w input) none
step_there w array (Evaluate input) state none = if_let (may_evaluate state) (evaluate_wanted w input) _ _ (evaluate_found w input state) none
step_there w array Reset state none = if_let (may_configure state) (tell_wanted w) _ _ (device_step w _) none

pub command_there : (w : World) (array : ℕ) (command : SlotCommand) → slot_wanted w array command ≡ None → is_some (executed w array command) ≡ true
command_there w array command none = by_state w.slot.state none
  where
    by_state : (state : Option SlotState) → slot_wanted (record w { slot = record w.slot { state = state } }) array command ≡ None
        → is_some (executed (record w { slot = record w.slot { state = state } }) array command) ≡ true
    by_state None none = refl
    by_state (Some state) none = step_there (record w { slot = record w.slot { state = Some state } }) array command state none

if_lacks : (memory : Memory) (may : Bool) (wanted : Option Range) → LacksIt memory wanted → LacksIt memory (if may then wanted else None)
if_lacks memory true wanted lacks = lacks
if_lacks memory false wanted lacks = tt

pub tell_lacks : (w : World) → IsWithinAddresses w.memory → LacksIt w.memory (tell_wanted w)
tell_lacks w ends = device_lacks w.memory w.slot.context ends

step_lacks : (w : World) (array : ℕ) (command : SlotCommand) (state : SlotState) → IsWithinAddresses w.memory → LacksIt w.memory (command_wanted w array command state)
step_lacks w array Enable state ends = tt
step_lacks w array Disable state ends = if_lacks w.memory (has_context state) (tell_wanted w) (tell_lacks w ends)
step_lacks w array (Address input blocked) state ends =
    if_lacks w.memory (may_address state blocked) (address_wanted w array input)
    (read_lacks w.memory (input_at w.memory input) (input_wanted w.memory input) is_bad_address (entry_wanted array w.memory (entry_at w.memory array))
    (input_lacks w.memory input ends) (entry_lacks w.memory array ends))
step_lacks w array (Configure input true) state ends = if_lacks w.memory (may_configure state) (tell_wanted w) (tell_lacks w ends)
step_lacks w array (Configure input false) state ends =
    if_lacks w.memory (may_configure state) (configure_wanted w input)
    (read_lacks w.memory (input_at w.memory input) (input_wanted w.memory input) is_bad_configuration (tell_wanted w)
    (input_lacks w.memory input ends) (tell_lacks w ends))
step_lacks w array (Evaluate input) state ends =
    if_lacks w.memory (may_evaluate state) (evaluate_wanted w input)
    (read_lacks w.memory (input_at w.memory input) (input_wanted w.memory input) is_bad_evaluation (tell_wanted w)
    (input_lacks w.memory input ends) (tell_lacks w ends))
step_lacks w array Reset state ends = if_lacks w.memory (may_configure state) (tell_wanted w) (tell_lacks w ends)

pub command_lacks : (w : World) (array : ℕ) (command : SlotCommand) → IsWithinAddresses w.memory → LacksIt w.memory (slot_wanted w array command)
command_lacks w array command ends = by_state w.slot.state
  where
    by_state : (state : Option SlotState) → LacksIt w.memory (wanted_in w array command state)
    by_state None = tt
    by_state (Some state) = step_lacks w array command state ends
