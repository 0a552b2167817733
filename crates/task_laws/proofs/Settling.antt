-- A request that is asked, done and answered at once; and where none is. Cited by the proofs on each call.
use Rattle.std.proofs.Common.{◌≡◌, ℕ, ◌+◌, ◌*◌, ◌/◌, ◌%◌, ◌<◌, Bool, true, false, cond, List, [], length, take, Option, Some, None, option_map, refl, arith, ap, ◌∙◌, Result, Ok, Err}
use Rattle.std.specs.Prelude.{slice_get, slice_set, unwrap_or, ◌==◌}
use Rattle.std.specs.Option.{option_map_or}
use Rattle.std.proofs.lemmas.Bool.{eq-eqb}
use Rattle.block_unit.specs.BlockMaps.{BlockMaps}
use Rattle.uas_tasks.specs.declared.AnswerFault.{AnswerFault}
use Rattle.uas_tasks.specs.declared.Next.{Next}
use Rattle.uas_tasks.specs.declared.Next.TheVariants.{Asks as NextAsks, Waits as NextWaits}
use Rattle.uas_tasks.specs.declared.Outcome.{Outcome}
use Rattle.uas_tasks.specs.declared.Wants.{Wants}
use Rattle.uas_tasks.specs.declared.Wants.TheVariants.{Absent, Asks, Waits, Gives, Takes, Ends}
use Rattle.uas_tasks.specs.declared.slot.Out.{Out}
use Rattle.uas_tasks.specs.Machine.{Machine, answer_fault, answered, answered_out, answered_unless, next_asked, next_by, next_of, number_of, out_of_number, out_on, slot_of, wanted, with_slot, bytes_out}
use Rattle.uas_tasks.specs.Slots.{SlotState, answered_slot, asked_slot, slot_wants}
use Rattle.uas_tasks.specs.Stale.{unit_in}
use Rattle.uas_tasks.proofs.Keeping.{wanted-free}
use Rattle.task_laws.specs.Backed.{Backed, answered_with, done_at_once, done_on, done_soon, is_reading, settled, settled_by, with_machine}
use Rattle.task_laws.proofs.Free.{IsFree, wanted_free}
use Rattle.task_laws.proofs.Lists.{IsThere, slot_under-with, with_slot_under-twice}

-- THE NUMBER OF A REQUEST

tag_of_number : (turn tag : ℕ) → tag < 256 → (256 * turn + tag) % 256 ≡ tag
tag_of_number turn tag small = omega arith

turn_of_number : (turn tag : ℕ) → tag < 256 → (256 * turn + tag) / 256 ≡ turn
turn_of_number turn tag small = omega arith

-- WHERE A REQUEST IS ASKED

next_there : (machine : Machine) (tag : ℕ) (slot : SlotState) (out : Out) → IsFree machine → slot_of machine tag ≡ slot → slot_wants slot ≡ Asks →
    (asked_slot slot).out ≡ Some out →
    ◌≡◌ {A = Machine × Next} (next_of machine tag) (with_slot machine tag (asked_slot slot), NextAsks (number_of tag (asked_slot slot)) out.request)
next_there machine tag slot out free is wants asks =
    let by_slot : SlotState → Machine × Next = λ s. (with_slot machine tag (asked_slot s), next_asked tag (asked_slot s)) in
    let by_out : Option Out → Machine × Next =
    λ found. (with_slot machine tag (asked_slot slot), option_map_or (λ o. NextAsks (number_of tag (asked_slot slot)) o.request) found NextWaits) in
    ap (next_by machine tag) (wanted_free machine tag free ∙ ap slot_wants is ∙ wants) ∙ ap by_slot is ∙ ap by_out asks

-- the request of this number is the slot's
out_there : (machine : Machine) (tag : ℕ) (slot : SlotState) (out : Out) → slot_of machine tag ≡ slot → tag < 256 → slot.out ≡ Some out →
    out_of_number machine (number_of tag slot) ≡ Some out
out_there machine tag slot out is small asks =
    let number : ℕ = number_of tag slot in
    let own : (slot.turn == slot.turn) ≡ true = eq-eqb slot.turn slot.turn refl in
    ap (λ turn. out_on turn (slot_of machine (number % 256))) (turn_of_number slot.turn tag small)
    ∙ ap (λ t. out_on slot.turn (slot_of machine t)) (tag_of_number slot.turn tag small)
    ∙ ap (out_on slot.turn) is
    ∙ ap (λ b. cond b slot.out None) own
    ∙ asks

bytes_there : (machine : Machine) (tag : ℕ) (slot : SlotState) (out : Out) → slot_of machine tag ≡ slot → tag < 256 → slot.out ≡ Some out →
    bytes_out machine (number_of tag slot) ≡ Some (take out.len slot.bytes)
bytes_there machine tag slot out is small asks =
    let number : ℕ = number_of tag slot in
    let by_out : Option Out → Option (List ℕ) = option_map (λ (o : Out). take o.len (slot_of machine (number % 256)).bytes) in
    ap by_out (out_there machine tag slot out is small asks)
    ∙ ap (λ t. Some (take out.len (slot_of machine t).bytes)) (tag_of_number slot.turn tag small)
    ∙ ap (λ (s : SlotState). Some (take out.len s.bytes)) is

answered_there : (machine : Machine) (tag : ℕ) (slot : SlotState) (out : Out) (outcome : Outcome) (new : List ℕ) → slot_of machine tag ≡ slot → tag < 256 →
    slot.out ≡ Some out → answer_fault machine.set slot out outcome (length new) ≡ None →
    (answered machine (number_of tag slot) outcome new).0 ≡ with_slot machine tag (answered_slot slot out outcome new)
answered_there machine tag slot out outcome new is small asks right =
    let number : ℕ = number_of tag slot in
    ap (λ found. (answered_out machine (number % 256) outcome new found).0) (out_there machine tag slot out is small asks)
    ∙ ap (λ t. (answered_out machine t outcome new (Some out)).0) (tag_of_number slot.turn tag small)
    ∙ ap (λ s. (answered_unless machine s tag outcome new out (answer_fault machine.set s out outcome (length new))).0) is
    ∙ ap (λ fault. (answered_unless machine slot tag outcome new out fault).0) right

-- The request of a tag is done on the blocks of its logical unit: this comes of it.
pub settled_there : (backed : Backed) (tag : ℕ) (slot : SlotState) (out : Out) (maps : BlockMaps) (after : BlockMaps × Outcome × List ℕ) →
    IsFree backed.machine → IsThere tag backed.machine.slots → tag < 256 → slot_of backed.machine tag ≡ slot → slot_wants slot ≡ Asks →
    (asked_slot slot).out ≡ Some out → slice_get backed.maps (unit_in out.request) ≡ Some maps → done_at_once maps out.request (take out.len slot.bytes) ≡ after →
    answer_fault backed.machine.set (asked_slot slot) out after.1 (length after.2) ≡ None →
    ◌≡◌ {A = Backed} (settled backed tag) (record {
      machine = with_slot backed.machine tag (answered_slot (asked_slot slot) out after.1 after.2);
      maps = slice_set backed.maps (unit_in out.request) after.0;
    })
settled_there backed tag slot out maps after free here small is wants asks at done right =
    let asked : SlotState = asked_slot slot in
    let first : Backed = with_machine backed (with_slot backed.machine tag asked) in
    let number : ℕ = number_of tag asked in
    let there : slot_of first.machine tag ≡ asked = slot_under-with backed.machine.slots tag asked here in
    let by_next : Machine × Next → Backed = λ next. settled_by (with_machine backed next.0) next.1 in
    let by_bytes : Option (List ℕ) → Backed = λ found. answered_with first number out.request (done_at_once maps out.request (unwrap_or found [])) in
    let by_machine : Machine → Backed = λ machine. record { machine = machine; maps = slice_set backed.maps (unit_in out.request) after.0 } in
    let by_slots : List SlotState → Machine = λ slots. record { units = backed.machine.units; set = backed.machine.set; slots = slots } in
    ap by_next (next_there backed.machine tag slot out free is wants asks)
    ∙ ap (done_on first number out.request) at
    ∙ ap by_bytes (bytes_there first.machine tag asked out there small asks)
    ∙ ap (answered_with first number out.request) done
    ∙ ap by_machine
    (answered_there first.machine tag asked out after.1 after.2 there small asks right
    ∙ ap by_slots (with_slot_under-twice backed.machine.slots tag asked (answered_slot asked out after.1 after.2)))

-- WHERE NONE IS ASKED

pub absent_asks : Absent ≡ Asks → ⊥
absent_asks is = let no : ◌≡◌ {A = Wants} Absent Asks = is in let it : ⊥ = cc in it

pub gives_asks : (bytes : ℕ) → Gives bytes ≡ Asks → ⊥
gives_asks bytes is = let no : ◌≡◌ {A = Wants} (Gives bytes) Asks = is in let it : ⊥ = cc in it

pub takes_asks : (bytes : ℕ) → Takes bytes ≡ Asks → ⊥
takes_asks bytes is = let no : ◌≡◌ {A = Wants} (Takes bytes) Asks = is in let it : ⊥ = cc in it

pub waits_asks : Waits ≡ Asks → ⊥
waits_asks is = let no : ◌≡◌ {A = Wants} Waits Asks = is in let it : ⊥ = cc in it

pub ends_asks : Ends ≡ Asks → ⊥
ends_asks is = let no : ◌≡◌ {A = Wants} Ends Asks = is in let it : ⊥ = cc in it

-- what tags want that ask for nothing, or for a Read
abbrev pub IsQuiet : ℕ → SlotState → Type 0
IsQuiet tag slot = slot_wants slot ≡ Asks → is_reading (next_asked tag (asked_slot slot)) ≡ true

quiet_by : (backed : Backed) (tag : ℕ) (wants : Wants) → (wants ≡ Asks → is_reading (next_asked tag (asked_slot (slot_of backed.machine tag))) ≡ true) →
    cond (is_reading (next_by backed.machine tag wants).1) backed
    (settled_by (with_machine backed (next_by backed.machine tag wants).0) (next_by backed.machine tag wants).1) ≡ backed
quiet_by backed tag Absent quiet = refl
quiet_by backed tag Asks quiet =
    let slot : SlotState = asked_slot (slot_of backed.machine tag) in
    let asked : Backed = settled_by (with_machine backed (with_slot backed.machine tag slot)) (next_asked tag slot) in
    ap (λ b. cond b backed asked) (quiet refl)
quiet_by backed tag Waits quiet = refl
quiet_by backed tag (Gives bytes) quiet = refl
quiet_by backed tag (Takes bytes) quiet = refl
quiet_by backed tag Ends quiet = refl

-- nothing is done for them soon
pub done_soon-quiet : (backed : Backed) (tag : ℕ) → IsQuiet tag (slot_of backed.machine tag) → done_soon backed tag ≡ backed
done_soon-quiet backed tag quiet =
    quiet_by backed tag (wanted backed.machine tag) (λ asks. quiet (wanted-free (λ w. w ≡ Asks) waits_asks backed.machine tag asks))

-- a request that is no Read is done soon
pub done_soon-asked : (backed : Backed) (tag : ℕ) (slot : SlotState) (out : Out) → IsFree backed.machine → slot_of backed.machine tag ≡ slot →
    slot_wants slot ≡ Asks →
    (asked_slot slot).out ≡ Some out → is_reading (NextAsks 0 out.request) ≡ false → done_soon backed tag ≡ settled backed tag
done_soon-asked backed tag slot out free is wants asks other =
    ap (λ (next : Machine × Next). cond (is_reading next.1) backed (settled backed tag)) (next_there backed.machine tag slot out free is wants asks)
    ∙ ap (λ b. cond b backed (settled backed tag)) other
