-- The laws of what is saved and loaded. Cited by them.
use Rattle.std.proofs.Common.{◌≡◌, ℕ, zero, suc, ◌≤◌, Bool, true, false, cond, List, [], ◌∷◌, ◌++◌, length, map, drop, replicate, All, Option, Some, None}
use Rattle.std.proofs.Common.{refl, arith, ap, sym, ◌∙◌, subst}
use Rattle.std.specs.Prelude.{◌==◌}
use Rattle.std.specs.Option.{option_map_or}
use Rattle.std.proofs.lemmas.List.{length-map, length-replicate}
use Rattle.std.proofs.lemmas.List.Elements.{All-head, All-tail}
use Rattle.host_commands.specs.declared.CommandSet.{CommandSet}
use Rattle.host_commands.specs.declared.UnitAttention.{UnitAttention}
use Rattle.host_commands.specs.Shapes.{Shape}
use Rattle.uas_tasks.specs.declared.Job.{Job}
use Rattle.uas_tasks.specs.declared.LogicalUnit.{LogicalUnit}
use Rattle.uas_tasks.specs.declared.saved.TagState.{TagState}
use Rattle.uas_tasks.specs.declared.Task.{Task}
use Rattle.uas_tasks.specs.declared.Task.TheVariants.{Giving, Blocks, Ended, Failed, Held}
use Rattle.uas_tasks.specs.Machine.{Machine}
use Rattle.uas_tasks.specs.Saved.{is_job_of, is_tag_state, is_task, restored_slot, settled_slot}
use Rattle.uas_tasks.specs.Slots.{SlotState, fresh_slot}
use Rattle.uas_tasks.specs.Soundness.{EachFits, lengths_of}
use Rattle.uas_tasks.proofs.Kept.{restored_kept}
use Rattle.machine_bytes.proofs.Exact.{same_value, then_some}
use Rattle.machine_bytes.specs.Forms.{then_read}
use Rattle.machine_bytes.specs.Sparse.{PlaceHasIf, PlacesHave, changed_form, end_mark, end_read, has_mark, made_places, places_read}
use Rattle.device_bytes.specs.Devices.{IsMadeLike, IsNew, LoadedIsRead, LoadedIsSaved, SavedDevice, SavedIsLoaded, SavedTag, attention_loaded, attentions_of, device_form, device_loaded, fresh_tag, is_fresh_tag}
use Rattle.device_bytes.specs.Devices.{is_sound_tag, places_loaded, restored_device, restored_from, restored_slots, restored_units, saved_device, saved_tag, settled_device, tag_loaded, tag_place, unit_place}
use Rattle.device_bytes.proofs.DevicesExact.{device-exact, tag-fresh}
use Rattle.device_bytes.proofs.Loaded.{attentions_as, made, tags_as}

-- ATTENTIONS ARE NOTHING TO WHICH STATES THERE ARE

length-restored : (units : List LogicalUnit) (xs : List (Option UnitAttention)) → length (restored_units units xs) ≡ length units
length-restored [] xs = refl
length-restored (unit ∷ units) [] = refl
length-restored (unit ∷ units) (x ∷ xs) = ap suc (length-restored units xs)

job_restored : (units : List LogicalUnit) (xs : List (Option UnitAttention)) (number : ℕ) (job : Job) →
    is_job_of (restored_units units xs) number job ≡ is_job_of units number job
job_restored [] xs number job = refl
job_restored (unit ∷ units) [] number job = refl
job_restored (unit ∷ units) (x ∷ xs) zero job = refl
job_restored (unit ∷ units) (x ∷ xs) (suc number) job = job_restored units xs number job

task_restored : (units : List LogicalUnit) (xs : List (Option UnitAttention)) (chunk many : ℕ) (task : Task) →
    is_task (restored_units units xs) chunk many task ≡ is_task units chunk many task
task_restored units xs chunk many (Giving unit at) = rw (length-restored units xs) refl
task_restored units xs chunk many (Blocks unit job stage) = rw (job_restored units xs unit job) refl
task_restored units xs chunk many (Ended unit answer) = rw (length-restored units xs) refl
task_restored units xs chunk many (Failed unit failure) = rw (length-restored units xs) refl
task_restored units xs chunk many (Held unit code) = rw (length-restored units xs) refl

pub state_restored : (units : List LogicalUnit) (xs : List (Option UnitAttention)) (chunk many : ℕ) (state : TagState) →
    is_tag_state (restored_units units xs) chunk state many ≡ is_tag_state units chunk state many
state_restored units xs chunk many state =
    elim state.task as (λ task. option_map_or (is_task (restored_units units xs) chunk many) task (many == 0) ≡ option_map_or (is_task units chunk many) task (many == 0)) [
      | None ↦ refl
      | Some task ↦ task_restored units xs chunk many task
    ]

-- WHAT IS LOADED IS WHAT IS READ, of so many tags

abbrev loaded_tags : ℕ → Machine → List ℕ → Option Machine × List ℕ
loaded_tags many machine text =
    then_read (places_loaded tag_loaded many 0 machine text) (λ (all : Machine) last. end_read all last)

abbrev loaded : ℕ → Machine → List ℕ → Option Machine × List ℕ
loaded many machine text =
    then_read (places_loaded attention_loaded (length machine.units) 0 machine text) (λ (one : Machine) second.
    then_read (end_read one second) (λ (two : Machine) third. loaded_tags many two third))

abbrev read_tags : ℕ → List LogicalUnit → ℕ → List ℕ → Option (List SavedTag) × List ℕ
read_tags many units chunk text =
    then_read (places_read (changed_form (tag_place units chunk)) (replicate many fresh_tag) 0 text) (λ (xs : List SavedTag) left. end_read xs left)

abbrev read : ℕ → List LogicalUnit → ℕ → List ℕ → Option SavedDevice × List ℕ
read many units chunk text =
    then_read (then_read (places_read (changed_form unit_place) (replicate (length units) None) 0 text) (λ (xs : List (Option UnitAttention)) left. end_read xs left))
    (λ (a : List (Option UnitAttention)) left. then_read (read_tags many units chunk left) (λ (b : List SavedTag) behind. (Some (a, b), behind)))

module _ (chunk room many : ℕ) (few : many ≤ 240) (units : List LogicalUnit) (set : CommandSet) where
  abbrev fresh : List SlotState
  fresh = replicate many (fresh_slot chunk room)

  abbrev new : Machine
  new = made units set (replicate many (fresh_slot chunk room))

  by_last : (xs : List (Option UnitAttention)) (ys : List SavedTag) (left : List ℕ) (found : Bool) →
      let told : Option Machine × List ℕ =
      cond found (Some (made (restored_units units xs) set (restored_slots (replicate many (fresh_slot chunk room)) ys)), drop 2 left) (None, left) in
      told ≡ restored_from new (then_read (cond found (Some ys, drop 2 left) (None, left)) (λ (b : List SavedTag) behind. (Some (xs, b), behind)))
  by_last xs ys left true = refl
  by_last xs ys left false = refl

  by_tags : (xs : List (Option UnitAttention)) (told : Option (List SavedTag) × List ℕ) →
      then_read (then_read told (λ (ys : List SavedTag) left. (Some (made (restored_units units xs) set (restored_slots (replicate many (fresh_slot chunk room)) ys)), left)))
      (λ (all : Machine) last. end_read all last)
      ≡ restored_from new (then_read (then_read told (λ (ys : List SavedTag) left. end_read ys left)) (λ (b : List SavedTag) behind. (Some (xs, b), behind)))
  by_tags xs (None, left) = refl
  by_tags xs (Some ys, left) = by_last xs ys left (has_mark end_mark left)

  tags_read : (xs : List (Option UnitAttention)) (text : List ℕ) →
      loaded_tags many (made (restored_units units xs) set (replicate many (fresh_slot chunk room))) text
      ≡ restored_from new (then_read (read_tags many units chunk text) (λ (b : List SavedTag) behind. (Some (xs, b), behind)))
  tags_read xs text =
      ap (λ told. then_read told (λ (all : Machine) last. end_read all last))
      (tags_as (restored_units units xs) set chunk room (is_sound_tag units chunk) (λ tag. state_restored units xs chunk (length tag.1) tag.0) many [] 0 text refl
      (omega (arith, few)))
      ∙ by_tags xs (places_read (changed_form (tag_place units chunk)) (replicate many fresh_tag) 0 text)

  by_end : (xs : List (Option UnitAttention)) (left : List ℕ) (found : Bool) →
      then_read (cond found (Some (made (restored_units units xs) set (replicate many (fresh_slot chunk room))), drop 2 left) (None, left))
      (λ (two : Machine) third. loaded_tags many two third)
      ≡ restored_from new (then_read (cond found (Some xs, drop 2 left) (None, left))
      (λ (a : List (Option UnitAttention)) behind. then_read (read_tags many units chunk behind) (λ (b : List SavedTag) last. (Some (a, b), last))))
  by_end xs left true = tags_read xs (drop 2 left)
  by_end xs left false = refl

  by_attentions : (told : Option (List (Option UnitAttention)) × List ℕ) →
      then_read (then_read told (λ (xs : List (Option UnitAttention)) left. (Some (made (restored_units units xs) set (replicate many (fresh_slot chunk room))), left)))
      (λ (one : Machine) second. then_read (end_read one second) (λ (two : Machine) third. loaded_tags many two third))
      ≡ restored_from new (then_read (then_read told (λ (xs : List (Option UnitAttention)) left. end_read xs left))
      (λ (a : List (Option UnitAttention)) left. then_read (read_tags many units chunk left) (λ (b : List SavedTag) behind. (Some (a, b), behind))))
  by_attentions (None, left) = refl
  by_attentions (Some xs, left) = by_end xs left (has_mark end_mark left)

  read_as : (text : List ℕ) → All (λ (unit : LogicalUnit). unit.attention ≡ None) units → loaded many new text ≡ restored_from new (read many units chunk text)
  read_as text quiet =
      ap (λ told. then_read told (λ (one : Machine) second. then_read (end_read one second) (λ (two : Machine) third. loaded_tags many two third)))
      (attentions_as [] units set (replicate many (fresh_slot chunk room)) 0 text refl quiet)
      ∙ by_attentions (places_read (changed_form unit_place) (replicate (length units) None) 0 text)

pub loaded_read : LoadedIsRead
unfolding device_loaded made_places
loaded_read chunk room machine text new =
    let P : List SlotState → Type 0 = λ slots.
    device_loaded (made machine.units machine.set slots) text ≡ restored_from (made machine.units machine.set slots) ((device_form machine.units chunk).read text)
    in
    subst P (sym new.slots) (read_as chunk room 240 (omega arith) machine.units machine.set text new.units)

-- WHAT WAS SAVED IS LOADED

pub same_units : (units others : List LogicalUnit) → map (λ (unit : LogicalUnit). unit.shape) units ≡ map (λ (unit : LogicalUnit). unit.shape) others →
    restored_units others (attentions_of units) ≡ units
same_units [] [] is = refl
same_units [] (other ∷ others) is = let it : ⊥ = cc in absurd it
same_units (unit ∷ units) [] is = let it : ⊥ = cc in absurd it
same_units (unit ∷ units) (other ∷ others) is =
    let shape : other.shape ≡ unit.shape = cc in
    let rest : map (λ (u : LogicalUnit). u.shape) units ≡ map (λ (u : LogicalUnit). u.shape) others = cc in
    let first : record other { attention = unit.attention } ≡ unit = ap (λ (s : Shape). record unit { shape = s }) shape in
    rw (first, same_units units others rest) refl

same_slots : (chunk room many : ℕ) (slots : List SlotState) → length slots ≡ many → All (λ (slot : SlotState). slot.chunk ≡ chunk) slots →
    All (λ (slot : SlotState). length slot.bytes ≡ room) slots → restored_slots (replicate many (fresh_slot chunk room)) (map saved_tag slots) ≡ map settled_slot slots
same_slots chunk room zero [] is chunks rooms = refl
same_slots chunk room (suc many) [] is chunks rooms = absurd (omega (arith, is))
same_slots chunk room zero (slot ∷ slots) is chunks rooms = absurd (omega (arith, is))
same_slots chunk room (suc many) (slot ∷ slots) is chunks rooms =
    let one : slot.chunk ≡ chunk = All-head (λ (s : SlotState). s.chunk ≡ chunk) slot slots chunks in
    let two : length slot.bytes ≡ room = All-head (λ (s : SlotState). length s.bytes ≡ room) slot slots rooms in
    let rest = same_slots chunk room many slots (omega (arith, is)) (All-tail (λ (s : SlotState). s.chunk ≡ chunk) slot slots chunks)
    (All-tail (λ (s : SlotState). length s.bytes ≡ room) slot slots rooms) in
    let first : restored_slot (fresh_slot chunk room) (saved_tag slot).0 (saved_tag slot).1 ≡ settled_slot slot =
    rw (← one, ← two) (rw (length-replicate {A = ℕ} (length slot.bytes) 0) refl)
    in
    rw (first, rest) refl

same_device : (chunk room : ℕ) (machine new : Machine) → IsNew chunk room new → IsMadeLike chunk room machine new → length machine.slots ≡ 240 →
    restored_device new (saved_device machine) ≡ settled_device machine
same_device chunk room machine new fresh like many =
    let units = same_units machine.units new.units like.units in
    let slots = ap (λ (s : List SlotState). restored_slots s (map saved_tag machine.slots)) fresh.slots
    ∙ same_slots chunk room 240 machine.slots many like.chunks like.rooms in
    ap (λ (u : List LogicalUnit). made u new.set (restored_slots new.slots (map saved_tag machine.slots))) units
    ∙ ap (λ (c : CommandSet). made machine.units c (restored_slots new.slots (map saved_tag machine.slots))) (sym like.set)
    ∙ ap (λ (s : List SlotState). made machine.units machine.set s) slots

pub saved_loaded : SavedIsLoaded
saved_loaded chunk room machine new rest fresh like few has =
    let back = (device-exact new.units chunk few).read_back (saved_device machine) rest has in
    let many : length machine.slots ≡ 240 = sym (length-map machine.slots saved_tag) ∙ has.1.0 in
    loaded_read chunk room new ((device_form new.units chunk).bytes (saved_device machine) ++ rest) fresh ∙ ap (restored_from new) back
    ∙ ap (λ (m : Machine). (Some m, rest)) (same_device chunk room machine new fresh like many)

-- WHAT WAS LOADED IS SAVED

attentions_again : (units : List LogicalUnit) (xs : List (Option UnitAttention)) → length xs ≡ length units → attentions_of (restored_units units xs) ≡ xs
attentions_again [] [] is = refl
attentions_again [] (x ∷ xs) is = absurd (omega (arith, is))
attentions_again (unit ∷ units) [] is = absurd (omega (arith, is))
attentions_again (unit ∷ units) (x ∷ xs) is = ap (λ rest. x ∷ rest) (attentions_again units xs (omega (arith, is)))

tag_again : (units : List LogicalUnit) (chunk room : ℕ) (tag : SavedTag) (fresh : Bool) → EachFits chunk room (lengths_of units) → is_fresh_tag tag ≡ fresh →
    PlaceHasIf fresh (tag_place units chunk).form tag → saved_tag (restored_slot (fresh_slot chunk room) tag.0 tag.1) ≡ tag
tag_again units chunk room tag true fits is has =
    let it = tag-fresh tag is in
    ap (λ (t : SavedTag). saved_tag (restored_slot (fresh_slot chunk room) t.0 t.1)) it ∙ sym it
tag_again units chunk room tag false fits is has =
    let room_is : EachFits chunk (length (replicate room 0)) (lengths_of units) = rw (length-replicate {A = ℕ} room 0) fits in
    let kept = restored_kept units (fresh_slot chunk room) tag.0 tag.1 room_is has.1 in
    ap (λ (bytes : List ℕ). let it : SavedTag = (tag.0, bytes) in it) kept.1

tags_again : (units : List LogicalUnit) (chunk room many : ℕ) (tags : List SavedTag) → EachFits chunk room (lengths_of units) → length tags ≡ many →
    PlacesHave (tag_place units chunk) tags → map saved_tag (restored_slots (replicate many (fresh_slot chunk room)) tags) ≡ tags
tags_again units chunk room zero [] fits is have = refl
tags_again units chunk room (suc many) [] fits is have = absurd (omega (arith, is))
tags_again units chunk room zero (tag ∷ tags) fits is have = absurd (omega (arith, is))
tags_again units chunk room (suc many) (tag ∷ tags) fits is have =
    let first = tag_again units chunk room tag (is_fresh_tag tag) fits refl have.0 in
    let rest = tags_again units chunk room many tags fits (omega (arith, is)) have.1 in
    rw (first, rest) refl

device_again : (chunk room : ℕ) (machine : Machine) (saved : SavedDevice) → IsNew chunk room machine → EachFits chunk room (lengths_of machine.units) →
    (device_form machine.units chunk).Has saved → saved_device (restored_device machine saved) ≡ saved
device_again chunk room machine saved new fits has =
    let one = attentions_again machine.units saved.0 has.0.0 in
    let two = ap (λ (slots : List SlotState). map saved_tag (restored_slots slots saved.1)) new.slots
    ∙ tags_again machine.units chunk room 240 saved.1 fits has.1.0 has.1.1 in
    ap (λ (a : List (Option UnitAttention)). let it : SavedDevice = (a, map saved_tag (restored_slots machine.slots saved.1)) in it) one
    ∙ ap (λ (b : List SavedTag). let it : SavedDevice = (saved.0, b) in it) two

pub loaded_saved : LoadedIsSaved
loaded_saved chunk room machine after text left new fits few are is =
    let told = sym (loaded_read chunk room machine text new) ∙ is in
    let one = then_some ((device_form machine.units chunk).read text) _ after left told in
    let same = same_value _ _ _ _ one.3 in
    let so = (device-exact machine.units chunk few).written_so text one.0 one.1 are one.2 in
    let again = sym (device_again chunk room machine one.0 new fits so.1) ∙ ap saved_device same.0 in
    so.0 ∙ ap (λ (saved : SavedDevice). (device_form machine.units chunk).bytes saved ++ one.1) again
    ∙ ap (λ (rest : List ℕ). (device_form machine.units chunk).bytes (saved_device after) ++ rest) same.1
