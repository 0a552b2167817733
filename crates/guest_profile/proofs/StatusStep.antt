-- A step of the status pipe at a TRB that is a whole TD, where a task's answer is due.
use Rattle.std.proofs.Common.{◌≡◌, ℕ, ◌+◌, ◌-◌, ◌<◌, ◌≤◌, ◌==◌, ◌%◌, ◌^◌, min, nat_lt, if◌then◌else◌, Bool, true, false, [], length as list_length, take, drop, Option, Some, None, refl, ap, arith, inl, inr}
use Rattle.std.proofs.lemmas.Bool.{cases_eq, eq-eqb, le-ltb, lt-ltb, ne_eqb}
use Rattle.std.proofs.lemmas.List.{drop_all, take_all}
use Rattle.guest_memory.specs.Bytes.{Memory, is_there, written}
use Rattle.guest_memory.specs.declared.rings.cursor.Cursor.{Cursor}
use Rattle.guest_memory.specs.declared.rings.context.Home.{Home}
use Rattle.guest_memory.specs.declared.rings.context.Found.TheVariants.{Item, NotYet}
use Rattle.guest_memory.specs.declared.rings.trb.Flags.{Flags}
use Rattle.guest_memory.specs.declared.rings.trb.PipeTrb.TheVariants.{Link, Normal}
use Rattle.guest_memory.specs.rings.Ends.{followed, looked}
use Rattle.guest_memory.specs.rings.Events.{EventEnd}
use Rattle.guest_pipes.specs.declared.acted.Acted.{Acted}
use Rattle.guest_pipes.specs.declared.acted.Acted.TheVariants.{Emptied, Worked}
use Rattle.guest_pipes.specs.declared.progress.Ending.TheVariants.{Runs}
use Rattle.guest_pipes.specs.declared.progress.Progress.{Progress}
use Rattle.guest_pipes.specs.Gate.{gate}
use Rattle.guest_pipes.specs.Step.{World, poured, used_up}
use Rattle.guest_tags.specs.declared.tag.Tag.{Tag}
use Rattle.guest_tags.specs.Devices.{Kind}
use Rattle.guest_tags.specs.Tags.{TagWorld}
use Rattle.guest_tags.specs.Units.{whole}
use Rattle.guest_tags.specs.Status.{answer_taken, sent_to, stepped_status, unit_full, unit_ran, unit_short, unit_some, unit_went}
use Rattle.guest_profile.specs.Rings.{link_flags}
use Rattle.guest_profile.specs.Ready.{rung_consumer}
use Rattle.guest_profile.proofs.TdStep.{filled-whole, linked-quiet, linked_world, shortened-whole, told_world}

-- a tag with nothing on its way
abbrev pub quiet_tag : Tag → Tag
quiet_tag tag = record tag { unit = whole []; overlaps = 0 }

-- all of a unit was moved
abbrev moved_all : ℕ → Progress
moved_all count = record { moved = count; ending = Runs; edtla = count % 2 ^ 24; begun = true; fed = true }

-- the same flags without CH
abbrev last_flags : Flags → Flags
last_flags flags = record { chain = false; ioc = flags.ioc; isp = flags.isp; bei = flags.bei; idt = flags.idt }

module _ {D : Type 0} (kind : Kind D) where
  abbrev pub ready_tag : Memory → EventEnd → ℕ → Tag → D → TagWorld D
  ready_tag memory events endpoint tag device = record {
    ring = record { memory = memory; events = events; consumer = rung_consumer endpoint };
    tag = quiet_tag tag;
    device = device;
  }

  abbrev pub plain_tag : Memory → EventEnd → ℕ → Tag → D → TagWorld D
  plain_tag memory events endpoint tag device = record {
    ring = record { memory = memory; events = events; consumer = rung_consumer endpoint };
    tag = tag;
    device = device;
  }

  -- the task's answer went out
  abbrev pub sent_world : TagWorld D → ℕ → World → TagWorld D
  sent_world w number ring = record w { ring = ring; device = kind.sent w.device number }

  abbrev done_with : TagWorld D → Option (TagWorld D × Acted)
  done_with w = Some (w, Worked)

  pub status-short : (memory : Memory) (events : EventEnd) (endpoint : ℕ) (tag : Tag) (device : D) (number : ℕ) (home : Home) (cursor : Cursor) (pointer length : ℕ) (flags : Flags)
      → gate memory events (rung_consumer endpoint) ≡ Some None
      → looked memory home ≡ Some (record { home = home; cursor = cursor; found = Item (Normal pointer length flags) })
      → flags.chain ≡ false → flags.ioc ≡ true → 0 < list_length (kind.status device number) → list_length (kind.status device number) < length
      → is_there memory pointer (list_length (kind.status device number)) ≡ true
      → stepped_status kind (ready_tag memory events endpoint tag device) number true home
      ≡ Some (
        sent_world (ready_tag memory events endpoint tag device) number
            (told_world (written memory pointer (kind.status device number)) events endpoint home cursor (length - list_length (kind.status device number)) 13 flags.bei),
        Worked,
      )
  unfolding answer_taken sent_to unit_short unit_some unit_went unit_ran poured
  status-short memory events endpoint tag device number home cursor pointer length flags opens looks last told some short there =
      let left : length - 0 ≡ length = omega arith in
      let count : min (list_length (kind.status device number)) (length - 0) ≡ list_length (kind.status device number) = omega (arith, short) in
      let at : pointer + 0 ≡ pointer = omega arith in
      let all : take (list_length (kind.status device number)) (kind.status device number) ≡ kind.status device number = take_all _ _ (omega arith) in
      let zero : 0 + list_length (kind.status device number) ≡ list_length (kind.status device number) = omega arith in
      let full : (list_length (kind.status device number) == 0) ≡ false = ne_eqb _ 0 (λ e. omega (arith, some, e)) in
      let test : nat_lt (list_length (kind.status device number)) length ≡ true = lt-ltb _ _ short in
      rw (opens, looks, full, count, full, at, there, all, zero, test)
      (ap (λ (ring : World). done_with (sent_world (ready_tag memory events endpoint tag device) number ring))
      (shortened-whole (written memory pointer (kind.status device number)) events endpoint (length - list_length (kind.status device number))
      (moved_all (list_length (kind.status device number))) (record { home = home; cursor = cursor; found = Item (Normal pointer length flags) }) flags last told))

  pub status-full : (memory : Memory) (events : EventEnd) (endpoint : ℕ) (tag : Tag) (device : D) (number : ℕ) (home : Home) (cursor : Cursor) (pointer length : ℕ) (flags : Flags)
      → gate memory events (rung_consumer endpoint) ≡ Some None
      → looked memory home ≡ Some (record { home = home; cursor = cursor; found = Item (Normal pointer length flags) })
      → flags.chain ≡ false → flags.ioc ≡ true → 0 < list_length (kind.status device number) → list_length (kind.status device number) ≡ length
      → is_there memory pointer (list_length (kind.status device number)) ≡ true
      → stepped_status kind (ready_tag memory events endpoint tag device) number true home
      ≡ Some (
        sent_world (ready_tag memory events endpoint tag device) number
            (told_world (written memory pointer (kind.status device number)) events endpoint home cursor 0 1 flags.bei),
        Worked,
      )
  unfolding answer_taken sent_to unit_full unit_some unit_went unit_ran poured
  status-full memory events endpoint tag device number home cursor pointer length flags opens looks last told some whole_length there =
      let left : length - 0 ≡ length = omega arith in
      let count : min (list_length (kind.status device number)) (length - 0) ≡ list_length (kind.status device number) = omega (arith, whole_length) in
      let at : pointer + 0 ≡ pointer = omega arith in
      let all : take (list_length (kind.status device number)) (kind.status device number) ≡ kind.status device number = take_all _ _ (omega arith) in
      let zero : 0 + list_length (kind.status device number) ≡ list_length (kind.status device number) = omega arith in
      let full : (list_length (kind.status device number) == 0) ≡ false = ne_eqb _ 0 (λ e. omega (arith, some, e)) in
      let test : nat_lt (list_length (kind.status device number)) length ≡ false = le-ltb _ _ (omega (arith, whole_length)) in
      let out : drop (list_length (kind.status device number)) (kind.status device number) ≡ [] = drop_all (list_length (kind.status device number)) (kind.status device number) (omega arith) in
      rw (opens, looks, full, count, full, at, there, all, zero, test, last, out)
      (ap (λ (ring : World). done_with (sent_world (ready_tag memory events endpoint tag device) number ring))
      (filled-whole (written memory pointer (kind.status device number)) events endpoint
      (moved_all (list_length (kind.status device number))) (record { home = home; cursor = cursor; found = Item (Normal pointer length (last_flags flags)) }) (last_flags flags) refl told))

  -- a unit in a TRB that has room for it
  pub status-whole : (memory : Memory) (events : EventEnd) (endpoint : ℕ) (tag : Tag) (device : D) (number : ℕ) (home : Home) (cursor : Cursor) (pointer length : ℕ) (flags : Flags)
      → gate memory events (rung_consumer endpoint) ≡ Some None
      → looked memory home ≡ Some (record { home = home; cursor = cursor; found = Item (Normal pointer length flags) })
      → flags.chain ≡ false → flags.ioc ≡ true → 0 < list_length (kind.status device number) → list_length (kind.status device number) ≤ length
      → is_there memory pointer (list_length (kind.status device number)) ≡ true
      → stepped_status kind (ready_tag memory events endpoint tag device) number true home
      ≡ Some (
        sent_world (ready_tag memory events endpoint tag device) number
            (told_world (written memory pointer (kind.status device number)) events endpoint home cursor (length - list_length (kind.status device number))
            (if list_length (kind.status device number) == length then 1 else 13) flags.bei),
        Worked,
      )
  status-whole memory events endpoint tag device number home cursor pointer length flags opens looks last told some fits there =
      elim (cases_eq (list_length (kind.status device number)) length) [
        | inl same ↦
            let test : (list_length (kind.status device number) == length) ≡ true = eq-eqb _ _ same in
            let none : length - list_length (kind.status device number) ≡ 0 = omega (arith, same) in
            rw (test, none) (status-full memory events endpoint tag device number home cursor pointer length flags opens looks last told some same there)
        | inr differs ↦
            let test : (list_length (kind.status device number) == length) ≡ false = ne_eqb _ _ differs in
            rw test (status-short memory events endpoint tag device number home cursor pointer length flags opens looks last told some (omega (arith, fits, differs)) there)
      ]

  -- at a Link, and where no TRB is there
  pub status-link : (memory : Memory) (events : EventEnd) (endpoint : ℕ) (tag : Tag) (device : D) (number : ℕ) (due : Bool) (home : Home) (cursor : Cursor) (pointer : ℕ) (toggle chain : Bool)
      → gate memory events (rung_consumer endpoint) ≡ Some None
      → looked memory home ≡ Some (record { home = home; cursor = cursor; found = Item (Link pointer toggle (link_flags chain false)) })
      → stepped_status kind (plain_tag memory events endpoint tag device) number due home
      ≡ Some (record (plain_tag memory events endpoint tag device) { ring = linked_world memory events endpoint home (followed cursor pointer toggle) }, Worked)
  status-link memory events endpoint tag device number due home cursor pointer toggle chain opens looks =
      rw (opens, looks)
      (ap (λ (ring : World). Some (record (plain_tag memory events endpoint tag device) { ring = ring }, Worked))
      (linked-quiet memory events endpoint (record { home = home; cursor = cursor; found = Item (Link pointer toggle (link_flags chain false)) }) pointer toggle chain))

  pub status-none : (memory : Memory) (events : EventEnd) (endpoint : ℕ) (tag : Tag) (device : D) (number : ℕ) (due : Bool) (home : Home) (cursor : Cursor)
      → gate memory events (rung_consumer endpoint) ≡ Some None
      → looked memory home ≡ Some (record { home = home; cursor = cursor; found = NotYet })
      → stepped_status kind (plain_tag memory events endpoint tag device) number due home
      ≡ Some (record (plain_tag memory events endpoint tag device) { ring = used_up (plain_tag memory events endpoint tag device).ring }, Emptied)
  status-none memory events endpoint tag device number due home cursor opens looks = rw (opens, looks) refl
