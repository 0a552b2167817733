-- A look at tags that aren't active, and then at the next that is.
use Rattle.std.proofs.Common.{◌≡◌, ℕ, zero, suc, ◌+◌, ◌-◌, ◌<◌, ◌≤◌, Bool, true, false, cond, Ok, Err, refl, ap, sym, subst, ◌∙◌, arith}
use Rattle.guest_memory.specs.Bytes.{Memory}
use Rattle.guest_memory.specs.rings.Events.{EventEnd}
use Rattle.marks.specs.Marks.{is_marked}
use Rattle.xhci_machine.specs.declared.Machine.{Machine}
use Rattle.xhci_machine.specs.declared.wanting.End.{End}
use Rattle.xhci_machine.specs.Wanted.{Look, active_looked, busy_looked, tags_looked, then_look}

pub no_tags : (memory : Memory) (m : Machine) (events : EventEnd) → tags_looked memory m events 0 ≡ Ok tt
unfolding tags_looked
no_tags memory m events = refl

-- behind tags where the look goes on, one at a time
by_one : (memory : Memory) (m : Machine) (events : EventEnd) (tag : ℕ) → tags_looked memory m events tag ≡ Ok tt
    → tags_looked memory m events (suc tag) ≡ active_looked memory m events tag
unfolding tags_looked
by_one memory m events tag before = ap (λ (look : Look). then_look look (active_looked memory m events tag)) before

idle : (memory : Memory) (m : Machine) (events : EventEnd) (tag : ℕ) → is_marked m.device.active tag ≡ false
    → active_looked memory m events tag ≡ Ok tt
idle memory m events tag rests = ap (λ (b : Bool). cond b (busy_looked memory m events tag) (Ok tt)) rests

active : (memory : Memory) (m : Machine) (events : EventEnd) (tag : ℕ) → is_marked m.device.active tag ≡ true
    → active_looked memory m events tag ≡ busy_looked memory m events tag
active memory m events tag marked = ap (λ (b : Bool). cond b (busy_looked memory m events tag) (Ok tt)) marked

past : (memory : Memory) (m : Machine) (events : EventEnd) (d from to : ℕ) → from + d ≡ to → tags_looked memory m events from ≡ Ok tt
    → ((tag : ℕ) → from ≤ tag → tag < to → is_marked m.device.active tag ≡ false) → tags_looked memory m events to ≡ Ok tt
past memory m events zero from to e before rest =
    let here : from ≡ to = omega (arith, e) in
    subst (λ (n : ℕ). tags_looked memory m events n ≡ Ok tt) here before
past memory m events (suc d) from to e before rest =
    let here : suc (from + d) ≡ to = omega (arith, e) in
    let low : from ≤ from + d = omega arith in
    let high : from + d < to = omega (arith, e) in
    let below : tags_looked memory m events (from + d) ≡ Ok tt =
    past memory m events d from (from + d) refl before (λ tag above less. rest tag above (omega (arith, less, high))) in
    subst (λ (n : ℕ). tags_looked memory m events n ≡ Ok tt) here
    (by_one memory m events (from + d) below ∙ idle memory m events (from + d) (rest (from + d) low high))

-- the look goes on behind tags that aren't active
pub goes_past : (memory : Memory) (m : Machine) (events : EventEnd) (from to : ℕ) → from ≤ to → tags_looked memory m events from ≡ Ok tt
    → ((tag : ℕ) → from ≤ tag → tag < to → is_marked m.device.active tag ≡ false) → tags_looked memory m events to ≡ Ok tt
goes_past memory m events from to reach before rest =
    let e : from + (to - from) ≡ to = omega (arith, reach) in
    past memory m events (to - from) from to e before rest

-- and then at the one that is
at_next : (memory : Memory) (m : Machine) (events : EventEnd) (from tag : ℕ) (look : Look) → from ≤ tag → tags_looked memory m events from ≡ Ok tt
    → ((other : ℕ) → from ≤ other → other < tag → is_marked m.device.active other ≡ false) → is_marked m.device.active tag ≡ true
    → look ≡ busy_looked memory m events tag → tags_looked memory m events (tag + 1) ≡ look
at_next memory m events from tag look reach before rest marked is =
    let e : suc tag ≡ tag + 1 = omega arith in
    subst (λ (n : ℕ). tags_looked memory m events n ≡ look) e
    (by_one memory m events tag (goes_past memory m events from tag reach before rest) ∙ active memory m events tag marked ∙ sym is)

pub goes_on : (memory : Memory) (m : Machine) (events : EventEnd) (from tag : ℕ) → from ≤ tag → tags_looked memory m events from ≡ Ok tt
    → ((other : ℕ) → from ≤ other → other < tag → is_marked m.device.active other ≡ false) → is_marked m.device.active tag ≡ true
    → Ok tt ≡ busy_looked memory m events tag → tags_looked memory m events (tag + 1) ≡ Ok tt
goes_on memory m events from tag reach before rest marked is = at_next memory m events from tag (Ok tt) reach before rest marked is

-- where the look has ended
over : (memory : Memory) (m : Machine) (events : EventEnd) (d from to : ℕ) (end : End) → from + d ≡ to → tags_looked memory m events from ≡ Err end
    → tags_looked memory m events to ≡ Err end
unfolding tags_looked
over memory m events zero from to end e before =
    let here : from ≡ to = omega (arith, e) in
    subst (λ (n : ℕ). tags_looked memory m events n ≡ Err end) here before
over memory m events (suc d) from to end e before =
    let here : suc (from + d) ≡ to = omega (arith, e) in
    subst (λ (n : ℕ). tags_looked memory m events n ≡ Err end) here
    (ap (λ (look : Look). then_look look (active_looked memory m events (from + d))) (over memory m events d from (from + d) end refl before))

pub looks_up : (memory : Memory) (m : Machine) (events : EventEnd) (from tag : ℕ) (end : End) → from ≤ tag → tags_looked memory m events from ≡ Ok tt
    → ((other : ℕ) → from ≤ other → other < tag → is_marked m.device.active other ≡ false) → is_marked m.device.active tag ≡ true
    → Err end ≡ busy_looked memory m events tag → tag + 1 ≤ 241 → tags_looked memory m events 241 ≡ Err end
looks_up memory m events from tag end reach before rest marked is below =
    let e : (tag + 1) + (241 - (tag + 1)) ≡ 241 = omega (arith, below) in
    over memory m events (241 - (tag + 1)) (tag + 1) 241 end e (at_next memory m events from tag (Err end) reach before rest marked is)
