-- How many steps turns take of what is left, and that each comes while memory is there.
use Rattle.std.proofs.Common.{◌≡◌, ℕ, zero, suc, ◌+◌, ◌-◌, ◌*◌, ◌≤◌, ◌==◌, Bool, true, false, cond, Option, Some, None, refl, subst, arith}
use Rattle.std.proofs.lemmas.Bool.{eqb-true}
use Rattle.guest_pipes.specs.declared.acted.Acted.{Acted}
use Rattle.guest_pipes.specs.declared.acted.Acted.TheVariants.{Off, Idle, Full, Emptied, Waits, Worked}
use Rattle.guest_transfers.specs.declared.control.StreamPipe.{StreamPipe}
use Rattle.guest_transfers.specs.declared.control.StreamPipe.TheVariants.{Status, DataOut, DataIn}
use Rattle.marks.specs.Marks.{is_marked}
use Rattle.xhci_machine.specs.Rounds.{Turning, command_pipe_stepped, control_stepped, data_of, front_turned, stray_stepped, noted_in, pipes_turned, port_in, settled_in, status_of, then_commands, then_control, then_stray, then_pipes, then_port, turned}
use Rattle.xhci_machine.specs.Steps.{commands_stepped}
use Rattle.xhci_machine.specs.Turns.{World, left_after, port_turned, tells_port}
use Rattle.xhci_machine.specs.Worked.{busy_turned, dropped_at, is_busy, tag_by, tag_turned, tags_turned, then_status, then_tag, turned_if}

-- so many steps at most were taken
abbrev pub IsNear : ℕ → ℕ → ℕ → Type 0
IsNear most before after = (after ≤ before) × (before ≤ after + most)

pub near_same : (most n : ℕ) → IsNear most n n
near_same most n = (omega arith, omega arith)

pub near_more : (few most before after : ℕ) → few ≤ most → IsNear few before after → IsNear most before after
near_more few most before after more near = (near.0, omega (arith, more, near.1))

pub near_then : (first second before between after : ℕ) → IsNear first before between → IsNear second between after
    → IsNear (first + second) before after
near_then first second before between after one two = (omega (arith, one.0, two.0), omega (arith, one.1, two.1))

after_near : (acted : Acted) (left : ℕ) → IsNear 1 left (left_after acted left)
after_near Off left = near_same 1 left
after_near Idle left = near_same 1 left
after_near Full left = near_same 1 left
after_near Emptied left = (omega arith, omega arith)
after_near Waits left = near_same 1 left
after_near Worked left = (omega arith, omega arith)

noted_near : (left : ℕ) (step : World × Option Acted) → IsNear 1 left (noted_in left step).0.1
noted_near left (w, None) = near_same 1 left
noted_near left (w, Some acted) = after_near acted left

-- where nothing is left no step is taken
if_near : (most left : ℕ) (w : World) (t : Turning) (b : Bool) → (left == 0) ≡ b → IsNear most left t.0.1
    → IsNear most left (cond b ((w, 0), true) t).0.1
if_near most left w t true is near =
    let none : left ≡ 0 = eqb-true left 0 is in
    (omega arith, omega (arith, none))
if_near most left w t false is near = near

pub turned_near : (left : ℕ) (w : World) (step : World × Option Acted) → IsNear 1 left (turned left w step).0.1
turned_near left w step = if_near 1 left w (noted_in left step) (left == 0) refl (noted_near left step)

less_near : (b : Bool) (left : ℕ) → IsNear 1 left (cond b (left - 1) left)
less_near true left = (omega arith, omega arith)
less_near false left = near_same 1 left

port_near : (left : ℕ) (w : World) → IsNear 1 left (port_in left w).0.1
port_near left w =
    if_near 1 left w (((port_turned w).0, cond (tells_port w) (left - 1) left), (port_turned w).1) (left == 0) refl (less_near (tells_port w) left)

port_then : (most left : ℕ) (t : Turning) → IsNear most left t.0.1 → IsNear (most + 1) left (then_port t).0.1
port_then most left (at, false) near = near_more most (most + 1) left at.1 (omega arith) near
port_then most left (at, true) near = near_then most 1 left at.1 _ near (port_near at.1 at.0)

commands_then : (most left : ℕ) (t : Turning) → IsNear most left t.0.1 → IsNear (most + 1) left (then_commands t).0.1
commands_then most left (at, false) near = near_more most (most + 1) left at.1 (omega arith) near
commands_then most left (at, true) near = near_then most 1 left at.1 _ near (turned_near at.1 at.0 (commands_stepped at.0))

control_then : (most left : ℕ) (t : Turning) → IsNear most left t.0.1 → IsNear (most + 1) left (then_control t).0.1
control_then most left (at, false) near = near_more most (most + 1) left at.1 (omega arith) near
control_then most left (at, true) near = near_then most 1 left at.1 _ near (turned_near at.1 at.0 (control_stepped at.0))

stray_then : (name : StreamPipe) (most left : ℕ) (t : Turning) → IsNear most left t.0.1 → IsNear (most + 1) left (then_stray name t).0.1
stray_then name most left (at, false) near = near_more most (most + 1) left at.1 (omega arith) near
stray_then name most left (at, true) near = near_then most 1 left at.1 _ near (turned_near at.1 at.0 (stray_stepped at.0 name))

pipes_near : (left : ℕ) (w : World) → IsNear 4 left (pipes_turned left w).0.1
unfolding pipes_turned
pipes_near left w =
    let first : Turning = turned left w (command_pipe_stepped w) in
    stray_then DataIn 3 left (then_stray DataOut (then_stray Status first))
    (stray_then DataOut 2 left (then_stray Status first) (stray_then Status 1 left first (turned_near left w (command_pipe_stepped w))))

pipes_then : (most left : ℕ) (t : Turning) → IsNear most left t.0.1 → IsNear (most + 4) left (then_pipes t).0.1
pipes_then most left (at, false) near = near_more most (most + 4) left at.1 (omega arith) near
pipes_then most left (at, true) near = near_then most 4 left at.1 _ near (pipes_near at.1 at.0)

pub front_near : (left : ℕ) (w : World) → IsNear 7 left (front_turned left w).0.1
unfolding front_turned
front_near left w =
    let first : Turning = settled_in left w in
    pipes_then 3 left (then_control (then_commands (then_port first)))
    (control_then 2 left (then_commands (then_port first)) (commands_then 1 left (then_port first) (port_then 0 left first (near_same 0 left))))

status_near : (tag : ℕ) (t : Turning) → IsNear 1 t.0.1 (then_status tag t).0.1
status_near tag (at, false) = near_same 1 at.1
status_near tag (at, true) = turned_near at.1 at.0 (status_of at.0 tag)

busy_near : (left tag : ℕ) (w : World) → IsNear 2 left (busy_turned left tag w).0.1
unfolding busy_turned
busy_near left tag w = near_then 1 1 left (turned left w (data_of w tag)).0.1 _ (turned_near left w (data_of w tag))
    (status_near tag (turned left w (data_of w tag)))

by_near : (b : Bool) (left tag : ℕ) (w : World) → IsNear 2 left (tag_by b left tag w).0.1
by_near true left tag w = busy_near left tag w
by_near false left tag w = near_same 2 left

tag_near : (left tag : ℕ) (w : World) → IsNear 2 left (tag_turned left tag w).0.1
unfolding tag_turned
tag_near left tag w =
    let busy = is_busy (dropped_at w tag).machine tag in
    if_near 2 left w (tag_by busy left tag (dropped_at w tag)) (left == 0) refl (by_near busy left tag (dropped_at w tag))

if_turned_near : (b : Bool) (tag : ℕ) (at : World × ℕ) → IsNear 2 at.1 (turned_if b tag at).0.1
if_turned_near true tag at = tag_near at.1 tag at.0
if_turned_near false tag at = near_same 2 at.1

tag_then : (tag : ℕ) (t : Turning) → IsNear 2 t.0.1 (then_tag tag t).0.1
tag_then tag (at, false) = near_same 2 at.1
tag_then tag (at, true) = if_turned_near (is_marked at.0.machine.device.active tag) tag at

pub tags_near : (before : Turning) (d from to : ℕ) → from + d ≡ to
    → IsNear (2 * d) (tags_turned from before).0.1 (tags_turned to before).0.1
unfolding tags_turned
tags_near before zero from to e =
    let here : from ≡ to = omega (arith, e) in
    subst (λ (n : ℕ). IsNear (2 * 0) (tags_turned from before).0.1 (tags_turned n before).0.1) here (near_same (2 * 0) _)
tags_near before (suc d) from to e =
    let here : suc (from + d) ≡ to = omega (arith, e) in
    let most : 2 * d + 2 ≤ 2 * suc d = omega arith in
    subst (λ (n : ℕ). IsNear (2 * suc d) (tags_turned from before).0.1 (tags_turned n before).0.1) here
    (near_more (2 * d + 2) (2 * suc d) _ _ most
    (near_then (2 * d) 2 _ (tags_turned (from + d) before).0.1 _ (tags_near before d from (from + d) refl) (tag_then (from + d) (tags_turned (from + d) before))))

then_there : (tag : ℕ) (t : Turning) → (then_tag tag t).1 ≡ true → t.1 ≡ true
then_there tag (at, false) there = there
then_there tag (at, true) there = refl

pub tags_there : (before : Turning) (d from to : ℕ) → from + d ≡ to → (tags_turned to before).1 ≡ true → (tags_turned from before).1 ≡ true
unfolding tags_turned
tags_there before zero from to e there =
    let here : to ≡ from = omega (arith, e) in
    subst (λ (n : ℕ). (tags_turned n before).1 ≡ true) here there
tags_there before (suc d) from to e there =
    let here : to ≡ suc (from + d) = omega (arith, e) in
    tags_there before d from (from + d) refl
    (then_there (from + d) (tags_turned (from + d) before) (subst (λ (n : ℕ). (tags_turned n before).1 ≡ true) here there))
