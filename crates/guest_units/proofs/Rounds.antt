-- The calls of rounds, and of `work`.
use Rattle.std.proofs.Common.{◌≡◌, ℕ, zero, suc, ◌==◌, Bool, true, false, cond, List, [], ◌++◌, refl, ap, ◌∙◌, inl, inr, arith}
use Rattle.std.proofs.lemmas.Bool.{ne_eqb}
use Rattle.std.specs.Prelude.{nat_lt, ◌&&◌}
use Rattle.guest_tasks.specs.declared.GuestTasks.{GuestTasks}
use Rattle.guest_tasks.specs.Active.{is_absent, rested}
use Rattle.marks.specs.Marks.{is_marked, with_mark}
use Rattle.uas_tasks.specs.Machine.{Machine, wanted}
use Rattle.units_apart.specs.Calls.{Call, called}
use Rattle.units_apart.specs.Runs.{after}
use Rattle.xhci_machine.specs.declared.work.Worked.{Worked}
use Rattle.xhci_machine.specs.Rounds.{Turning, command_pipe_stepped, control_stepped, data_of, front_turned, settled_in, status_of, then_commands, then_control, then_pipes, then_port, then_stray, turned}
use Rattle.xhci_machine.specs.Turns.{World}
use Rattle.xhci_machine.specs.Worked.{IsOver, RoundsTurned, RoundsWorked, busy_turned, dropped_at, is_busy, round_turned, tag_by, tag_turned, tags_turned, then_status, then_tag, turned_if}
use Rattle.xhci_machine.proofs.Active.{dropped_kept, settled_kept}
use Rattle.xhci_machine.proofs.Device.{either}
use Rattle.guest_transfers.specs.declared.control.StreamPipe.TheVariants.{Status, DataOut, DataIn}
use Rattle.guest_units.specs.Rounds.{ActiveMakes, Both, BusyMakes, FrontMakes, LastMakes, RoundMakes, RoundsMake, StraysMake, TagMakes, TagsMake, WorkMakes, then_unit}
use Rattle.guest_units.specs.Turns.{IsAnswerOn, IsDataOn, IsEnd, IsUnitIn, StrayMakes, TurnMakes, tasks_of}
use Rattle.guest_units.proofs.Turns.{Has, commands_same, control_made, control_then, data_made, joined, pipes_then, port_same, status_made, status_then, strays_made, turn_made, unit_made, unit_then}

-- calls of these turns, which make the device of the end from that of the start
abbrev pub Becomes : (List Call → Type 0) → Machine → Machine → Type 0
Becomes Of start end = (calls : List Call) × Of calls × (end ≡ after called start calls)

both_made : (First Then : List Call → Type 0) (start middle end : Machine) → Becomes First start middle → Becomes Then middle end
    → Becomes (Both First Then) start end
both_made First Then start middle end one two =
    (one.0 ++ two.0, (one.0, two.0, one.1, two.1, refl), joined start middle end one.0 two.0 one.2 two.2)

-- THE FRONT
strays_all : (t : Turning)
    → Becomes (StraysMake t) (tasks_of t.0.0) (tasks_of (then_stray DataIn (then_stray DataOut (then_stray Status t))).0.0)
strays_all t =
    let first : Turning = then_stray Status t in
    let second : Turning = then_stray DataOut first in
    both_made (StrayMakes Status t) (Both (StrayMakes DataOut first) (StrayMakes DataIn second)) (tasks_of t.0.0) (tasks_of first.0.0)
    (tasks_of (then_stray DataIn second).0.0) (strays_made Status t)
    (both_made (StrayMakes DataOut first) (StrayMakes DataIn second) (tasks_of first.0.0) (tasks_of second.0.0)
    (tasks_of (then_stray DataIn second).0.0) (strays_made DataOut first) (strays_made DataIn second))

front_made : (at : World × ℕ) → Becomes (FrontMakes at) (tasks_of at.0) (tasks_of (front_turned at.1 at.0).0.0)
unfolding front_turned
front_made at =
    let first : Turning = settled_in at.1 at.0 in
    let commands : Turning = then_commands (then_port first) in
    let same : tasks_of commands.0.0 ≡ tasks_of at.0 =
    commands_same (then_port first) ∙ port_same first ∙ settled_kept (Has (tasks_of at.0)) at.0 refl in
    let ends : Turning = then_control commands in
    let unit : Turning = then_unit ends in
    let control = turn_made (λ w. IsEnd) control_stepped control_made commands in
    let received = turn_made IsUnitIn command_pipe_stepped unit_made ends in
    let strays = strays_all unit in
    both_made (TurnMakes (λ w. IsEnd) control_stepped commands) (Both (TurnMakes IsUnitIn command_pipe_stepped ends) (StraysMake unit))
    (tasks_of at.0) (tasks_of ends.0.0) (tasks_of (then_pipes ends).0.0)
    (control.0, control.1, control_then commands ∙ control.2 ∙ ap (λ m. after called m control.0) same)
    (both_made (TurnMakes IsUnitIn command_pipe_stepped ends) (StraysMake unit) (tasks_of ends.0.0) (tasks_of unit.0.0)
    (tasks_of (then_pipes ends).0.0) (received.0, received.1, unit_then ends ∙ received.2)
    (strays.0, strays.1, pipes_then ends ∙ strays.2))

-- A TAG
rested_same : (device : GuestTasks) (tag : ℕ) → (rested device tag).tasks ≡ device.tasks
rested_same device tag =
    either (Has device.tasks) (nat_lt tag 256 && is_absent (wanted device.tasks tag))
    (record device { active = with_mark device.active tag false }) device refl refl

busy_made : (busy : Bool) (tag : ℕ) (at : World × ℕ) → Becomes (BusyMakes busy tag at) (tasks_of at.0) (tasks_of (tag_by busy at.1 tag at.0).0.0)
unfolding busy_turned
busy_made false tag at = ([], refl, rested_same at.0.machine.device tag)
busy_made true tag at =
    let moved : Turning = turned at.1 at.0 (data_of at.0 tag) in
    let moves = turn_made (λ w. IsDataOn tag) (λ w. data_of w tag) (λ w. data_made w tag) (at, true) in
    let answer = turn_made (λ w. IsAnswerOn tag) (λ w. status_of w tag) (λ w. status_made w tag) moved in
    both_made (TurnMakes (λ w. IsDataOn tag) (λ w. data_of w tag) (at, true)) (TurnMakes (λ w. IsAnswerOn tag) (λ w. status_of w tag) moved)
    (tasks_of at.0) (tasks_of moved.0.0) (tasks_of (then_status tag moved).0.0) moves (answer.0, answer.1, status_then tag moved ∙ answer.2)

-- no step is left
idle : (busy : Bool) (tag : ℕ) (w : World) → BusyMakes busy tag (w, 0) []
idle false tag w = refl
idle true tag w = ([], [], refl, refl, refl)

active_made : (tag : ℕ) (at : World × ℕ) → Becomes (ActiveMakes true tag at) (tasks_of at.0) (tasks_of (tag_turned at.1 tag at.0).0.0)
unfolding tag_turned
active_made tag (w, zero) = ([], idle (is_busy (dropped_at w tag).machine tag) tag (dropped_at w tag), refl)
active_made tag (w, suc left) =
    let busy : Bool = is_busy (dropped_at w tag).machine tag in
    let made = busy_made busy tag (dropped_at w tag, suc left) in
    let some : (suc left == 0) ≡ false = ne_eqb (suc left) 0 (λ is. omega (arith, is)) in
    let has_turn : tasks_of (tag_turned (suc left) tag w).0.0 ≡ tasks_of (tag_by busy (suc left) tag (dropped_at w tag)).0.0 =
    ap (λ b. tasks_of (cond b (let none : Turning = ((w, 0), true) in none) (tag_by busy (suc left) tag (dropped_at w tag))).0.0) some in
    (made.0, made.1, has_turn ∙ made.2 ∙ ap (λ m. after called m made.0) (dropped_kept (Has (tasks_of w)) w tag refl))

by_mark : (active : Bool) (tag : ℕ) (at : World × ℕ) → Becomes (ActiveMakes active tag at) (tasks_of at.0) (tasks_of (turned_if active tag at).0.0)
by_mark false tag at = ([], refl, refl)
by_mark true tag at = active_made tag at

tag_made : (tag : ℕ) (t : Turning) → Becomes (TagMakes tag t) (tasks_of t.0.0) (tasks_of (then_tag tag t).0.0)
tag_made tag (at, false) = ([], refl, refl)
tag_made tag (at, true) = by_mark (is_marked at.0.machine.device.active tag) tag at

tags_made : (tag : ℕ) (t : Turning) → Becomes (TagsMake tag t) (tasks_of t.0.0) (tasks_of (tags_turned tag t).0.0)
unfolding tags_turned
tags_made zero t = ([], refl, refl)
tags_made (suc tag) t =
    both_made (TagsMake tag t) (TagMakes tag (tags_turned tag t)) (tasks_of t.0.0) (tasks_of (tags_turned tag t).0.0)
    (tasks_of (then_tag tag (tags_turned tag t)).0.0) (tags_made tag t) (tag_made tag (tags_turned tag t))

-- ROUNDS
round_made : (at : World × ℕ) → Becomes (RoundMakes at) (tasks_of at.0) (tasks_of (round_turned at).0.0)
round_made at =
    let front : Turning = front_turned at.1 at.0 in
    both_made (FrontMakes at) (TagsMake 241 front) (tasks_of at.0) (tasks_of front.0.0) (tasks_of (tags_turned 241 front).0.0)
    (front_made at) (tags_made 241 front)

rounds_made : (n : ℕ) (at now : World × ℕ) → RoundsTurned n at now → Becomes (RoundsMake n at now) (tasks_of at.0) (tasks_of now.0)
rounds_made zero at now turned = ([], (turned, refl), ap (λ (x : World × ℕ). tasks_of x.0) turned)
rounds_made (suc n) at now turned =
    let before : World × ℕ = turned.0 in
    let last = round_made before in
    let end : tasks_of now.0 ≡ tasks_of (round_turned before).0.0 = ap (λ (t : Turning). tasks_of t.0.0) turned.2 in
    let both = both_made (RoundsMake n at before) (RoundMakes before) (tasks_of at.0) (tasks_of before.0) (tasks_of now.0)
    (rounds_made n at before turned.1) (last.0, last.1, end ∙ last.2) in
    (both.0, (before, turned.2, turned.3, both.1), both.2)

over_made : (at : World × ℕ) (now : World) (more : Bool) → IsOver at now more → Becomes (LastMakes more at) (tasks_of at.0) (tasks_of now)
over_made at now true over = ([], refl, ap tasks_of over.1)
over_made at now false over =
    let last = round_made at in
    elim over.1 [
      | inl there ↦ (last.0, last.1, ap (λ (t : Turning). tasks_of t.0.0) there.2 ∙ last.2)
      | inr failed ↦ (last.0, last.1, ap tasks_of failed.2 ∙ (ap (λ (t : Turning). tasks_of t.0.0) failed.1 ∙ last.2))
    ]

pub work_made : (budget : ℕ) (w now : World) (worked : Worked) → RoundsWorked budget w now worked
    → (calls : List Call) × WorkMakes budget w worked calls × (tasks_of now ≡ after called (tasks_of w) calls)
work_made budget w now worked rounds =
    let both = both_made (RoundsMake rounds.rounds (w, budget) rounds.at) (LastMakes worked.more rounds.at) (tasks_of w) (tasks_of rounds.at.0)
    (tasks_of now) (rounds_made rounds.rounds (w, budget) rounds.at rounds.turned) (over_made rounds.at now worked.more rounds.over) in
    (both.0, (rounds.rounds, rounds.at, both.1), both.2)
