-- A round comes to each tag, and where it takes no step nothing could be done.
use Rattle.std.proofs.Common.{◌≡◌, ℕ, suc, ◌+◌, ◌-◌, ◌*◌, ◌<◌, ◌≤◌, ◌==◌, Bool, true, false, cond, Option, Some, None, refl, ap, sym, ◌∙◌, arith, inl, inr}
use Rattle.std.specs.Prelude.{◌⊎◌}
use Rattle.std.proofs.lemmas.Bool.{eqb-true, false≢true}
use Rattle.guest_pipes.specs.declared.acted.Acted.{Acted}
use Rattle.guest_pipes.specs.declared.acted.Acted.TheVariants.{Off, Idle, Full, Emptied, Waits, Worked as HasWorked}
use Rattle.marks.specs.Marks.{is_marked}
use Rattle.xhci_machine.specs.declared.work.Worked.{Worked}
use Rattle.xhci_machine.specs.Laws.{AllAreLeftIdle, HasItsTurn, HasNothing, IsFailed, IsLeftIdle, come_to, takes_step}
use Rattle.xhci_machine.specs.Rounds.{Turning, data_of, front_turned, noted_in, status_of, turned}
use Rattle.xhci_machine.specs.Turns.{World, left_after}
use Rattle.xhci_machine.specs.Worked.{IsOver, RoundsWorked, busy_turned, dropped_at, is_busy, round_turned, tag_by, tag_turned, tags_turned, then_status, then_tag, turned_if}
use Rattle.xhci_machine.proofs.Left.{IsNear, front_near, near_then, tags_near, tags_there, turned_near}

-- the round comes to a tag
comes : (at after : World × ℕ) (tag : ℕ) → tag ≤ 241 → round_turned at ≡ (after, true) → come_to tag at ≡ ((come_to tag at).0, true)
comes at after tag below round =
    let e : tag + (241 - tag) ≡ 241 = omega (arith, below) in
    let there : (come_to tag at).1 ≡ true =
    tags_there (front_turned at.1 at.0) (241 - tag) tag 241 e (ap (λ (t : Turning). t.1) round) in
    ap (λ (b : Bool). ((come_to tag at).0, b)) there

-- and goes on from it
goes : (at after : World × ℕ) (tag : ℕ) → tag ≤ 241 → round_turned at ≡ (after, true)
    → come_to (suc tag) at ≡ turned_if (is_marked (come_to tag at).0.0.machine.device.active tag) tag (come_to tag at).0
unfolding tags_turned
goes at after tag below round = ap (then_tag tag) (comes at after tag below round)

-- how many steps it has taken then
so_far : (at : World × ℕ) (tag : ℕ) → IsNear (7 + 2 * tag) at.1 (come_to tag at).0.1
unfolding tags_turned
so_far at tag =
    let front = front_turned at.1 at.0 in
    let e : 0 + tag ≡ tag = omega arith in
    near_then 7 (2 * tag) at.1 front.0.1 (come_to tag at).0.1 (front_near at.1 at.0) (tags_near front tag 0 tag e)

pub turn_of : (at after : World × ℕ) (tag : ℕ) → 489 ≤ at.1 → tag < 241 → round_turned at ≡ (after, true) → HasItsTurn at tag
turn_of at after tag enough below round =
    let near = so_far at tag in
    record {
      seen = (come_to tag at).0;
      comes = comes at after tag (omega (arith, below)) round;
      left = omega (arith, enough, below, near.1);
      turn = goes at after tag (omega (arith, below)) round;
    }

-- a step that leaves as much as there was
acted_idle : (acted : Acted) (left : ℕ) → 0 < left → left_after acted left ≡ left → takes_step (Some acted) ≡ false
acted_idle Off left some same = refl
acted_idle Idle left some same = refl
acted_idle Full left some same = refl
acted_idle Emptied left some same = absurd (omega (arith, some, same))
acted_idle Waits left some same = refl
acted_idle HasWorked left some same = absurd (omega (arith, some, same))

noted_idle : (left : ℕ) (step : World × Option Acted) → 0 < left → (noted_in left step).0.1 ≡ left → takes_step step.1 ≡ false
noted_idle left (w, None) some same = refl
noted_idle left (w, Some acted) some same = acted_idle acted left some same

none_left : (left : ℕ) (b : Bool) → (left == 0) ≡ b → 0 < left → b ≡ false
none_left left true is some =
    let none : left ≡ 0 = eqb-true left 0 is in absurd (omega (arith, some, none))
none_left left false is some = refl

-- something is left
pub some_left : (left : ℕ) → 0 < left → (left == 0) ≡ false
some_left left some = none_left left (left == 0) refl some

step_idle : (left : ℕ) (w : World) (step : World × Option Acted) → 0 < left → (turned left w step).0.1 ≡ left → takes_step step.1 ≡ false
step_idle left w step some same =
    noted_idle left step some
    (sym (ap (λ (b : Bool). (cond b ((w, 0), true) (noted_in left step)).0.1) (some_left left some)) ∙ same)

status_idle : (tag : ℕ) (t : Turning) → t.1 ≡ true → 0 < t.0.1 → (then_status tag t).0.1 ≡ t.0.1 → takes_step (status_of t.0.0 tag).1 ≡ false
status_idle tag (at, false) there some same = absurd (false≢true there)
status_idle tag (at, true) there some same = step_idle at.1 at.0 (status_of at.0 tag) some same

status_there : (tag : ℕ) (t : Turning) → (then_status tag t).1 ≡ true → t.1 ≡ true
status_there tag (at, false) there = there
status_there tag (at, true) there = refl

status_less : (tag : ℕ) (t : Turning) → (then_status tag t).0.1 ≤ t.0.1
status_less tag (at, false) = omega arith
status_less tag (at, true) = (turned_near at.1 at.0 (status_of at.0 tag)).0

-- a tag whose turn takes no step has nothing
busy_idle : (left tag : ℕ) (w : World) → 0 < left → (busy_turned left tag w).1 ≡ true → (busy_turned left tag w).0.1 ≡ left → HasNothing w left tag
unfolding busy_turned
busy_idle left tag w some there same =
    let step = data_of w tag in
    let t : Turning = turned left w step in
    let first = (turned_near left w step).0 in
    let second = status_less tag t in
    let at_data : t.0.1 ≡ left = omega (arith, first, second, same) in
    let at_status : (then_status tag t).0.1 ≡ t.0.1 = same ∙ sym at_data in
    let still : 0 < t.0.1 = omega (arith, some, at_data) in
    record { of_data = step_idle left w step some at_data; of_status = status_idle tag t (status_there tag t there) still at_status }

-- an active tag that is busy has its data's turn and its status's
busy_turn : (left tag : ℕ) (w : World) → 0 < left → is_busy (dropped_at w tag).machine tag ≡ true
    → tag_turned left tag w ≡ busy_turned left tag (dropped_at w tag)
unfolding tag_turned
busy_turn left tag w some busy =
    ap (λ (b : Bool). cond b ((w, 0), true) (tag_by (is_busy (dropped_at w tag).machine tag) left tag (dropped_at w tag))) (some_left left some)
    ∙ ap (λ (b : Bool). tag_by b left tag (dropped_at w tag)) busy

same_left : (at after : World × ℕ) (tag : ℕ) → at.1 ≤ after.1 → tag ≤ 241 → round_turned at ≡ (after, true) → (come_to tag at).0.1 ≡ at.1
same_left at after tag same below round =
    let e : tag + (241 - tag) ≡ 241 = omega (arith, below) in
    let before = (so_far at tag).0 in
    let behind = (tags_near (front_turned at.1 at.0) (241 - tag) tag 241 e).0 in
    let end : (tags_turned 241 (front_turned at.1 at.0)).0.1 ≡ after.1 = ap (λ (t : Turning). t.0.1) round in
    omega (arith, same, before, behind, end)

pub nothing_of : (at after : World × ℕ) (tag : ℕ) → 0 < at.1 → at.1 ≤ after.1 → tag < 241 → round_turned at ≡ (after, true) → IsLeftIdle at tag
nothing_of at after tag some same below round =
    let low : tag ≤ 241 = omega (arith, below) in
    let next : suc tag ≤ 241 = omega (arith, below) in
    let seen : World = (come_to tag at).0.0 in
    let left : (come_to tag at).0.1 ≡ at.1 = same_left at after tag same low round in
    let here : come_to tag at ≡ ((seen, at.1), true) =
    comes at after tag low round ∙ ap (λ (n : ℕ). ((seen, n), true)) left in
    let on : come_to (suc tag) at ≡ turned_if (is_marked seen.machine.device.active tag) tag (seen, at.1) =
    goes at after tag low round ∙ ap (λ (n : ℕ). turned_if (is_marked seen.machine.device.active tag) tag (seen, n)) left in
    record {
      seen = seen;
      comes = here;
      nothing = λ active busy.
          let turn : come_to (suc tag) at ≡ busy_turned at.1 tag (dropped_at seen tag) =
          on ∙ ap (λ (b : Bool). turned_if b tag (seen, at.1)) active ∙ busy_turn at.1 tag seen some busy in
          busy_idle at.1 tag (dropped_at seen tag) some
          (sym (ap (λ (t : Turning). t.1) turn) ∙ ap (λ (t : Turning). t.1) (comes at after (suc tag) next round))
          (sym (ap (λ (t : Turning). t.0.1) turn) ∙ same_left at after (suc tag) same next round);
    }

over_by : (after : World) (at : World × ℕ) (more : Bool) → IsOver at after more → more ≡ false → IsFailed after ⊎ AllAreLeftIdle at
over_by after at true over is = absurd (false≢true (sym is))
over_by after at false over is = elim over.1 [
  | inl last ↦ inr (λ tag below. nothing_of at (after, last.0) tag over.0 last.1 below (sym last.2))
  | inr last ↦ inl (last.0.0, last.2)
]

pub over_of : (budget : ℕ) (w after : World) (worked : Worked) (it : RoundsWorked budget w after worked) → worked.more ≡ false
    → IsFailed after ⊎ AllAreLeftIdle it.at
over_of budget w after worked it is = over_by after it.at worked.more it.over is
