-- Tags that stay as they are, and the next that is active.
use Rattle.std.proofs.Common.{◌≡◌, ℕ, zero, suc, ◌+◌, ◌-◌, ◌<◌, ◌≤◌, Bool, true, false, refl, ap, sym, subst, ◌∙◌, arith}
use Rattle.marks.specs.Marks.{is_marked}
use Rattle.xhci_machine.specs.Rounds.{Turning}
use Rattle.xhci_machine.specs.Turns.{World}
use Rattle.xhci_machine.specs.Worked.{tag_turned, tags_turned, then_tag, turned_if}

pub no_tags : (at : Turning) → at ≡ tags_turned 0 at
unfolding tags_turned
no_tags at = refl

-- tags whose turns change nothing
pub stay : (before at : Turning) (d from to : ℕ) → from + d ≡ to → at ≡ tags_turned from before
    → ((tag : ℕ) → from ≤ tag → tag < to → at ≡ then_tag tag at) → at ≡ tags_turned to before
unfolding tags_turned
stay before at zero from to e done same =
    let here : from ≡ to = omega (arith, e) in
    subst (λ (n : ℕ). at ≡ tags_turned n before) here done
stay before at (suc d) from to e done same =
    let here : suc (from + d) ≡ to = omega (arith, e) in
    let low : from ≤ from + d = omega arith in
    let high : from + d < to = omega (arith, e) in
    let below : at ≡ tags_turned (from + d) before =
    stay before at d from (from + d) refl done (λ tag above below. same tag above (omega (arith, below, high))) in
    subst (λ (n : ℕ). at ≡ tags_turned n before) here (same (from + d) low high ∙ ap (then_tag (from + d)) below)

-- a tag that isn't active
idle_tag : (at : World × ℕ) (tag : ℕ) → is_marked at.0.machine.device.active tag ≡ false → (at, true) ≡ then_tag tag (at, true)
idle_tag at tag idle = sym (ap (λ (b : Bool). turned_if b tag at) idle)

-- tags up to one that aren't active
pub all_idle : (before : Turning) (at : World × ℕ) (from to : ℕ) → from ≤ to → (at, true) ≡ tags_turned from before
    → ((other : ℕ) → from ≤ other → other < to → is_marked at.0.machine.device.active other ≡ false) → (at, true) ≡ tags_turned to before
all_idle before at from to reach done idle =
    let e : from + (to - from) ≡ to = omega (arith, reach) in
    stay before (at, true) (to - from) from to e done (λ tag above below. idle_tag at tag (idle tag above below))

-- and then the one that is
pub advance : (before : Turning) (at : World × ℕ) (after : Turning) (from tag : ℕ) → from ≤ tag → (at, true) ≡ tags_turned from before
    → ((other : ℕ) → from ≤ other → other < tag → is_marked at.0.machine.device.active other ≡ false)
    → is_marked at.0.machine.device.active tag ≡ true → after ≡ tag_turned at.1 tag at.0 → after ≡ tags_turned (tag + 1) before
unfolding tags_turned
advance before at after from tag reach done idle active turn =
    let e : suc tag ≡ tag + 1 = omega arith in
    subst (λ (n : ℕ). after ≡ tags_turned n before) e
    (turn ∙ sym (ap (λ (b : Bool). turned_if b tag at) active) ∙ ap (then_tag tag) (all_idle before at from tag reach done idle))

-- once memory wasn't there
pub all_over : (before : Turning) (at : World × ℕ) (there : Bool) (from to : ℕ) → there ≡ false → from ≤ to
    → (at, false) ≡ tags_turned from before → (at, there) ≡ tags_turned to before
all_over before at there from to over reach done =
    let e : from + (to - from) ≡ to = omega (arith, reach) in
    subst (λ (b : Bool). (at, b) ≡ tags_turned to before) (sym over)
    (stay before (at, false) (to - from) from to e done (λ tag above below. refl))
