-- A desk that is closed once no pump's line is out: no claim is left there.
use Rattle.std.proofs.Common.{◌≡◌, ℕ, zero, suc, ◌+◌, ◌*◌, ◌%◌, ◌<◌, ◌==◌, Bool, true, false, List, [], ◌++◌, Option, Some, None, get_or, if◌then◌else◌, refl, sym, ap, subst, ◌∙◌, arith}
use Rattle.uas_profile.specs.Tags.{client_of}
use Rattle.tag_desk.specs.declared.Slip.{Slip}
use Rattle.tag_desk.specs.declared.rule.ClientView.{ClientView}
use Rattle.tag_desk.specs.declared.rule.ClientView.TheVariants.{Waiting, Free, Open}
use Rattle.tag_desk.specs.declared.rule.WorkView.{WorkView}
use Rattle.tag_desk.specs.declared.rule.WorkView.TheVariants.{Idle, Claimed, Finished as FinishedView}
use Rattle.tag_desk.specs.declared.remains.Standing.TheVariants.{Posted, Done}
use Rattle.tag_desk.specs.Left.{IsAllPumpsOf, IsFirst, client_view, held_at, joined, left_of, no_server, pump_number, server_of, standing, unclaimed, work_line}
use Rattle.tag_desk.specs.Seats.{MadeDesk, Customer, Server, WorkLine, IsHome}
use Rattle.tag_desk.proofs.Finding.{first_found}
use Rattle.uas_work.specs.Held.{IsHomeLine}
use Rattle.uas_work.specs.Parts.{ArePumpsHome}

-- a row of empty lists is empty
joined-empty : {A : Type 0} (row : ℕ → List A) (n : ℕ) → ((t : ℕ) → t < n → row t ≡ []) → joined row n ≡ []
unfolding joined
joined-empty row zero none = refl
joined-empty row (suc n) none =
    ap (λ list. list ++ row n) (joined-empty row n (λ t below. none t (omega arith))) ∙ none n (omega arith)

if_not_held : (b : Bool) (tag : ℕ) (x y : Slip) → held_at tag (if b then Done y else Posted x) ≡ []
if_not_held true tag x y = refl
if_not_held false tag x y = refl

unclaimed_not_held : (tag n : ℕ) (x : Slip) (view : WorkView) → IsHome view → held_at tag (unclaimed n x view) ≡ []
unclaimed_not_held tag n x (Idle missed) home = refl
unclaimed_not_held tag n x (Claimed m) home = absurd home
unclaimed_not_held tag n x (FinishedView m y missed) home = if_not_held (m == n) tag x y

-- no claim stands at a tag whose line is home
not_held : (tag : ℕ) (view : ClientView) (line : Option WorkLine) → IsHomeLine line → held_at tag (standing view line) ≡ []
not_held tag Waiting line home = refl
not_held tag (Free next) line home = refl
not_held tag (Open n x looks) None home = absurd home
not_held tag (Open n x looks) (Some line) home = unclaimed_not_held tag n x line.view home

mod_below : (t n : ℕ) → 0 < n → t % n < n
mod_below t n some = grind arith

-- the line of each tag, at the pump that serves it
line_home : (desk : MadeDesk) (seats : List Server) (t : ℕ) → 0 < desk.pumps → IsAllPumpsOf desk seats → ArePumpsHome desk seats
    → t < desk.tags * desk.clients → IsHomeLine (work_line desk seats t)
line_home desk seats t some all home within =
    let p : ℕ = client_of desk.tags (suc t) % desk.pumps in
    let below : p < desk.pumps = mod_below (client_of desk.tags (suc t)) desk.pumps some in
    let first : IsFirst pump_number seats p p = record {
      within = omega (arith, all.count, below);
      is = λ d. all.order p d below;
      before = λ j d early same. omega (arith, all.order j d (omega (arith, early, below)), same, early);
    } in
    let found : server_of seats p ≡ get_or seats p no_server = first_found pump_number seats p p no_server no_server first in
    subst (λ (seat : Server). IsHomeLine (get_or seat.lines t None)) (sym found)
    (home p no_server below t within (sym (all.order p no_server below)))

-- no claim is left
pub none_held : (desk : MadeDesk) (clients : List Customer) (seats : List Server) → 0 < desk.pumps → IsAllPumpsOf desk seats → ArePumpsHome desk seats
    → (left_of desk clients seats).held ≡ []
none_held desk clients seats some all home =
    joined-empty (λ (t : ℕ). held_at (t + 1) (standing (client_view desk.tags clients t) (work_line desk seats t))) (desk.tags * desk.clients)
    (λ t within. not_held (t + 1) (client_view desk.tags clients t) (work_line desk seats t) (line_home desk seats t some all home within))
