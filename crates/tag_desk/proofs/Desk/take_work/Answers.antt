use Rattle.std.proofs.Common.{◌≡◌, ◌≢◌, ℕ, suc, ◌%◌, ◌<◌, List, None, length, set, get_or, refl, sym, ap, subst, ◌∙◌, arith}
use mathlib.Core.Logic.{dite}
use native.Mathlib.Decide.{ℕ_discrete}
use Rattle.std.proofs.Math.ListN.{length-set}
use Rattle.std.proofs.lemmas.Grind.{get_or-set_at}
use Rattle.std.proofs.lemmas.List.{get_or-set_other, get_or_default}
use Rattle.tag_desk.specs.Seats.{MadeDesk, Server, IsPumpOf}
use Rattle.tag_desk.specs.Left.{IsFirst, pump_number, no_server, server_of, work_line}
use Rattle.tag_desk.proofs.Finding.{first_found, found_set, found_beside, has_set}
use Rattle.tag_desk.proofs.Seating.{own_setting}
use Rattle.tag_desk.proofs.Desk.take_work.Goals as goal
use Rattle.uas_profile.specs.Tags.{client_of}

-- a line that is taken out of the first seat of a pump leaves the lines of other tags as they are
lines_beside : (desk : MadeDesk) (seats : List Server) (p k n : ℕ) (new : Server) → IsFirst pump_number seats p k
    → new ≡ record { pump = (get_or seats k no_server).pump; lines = set (get_or seats k no_server).lines n None } → (t : ℕ) → t ≢ n
    → work_line desk (set seats k new) t ≡ work_line desk seats t
lines_beside desk seats p k n new first is t other =
    let old = get_or seats k no_server in
    let q = client_of desk.tags (suc t) % desk.pumps in
    let same : new.pump ≡ p = ap pump_number is ∙ first.is no_server in
    dite (ℕ_discrete q p)
    (λ (e : q ≡ p).
    let now : server_of (set seats k new) q ≡ new = ap (server_of (set seats k new)) e ∙ found_set pump_number seats p k no_server new first same in
    let was : server_of seats q ≡ old = ap (server_of seats) e ∙ first_found pump_number seats p k no_server no_server first in
    ap (λ (s : Server). get_or s.lines t None) (now ∙ is) ∙ get_or-set_other old.lines n t None None other
    ∙ sym (ap (λ (s : Server). get_or s.lines t None) was))
    (λ (e : q ≢ p). ap (λ (s : Server). get_or s.lines t None) (found_beside pump_number seats p q k no_server new first same e))

-- the place is that of the seat of the pump that serves the tag's client
first_there : (seats read : List Server) (client whose pumps for_pumps k : ℕ) → read ≡ seats → pumps ≡ for_pumps → whose ≡ client
    → IsFirst pump_number read (client % pumps) k → IsFirst pump_number seats (whose % for_pumps) k
first_there seats read client whose pumps for_pumps k same one is first =
    subst (λ (a : List Server × (ℕ × ℕ)). IsFirst pump_number a.0 (a.1.0 % a.1.1) k) (λ i. (same i, (sym is i, one i))) first

-- a seat that was read and whose line was taken out, at any default
taken_out : (seats : List Server) (k n : ℕ) (was new : Server) → k < length seats → was ≡ get_or seats k was
    → new ≡ record { pump = was.pump; lines = set was.lines n None }
    → new ≡ record { pump = (get_or seats k no_server).pump; lines = set (get_or seats k no_server).lines n None }
taken_out seats k n was new within read is =
    is ∙ ap (λ (s : Server). let out : Server = record { pump = s.pump; lines = set s.lines n None } in out) (read ∙ get_or_default seats k was no_server within)

pub returns-clause-line : goal.returns-clause-line
returns-clause-line c =
    let seats = c.args.pumps.now.items in
    let desk = c.args.self.now in
    let k = c.pump_place-place.result in
    let p : ℕ = client_of desk.tags (suc c.args.index) % desk.pumps in
    let first = first_there seats c.as_slice.result.now c.args.client (client_of desk.tags (suc c.args.index)) c.self.inside.pumps desk.pumps k c.as_slice.ensures.value
    (ap (λ (d : MadeDesk). d.pumps) c.self.view_is) c.requires.client c.pump_place-place.ensures in
    let read = c.index_mut.ensures.value ∙ get_or_default seats k c.index_mut.result.now no_server first.within in
    c.take_line.ensures.line
    ∙ ap (λ (s : Server). get_or s.lines c.args.index None) (read ∙ sym (first_found pump_number seats p k no_server no_server first))

pub returns-clause-pumps : goal.returns-clause-pumps
returns-clause-pumps c =
    let seats = c.args.pumps.now.items in
    let desk = c.args.self.now in
    let k : ℕ = c.pump_place-place.result in
    let p : ℕ = client_of desk.tags (suc c.args.index) % desk.pumps in
    let first = first_there seats c.as_slice.result.now c.args.client (client_of desk.tags (suc c.args.index)) c.self.inside.pumps desk.pumps k c.as_slice.ensures.value
    (ap (λ (d : MadeDesk). d.pumps) c.self.view_is) c.requires.client c.pump_place-place.ensures in
    let now = c.take_line.new.self in
    let new = taken_out seats k c.args.index c.index_mut.result.now now first.within c.index_mut.ensures.value c.take_line.ensures.rest in
    let own : IsPumpOf desk now = subst (IsPumpOf desk) (sym new) (own_setting desk (get_or seats k no_server) c.args.index None (c.requires.pumps.own k no_server
    first.within) refl refl) in
    record {
      own =
          λ j d within.
          let short : j < length seats = omega (arith, length-set seats k now) in
          dite (ℕ_discrete j k)
          (λ (e : j ≡ k). subst (IsPumpOf desk) (sym (get_or-set_at seats k j now d e first.within)) own)
          (λ (e : j ≢ k). subst (IsPumpOf desk) (sym (get_or-set_other seats k j now d e)) (c.requires.pumps.own j d short));
      there = λ m below. has_set pump_number seats p m k now first (ap pump_number new ∙ first.is no_server) (c.requires.pumps.there m below);
    }

pub returns-clause-others : goal.returns-clause-others
returns-clause-others c =
    λ t later.
    let seats = c.args.pumps.now.items in
    let desk = c.args.self.now in
    let k : ℕ = c.pump_place-place.result in
    let p : ℕ = client_of desk.tags (suc c.args.index) % desk.pumps in
    let first = first_there seats c.as_slice.result.now c.args.client (client_of desk.tags (suc c.args.index)) c.self.inside.pumps desk.pumps k c.as_slice.ensures.value
    (ap (λ (d : MadeDesk). d.pumps) c.self.view_is) c.requires.client c.pump_place-place.ensures in
    let new = taken_out seats k c.args.index c.index_mut.result.now c.take_line.new.self first.within c.index_mut.ensures.value c.take_line.ensures.rest in
    lines_beside desk seats p k c.args.index c.take_line.new.self first new t (λ (e : t ≡ c.args.index). absurd (omega arith))
