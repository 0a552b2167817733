-- One line of a seat that was read, and written back.
use Rattle.std.proofs.Common.{◌≡◌, ℕ, zero, suc, ◌+◌, ◌-◌, ◌*◌, ◌%◌, ◌<◌, ◌≢◌, List, [], ◌∷◌, length, set, get_or, sym, refl, ap, subst, ◌∙◌}
use Rattle.std.proofs.Common.{arith, Option, Some, None, MatchOption, IfSome, slice_get, All, Bool, true, false, if◌then◌else◌, nat_lt, ◌==◌}
use mathlib.Core.Logic.{dite}
use native.Mathlib.Decide.{ℕ_discrete}
use Rattle.std.proofs.Math.ListN.{length-set}
use Rattle.std.proofs.lemmas.Grind.{get_or-set_at}
use Rattle.std.proofs.lemmas.Option.{slice_get_read}
use Rattle.std.proofs.lemmas.List.{set-set, set-get_or, get_or-set_same, get_or-set_other}
use Rattle.tag_desk.specs.declared.Slip.{Slip}
use Rattle.tag_desk.specs.declared.rule.ClientView.TheVariants.{Free}
use Rattle.tag_desk.specs.declared.rule.ClientView.{ClientView}
use Rattle.tag_desk.specs.Seats.{MadeDesk, Customer, Server, ClientLine, WorkLine, HeldClaim, IsClientOf, IsPumpOf, IsServed, IsOnTable, IsFreeAt, ended_in, ended_ticket, finished_in, finished_ticket, finishing}
use Rattle.tag_desk.specs.Slips.{IsEnd, ticket_in}
use Rattle.tag_desk.specs.Rule.{noting, overlooked}
use Rattle.tag_desk.specs.declared.Slip.TheVariants.{Ask, AskTask, Answer, Refused, Unserved}
use Rattle.tag_desk.specs.Seats.{IsAllFree, IsAway, ReapsAt, ClaimsAt, looked_lines, missed_line, missing, overlooking, with_view, new_line, AreNewCustomers, AreServersBelow}
use Rattle.atomic_table.specs.Seated.{TableId}
use Rattle.tag_desk.specs.declared.rule.WorkView.{WorkView}
use Rattle.tag_desk.specs.declared.rule.WorkView.TheVariants.{Idle, Claimed, Finished}
use Rattle.uas_profile.specs.Tags.{client_of, slot_of}
use Rattle.uas_profile.proofs.TagLaws.{slots-below_tags}

-- writing a line back with another view is what `with_view` says
pub set_view : (lines : List ClientLine) (k : ℕ) (l : ClientLine) (v : ClientView) → k < length lines → l ≡ get_or lines k l
    → set lines k (record { table = l.table; index = l.index; view = v }) ≡ with_view lines k v
set_view [] k l v within is = absurd (omega arith)
set_view (x ∷ xs) zero l v within is = λ i. record { table = (is i).table; index = (is i).index; view = v } ∷ xs
set_view (x ∷ xs) (suc k) l v within is = ap (λ ls. x ∷ ls) (set_view xs k l v (omega arith) is)

-- writing back what was read changes nothing
pub set_back : {X : Type 0} (xs : List X) (k : ℕ) (x : X) → x ≡ get_or xs k x → set xs k x ≡ xs
set_back xs k x is = ap (set xs k) is ∙ set-get_or xs k x

-- what was read doesn't depend on what stands for none
pub read_any : {X : Type 0} (xs : List X) (k : ℕ) (x d : X) → k < length xs → x ≡ get_or xs k x → get_or xs k d ≡ x
read_any [] k x d within is = absurd (omega arith)
read_any (y ∷ ys) zero x d within is = sym is
read_any (y ∷ ys) (suc k) x d within is = read_any ys k x d (omega arith) is

-- a line that is read and written back with a note, or left out, is what `missing` says
pub set_missed : (lines : List (Option WorkLine)) (k ticket : ℕ) (had now : Option WorkLine) → k < length lines → had ≡ get_or lines k had
    → now ≡ missed_line ticket had → set lines k now ≡ set lines k (missed_line ticket (get_or lines k None))
set_missed lines k ticket had now within is noted =
    ap (set lines k) (noted ∙ ap (missed_line ticket) (sym (read_any lines k had None within is)))

pub set_twice_back : {X : Type 0} (xs : List X) (k : ℕ) (x y : X) → x ≡ get_or xs k x → set (set xs k y) k x ≡ xs
set_twice_back xs k x y is = set-set xs k y x ∙ set_back xs k x is

pub match_option : {X : Type 0} {A A' : Type 0} {B B' : X → Type 0} (r : Option X) → (A → A') → ((x : X) → B x → B' x) → MatchOption r A B
    → MatchOption r A' B'
match_option None none some h = none h
match_option (Some x) none some h = some x h

view_table : (lines : List ClientLine) (k j : ℕ) (v : ClientView) (d : ClientLine) → (get_or (with_view lines k v) j d).table ≡ (get_or lines j d).table
view_table [] k j v d = refl
view_table (x ∷ xs) zero zero v d = refl
view_table (x ∷ xs) zero (suc j) v d = refl
view_table (x ∷ xs) (suc k) zero v d = refl
view_table (x ∷ xs) (suc k) (suc j) v d = view_table xs k j v d

view_here : (lines : List ClientLine) (k : ℕ) (v : ClientView) (l : ClientLine) → slice_get lines k ≡ Some l
    → slice_get (with_view lines k v) k ≡ Some (record { table = l.table; index = l.index; view = v })
view_here [] k v l at = absurd (let e : None ≡ Some l = at in cc)
view_here (x ∷ xs) zero v l at = let e : x ≡ l = cc in λ i. Some (record { table = (e i).table; index = (e i).index; view = v })
view_here (x ∷ xs) (suc k) v l at = view_here xs k v l at

-- writing a line back with one look more
pub set_looked : (looks : ℕ) (lines : List ClientLine) (k : ℕ) (l : ClientLine) → k < length lines → l ≡ get_or lines k l
    → set lines k (record { table = l.table; index = l.index; view = overlooked looks l.view }) ≡ looked_lines looks lines k
set_looked looks [] k l within is = absurd (omega arith)
set_looked looks (x ∷ xs) zero l within is = λ i. record { table = (is i).table; index = (is i).index; view = overlooked looks (is i).view } ∷ xs
set_looked looks (x ∷ xs) (suc k) l within is = ap (λ ls. x ∷ ls) (set_looked looks xs k l (omega arith) is)

looked_table : (looks : ℕ) (lines : List ClientLine) (k j : ℕ) (d : ClientLine) → (get_or (looked_lines looks lines k) j d).table ≡ (get_or lines j d).table
looked_table looks [] k j d = refl
looked_table looks (x ∷ xs) zero zero d = refl
looked_table looks (x ∷ xs) zero (suc j) d = refl
looked_table looks (x ∷ xs) (suc k) zero d = refl
looked_table looks (x ∷ xs) (suc k) (suc j) d = looked_table looks xs k j d

-- a client's seat stays one of the desk
pub own_looking : (desk : MadeDesk) (seat : Customer) (looks tag : ℕ) → IsClientOf desk seat → IsClientOf desk (overlooking looks seat tag)
own_looking desk seat looks tag own = (own.0, λ j d within. looked_table looks seat.lines (slot_of seat.tags tag) j d ∙ own.1 j d within, own.2)

pub own_posting : (desk : MadeDesk) (seat : Customer) (k least : ℕ) (v : ClientView) → IsClientOf desk seat
    → IsClientOf desk (record { client = seat.client; tags = seat.tags; least_ticket = least; lines = with_view seat.lines k v })
own_posting desk seat k least v own = (own.0, λ j d within. view_table seat.lines k j v d ∙ own.1 j d within, own.2)

pub own_reaping : (desk : MadeDesk) (old new : Customer) (tag : ℕ) (y : Slip) → IsClientOf desk old → ReapsAt old new tag y → IsClientOf desk new
own_reaping desk old new tag y own reaps =
    subst (IsClientOf desk) (sym reaps.6) (own_posting desk old (slot_of old.tags tag) old.least_ticket (Free (reaps.1 + 1)) own)

pub free_reaping : (old new : Customer) (tag : ℕ) (y : Slip) → ReapsAt old new tag y → IsFreeAt new tag
free_reaping old new tag y reaps =
    let k = slot_of old.tags tag in
    let line : ClientLine = record { table = reaps.0.table; index = reaps.0.index; view = Free (reaps.1 + 1) } in
    subst (λ s. IsFreeAt s tag) (sym reaps.6) (line, view_here old.lines k (Free (reaps.1 + 1)) reaps.0 reaps.3, (reaps.1 + 1, refl))

-- what it finished names the ticket that it finished
abbrev IsEndedWell : Option WorkLine → Type 0
IsEndedWell line = ended_ticket line ≡ finished_ticket line

-- a pump's seat stays one of the desk
pub own_setting : (desk : MadeDesk) (seat : Server) (k : ℕ) (o : Option WorkLine) → IsPumpOf desk seat → IsOnTable desk.table o
    → ended_ticket o ≡ finished_ticket o → IsPumpOf desk (record { pump = seat.pump; lines = set seat.lines k o })
own_setting desk seat k o own there ended = (
  length-set seat.lines k o ∙ own.0,
  λ j d within.
      let short : j < length seat.lines = omega (arith, length-set seat.lines k o) in
      dite (ℕ_discrete j k)
      (λ (e : j ≡ k). subst (IsOnTable desk.table) (sym (get_or-set_at seat.lines k j o d e (omega arith))) there)
      (λ (e : j ≢ k). subst (IsOnTable desk.table) (sym (get_or-set_other seat.lines k j o d e)) (own.1 j d short)),
  λ j d within.
      let short : j < length seat.lines = omega (arith, length-set seat.lines k o) in
      dite (ℕ_discrete j k)
      (λ (e : j ≡ k). subst IsEndedWell (sym (get_or-set_at seat.lines k j o d e (omega arith))) ended)
      (λ (e : j ≢ k). subst IsEndedWell (sym (get_or-set_other seat.lines k j o d e)) (own.2 j d short)),
)

-- an end of a ticket names it
pub end_named : (tag n : ℕ) (y : Slip) → IsEnd tag n y → ticket_in y ≡ n
end_named tag n (Ask m command) ends = absurd ends
end_named tag n (AskTask m task) ends = absurd ends
end_named tag n (Answer reply) ends = ends.1
end_named tag n (Refused m fault buffer) ends = ends
end_named tag n (Unserved m buffer) ends = ends

missed_on : (table : TableId) (ticket : ℕ) (line : Option WorkLine) → IsOnTable table line → IsOnTable table (missed_line ticket line)
missed_on table ticket None there = there
missed_on table ticket (Some line) there = there

ended_noting : (n : ℕ) (w : WorkView) → ended_in (noting n w) ≡ ended_in w
ended_noting n (Idle missed) = refl
ended_noting n (Claimed m) = refl
ended_noting n (Finished m y missed) = refl

finished_noting : (n : ℕ) (w : WorkView) → finished_in (noting n w) ≡ finished_in w
finished_noting n (Idle missed) = refl
finished_noting n (Claimed m) = refl
finished_noting n (Finished m y missed) = refl

missed_ended : (ticket : ℕ) (line : Option WorkLine) → IsEndedWell line → IsEndedWell (missed_line ticket line)
missed_ended ticket None ended = ended
missed_ended ticket (Some line) ended = ended_noting ticket line.view ∙ ended ∙ sym (finished_noting ticket line.view)

pub own_missing : (desk : MadeDesk) (seat : Server) (tag ticket : ℕ) → IsPumpOf desk seat → IsServed desk seat tag → IsPumpOf desk (missing seat tag ticket)
own_missing desk seat tag ticket own served =
    let len = own.0 in
    let low = served.0 in
    let high = served.1 in
    let within : tag - 1 < length seat.lines = omega arith in
    let line : Option WorkLine = get_or seat.lines (tag - 1) None in
    own_setting desk seat (tag - 1) (missed_line ticket line) own (missed_on desk.table ticket line (own.1 (tag - 1) None within))
    (missed_ended ticket line (own.2 (tag - 1) None within))

pub own_finishing : (desk : MadeDesk) (seat : Server) (claim : HeldClaim) (y : Slip) → IsPumpOf desk seat → claim.table ≡ desk.table
    → IsEnd claim.tag claim.ticket y → IsPumpOf desk (finishing seat claim y)
own_finishing desk seat claim y own same ends = own_setting desk seat (claim.tag - 1) _ own same (end_named claim.tag claim.ticket y ends)

pub own_claiming : (desk : MadeDesk) (old new : Server) (tag ticket : ℕ) (claim : HeldClaim) → IsPumpOf desk old → ClaimsAt desk.tags old new tag ticket claim
    → IsPumpOf desk new
own_claiming desk old new tag ticket claim own claims = subst (IsPumpOf desk) (sym claims.5) (own_setting desk old (tag - 1) None own refl refl)

pub away_claiming : (desk : MadeDesk) (old new : Server) (tag ticket : ℕ) (claim : HeldClaim) → IsPumpOf desk old → IsServed desk old tag
    → ClaimsAt desk.tags old new tag ticket claim → IsAway new tag
away_claiming desk old new tag ticket claim own served claims =
    let len = own.0 in
    let low = served.0 in
    let high = served.1 in
    let within : tag - 1 < length old.lines = omega arith in
    subst (λ s. IsAway s tag) (sym claims.5)
    (slice_get_read (set old.lines (tag - 1) None) (length old.lines) (tag - 1) None (sym (length-set old.lines (tag - 1) None)) within (sym
    (get_or-set_same old.lines (tag - 1) None None within)))

pub either_option : {X : Type 0} {A : Type 0} {B : X → Type 0} {C : Type 0} (r : Option X) → (A → C) → ((x : X) → B x → C) → MatchOption r A B → C
either_option None none some h = none h
either_option (Some x) none some h = some x h

pub if_some : {X : Type 0} (A : Type 0) {B C : X → Type 0} (r : Option X) → ((x : X) → B x → C x) → MatchOption r A B → IfSome r C
if_some A None some h = tt
if_some A (Some x) some h = some x h

-- the seats of a new desk are its own, and all tags are free
pub own_new : (desk : MadeDesk) (tags clients : ℕ) (seats : List Customer) → desk.tags ≡ tags → desk.clients ≡ clients
    → AreNewCustomers desk.table tags clients seats → All (IsClientOf desk) seats
own_new desk tags clients seats each_has is are c d within =
    let count = are.count in
    let each = are.each c d (omega arith) in
    let named = each.client in (
      omega arith,
      λ k l below. ap (λ (line : ClientLine). line.table) (each.lines k l (let e = each.tags in omega arith)),
      each.tags ∙ sym each_has,
    )

pub free_new : (table : TableId) (tags clients : ℕ) (seats : List Customer) → 0 < tags → AreNewCustomers table tags clients seats → All IsAllFree seats
free_new table tags clients seats some are c d within tag own =
    let count = are.count in
    let each = are.each c d (omega arith) in
    let k : ℕ = slot_of tags tag in
    let low : k < tags = slots-below_tags tags tag some in
    let line : ClientLine = new_line table (tags * c + k) in
    let there = slice_get_read (get_or seats c d).lines tags k line (sym each.count) low (sym (each.lines k line low)) in
    (line, ap (λ n. slice_get (get_or seats c d).lines (slot_of n tag)) each.tags ∙ there, (0, refl))

on_table_if : (desk : MadeDesk) (t : ℕ) (dealt serves : Bool)
    → IsOnTable desk.table (if dealt then (if serves then Some (record { table = desk.table; index = t; view = Idle [] }) else None) else None)
on_table_if desk t true true = refl
on_table_if desk t true false = refl
on_table_if desk t false serves = refl

ended_if : (table : TableId) (t : ℕ) (dealt serves : Bool)
    → IsEndedWell (if dealt then (if serves then Some (record { table = table; index = t; view = Idle [] }) else None) else None)
ended_if table t true true = refl
ended_if table t true false = refl
ended_if table t false serves = refl

pub own_serving : (desk : MadeDesk) (seats : List Server) → AreServersBelow desk (desk.tags * desk.clients) seats → All (IsPumpOf desk) seats
own_serving desk seats are p d within =
    let count = are.count in
    let each = are.each p d (omega arith) in
    let all = each.count in (
      each.count,
      λ t o below. subst (IsOnTable desk.table) (sym (each.lines t o (omega arith))) (on_table_if desk t (nat_lt t (desk.tags * desk.clients))
          (client_of desk.tags (suc t) % desk.pumps == p)),
      λ t o below. subst IsEndedWell (sym (each.lines t o (omega arith))) (ended_if desk.table t (nat_lt t (desk.tags * desk.clients))
          (client_of desk.tags (suc t) % desk.pumps == p)),
    )
