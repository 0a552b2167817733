-- What became of each ticket that a client posted. Cited by `close`.
use Rattle.std.proofs.Common.{◌≡◌, ◌≢◌, ℕ, zero, suc, ◌+◌, ◌-◌, ◌*◌, ◌%◌, ◌<◌, ◌≤◌, ◌==◌, List, [], ◌∷◌, length, sym, refl, ap, subst, ◌∙◌, arith}
use Rattle.std.proofs.Common.{Bool, true, false, if◌then◌else◌, eq-eqb, ne_eqb, Option, Some, None, slice_get, sum_by}
use mathlib.Core.Logic.{dite}
use native.Mathlib.Decide.{ℕ_discrete}
use Rattle.std.proofs.lemmas.Option.{slice_get_read}
use Rattle.std.proofs.lemmas.List.Sums.{sum_by-append}
use Rattle.atomic_table.specs.Seated.{TableId}
use Rattle.tag_desk.specs.declared.Slip.{Slip}
use Rattle.tag_desk.specs.declared.rule.ClientView.{ClientView}
use Rattle.tag_desk.specs.declared.rule.ClientView.TheVariants.{Waiting, Free, Open}
use Rattle.tag_desk.specs.declared.rule.WorkView.{WorkView}
use Rattle.tag_desk.specs.declared.rule.WorkView.TheVariants.{Idle, Claimed, Finished}
use Rattle.tag_desk.specs.declared.remains.Standing.{Standing}
use Rattle.tag_desk.specs.declared.remains.Standing.TheVariants.{Nothing, Posted, Done, Held}
use Rattle.tag_desk.specs.declared.remains.TagSlip.{TagSlip}
use Rattle.tag_desk.specs.declared.remains.TagTicket.{TagTicket}
use Rattle.tag_desk.specs.Slips.{ticket_in, IsEnd}
use Rattle.tag_desk.specs.Rule.{overlooked}
use Rattle.tag_desk.specs.Seats.{MadeDesk, Customer, ClientLine, WorkLine, IsClientOf, IsPumpOf, IsTagOf, IsNewCustomer, new_line, posting, with_view, looked_lines, overlooking}
use Rattle.tag_desk.specs.Seats.{ended_in, finished_in, ended_ticket, finished_ticket}
use Rattle.tag_desk.specs.Seats.{Server}
use Rattle.tag_desk.specs.Left.{HasEachClientOf, HasEachPumpOf, client_number, pump_number, no_customer, no_server, seat_of, server_of, line_view, view_or}
use Rattle.tag_desk.specs.Left.{client_view, work_line, standing, unclaimed, posted_at, done_at, held_at, joined, left_of}
use Rattle.tag_desk.specs.History.{Deed, posts, reaps, overlooks, CameBy, PostsAt, KeepsTickets, one_of, posted_count, reaped_count, slip_count, ticket_count}
use Rattle.tag_desk.proofs.Seating.{end_named}
use Rattle.tag_desk.proofs.Finding.{found_all}
use Rattle.tag_desk.proofs.Tags.{tag_by_slot, tag_within}
use Rattle.uas_profile.specs.Tags.{client_of, slot_of}
use Rattle.uas_profile.proofs.TagLaws.{slots-below_tags}

-- ---- one tag and one ticket

one_here : (tag n t m : ℕ) → t ≡ tag → one_of tag n t m ≡ (if m == n then 1 else 0)
one_here tag n t m e = ap (λ b. if b then (if m == n then 1 else 0) else 0) (eq-eqb t tag e)

one_else : (tag n t m : ℕ) → t ≢ tag → one_of tag n t m ≡ 0
one_else tag n t m e = ap (λ b. if b then (if m == n then 1 else 0) else 0) (ne_eqb t tag e)

both_if : (a b : Bool) → (if a then (if b then 1 else 0) else 0) ≤ 1
both_if true true = omega arith
both_if true false = omega arith
both_if false b = omega arith

neither_if : (a : Bool) → let none : ℕ = if a then 0 else 0 in none ≡ 0
neither_if true = refl
neither_if false = refl

one_most : (tag n t m : ℕ) → one_of tag n t m ≤ 1
one_most tag n t m = both_if (t == tag) (m == n)

one_other : (tag n t m : ℕ) → m ≢ n → one_of tag n t m ≡ 0
one_other tag n t m e = ap (λ b. if t == tag then (if b then 1 else 0) else 0) (ne_eqb m n e) ∙ neither_if (t == tag)

-- two tags of a client stand at two places
apart : (tags c t tag : ℕ) → 0 < tags → IsTagOf tags c t → IsTagOf tags c tag → t ≢ tag → slot_of tags tag ≢ slot_of tags t
apart tags c t tag some own other differ =
    λ same. differ (let a = tag_by_slot tags c t some own in let b = tag_by_slot tags c tag some other in omega arith)

-- ---- what a client's seat has open

-- one where the ticket is open
abbrev open_count : ℕ → ClientView → ℕ
open_count n Waiting = 0
open_count n (Free m) = 0
open_count n (Open m x looks) = if m == n then 1 else 0

-- what is open is a slip that names its ticket
abbrev IsAsked : ClientView → Type 0
IsAsked Waiting = Unit {0}
IsAsked (Free m) = Unit {0}
IsAsked (Open m x looks) = ticket_in x ≡ m

view_here : (lines : List ClientLine) (k : ℕ) (v : ClientView) → k < length lines → line_view (with_view lines k v) k ≡ v
view_here [] k v within = absurd (omega arith)
view_here (x ∷ xs) zero v within = refl
view_here (x ∷ xs) (suc k) v within = view_here xs k v (omega arith)

view_else : (lines : List ClientLine) (k j : ℕ) (v : ClientView) → j ≢ k → line_view (with_view lines k v) j ≡ line_view lines j
view_else [] k j v differ = refl
view_else (x ∷ xs) zero zero v differ = absurd (differ refl)
view_else (x ∷ xs) zero (suc j) v differ = refl
view_else (x ∷ xs) (suc k) zero v differ = refl
view_else (x ∷ xs) (suc k) (suc j) v differ = view_else xs k j v (λ same. differ (ap suc same))

length_view : (lines : List ClientLine) (k : ℕ) (v : ClientView) → length (with_view lines k v) ≡ length lines
length_view [] k v = refl
length_view (x ∷ xs) zero v = refl
length_view (x ∷ xs) (suc k) v = ap suc (length_view xs k v)

-- a look that gave nothing leaves what is open
open_looked : (n looks : ℕ) (v : ClientView) → open_count n (overlooked looks v) ≡ open_count n v
open_looked n looks Waiting = refl
open_looked n looks (Free m) = refl
open_looked n looks (Open m x old) = refl

asked_looked : (looks : ℕ) (v : ClientView) → IsAsked v → IsAsked (overlooked looks v)
asked_looked looks Waiting asked = asked
asked_looked looks (Free m) asked = asked
asked_looked looks (Open m x old) asked = asked

open_after : (n looks : ℕ) (lines : List ClientLine) (k j : ℕ) → open_count n (line_view (looked_lines looks lines k) j) ≡ open_count n (line_view lines j)
open_after n looks [] k j = refl
open_after n looks (x ∷ xs) zero zero = open_looked n looks x.view
open_after n looks (x ∷ xs) zero (suc j) = refl
open_after n looks (x ∷ xs) (suc k) zero = refl
open_after n looks (x ∷ xs) (suc k) (suc j) = open_after n looks xs k j

asked_after : (looks : ℕ) (lines : List ClientLine) (k j : ℕ) → IsAsked (line_view lines j) → IsAsked (line_view (looked_lines looks lines k) j)
asked_after looks [] k j asked = asked
asked_after looks (x ∷ xs) zero zero asked = asked_looked looks x.view asked
asked_after looks (x ∷ xs) zero (suc j) asked = asked
asked_after looks (x ∷ xs) (suc k) zero asked = asked
asked_after looks (x ∷ xs) (suc k) (suc j) asked = asked_after looks xs k j asked

length_looked : (looks : ℕ) (lines : List ClientLine) (k : ℕ) → length (looked_lines looks lines k) ≡ length lines
length_looked looks [] k = refl
length_looked looks (x ∷ xs) zero = refl
length_looked looks (x ∷ xs) (suc k) = ap suc (length_looked looks xs k)

-- a ticket that wasn't open is, and one more is posted
sum_more : (posted reaped was one d now : ℕ) → posted ≡ reaped + was → was ≡ 0 → one ≡ d → now ≡ d → one + posted ≡ reaped + now
sum_more posted reaped was one d now had none new is = omega arith

-- a ticket that was open isn't, and one more is looked up
sum_gone : (posted reaped was one d now : ℕ) → posted ≡ reaped + was → was ≡ d → one ≡ d → now ≡ 0 → posted ≡ one + reaped + now
sum_gone posted reaped was one d now had open_now new none = omega arith

-- ---- a client's deeds

-- what a seat's deeds left: of each ticket that was posted and not looked up the seat has it open
record Known (tags c : ℕ) (deeds : List Deed) (seat : Customer) : Type 0 where
  client : seat.client ≡ c
  number : seat.tags ≡ tags
  count : length seat.lines ≡ tags
  each : (tag n : ℕ) → IsTagOf tags c tag
      → posted_count tag n deeds ≡ reaped_count tag n deeds + open_count n (line_view seat.lines (slot_of tags tag))
  asked : (k : ℕ) → k < tags → IsAsked (line_view seat.lines k)
  later : (tag n : ℕ) → seat.least_ticket ≤ n → posted_count tag n deeds ≡ 0
  once : (tag n : ℕ) → posted_count tag n deeds ≤ 1

new_view : (table : TableId) (tags c : ℕ) (seat : Customer) (k : ℕ) → IsNewCustomer table tags c seat → k < tags → line_view seat.lines k ≡ Free 0
new_view table tags c seat k new within =
    let line : ClientLine = new_line table (tags * c + k) in
    ap view_or (slice_get_read seat.lines tags k line (sym new.count) within (sym (new.lines k line within)))

known_new : (table : TableId) (tags c : ℕ) (seat : Customer) → 0 < tags → IsNewCustomer table tags c seat → Known tags c [] seat
known_new table tags c seat some new = record {
  client = new.client;
  number = new.tags;
  count = new.count;
  each =
      λ tag n own.
      let none : open_count n (line_view seat.lines (slot_of tags tag)) ≡ 0 =
      ap (open_count n) (new_view table tags c seat (slot_of tags tag) new (slots-below_tags tags tag some)) in
      omega arith;
  asked = λ k within. subst IsAsked (sym (new_view table tags c seat k new within)) tt;
  later = λ tag n least. refl;
  once = λ tag n. omega arith;
}

known_posted : (tags c : ℕ) (before : List Deed) (old seat : Customer) (t : ℕ) (x : Slip) → 0 < tags → Known tags c before old → PostsAt old seat t x
    → Known tags c (posts t x ∷ before) (posting old t (ticket_in x) x)
known_posted tags c before old seat t x some was post =
    let k : ℕ = slot_of tags t in
    let m : ℕ = ticket_in x in
    let low : k < tags = slots-below_tags tags t some in
    let deep : k < length old.lines = let e = was.count in omega arith in
    let at : slot_of old.tags t ≡ k = ap (λ n. slot_of n t) was.number in
    let own : IsTagOf tags c t = subst (λ (p : ℕ × ℕ). IsTagOf p.0 p.1 t) (λ i. (was.number i, was.client i)) post.own in
    subst (λ j. Known tags c (posts t x ∷ before) (record old { least_ticket = m + 1; lines = with_view old.lines j (Open m x 0) })) (sym at) record {
      client = was.client;
      number = was.number;
      count = length_view old.lines k (Open m x 0) ∙ was.count;
      each =
          λ tag n of.
          let j : ℕ = slot_of tags tag in
          let had = was.each tag n of in
          dite (ℕ_discrete t tag)
          (λ (e : t ≡ tag).
          let place : k ≡ j = ap (slot_of tags) e in
          let now : open_count n (line_view (with_view old.lines k (Open m x 0)) j) ≡ (if m == n then 1 else 0) =
          ap (open_count n) (ap (line_view (with_view old.lines k (Open m x 0))) (sym place) ∙ view_here old.lines k (Open m x 0) deep) in
          let none : open_count n (line_view old.lines j) ≡ 0 =
          ap (open_count n) (ap (line_view old.lines) (sym place ∙ sym at) ∙ ap view_or post.free.1 ∙ post.free.2.1) in
          let one = one_here tag n t m e in
          sum_more _ _ _ _ _ _ had none one now)
          (λ (e : t ≢ tag).
          let same : open_count n (line_view (with_view old.lines k (Open m x 0)) j) ≡ open_count n (line_view old.lines j) =
          ap (open_count n) (view_else old.lines k j (Open m x 0) (apart tags c t tag some own of e)) in
          let none = one_else tag n t m e in
          omega arith);
      asked =
          λ j within.
          dite (ℕ_discrete j k)
          (λ (e : j ≡ k). subst IsAsked (sym (ap (line_view (with_view old.lines k (Open m x 0))) e ∙ view_here old.lines k (Open m x 0) deep)) refl)
          (λ (e : j ≢ k). subst IsAsked (sym (view_else old.lines k j (Open m x 0) e)) (was.asked j within));
      later =
          λ tag n least.
          let none : one_of tag n t m ≡ 0 = one_other tag n t m (λ (e : m ≡ n). absurd (omega arith)) in
          let rest : posted_count tag n before ≡ 0 = was.later tag n (let l = post.later in omega arith) in
          omega arith;
      once =
          λ tag n.
          let most = one_most tag n t m in
          dite (ℕ_discrete m n)
          (λ (e : m ≡ n). let rest : posted_count tag n before ≡ 0 = was.later tag n (let l = post.later in omega arith) in omega arith)
          (λ (e : m ≢ n). let none = one_other tag n t m e in let rest = was.once tag n in omega arith);
    }

known_reaped : (tags c : ℕ) (before : List Deed) (old : Customer) (t m looks : ℕ) (x y : Slip) (line : ClientLine) → 0 < tags → Known tags c before old
    → IsTagOf tags c t → slice_get old.lines (slot_of old.tags t) ≡ Some line → line.view ≡ Open m x looks → IsEnd t m y
    → Known tags c (reaps t y ∷ before) (record old { lines = with_view old.lines (slot_of old.tags t) (Free (m + 1)) })
known_reaped tags c before old t m looks x y line some was own there view ends =
    let k : ℕ = slot_of tags t in
    let low : k < tags = slots-below_tags tags t some in
    let deep : k < length old.lines = let e = was.count in omega arith in
    let at : slot_of old.tags t ≡ k = ap (λ n. slot_of n t) was.number in
    subst (λ j. Known tags c (reaps t y ∷ before) (record old { lines = with_view old.lines j (Free (m + 1)) })) (sym at) record {
      client = was.client;
      number = was.number;
      count = length_view old.lines k (Free (m + 1)) ∙ was.count;
      each =
          λ tag n of.
          let j : ℕ = slot_of tags tag in
          let had = was.each tag n of in
          dite (ℕ_discrete t tag)
          (λ (e : t ≡ tag).
          let place : k ≡ j = ap (slot_of tags) e in
          let now : open_count n (line_view (with_view old.lines k (Free (m + 1))) j) ≡ 0 =
          ap (open_count n) (ap (line_view (with_view old.lines k (Free (m + 1)))) (sym place) ∙ view_here old.lines k (Free (m + 1)) deep) in
          let was_open : open_count n (line_view old.lines j) ≡ (if m == n then 1 else 0) =
          ap (open_count n) (ap (line_view old.lines) (sym place ∙ sym at) ∙ ap view_or there ∙ view) in
          let one : one_of tag n t (ticket_in y) ≡ (if m == n then 1 else 0) =
          one_here tag n t (ticket_in y) e ∙ ap (λ i. if i == n then 1 else 0) (end_named t m y ends) in
          sum_gone _ _ _ _ _ _ had was_open one now)
          (λ (e : t ≢ tag).
          let same : open_count n (line_view (with_view old.lines k (Free (m + 1))) j) ≡ open_count n (line_view old.lines j) =
          ap (open_count n) (view_else old.lines k j (Free (m + 1)) (apart tags c t tag some own of e)) in
          let none = one_else tag n t (ticket_in y) e in
          omega arith);
      asked =
          λ j within.
          dite (ℕ_discrete j k)
          (λ (e : j ≡ k). subst IsAsked (sym (ap (line_view (with_view old.lines k (Free (m + 1)))) e ∙ view_here old.lines k (Free (m + 1)) deep)) tt)
          (λ (e : j ≢ k). subst IsAsked (sym (view_else old.lines k j (Free (m + 1)) e)) (was.asked j within));
      later = λ tag n least. was.later tag n least;
      once = λ tag n. was.once tag n;
    }

known_overlooked : (tags c : ℕ) (before : List Deed) (old : Customer) (t : ℕ) → Known tags c before old
    → Known tags c (overlooks t ∷ before) (overlooking 1 old t)
known_overlooked tags c before old t was =
    let k : ℕ = slot_of old.tags t in
    record {
      client = was.client;
      number = was.number;
      count = length_looked 1 old.lines k ∙ was.count;
      each =
          λ tag n of.
          was.each tag n of ∙ ap (λ i. reaped_count tag n before + i) (sym (open_after n 1 old.lines k (slot_of tags tag)));
      asked = λ j within. asked_after 1 old.lines k j (was.asked j within);
      later = λ tag n least. was.later tag n least;
      once = λ tag n. was.once tag n;
    }

known : (table : TableId) (tags c : ℕ) (deeds : List Deed) (seat : Customer) → 0 < tags → CameBy table tags c deeds seat → Known tags c deeds seat
known table tags c [] seat some came = known_new table tags c seat some came
known table tags c (posts t x ∷ before) seat some came =
    subst (Known tags c (posts t x ∷ before)) (sym came.2.is)
    (known_posted tags c before came.0 seat t x some (known table tags c before came.0 some came.1) came.2)
known table tags c (reaps t y ∷ before) seat some came =
    let reap = came.3 in
    subst (Known tags c (reaps t y ∷ before)) (sym reap.6)
    (known_reaped tags c before came.0 t reap.1 reap.4.0 reap.2 y reap.0 some (known table tags c before came.0 some came.1) came.2 reap.3 reap.4.1 reap.5)
known table tags c (overlooks t ∷ before) seat some came =
    subst (Known tags c (overlooks t ∷ before)) (sym came.3) (known_overlooked tags c before came.0 t (known table tags c before came.0 some came.1))

-- ---- the three lists

-- of a row of lists only the one at t counts
joined_none : {A : Type 0} (w : A → ℕ) (f : ℕ → List A) (n t : ℕ) → ((i : ℕ) → i ≢ t → sum_by w (f i) ≡ 0) → n ≤ t → sum_by w (joined f n) ≡ 0
unfolding joined
joined_none w f zero t none short = refl
joined_none w f (suc n) t none short =
    let e = sum_by-append w (joined f n) (f n) in
    let rest = joined_none w f n t none (omega arith) in
    let last = none n (λ (same : n ≡ t). absurd (omega arith)) in
    omega arith

joined_one : {A : Type 0} (w : A → ℕ) (f : ℕ → List A) (n t : ℕ) → ((i : ℕ) → i ≢ t → sum_by w (f i) ≡ 0) → t < n
    → sum_by w (joined f n) ≡ sum_by w (f t)
unfolding joined
joined_one w f zero t none within = absurd (omega arith)
joined_one w f (suc n) t none within =
    let e = sum_by-append w (joined f n) (f n) in
    dite (ℕ_discrete n t)
    (λ (same : n ≡ t).
    let rest = joined_none w f n t none (omega arith) in
    let here : sum_by w (f n) ≡ sum_by w (f t) = ap (λ i. sum_by w (f i)) same in
    omega arith)
    (λ (differ : n ≢ t).
    let rest = joined_one w f n t none (let d = differ in omega arith) in
    let last = none n differ in
    omega arith)

posted_else : (tag n i : ℕ) (s : Standing) → i ≢ tag → slip_count tag n (posted_at i s) ≡ 0
posted_else tag n i Nothing e = refl
posted_else tag n i (Posted x) e = let one = one_else tag n i (ticket_in x) e in omega arith
posted_else tag n i (Done y) e = refl
posted_else tag n i (Held m) e = refl

done_else : (tag n i : ℕ) (s : Standing) → i ≢ tag → slip_count tag n (done_at i s) ≡ 0
done_else tag n i Nothing e = refl
done_else tag n i (Posted x) e = refl
done_else tag n i (Done y) e = let one = one_else tag n i (ticket_in y) e in omega arith
done_else tag n i (Held m) e = refl

held_else : (tag n i : ℕ) (s : Standing) → i ≢ tag → ticket_count tag n (held_at i s) ≡ 0
held_else tag n i Nothing e = refl
held_else tag n i (Posted x) e = refl
held_else tag n i (Done y) e = refl
held_else tag n i (Held m) e = let one = one_else tag n i m e in omega arith

-- one where the ticket stands so
abbrev standing_count : ℕ → Standing → ℕ
standing_count n Nothing = 0
standing_count n (Posted x) = if ticket_in x == n then 1 else 0
standing_count n (Done y) = if ticket_in y == n then 1 else 0
standing_count n (Held m) = if m == n then 1 else 0

in_one : (tag n : ℕ) (s : Standing)
    → slip_count tag n (posted_at tag s) + slip_count tag n (done_at tag s) + ticket_count tag n (held_at tag s) ≡ standing_count n s
in_one tag n Nothing = refl
in_one tag n (Posted x) = let one = one_here tag n tag (ticket_in x) refl in omega arith
in_one tag n (Done y) = let one = one_here tag n tag (ticket_in y) refl in omega arith
in_one tag n (Held m) = let one = one_here tag n tag m refl in omega arith

unclaimed_count : (n m : ℕ) (x : Slip) (w : WorkView) → ticket_in x ≡ m → ended_in w ≡ finished_in w
    → standing_count n (unclaimed m x w) ≡ (if m == n then 1 else 0)
unclaimed_count n m x (Idle missed) asked ended = ap (λ i. if i == n then 1 else 0) asked
unclaimed_count n m x (Claimed k) asked ended = refl
unclaimed_count n m x (Finished k y missed) asked ended =
    dite (ℕ_discrete k m)
    (λ (e : k ≡ m). ap (λ b. standing_count n (if b then Done y else Posted x)) (eq-eqb k m e) ∙ ap (λ i. if i == n then 1 else 0) (ended ∙ e))
    (λ (e : k ≢ m). ap (λ b. standing_count n (if b then Done y else Posted x)) (ne_eqb k m e) ∙ ap (λ i. if i == n then 1 else 0) asked)

-- what stands at a tag is what its client has open
stands : (n : ℕ) (v : ClientView) (line : Option WorkLine) → IsAsked v → ended_ticket line ≡ finished_ticket line
    → standing_count n (standing v line) ≡ open_count n v
stands n Waiting line asked ended = refl
stands n (Free m) line asked ended = refl
stands n (Open m x looks) None asked ended = refl
stands n (Open m x looks) (Some line) asked ended = unclaimed_count n m x line.view asked ended

-- what is left of a tag at place t is what stands there
left_at : (at : ℕ → Standing) (n tag t ticket : ℕ) → tag ≡ t + 1 → t < n
    → slip_count tag ticket (joined (λ i. posted_at (i + 1) (at i)) n) + slip_count tag ticket (joined (λ i. done_at (i + 1) (at i)) n)
    + ticket_count tag ticket (joined (λ i. held_at (i + 1) (at i)) n) ≡ standing_count ticket (at t)
left_at at n tag t ticket named within =
    let other : (i : ℕ) → i ≢ t → i + 1 ≢ tag = λ i differ same. differ (omega arith) in
    let slips = λ (one : TagSlip). one_of tag ticket one.tag (ticket_in one.slip) in
    let tickets = λ (one : TagTicket). one_of tag ticket one.tag one.ticket in
    let p = joined_one slips (λ i. posted_at (i + 1) (at i)) n t (λ i differ. posted_else tag ticket (i + 1) (at i) (other i differ)) within in
    let d = joined_one slips (λ i. done_at (i + 1) (at i)) n t (λ i differ. done_else tag ticket (i + 1) (at i) (other i differ)) within in
    let h = joined_one tickets (λ i. held_at (i + 1) (at i)) n t (λ i differ. held_else tag ticket (i + 1) (at i) (other i differ)) within in
    (λ i. p i + d i + h i)
    ∙ ap (λ j. slip_count tag ticket (posted_at j (at t)) + slip_count tag ticket (done_at j (at t)) + ticket_count tag ticket (held_at j (at t))) (sym named)
    ∙ in_one tag ticket (at t)

pub keeps : (desk : MadeDesk) (clients : List Customer) (pumps : List Server) → 0 < desk.pumps → 0 < desk.tags → HasEachClientOf desk clients → HasEachPumpOf desk pumps
    → (c : ℕ) → c < desk.clients → KeepsTickets desk.table (seat_of clients c) (left_of desk clients pumps)
keeps desk clients pumps some some_tags customers servers c below =
    let seat : Customer = seat_of clients c in
    let found = found_all client_number (IsClientOf desk) clients c no_customer customers.own (customers.there c below) in
    let number : seat.client ≡ c = found.1 in
    let same : seat.tags ≡ desk.tags = found.0.2 in
    let many : 0 < seat.tags = omega arith in
    record {
      once = λ deeds came tag ticket own. (known desk.table seat.tags seat.client deeds seat many came).once tag ticket;
      kept =
          λ deeds came tag ticket own.
          let was = known desk.table seat.tags seat.client deeds seat many came in
          let t : ℕ = tag - 1 in
          let named : tag ≡ t + 1 = let low = own.0 in omega arith in
          let is : suc t ≡ tag = omega arith in
          let its : IsTagOf desk.tags c tag = subst (λ (p : ℕ × ℕ). IsTagOf p.0 p.1 tag) (λ i. (same i, number i)) own in
          let whose : client_of desk.tags (suc t) ≡ c = ap (client_of desk.tags) is ∙ its.1 in
          let which : slot_of desk.tags (suc t) ≡ slot_of seat.tags tag = λ i. slot_of (sym same i) (is i) in
          let within : t < desk.tags * desk.clients = omega (arith, tag_within desk.tags c desk.clients tag some_tags its below) in
          let at : ℕ → Standing = λ i. standing (client_view desk.tags clients i) (work_line desk pumps i) in
          let q : ℕ = client_of desk.tags (suc t) % desk.pumps in
          let server : IsPumpOf desk (server_of pumps q) = (found_all pump_number (IsPumpOf desk) pumps q no_server servers.own (servers.there q (omega arith))).0 in
          let ended : ended_ticket (work_line desk pumps t) ≡ finished_ticket (work_line desk pumps t) =
          server.2 t None (let wide = server.0 in omega arith) in
          let view : client_view desk.tags clients t ≡ line_view seat.lines (slot_of seat.tags tag) =
          λ i. line_view (seat_of clients (whose i)).lines (which i) in
          let asked : IsAsked (client_view desk.tags clients t) =
          subst IsAsked (sym view) (was.asked (slot_of seat.tags tag) (slots-below_tags seat.tags tag many)) in
          was.each tag ticket own
          ∙ ap (λ i. reaped_count tag ticket deeds + i)
          (sym (left_at at (desk.tags * desk.clients) tag t ticket named within
          ∙ stands ticket (client_view desk.tags clients t) (work_line desk pumps t) asked ended ∙ ap (open_count ticket) view));
    }
