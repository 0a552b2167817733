-- Each step on a word keeps the rule.
use Rattle.std.proofs.Common.{◌≡◌, ◌≢◌, ℕ, ◌+◌, ◌*◌, ◌/◌, ◌<◌, ◌≤◌, ◌==◌, eq-eqb, ne_eqb, [], ◌∷◌, slice_index, sym, refl, ap, subst, ◌∙◌, inl, inr}
use Rattle.std.proofs.Common.{arith, Option, Some, None, MatchBool}
use mathlib.Core.Option.{some, some-injective}
use mathlib.Core.Option as maybe
use prog.Atomic.{either}
use lib.ListN.{get_elem?}
use Rattle.atomic_table.specs.Table.{State, Step, Act, keeps, takes, gives, step, stepped, carried_after, Valid, Allows}
use Rattle.atomic_table.proofs.Lists.{exchanged}
use Rattle.tag_desk.specs.declared.Slip.{Slip}
use Rattle.tag_desk.specs.declared.rule.ClientView.{ClientView}
use Rattle.tag_desk.specs.declared.rule.ClientView.TheVariants.{Waiting, Free, Open}
use Rattle.tag_desk.specs.declared.rule.WorkView.{WorkView}
use Rattle.tag_desk.specs.declared.rule.WorkView.TheVariants.{Idle, Claimed, Finished}
use Rattle.tag_desk.specs.declared.rule.View.{View}
use Rattle.tag_desk.specs.declared.rule.View.TheVariants.{Client, Work, Both, Spent}
use Rattle.tag_desk.specs.Slips.{IsAsk, IsEnd}
use Rattle.tag_desk.specs.declared.rule.TagCounts.{TagCounts}
use Rattle.tag_desk.specs.Rule.{Stage, undealt, free, posted, taken, done, ClientKnows, WorkKnows, IsAt, IsDesk, Place, Sat, Lifts, Posts, TakesOne}
use Rattle.tag_desk.specs.Rule.{Books, Knows, IsAbove, noting, Finishes, Looks, Settles, IsSettled, posted_word, done_word}
use Rattle.tag_desk.specs.Seats.{IsHome}
use Rattle.tag_desk.proofs.Moves.{moved, noted_only, restaged, updated_here}

-- ---- what stays known of the other seat

work_at_free : (w : WorkView) (stage : Stage) (m : ℕ) (x : Slip) → (n : ℕ) × (stage ≡ free n) × (n ≤ m) → WorkKnows w stage → WorkKnows w (posted m x)
work_at_free (Idle missed) stage m x is h = tt
work_at_free (Claimed k) stage m x is h = absurd (let e : free is.0 ≡ taken k = sym is.1 ∙ h in cc)
work_at_free (Finished k y missed) stage m x is h =
    let late = is.2 in
    let early : k < is.0 = subst (WorkKnows (Finished k y missed)) is.1 h in
    omega arith

work_at_done : (w : WorkView) (stage : Stage) (n : ℕ) (y : Slip) → stage ≡ done n y → WorkKnows w stage → WorkKnows w (free (n + 1))
work_at_done (Idle missed) stage n y is h = tt
work_at_done (Claimed k) stage n y is h = absurd (let e : done n y ≡ taken k = sym is ∙ h in cc)
work_at_done (Finished k z missed) stage n y is h =
    let same = (subst (WorkKnows (Finished k z missed)) is h).0 in omega arith

client_at_posted : (v : ClientView) (stage : Stage) (n : ℕ) (x : Slip) → stage ≡ posted n x → ClientKnows v stage → ClientKnows v (taken n)
client_at_posted Waiting stage n x is h = absurd (let e : posted n x ≡ undealt = sym is ∙ h in cc)
client_at_posted (Free k) stage n x is h = absurd (let e : posted n x ≡ free k = sym is ∙ h in cc)
client_at_posted (Open k y looks) stage n x is h = (subst (ClientKnows (Open k y looks)) is h).0

client_at_taken : (v : ClientView) (stage : Stage) (n : ℕ) (y : Slip) → stage ≡ taken n → ClientKnows v stage → ClientKnows v (done n y)
client_at_taken Waiting stage n y is h = absurd (let e : taken n ≡ undealt = sym is ∙ h in cc)
client_at_taken (Free k) stage n y is h = absurd (let e : taken n ≡ free k = sym is ∙ h in cc)
client_at_taken (Open k z looks) stage n y is h = subst (ClientKnows (Open k z looks)) is h

-- a pump that has no claim finished what is before the ticket that is posted
above_at_posted : (w : WorkView) (stage : Stage) (n : ℕ) (x : Slip) → stage ≡ posted n x → WorkKnows w stage → IsAbove w n
above_at_posted (Idle missed) stage n x is h = tt
above_at_posted (Claimed k) stage n x is h = absurd (let e : posted n x ≡ taken k = sym is ∙ h in cc)
above_at_posted (Finished k y missed) stage n x is h = subst (WorkKnows (Finished k y missed)) is h

-- a note of a ticket that wasn't posted leaves what is known
knows_noting : (n : ℕ) (w : WorkView) (stage : Stage) → WorkKnows w stage → WorkKnows (noting n w) stage
knows_noting n (Idle missed) stage h = h
knows_noting n (Claimed k) stage h = h
knows_noting n (Finished k y missed) stage h = h

-- ---- what a word tells of the stage

IsPosted : ℕ → ℕ → ℕ → Place → Stage → Type 0
IsPosted tags t n slot stage = (x : Slip) × (stage ≡ posted n x) × (slot ≡ some (some (Some x))) × IsAsk tags (t + 1) n x

IsDone : ℕ → ℕ → Place → Stage → Type 0
IsDone t n slot stage = (y : Slip) × (stage ≡ done n y) × (slot ≡ some (some (Some y))) × IsEnd (t + 1) n y

posted_by_word : (tags t word n : ℕ) (slot : Place) (stage : Stage) → word ≡ posted_word n → IsAt tags t word slot stage → IsPosted tags t n slot stage
unfolding IsPosted
posted_by_word tags t word n slot undealt is at = absurd (omega arith)
posted_by_word tags t word n slot (free m) is at = absurd (omega arith)
posted_by_word tags t word n slot (posted m x) is at =
    let e : m ≡ n = omega arith in (x, ap (λ k. posted k x) e, at.1, subst (λ k. IsAsk tags (t + 1) k x) e at.2)
posted_by_word tags t word n slot (taken m) is at = absurd (omega arith)
posted_by_word tags t word n slot (done m y) is at = absurd (omega arith)

done_by_word : (tags t word n : ℕ) (slot : Place) (stage : Stage) → word ≡ done_word n → IsAt tags t word slot stage → IsDone t n slot stage
unfolding IsDone
done_by_word tags t word n slot undealt is at = absurd (omega arith)
done_by_word tags t word n slot (free m) is at = absurd (omega arith)
done_by_word tags t word n slot (posted m x) is at = absurd (omega arith)
done_by_word tags t word n slot (taken m) is at = absurd (omega arith)
done_by_word tags t word n slot (done m y) is at =
    let e : m ≡ n = omega arith in (y, ap (λ k. done k y) e, at.1, subst (λ k. IsEnd (t + 1) k y) e at.2)

-- ---- the steps

-- a seat gives its slot back with a slip in it, and the word is written
abbrev Stores : TagCounts → ℕ → ℕ → ℕ → View → ℕ → Slip → (Step (Option Slip) → Sat → ℕ → Sat → Type 0) → Type 0
Stores counts slots t id old word z Told =
    Allows (IsDesk counts) slots id (old, (t, Some z) ∷ []) t (λ _. word) (Told (step slots t word 0 maybe.none) (old, (t, Some z) ∷ []))

-- which is allowed where the books say so once the tag is at its next stage
stored : (counts : TagCounts) (slots t id word : ℕ) (old new : View) (z : Slip) (x : Stage) (Told : Step (Option Slip) → Sat → ℕ → Sat → Type 0) → t < counts.all
    → ((found : ℕ) → Told (step slots t word 0 maybe.none) (old, (t, Some z) ∷ []) found (new, [])) → IsAt counts.each t word (some (some (Some z))) x
    → ((b : Books) → Knows b id old → (t < b.dealt) × Knows (restaged b t x) id new
    × ((k : ℕ) → k ≢ id → (v : ClientView) → b.client t ≡ k → ClientKnows v (b.stage t) → ClientKnows v x)
    × ((k : ℕ) → k ≢ id → (w : WorkView) → b.work t ≡ k → WorkKnows w (b.stage t) → WorkKnows w x))
    → Stores counts slots t id old word z Told
stored counts slots t id word old new z x Told within tells is next s held homes at fits =
    let known = next held.books (held.each_seat id old at) in
    (new, gives, tt, moved counts s held t id word (some (Some z)) x new within known.0 is known.1 known.2 known.3, tells (slice_index s.words t))

pub post_allowed : (counts : TagCounts) (slots t id n last : ℕ) (x : Slip) → t < counts.all → last ≤ n → IsAsk counts.each (t + 1) n x
    → Stores counts slots t id (Client t (Free last)) (4 * n + 1) x Posts
post_allowed counts slots t id n last x within late ask =
    let q : (4 * n + 1) / 4 ≡ n = omega arith in
    let new : View = Client t (Open ((4 * n + 1) / 4) x 0) in
    stored counts slots t id (4 * n + 1) (Client t (Free last)) new x (posted n x) Posts within (λ found. refl) (refl, refl, ask) (λ b know. (
      know.0,
      (know.0, know.1, subst (ClientKnows (Open ((4 * n + 1) / 4) x 0)) (sym (updated_here b.stage t t (posted n x) refl)) (sym q, refl)),
      (λ k other v own _. absurd (other (sym own ∙ know.1))),
      (λ k other w own h. work_at_free w (b.stage t) n x (last, know.2, late) h),
    ))

pub finish_allowed : (counts : TagCounts) (slots t id n : ℕ) (y : Slip) → t < counts.all → IsEnd (t + 1) n y → Stores counts slots t id (Work t (Claimed n)) (4 * n + 3) y Finishes
finish_allowed counts slots t id n y within end =
    let q : (4 * n + 3) / 4 ≡ n = omega arith in
    stored counts slots t id (4 * n + 3) (Work t (Claimed n)) (Work t (Finished ((4 * n + 3) / 4) y [])) y (done n y) Finishes within (λ found. refl)
    (refl, refl, end) (λ b know. (
      know.0,
      (know.0, know.1, subst (WorkKnows (Finished ((4 * n + 3) / 4) y [])) (sym (updated_here b.stage t t (done n y) refl)) (sym q, refl)),
      (λ k other v own h. client_at_taken v (b.stage t) n y know.2 h),
      (λ k other w own _. absurd (other (sym own ∙ know.1))),
    ))

-- what a compare-exchange of a seat may come to
abbrev Comes : TagCounts → State (Option Slip) View → ℕ → ℕ → Sat → (Sat → Type 0) → ℕ → Type 0
Comes counts s t id me told n = (v : View) × (a : Act (Option Slip)) × Valid s.homes me.1 a × IsDesk counts (stepped s t n id me.1 v a)
    × told (v, carried_after me.1 a)

-- a pump's seat takes such a slip of the ticket, where each ask of the tag is such a slip
pub take_allowed : (Such : ℕ → Slip → Type 0) (counts : TagCounts) (slots t id n : ℕ) (w : WorkView) → t < counts.all
    → ((x : Slip) → IsAsk counts.each (t + 1) n x → Such n x)
    → Allows (IsDesk counts) slots id (Work t w, []) t (λ k. either (k == (4 * n + 1)) (4 * n + 2) k) (TakesOne Such (step slots t (4 * n + 1)
    (4 * n + 2) maybe.none) (Work t w, []))
unfolding IsPosted
take_allowed Such counts slots t id n w within such s held homes at fits =
    let me : Sat = (Work t w, []) in
    let noted : Sat = (Work t (noting ((4 * n + 1) / 4) w), []) in
    let found : ℕ = slice_index s.words t in
    let know = held.each_seat id (Work t w) at in
    let q : (4 * n + 1) / 4 ≡ n = omega arith in
    let b = held.books in
    let Won : Sat → Type 0 = λ v. (x : Slip) × Such ((4 * n + 1) / 4) x × IsAbove w ((4 * n + 1) / 4) × (v ≡ (Work t (Claimed ((4 * n + 1) / 4)), (t, Some x) ∷ [])) in
    exchanged found (4 * n + 1) (4 * n + 2) (Comes counts s t id me (TakesOne Such (step slots t (4 * n + 1) (4 * n + 2) maybe.none) me found))
    (λ (hit : found ≡ 4 * n + 1).
    let is : IsPosted counts.each t n (get_elem? s.homes t) (b.stage t) = posted_by_word counts.each t found n (get_elem? s.homes t) (b.stage t) hit (held.each_tag t within) in
    let x : Slip = is.0 in
    let view : View = Work t (Claimed ((4 * n + 1) / 4)) in (
      view,
      takes t (Some x),
      is.2,
      moved counts s held t id (4 * n + 2) maybe.none (taken n) view within know.0
          (refl, refl)
          (know.0, know.1, updated_here b.stage t t (taken n) refl ∙ ap taken (sym q))
          (λ k other v own h. client_at_posted v (b.stage t) n x is.1 h)
          (λ k other v own _. absurd (other (sym own ∙ know.1))),
      subst (λ c. MatchBool c (Won (view, (t, Some x) ∷ [])) ((view, (t, Some x) ∷ []) ≡ noted)) (sym (eq-eqb found (4 * n + 1) hit)) (
        x,
        subst (λ k. Such k x) (sym q) (such x is.3),
        subst (IsAbove w) (sym q) (above_at_posted w (b.stage t) n x is.1 know.2),
        refl,
      ),
    ))
    (λ (miss : found ≢ 4 * n + 1). (
      noted.0,
      keeps,
      tt,
      noted_only counts s t id noted.0 held (know.0, know.1, knows_noting ((4 * n + 1) / 4) w (b.stage t) know.2),
      subst (λ c. MatchBool c (Won noted) (noted ≡ noted)) (sym (ne_eqb found (4 * n + 1) miss)) refl,
    ))

pub look_allowed : (counts : TagCounts) (slots t id n looks : ℕ) (mine : Slip) → t < counts.all
    → Allows (IsDesk counts) slots id (Client t (Open n mine looks), []) t (λ k. either (k == (4 * n + 3)) (4 * n) k) (Looks (step slots t (4 * n + 3)
    (4 * n) maybe.none) (Client t (Open n mine looks), []))
unfolding IsDone
look_allowed counts slots t id n looks mine within s held homes at fits =
    let me : Sat = (Client t (Open n mine looks), []) in
    let noted : Sat = (Client t (Open n mine (looks + 1)), []) in
    let found : ℕ = slice_index s.words t in
    let know = held.each_seat id (Client t (Open n mine looks)) at in
    let q : (4 * n + 3) / 4 ≡ n = omega arith in
    let b = held.books in
    let Won : Sat → Type 0 = λ v. (y : Slip) × IsEnd (t + 1) ((4 * n + 3) / 4) y × (v ≡ (Client t (Free ((4 * n + 3) / 4 + 1)), (t, Some y) ∷ [])) in
    exchanged found (4 * n + 3) (4 * n) (Comes counts s t id me (Looks (step slots t (4 * n + 3) (4 * n) maybe.none) me found))
    (λ (hit : found ≡ 4 * n + 3).
    let is : IsDone t n (get_elem? s.homes t) (b.stage t) = done_by_word counts.each t found n (get_elem? s.homes t) (b.stage t) hit (held.each_tag t within) in
    let y : Slip = is.0 in
    let view : View = Client t (Free ((4 * n + 3) / 4 + 1)) in (
      view,
      takes t (Some y),
      is.2,
      moved counts s held t id (4 * n) maybe.none (free (n + 1)) view within know.0
          (omega arith, refl)
          (know.0, know.1, updated_here b.stage t t (free (n + 1)) refl ∙ ap (λ k. free (k + 1)) (sym q))
          (λ k other v own _. absurd (other (sym own ∙ know.1)))
          (λ k other w own h. work_at_done w (b.stage t) n y is.1 h),
      subst (λ c. MatchBool c (Won (view, (t, Some y) ∷ [])) ((view, (t, Some y) ∷ []) ≡ noted)) (sym (eq-eqb found (4 * n + 3) hit)) (
        y,
        subst (λ k. IsEnd
            (t + 1) k y) (sym q) is.3,
        refl,
      ),
    ))
    (λ (miss : found ≢ 4 * n + 3). (
      noted.0,
      keeps,
      tt,
      noted_only counts s t id noted.0 held (know.0, know.1, know.2),
      subst (λ c. MatchBool c (Won noted) (noted ≡ noted)) (sym (ne_eqb found (4 * n + 3) miss)) refl,
    ))

-- the slot of a tag that is dealt whole
pub lift_allowed : (counts : TagCounts) (slots t id : ℕ) → t < counts.all
    → Allows (IsDesk counts) slots id (Both t Waiting (Idle []), []) t (λ k. k) (Lifts (step slots t 0 0 maybe.none) (Both t Waiting (Idle []), []))
lift_allowed counts slots t id within s held homes at fits =
    let know = held.each_seat id (Both t Waiting (Idle [])) at in
    let b = held.books in
    let is = subst (IsAt counts.each t (slice_index s.words t) (get_elem? s.homes t)) know.3 (held.each_tag t within) in
    let view : View = Both t (Free 0) (Idle []) in
    let none = is.0 in (
      view,
      takes t None,
      is.1,
      moved counts s held t id (slice_index s.words t) maybe.none (free 0) view within know.0
          (omega arith, refl)
          (know.0, know.1, know.2, updated_here b.stage t t (free 0) refl, subst (WorkKnows (Idle [])) (sym (updated_here b.stage t t (free 0) refl)) tt)
          (λ k other v own _. absurd (other (sym own ∙ know.1)))
          (λ k other w own _. absurd (other (sym own ∙ know.2))),
      refl,
    )

-- what is at home where a client has its tag open and its pump has no claim
IsHeld : ℕ → ClientView → WorkView → ℕ → Place → Type 0
IsHeld t v w word slot = (z : Slip) × (slot ≡ some (some (Some z))) × IsSettled v w word z

held_open : (tags t word n looks : ℕ) (x : Slip) (w : WorkView) (slot : Place) (stage : Stage) → IsHome w → ClientKnows (Open n x looks) stage → WorkKnows w stage
    → IsAt tags t word slot stage → IsHeld t (Open n x looks) w word slot
unfolding IsHeld
held_open tags t word n looks x w slot undealt idle client work at = absurd client
held_open tags t word n looks x w slot (free m) idle client work at = absurd client
held_open tags t word n looks x (Idle missed) slot (posted m y) idle client work at = let e = client.0 in (y, at.1, (omega (arith, at.0), client.1))
held_open tags t word n looks x (Claimed k) slot (posted m y) idle client work at = absurd idle
held_open tags t word n looks x (Finished k z missed) slot (posted m y) idle client work at = let e = client.0 in (
  y,
  at.1,
  inl (
    omega (arith, at.0),
    omega
        (arith, work),
    client.1,
  ),
)
held_open tags t word n looks x (Idle missed) slot (taken m) idle client work at = absurd work
held_open tags t word n looks x (Claimed k) slot (taken m) idle client work at = absurd idle
held_open tags t word n looks x (Finished k z missed) slot (taken m) idle client work at = absurd work
held_open tags t word n looks x (Idle missed) slot (done m y) idle client work at = absurd work
held_open tags t word n looks x (Claimed k) slot (done m y) idle client work at = absurd idle
held_open tags t word n looks x (Finished k z missed) slot (done m y) idle client work at = let e = client in (y, at.1, inr (omega (arith, at.0), sym work.0 ∙ client, work.1))

pub settle_allowed : (counts : TagCounts) (slots t id n looks : ℕ) (x : Slip) (w : WorkView) → t < counts.all → IsHome w
    → Allows (IsDesk counts) slots id (Both t (Open n x looks) w, []) t (λ k. 0) (Settles (step slots t 0 0 maybe.none) (Both t (Open n x looks) w, []))
unfolding IsHeld
settle_allowed counts slots t id n looks x w within idle s held homes at fits =
    let know = held.each_seat id (Both t (Open n x looks) w) at in
    let b = held.books in
    let is : IsHeld t (Open n x looks) w (slice_index s.words t) (get_elem? s.homes t) = held_open counts.each t (slice_index s.words t) n looks x w (get_elem? s.homes t)
    (b.stage t) idle know.3 know.4 (held.each_tag t within) in (
      Spent,
      takes t (Some is.0),
      is.1,
      moved counts s held t id 0 maybe.none (free 0) Spent within know.0
          (refl, refl)
          tt
          (λ k other v own _. absurd (other (sym own ∙ know.1)))
          (λ k other v own _. absurd (other (sym own ∙ know.2))),
      (is.0, is.2, refl),
    )
