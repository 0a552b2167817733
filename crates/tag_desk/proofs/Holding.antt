-- What one seat of one tag knows and holds, before and after its steps.
use Rattle.std.proofs.Common.{◌≡◌, ◌≢◌, ℕ, ◌+◌, ◌*◌, ◌/◌, ◌==◌, eq-eqb, ne_eqb, List, [], ◌∷◌, sym, refl, ap, subst, ◌∙◌, arith, Option, Some, None}
use Rattle.std.proofs.Common.{MatchBool, Bool, true, false}
use mathlib.Core.Option as maybe
use Rattle.atomic_table.specs.Table.{rest, step}
use Rattle.tag_desk.specs.declared.Slip.{Slip}
use Rattle.tag_desk.specs.declared.rule.ClientView.{ClientView}
use Rattle.tag_desk.specs.declared.rule.ClientView.TheVariants.{Waiting, Free, Open}
use Rattle.tag_desk.specs.declared.rule.View.{View}
use Rattle.tag_desk.specs.declared.rule.View.TheVariants.{Client}
use Rattle.tag_desk.specs.declared.Slip.TheVariants.{Ask, AskTask, Answer, Refused, Unserved}
use Rattle.tag_desk.specs.Slips.{IsAsk, IsCommand, IsEnd, IsTask}
use Rattle.tag_desk.specs.Rule.{Sat, Looks, index_in, client_in, overlooked}
use Rattle.uas_profile.specs.Tags.{slot_of, task_slot}
use Rattle.tag_desk.specs.Seats.{IsFree, IsDealt, client_sat, open_ticket}

opened : (v : ClientView) (o : Option ℕ) (n : ℕ) → o ≡ open_ticket v → o ≡ Some n → (x : Slip) × (looks : ℕ) × (v ≡ Open n x looks)
opened Waiting o n is was = absurd (let e : None ≡ Some n = sym is ∙ was in cc)
opened (Free m) o n is was = absurd (let e : None ≡ Some n = sym is ∙ was in cc)
opened (Open m x looks) o n is was = (x, looks, ap (λ k. Open k x looks) (let e : Some m ≡ Some n = sym is ∙ was in cc))

-- a line with a ticket open holds no slot
pub open_sat : (me : Sat) (o : Option ℕ) (n t : ℕ) → me ≡ client_sat (index_in me.0) (client_in me.0) → index_in me.0 ≡ t
    → o ≡ open_ticket (client_in me.0) → o ≡ Some n
    → (x : Slip) × (looks : ℕ) × (client_in me.0 ≡ Open n x looks) × (me ≡ (Client t (Open n x looks), []))
open_sat me o n t is index opens was =
    let found = opened (client_in me.0) o n opens was in (found.0, found.1, found.2, is ∙ (λ i. client_sat (index i) (found.2 i)))

pub won : (A B : Type 0) (found old : ℕ) → found ≡ old → MatchBool (found == old) A B → A
won A B found old same told = subst (λ b. MatchBool b A B) (eq-eqb found old same) told

pub lost : (A B : Type 0) (found old : ℕ) → found ≢ old → MatchBool (found == old) A B → B
lost A B found old apart told = subst (λ b. MatchBool b A B) (ne_eqb found old apart) told

abbrev front : List (ℕ × Option Slip) → Option Slip
front [] = None
front (x ∷ xs) = x.1

-- what was read is what the slot had
pub read : (slots : List (ℕ × Option Slip)) (t u : ℕ) (o r : Option Slip) → slots ≡ (t, o) ∷ [] → slots ≡ (u, r) ∷ rest slots → r ≡ o
read slots t u o r had is = ap front (sym is ∙ had)

-- the client's seat holds an end of its ticket, and knows the tag as free
abbrev pub Ended : ℕ → ℕ → Sat → Type 0
Ended t n w = (y : Slip) × IsEnd (t + 1) n y × (w ≡ (Client t (Free (n + 1)), (t, Some y) ∷ []))

pub looked : (slots t n found : ℕ) (me w : Sat) → found ≡ 4 * n + 3 → Looks (step slots t (4 * n + 3) (4 * n) maybe.none) me found w → Ended t n w
looked slots t n found me w is told =
    let q : (4 * n + 3) / 4 ≡ n = omega arith in
    subst (λ k. Ended t k w) q (won (Ended t ((4 * n + 3) / 4) w) (w ≡ (Client t (overlooked 1 (client_in me.0)), me.1)) found (4 * n + 3) is told)

-- the ask of a tag is a command or a task management, by the tag's slot
pub command_asked : (tags tag n : ℕ) → slot_of tags tag ≢ task_slot tags → (x : Slip) → IsAsk tags tag n x → IsCommand n x
command_asked tags tag n other (Ask m command) ask = ask.0
command_asked tags tag n other (AskTask m task) ask = absurd (other ask.1)
command_asked tags tag n other (Answer reply) ask = absurd ask
command_asked tags tag n other (Refused m fault buffer) ask = absurd ask
command_asked tags tag n other (Unserved m buffer) ask = absurd ask

pub task_asked : (tags tag n : ℕ) → slot_of tags tag ≡ task_slot tags → (x : Slip) → IsAsk tags tag n x → IsTask n x
task_asked tags tag n here (Ask m command) ask = absurd (ask.1 here)
task_asked tags tag n here (AskTask m task) ask = ask.0
task_asked tags tag n here (Answer reply) ask = absurd ask
task_asked tags tag n here (Refused m fault buffer) ask = absurd ask
task_asked tags tag n here (Unserved m buffer) ask = absurd ask

-- what is told where a test is false, and where it is true
pub told_false : (A B : Type 0) (b : Bool) → b ≡ false → MatchBool b A B → B
told_false A B b is told = subst (λ b. MatchBool b A B) is told

pub told_true : (A B : Type 0) (b : Bool) → b ≡ true → MatchBool b A B → A
told_true A B b is told = subst (λ b. MatchBool b A B) is told

-- a seat that holds one slot with a value
abbrev pub Holds : ℕ → List (ℕ × Option Slip) → Type 0
Holds t slots = (o : Option Slip) × (slots ≡ (t, o) ∷ rest slots)

pub holds_one : (me : Sat) (v : View) (t : ℕ) (o : Option Slip) → me ≡ (v, (t, o) ∷ []) → Holds t me.1
holds_one me v t o is = subst (λ (m : Sat). Holds t m.1) (sym is) (o, refl)

-- a line with no ticket open knows its tag as free
pub free_without : (v : ClientView) (o : Option ℕ) → o ≡ open_ticket v → IsDealt v → o ≡ None → IsFree v
free_without Waiting o is dealt none = absurd dealt
free_without (Free n) o is dealt none = (n, refl)
free_without (Open n x looks) o is dealt none = absurd (let e : Some n ≡ None = sym is ∙ none in cc)

pub none_when_free : (v : ClientView) (o : Option ℕ) → o ≡ open_ticket v → IsFree v → o ≡ None
none_when_free v o is free = is ∙ ap open_ticket free.1

-- a look at a line with no ticket open counts nothing
pub uncounted : (v : ClientView) (o : Option ℕ) → o ≡ open_ticket v → o ≡ None → v ≡ overlooked 1 v
uncounted Waiting o is none = refl
uncounted (Free n) o is none = refl
uncounted (Open n x looks) o is none = absurd (let e : Some n ≡ None = sym is ∙ none in cc)
