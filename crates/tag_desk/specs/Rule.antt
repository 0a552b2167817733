-- The rule of the table: for each tag its word, its slot, what its client's seat knows and what its pump's seat knows agree.
use Rattle.std.specs.Prelude.{◌≡◌, ℕ, ◌+◌, ◌-◌, ◌*◌, ◌/◌, ◌<◌, ◌≤◌, ◌==◌, List, [], ◌∷◌, ◌++◌, length, slice_index, Option, Some, None, MatchBool, ◌⊎◌}
use mathlib.Core.Option.{some}
use mathlib.Core.Option as maybe
use lib.ListN.{get_elem?}
use Rattle.atomic_table.specs.Table.{State, Me, Step}
use Rattle.tag_desk.specs.declared.Slip.{Slip}
use Rattle.tag_desk.specs.declared.rule.ClientView.{ClientView}
use Rattle.tag_desk.specs.declared.rule.ClientView.TheVariants.{Waiting, Free, Open}
use Rattle.tag_desk.specs.declared.rule.WorkView.{WorkView}
use Rattle.tag_desk.specs.declared.rule.WorkView.TheVariants.{Idle, Claimed, Finished}
use Rattle.tag_desk.specs.declared.rule.View.{View}
use Rattle.tag_desk.specs.declared.rule.View.TheVariants.{Dealer, Client, Work, Both, Spent}
use Rattle.tag_desk.specs.declared.rule.TagCounts.{TagCounts}
use Rattle.tag_desk.specs.Slips.{IsAsk, IsCommand, IsEnd, IsTask}

-- The word of a tag is 4 x ticket + state: 0 free (with the last ticket, 0 at first), 1 posted, 2 taken, 3 done. Ticket 5 posted is 21.
-- A free tag is told by the least number above all its tickets: by 0 at first, and by 6 after ticket 5
abbrev pub free_word : ℕ → ℕ
free_word next = 4 * (next - 1)

abbrev pub posted_word : ℕ → ℕ
posted_word ticket = 4 * ticket + 1

abbrev pub taken_word : ℕ → ℕ
taken_word ticket = 4 * ticket + 2

abbrev pub done_word : ℕ → ℕ
done_word ticket = 4 * ticket + 3

-- Where a tag is: not dealt yet, free with all its tickets below a number, posted with a slip, taken, or done with a slip
pub data Stage : Type 0 where
  undealt : Stage
  free : ℕ → Stage
  posted : ℕ → Slip → Stage
  taken : ℕ → Stage
  done : ℕ → Slip → Stage

abbrev pub Place : Type 0
Place = maybe.Option (maybe.Option (Option Slip))

-- the word and the slot of tag t + 1 at its stage, of clients of so many tags: the slot is at home with the slip where it is posted or done, and else out
abbrev pub IsAt : ℕ → ℕ → ℕ → Place → Stage → Type 0
IsAt tags t word slot undealt = (word ≡ 0) × (slot ≡ some (some None))
IsAt tags t word slot (free next) = (word ≡ free_word next) × (slot ≡ some maybe.none)
IsAt tags t word slot (posted n x) = (word ≡ posted_word n) × (slot ≡ some (some (Some x))) × IsAsk tags (t + 1) n x
IsAt tags t word slot (taken n) = (word ≡ taken_word n) × (slot ≡ some maybe.none)
IsAt tags t word slot (done n y) = (word ≡ done_word n) × (slot ≡ some (some (Some y))) × IsEnd (t + 1) n y

-- what a client has open stands in the word, and at posted its slip is at home
abbrev pub IsOpen : ℕ → Slip → Stage → Type 0
IsOpen n x undealt = ⊥
IsOpen n x (free m) = ⊥
IsOpen n x (posted m y) = (m ≡ n) × (y ≡ x)
IsOpen n x (taken m) = m ≡ n
IsOpen n x (done m y) = m ≡ n

abbrev pub ClientKnows : ClientView → Stage → Type 0
ClientKnows Waiting stage = stage ≡ undealt
ClientKnows (Free n) stage = stage ≡ free n
ClientKnows (Open n x looks) stage = IsOpen n x stage

-- a pump without the claim: the tag isn't taken, and where it is done, this pump finished it with that slip. What is posted is later than what it finished
abbrev pub IsUntaken : Stage → Type 0
IsUntaken undealt = Unit {0}
IsUntaken (free n) = Unit {0}
IsUntaken (posted n x) = Unit {0}
IsUntaken (taken n) = ⊥
IsUntaken (done n y) = ⊥

abbrev pub IsFinished : ℕ → Slip → Stage → Type 0
IsFinished n y undealt = Unit {0}
IsFinished n y (free next) = n < next
IsFinished n y (posted m x) = n < m
IsFinished n y (taken m) = ⊥
IsFinished n y (done m z) = (m ≡ n) × (z ≡ y)

abbrev pub WorkKnows : WorkView → Stage → Type 0
WorkKnows (Idle missed) stage = IsUntaken stage
WorkKnows (Claimed n) stage = stage ≡ taken n
WorkKnows (Finished n y missed) stage = IsFinished n y stage

-- Where each tag is, which seat is its client's and which its pump's, which seat deals, and how many tags are dealt
pub record Books : Type 0 where
  pub stage : ℕ → Stage
  pub client : ℕ → ℕ
  pub work : ℕ → ℕ
  pub dealer : ℕ
  pub dealt : ℕ

-- what seat k may know
abbrev pub Knows : Books → ℕ → View → Type 0
Knows b k (Dealer from) = (b.dealer ≡ k) × (b.dealt ≡ from)
Knows b k (Client t v) = (t < b.dealt) × (b.client t ≡ k) × ClientKnows v (b.stage t)
Knows b k (Work t w) = (t < b.dealt) × (b.work t ≡ k) × WorkKnows w (b.stage t)
Knows b k (Both t v w) = (t < b.dealt) × (b.client t ≡ k) × (b.work t ≡ k) × ClientKnows v (b.stage t) × WorkKnows w (b.stage t)
Knows b k Spent = Unit {0}

pub record IsDesk (counts : TagCounts) (s : State (Option Slip) View) : Type 0 where
  pub books : Books
  pub width : length s.words ≡ counts.all
  pub depth : length s.homes ≡ counts.all
  pub fresh : (t : ℕ) → books.dealt ≤ t → books.stage t ≡ undealt
  pub each_tag : (t : ℕ) → t < counts.all → IsAt counts.each t (slice_index s.words t) (get_elem? s.homes t) (books.stage t)
  pub each_seat : (k : ℕ) (v : View) → get_elem? s.views k ≡ some v → Knows books k v

abbrev pub dealing : TagCounts → View
dealing counts = Dealer 0

abbrev pub Sat : Type 0
Sat = Me (Option Slip) View

-- the slot is dealt
abbrev pub Lifts : Step (Option Slip) → Sat → ℕ → Sat → Type 0
Lifts s me found w = w ≡ (Both s.word (Free 0) (Idle []), (s.word, None) ∷ [])

-- the seat that gave back a slot with a slip has it on record
abbrev pub after_post : ℕ → ℕ → List (ℕ × Option Slip) → View
after_post t n [] = Spent
after_post t n ((k, None) ∷ slots) = Spent
after_post t n ((k, Some x) ∷ slots) = Client t (Open n x 0)

abbrev pub after_finish : ℕ → ℕ → List (ℕ × Option Slip) → View
after_finish t n [] = Spent
after_finish t n ((k, None) ∷ slots) = Spent
after_finish t n ((k, Some y) ∷ slots) = Work t (Finished n y [])

abbrev pub Posts : Step (Option Slip) → Sat → ℕ → Sat → Type 0
Posts s me found w = w ≡ (after_post s.word (s.first / 4) me.1, [])

abbrev pub Finishes : Step (Option Slip) → Sat → ℕ → Sat → Type 0
Finishes s me found w = w ≡ (after_finish s.word (s.first / 4) me.1, [])

-- what a view knows of its tag as the client's, and as the pump's
abbrev pub client_in : View → ClientView
client_in (Client t v) = v
client_in (Both t v w) = v
client_in other = Waiting

abbrev pub work_in : View → WorkView
work_in (Work t w) = w
work_in (Both t v w) = w
work_in other = Idle []

-- The ticket is above the one that the pump finished last on the tag, if it finished one; no claim is out. After ticket 5 it is 6 or more
abbrev pub IsAbove : WorkView → ℕ → Type 0
IsAbove (Idle missed) n = Unit {0}
IsAbove (Claimed m) n = ⊥
IsAbove (Finished m y missed) n = m < n

-- a pump's seat after it found the tag not posted with one ticket more
abbrev pub noting : ℕ → WorkView → WorkView
noting n (Idle missed) = Idle (missed ++ n ∷ [])
noting n (Claimed m) = Claimed m
noting n (Finished m y missed) = Finished m y (missed ++ n ∷ [])

-- the slot comes with such a slip of the ticket, which is above what the pump finished, where the word was posted with it; elsewhere the
-- seat notes that it wasn't
abbrev pub TakesOne : (ℕ → Slip → Type 0) → Step (Option Slip) → Sat → ℕ → Sat → Type 0
TakesOne Such s me found w = MatchBool (found == s.first)
    ((x : Slip) × Such (s.first / 4) x × IsAbove (work_in me.0) (s.first / 4) × (w ≡ (Work s.word (Claimed (s.first / 4)), (s.word, Some x) ∷ [])))
    (w ≡ (Work s.word (noting (s.first / 4) (work_in me.0)), me.1))

-- A step doesn't know how many tags a client has, and so not whether its tag is for task management: there is a step for either kind.
abbrev pub Takes : Step (Option Slip) → Sat → ℕ → Sat → Type 0
Takes s me found w = TakesOne IsCommand s me found w

abbrev pub TakesTask : Step (Option Slip) → Sat → ℕ → Sat → Type 0
TakesTask s me found w = TakesOne IsTask s me found w

-- the pump's seat came to hold an ask of the ticket, which is above what it had finished, and has the claim
abbrev pub Took : ℕ → ℕ → WorkView → ℕ → Sat → Type 0
Took tags t v n w = (x : Slip) × IsAsk tags (t + 1) n x × IsAbove v n × (w ≡ (Work t (Claimed n), (t, Some x) ∷ []))

-- a client's seat after so many looks at its tag that found no end
abbrev pub overlooked : ℕ → ClientView → ClientView
overlooked more Waiting = Waiting
overlooked more (Free n) = Free n
overlooked more (Open n x looks) = Open n x (looks + more)

-- the slot comes with an end of the ticket, where the word was done with it; elsewhere the seat counts the look
abbrev pub Looks : Step (Option Slip) → Sat → ℕ → Sat → Type 0
Looks s me found w = MatchBool (found == s.first)
    ((y : Slip) × IsEnd (s.word + 1) (s.first / 4) y × (w ≡ (Client s.word (Free (s.first / 4 + 1)), (s.word, Some y) ∷ [])))
    (w ≡ (Client s.word (overlooked 1 (client_in me.0)), me.1))

-- what was posted, or finished by this very seat, comes back
abbrev pub IsSettled : ClientView → WorkView → ℕ → Slip → Type 0
IsSettled Waiting w found z = ⊥
IsSettled (Free n) w found z = ⊥
IsSettled (Open n x looks) (Idle missed) found z = (found ≡ posted_word n) × (z ≡ x)
IsSettled (Open n x looks) (Claimed m) found z = ⊥
IsSettled (Open n x looks) (Finished m y missed) found z = ((found ≡ posted_word n) × (m < n) × (z ≡ x)) ⊎ ((found ≡ done_word n) × (m ≡ n) × (z ≡ y))

-- the word index of the seat's tag
abbrev pub index_in : View → ℕ
index_in (Dealer from) = from
index_in (Client t v) = t
index_in (Work t w) = t
index_in (Both t v w) = t
index_in Spent = 0

abbrev pub Settles : Step (Option Slip) → Sat → ℕ → Sat → Type 0
Settles s me found w = (z : Slip) × IsSettled (client_in me.0) (work_in me.0) found z × (w ≡ (Spent, (s.word, Some z) ∷ []))

abbrev pub dealt_less : View → View
dealt_less v = Dealer (index_in v + 1)

abbrev pub dealt : View → View
dealt v = Both (index_in v) Waiting (Idle [])

abbrev pub clients_part : View → View
clients_part v = Client (index_in v) (client_in v)

abbrev pub pumps_part : View → View
pumps_part v = Work (index_in v) (work_in v)

abbrev pub united : View → View → View
united v w = Both (index_in v) (client_in v) (work_in w)
