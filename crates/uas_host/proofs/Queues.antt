-- The queue of the slots of a client that are ready.
use Rattle.std.proofs.Common.{◌≡◌, ℕ, zero, suc, ◌+◌, ◌<◌, ◌≤◌, Bool, true, false, List, [], ◌∷◌, ◌++◌, length, Option, Some, None, refl, arith, subst, sym}
use Rattle.std.proofs.Common.{ap, ◌∙◌}
use Rattle.std.specs.Prelude.{◌==◌, replicate, slice_set, sum_by}
use Rattle.std.proofs.lemmas.Bool.{eqb-true, eqb-false, ne_eqb}
use Rattle.std.proofs.lemmas.List.{get_or-set_same, get_or-set_other}
use Rattle.std.proofs.lemmas.List.Sums.{sum_by-set, sum_by-cons}
use Rattle.scsi_cmd.specs.Held.{held_at}
use Rattle.uas_host.specs.declared.HostEntry.{HostEntry}
use Rattle.uas_profile.specs.TdStates.{one_if, times_in}
use Rattle.uas_host.specs.State.{AreReady, is_ready, queued_if, readied_of}

one_if_most : (b : Bool) → one_if b ≤ 1
one_if_most true = omega arith
one_if_most false = omega arith

readied_one : (held : Option HostEntry) → readied_of held ≤ 1
readied_one None = omega arith
readied_one (Some entry) = one_if_most (is_ready entry)

-- no more entries are ready than slots are there
readied_most : (entries : List (Option HostEntry)) → sum_by readied_of entries ≤ length entries
readied_most [] = omega arith
readied_most (held ∷ rest) = omega (arith, sum_by-cons readied_of held rest, readied_one held, readied_most rest)

-- a slot is in a queue as often as in its parts
times_in-append : (slot : ℕ) (queue : List ℕ) (last : ℕ) → times_in slot (queue ++ last ∷ []) ≡ times_in slot queue + one_if (last == slot)
times_in-append slot [] last = omega arith
times_in-append slot (first ∷ rest) last = omega (arith, times_in-append slot rest last)

same_one : (slot : ℕ) → one_if (slot == slot) ≡ 1
same_one slot = elim (slot == slot) as (λ b. (slot == slot) ≡ b → one_if b ≡ 1) [
  | true ↦ λ is. refl
  | false ↦ λ is. absurd (eqb-false slot slot is refl)
] refl

apart_none : (first slot : ℕ) → (slot ≡ first → ⊥) → one_if (first == slot) ≡ 0
apart_none first slot apart = ap one_if (ne_eqb first slot (λ same. apart (sym same)))

-- A queue fits the entries after a write to one slot, where it fits that slot, and is as it was of the others.
ready-set : (entries : List (Option HostEntry)) (before after : List ℕ) (slot : ℕ) (new : Option HostEntry) → slot < length entries →
    times_in slot after ≡ readied_of new → ((other : ℕ) → (other ≡ slot → ⊥) → times_in other after ≡ times_in other before) →
    AreReady entries before → AreReady (slice_set entries slot new) after
ready-set entries before after slot new within here others all = λ other.
    elim (other == slot) as (λ b. (other == slot) ≡ b → times_in other after ≡ readied_of (held_at (slice_set entries slot new) other)) [
      | true ↦ λ is. let it : slot ≡ other = sym (eqb-true other slot is) in
          subst (λ s. times_in s after ≡ readied_of (held_at (slice_set entries slot new) s)) it
          (here ∙ ap readied_of (sym (get_or-set_same entries slot new None within)))
      | false ↦ λ is. let apart : other ≡ slot → ⊥ = eqb-false other slot is in
          others other apart ∙ (all other ∙ ap readied_of (sym (get_or-set_other entries slot other new None apart)))
    ] refl

-- a write that readies no entry keeps the queue
pub AreReady-set : (entries : List (Option HostEntry)) (queue : List ℕ) (slot : ℕ) (old new : Option HostEntry) → slot < length entries →
    held_at entries slot ≡ old →
    readied_of new ≡ readied_of old → AreReady entries queue → AreReady (slice_set entries slot new) queue
AreReady-set entries queue slot old new within is same all =
    ready-set entries queue queue slot new within (all slot ∙ (ap readied_of is ∙ sym same)) (λ other apart. refl) all

-- a slot that is ready now is the last of the queue
pub AreReady-push : (entries : List (Option HostEntry)) (queue : List ℕ) (slot : ℕ) (old new : Option HostEntry) (ready : Bool) → slot < length entries →
    held_at entries slot ≡ old →
    readied_of old + one_if ready ≡ readied_of new → AreReady entries queue → AreReady (slice_set entries slot new) (queued_if ready queue slot)
AreReady-push entries queue slot old new true within is now all =
    ready-set entries queue (queue ++ slot ∷ []) slot new within
    (omega (arith, times_in-append slot queue slot, same_one slot, all slot, ap readied_of is, now))
    (λ other apart. omega (arith, times_in-append other queue slot, apart_none slot other apart)) all
AreReady-push entries queue slot old new false within is now all =
    AreReady-set entries queue slot old new within is (omega (arith, now)) all

-- the first of the queue is ready
pub AreReady-first : (entries : List (Option HostEntry)) (slot : ℕ) (rest : List ℕ) → AreReady entries (slot ∷ rest) →
    (readied_of (held_at entries slot) ≡ 1) × (times_in slot rest ≡ 0)
AreReady-first entries slot rest all =
    let here : one_if (slot == slot) + times_in slot rest ≡ readied_of (held_at entries slot) = all slot in
    let one = same_one slot in
    let most = readied_one (held_at entries slot) in
    (omega (arith, here, one, most), omega (arith, here, one, most))

-- it leaves the queue when its entry is taken
pub AreReady-pop : (entries : List (Option HostEntry)) (slot : ℕ) (rest : List ℕ) → slot < length entries → AreReady entries (slot ∷ rest) →
    AreReady (slice_set entries slot None) rest
AreReady-pop entries slot rest within all =
    ready-set entries (slot ∷ rest) rest slot None within (AreReady-first entries slot rest all).1
    (λ other apart. omega (arith, apart_none slot other apart)) all

-- what is ready is one of the slots
pub readied-within : (entries : List (Option HostEntry)) (slot : ℕ) → readied_of (held_at entries slot) ≡ 1 → slot < length entries
readied-within [] slot is = let no : ◌≡◌ {A = ℕ} 0 1 = is in absurd (omega arith)
readied-within (held ∷ rest) zero is = omega arith
readied-within (held ∷ rest) (suc slot) is = omega (arith, readied-within rest slot is)

queue_within : (queue : List ℕ) (entries : List (Option HostEntry)) → AreReady entries queue → length queue ≤ sum_by readied_of entries
queue_within [] entries all = omega arith
queue_within (slot ∷ rest) entries all =
    let ready = (AreReady-first entries slot rest all).0 in
    let within = readied-within entries slot ready in
    omega (
      arith,
      ready,
      sum_by-set readied_of entries slot None None within,
      queue_within rest (slice_set entries slot None)
          (AreReady-pop entries slot rest within all),
    )

-- no more slots are in the queue than are there
pub AreReady-length : (queue : List ℕ) (entries : List (Option HostEntry)) → AreReady entries queue → length queue ≤ length entries
AreReady-length queue entries all = omega (arith, queue_within queue entries all, readied_most entries)

-- THE FIRST OF THE QUEUE

-- what is so of the slot that leaves the queue
pub record IsFirst (entries : List (Option HostEntry)) (slot : ℕ) (rest : List ℕ) : Type 0 where
  pub within : slot < length entries
  pub ready : readied_of (held_at entries slot) ≡ 1
  pub others : AreReady (slice_set entries slot None) rest

pub AreReady-take : (entries : List (Option HostEntry)) (queue rest : List ℕ) (slot : ℕ) → AreReady entries queue → queue ≡ slot ∷ rest →
    IsFirst entries slot rest
AreReady-take entries queue rest slot all is =
    let first : AreReady entries (slot ∷ rest) = λ s. ap (λ q. times_in s q) (sym is) ∙ all s in
    let ready = (AreReady-first entries slot rest first).0 in
    let within = readied-within entries slot ready in
    record { within = within; ready = ready; others = AreReady-pop entries slot rest within first }

-- what is ready is held
pub readied-held : (held : Option HostEntry) → readied_of held ≡ 1 → held ≡ None → ⊥
readied-held None is none = let no : ◌≡◌ {A = ℕ} 0 1 = is in omega arith
readied-held (Some entry) is none = let no : ◌≡◌ {A = Option HostEntry} (Some entry) None = none in cc

pub readied-ready : (place : Option HostEntry) (held : HostEntry) → place ≡ Some held → readied_of place ≡ 1 → is_ready held ≡ true
readied-ready place held is one =
    let it : one_if (is_ready held) ≡ 1 = sym (ap readied_of is) ∙ one in
    elim (is_ready held) as (λ b. is_ready held ≡ b → is_ready held ≡ true) [
      | true ↦ λ so. so
      | false ↦ λ no. let none : ◌≡◌ {A = ℕ} 0 1 = sym (ap one_if no) ∙ it in absurd (omega arith)
    ] refl

-- NO SLOTS

-- no slot is ready of a new client
pub AreReady-none : (n : ℕ) → AreReady (replicate n None) []
AreReady-none zero = λ slot. refl
AreReady-none (suc n) = λ slot. elim slot as (λ s. 0 ≡ readied_of (held_at (replicate (suc n) None) s)) [
  | zero ↦ refl
  | suc less ↦ AreReady-none n less
]
