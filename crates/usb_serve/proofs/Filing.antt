-- A request on the file of its logical unit, and a sync of each, among all files.
use Rattle.std.proofs.Common.{◌≡◌, ◌∙◌, ℕ, Bool, true, false, zero, suc, ◌+◌, ◌-◌, ◌<◌, ◌≤◌, List, [], ◌∷◌, ◌++◌, map, length, take, drop, get_or, set, Result, Ok, Err, Some, None, ap, inl, inr, refl, sym, subst, arith}
use Rattle.std.specs.Prelude.{IfErr, IfSome, IsTrue, OnOk, slice_get, slice_set, ⊤}
use Rattle.std.specs.Option.{option_map}
use Rattle.std.proofs.lemmas.Bool.{false≢true}
use Rattle.std.proofs.lemmas.List.{drop_more, drop-set-lt, length-append, length-map, map-set, take_all, take_more, take_more_set}
use Rattle.std.proofs.lemmas.Option.{get_or_from_slice_get, slice_get-map}
use Rattle.uas_tasks.specs.declared.Outcome.{Outcome}
use Rattle.uas_tasks.specs.declared.Outcome.TheVariants.{Done, MediumError}
use Rattle.uas_tasks.specs.declared.Request.{Request}
use Rattle.usb_serve.specs.declared.fault.UsbFault.{UsbFault}
use Rattle.usb_serve.specs.Files.{AreLeft, AreSynced, Asked, Filed, IsLeft, IsServed, Synced, fault_from, first_fault, unit_of}

pub asked_there : {U : Type 0} (view : U → Filed) (units : List U) (i : ℕ) (u v : U) (request : Request) (brought : List ℕ) (outcome : Outcome)
    (given : List ℕ) → i ≡ unit_of request → slice_get units i ≡ Some u → IsServed request (view u) (view v) brought outcome given
    → Asked request (map view units) (map view (slice_set units i v)) brought outcome given
asked_there view units i u v request brought outcome given e there served = inl (record {
  was = view u;
  now = view v;
  there = ap (slice_get (map view units)) (sym e) ∙ slice_get-map view units i ∙ ap (option_map view) there;
  others = map-set view units i v ∙ ap (λ (n : ℕ). slice_set (map view units) n (view v)) e;
  served = served;
})

pub asked_nowhere : {U : Type 0} (view : U → Filed) (units : List U) (i : ℕ) (request : Request) (brought : List ℕ) (outcome : Outcome)
    (given : List ℕ) → i ≡ unit_of request → slice_get units i ≡ None → outcome ≡ MediumError → given ≡ []
    → Asked request (map view units) (map view units) brought outcome given
asked_nowhere view units i request brought outcome given e none told given_none = inr (record {
  none = ap (slice_get (map view units)) (sym e) ∙ slice_get-map view units i ∙ ap (option_map view) none;
  told = told;
  given_none = given_none;
  same = refl;
})

-- SYNCS

left_more : (old new : List Filed) (outcomes : List Outcome) (was now : Filed) (outcome : Outcome) → AreLeft old new outcomes
    → IsLeft was now outcome → AreLeft (old ++ was ∷ []) (new ++ now ∷ []) (outcomes ++ outcome ∷ [])
unfolding AreLeft
left_more [] [] [] was now outcome left is = (is, tt)
left_more (x ∷ old) (y ∷ new) (o ∷ outcomes) was now outcome left is = (left.0, left_more old new outcomes was now outcome left.1 is)
left_more [] [] (o ∷ outcomes) was now outcome left is = absurd left
left_more [] (y ∷ new) outcomes was now outcome left is = absurd left
left_more (x ∷ old) [] outcomes was now outcome left is = absurd left
left_more (x ∷ old) (y ∷ new) [] was now outcome left is = absurd left

fault_more : (first : Result ⊤ UsbFault) (number : ℕ) (outcomes : List Outcome) (outcome : Outcome)
    → fault_from first number (outcomes ++ outcome ∷ []) ≡ first_fault (fault_from first number outcomes) (number + length outcomes) outcome
fault_more first number [] outcome = let on : number ≡ number + 0 = omega arith in ap (λ (n : ℕ). first_fault first n outcome) on
fault_more first number (o ∷ outcomes) outcome =
    let on : suc number + length outcomes ≡ number + suc (length outcomes) = omega arith in
    fault_more (first_fault first number o) (suc number) outcomes outcome
    ∙ ap (λ (n : ℕ). first_fault (fault_from (first_fault first number o) (suc number) outcomes) n outcome) on

-- so many files were synced, and the others are as they were
pub record IsSyncedTo (number : ℕ) (first : Result ⊤ UsbFault) (old new : List Filed) : Type 0 where
  pub outcomes : List Outcome
  pub many : length outcomes ≡ number
  pub left : AreLeft (take number old) (take number new) outcomes
  pub rest : drop number new ≡ drop number old
  pub fault : first ≡ fault_from (Ok tt) 0 outcomes

pub none_synced : (files : List Filed) → IsSyncedTo 0 (Ok tt) files files
unfolding AreLeft
none_synced files = record { outcomes = []; many = refl; left = tt; rest = refl; fault = refl }

one_more : (number : ℕ) (first next : Result ⊤ UsbFault) (old new : List Filed) (was now : Filed) (outcome : Outcome)
    → number < length old → length new ≡ length old → get_or new number was ≡ was → IsLeft was now outcome
    → next ≡ first_fault first number outcome → IsSyncedTo number first old new → IsSyncedTo (number + 1) next old (set new number now)
one_more number first next old new was now outcome lt len here is told to =
    let lt_new : number < length new = omega (arith, lt, len) in
    let on : length to.outcomes ≡ 0 + length to.outcomes = omega arith in
    let both : get_or new number was ∷ drop (number + 1) new ≡ get_or old number was ∷ drop (number + 1) old =
    sym (drop_more new number was lt_new) ∙ to.rest ∙ drop_more old number was lt in
    let there : get_or old number was ≡ was = sym (ap (λ (l : List Filed). get_or l 0 was) both) ∙ here in
    let front_old : take (number + 1) old ≡ take number old ++ was ∷ [] =
    take_more old number was lt ∙ ap (λ (x : Filed). take number old ++ x ∷ []) there in
    record {
      outcomes = to.outcomes ++ outcome ∷ [];
      many = length-append to.outcomes (outcome ∷ []) ∙ ap (λ (n : ℕ). n + 1) to.many;
      left = rw (front_old, take_more_set new number now lt_new) (left_more (take number old) (take number new) to.outcomes was now outcome to.left is);
      rest = drop-set-lt (number + 1) new number now (omega arith) ∙ ap (λ (l : List Filed). drop 1 l) both;
      fault = told ∙ ap (λ (r : Result ⊤ UsbFault). first_fault r number outcome) to.fault
          ∙ ap (λ (n : ℕ). first_fault (fault_from (Ok tt) 0 to.outcomes) n outcome) (sym to.many)
          ∙ ap (λ (n : ℕ). first_fault (fault_from (Ok tt) 0 to.outcomes) n outcome) on
          ∙ sym (fault_more (Ok tt) 0 to.outcomes outcome);
    }

pub synced_more : {U : Type 0} (view : U → Filed) (number : ℕ) (first next : Result ⊤ UsbFault) (old new : List U) (u v : U) (outcome : Outcome)
    → number < length old → length new ≡ length old → slice_get new number ≡ Some u → IsLeft (view u) (view v) outcome
    → next ≡ first_fault first number outcome → IsSyncedTo number first (map view old) (map view new)
    → IsSyncedTo (number + 1) next (map view old) (map view (slice_set new number v))
synced_more view number first next old new u v outcome lt len there is told to =
    let lt_map : number < length (map view old) = omega (arith, lt, length-map old view) in
    let len_map : length (map view new) ≡ length (map view old) = length-map new view ∙ len ∙ sym (length-map old view) in
    let here : get_or (map view new) number (view u) ≡ view u =
    get_or_from_slice_get (map view new) number (view u) (view u) (slice_get-map view new number ∙ ap (option_map view) there) in
    rw (map-set view new number v)
    (one_more number first next (map view old) (map view new) (view u) (view v) outcome lt_map len_map here is told to)

pub all_synced : {U : Type 0} (view : U → Filed) (number : ℕ) (first : Result ⊤ UsbFault) (old new : List U) → length new ≤ number
    → length new ≡ length old → IsSyncedTo number first (map view old) (map view new) → AreSynced first (map view old) (map view new)
all_synced view number first old new past len to =
    let past_new : length (map view new) ≤ number = omega (arith, past, length-map new view) in
    let past_old : length (map view old) ≤ number = omega (arith, past, len, length-map old view) in
    record {
      outcomes = to.outcomes;
      left = subst (λ (l : List Filed). AreLeft l (map view new) to.outcomes) (take_all number (map view old) past_old)
          (subst (λ (l : List Filed). AreLeft (take number (map view old)) l to.outcomes) (take_all number (map view new) past_new) to.left);
      fault = to.fault;
    }

-- the files up to a place are safe, and there are no others
every_safe : {U : Type 0} (P : U → Type 0) (units : List U) (number : ℕ) → length units ≤ number
    → ((k : ℕ) → k < number → IfSome (slice_get units k) P) → (k : ℕ) → IfSome (slice_get units k) P
every_safe P [] number past safe k = tt
every_safe P (u ∷ units) number past safe zero = safe zero (omega (arith, past))
every_safe P (u ∷ units) number past safe (suc k) =
    every_safe P units (number - 1) (omega (arith, past)) (λ j lt. safe (suc j) (omega (arith, lt, past))) k

pub all_safe : {T E U : Type 0} (P : U → Type 0) (told : Result T E) (units : List U) (number : ℕ) → length units ≤ number
    → OnOk told ((k : ℕ) → k < number → IfSome (slice_get units k) P) → OnOk told ((k : ℕ) → IfSome (slice_get units k) P)
all_safe P (Ok t) units number past safe = every_safe P units number past safe
all_safe P (Err e) units number past safe = tt

-- one more is safe where its sync was done
is_done : Outcome → Bool
is_done Done = true
is_done outcome = false

pub done_safe : (was now : Filed) (outcome : Outcome) → IsLeft was now outcome → outcome ≡ Done → IsTrue now.tells → now.synced ≡ now.holds
unfolding is_done
done_safe was now outcome is done tells = by_sync is.synced
  where
    by_sync : Synced was now outcome → now.synced ≡ now.holds
    by_sync (inl synced) = synced.safe (subst (λ (b : Bool). IsTrue b) is.same.tells tells)
    by_sync (inr failed) = absurd (false≢true (ap is_done (sym failed.told ∙ done)))

set_safe : {U : Type 0} (P : U → Type 0) (units : List U) (number : ℕ) (v : U) → P v → ((k : ℕ) → k < number → IfSome (slice_get units k) P)
    → (k : ℕ) → k < number + 1 → IfSome (slice_get (slice_set units number v) k) P
set_safe P [] number v here safe k lt = tt
set_safe P (u ∷ units) zero v here safe zero lt = here
set_safe P (u ∷ units) zero v here safe (suc k) lt = absurd (omega (arith, lt))
set_safe P (u ∷ units) (suc n) v here safe zero lt = safe zero (omega arith)
set_safe P (u ∷ units) (suc n) v here safe (suc k) lt =
    set_safe P units n v here (λ j l. safe (suc j) (omega (arith, l))) k (omega (arith, lt))

pub safe_more : {U : Type 0} (P : U → Type 0) (first next : Result ⊤ UsbFault) (units : List U) (number : ℕ) (v : U) (outcome : Outcome)
    → OnOk next ((first ≡ Ok tt) × (outcome ≡ Done)) → (outcome ≡ Done → P v)
    → OnOk first ((k : ℕ) → k < number → IfSome (slice_get units k) P)
    → OnOk next ((k : ℕ) → k < number + 1 → IfSome (slice_get (slice_set units number v) k) P)
safe_more P first (Ok t) units number v outcome done here safe =
    let before : (k : ℕ) → k < number → IfSome (slice_get units k) P =
    subst (λ (r : Result ⊤ UsbFault). OnOk r ((k : ℕ) → k < number → IfSome (slice_get units k) P)) done.0 safe in
    set_safe P units number v (here done.1) before
safe_more P first (Err e) units number v outcome done here safe = tt

-- what was told
pub on_err_told : {T E : Type 0} {P : E → Type 0} (told : Result T E) → ((e : E) → told ≡ Err e → P e) → IfErr told P
on_err_told (Ok t) f = tt
on_err_told (Err e) f = f e refl

pub on_ok_told : {E P : Type 0} (told : Result ⊤ E) → (told ≡ Ok tt → P) → OnOk told P
on_ok_told (Ok t) f = f refl
on_ok_told (Err e) f = tt

pub all_done : (told : Result ⊤ UsbFault) (old new : List Filed) → told ≡ Ok tt → AreSynced told old new → AreSynced (Ok tt) old new
all_done told old new is synced = subst (λ (r : Result ⊤ UsbFault). AreSynced r old new) is synced
