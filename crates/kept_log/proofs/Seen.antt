-- A text that comes in parts: what was seen of it, and what that says of the whole.
use Rattle.std.proofs.Common.{◌≡◌, ℕ, ◌+◌, ◌-◌, ◌^◌, ◌<◌, ◌≤◌, Bool, true, false, cond, IsTrue, List, [], ◌∷◌, ◌++◌, length, drop, Result, Ok, Err, Option, Some, None, IfOk, IfSome, refl, sym, ap, subst, ◌∙◌, append_assoc, arith, inl, inr}
use Rattle.std.specs.Prelude.{◌⊎◌, IfErr}
use Rattle.std.specs.Io.KnownBytes.{Consumes, IsAtEnd}
use Rattle.std.proofs.KnownBytes.{Consumes-nil, Consumes-trans}
use Rattle.std.proofs.lemmas.List.{append-nil, drop_at, length-append, length-drop}
use Rattle.byte_io.specs.declared.StreamFault.TheVariants.{File}
use Rattle.byte_io.specs.declared.StreamFault.TheVariants as streams
use Rattle.uas_log.specs.declared.FirstUnit.{FirstUnit}
use Rattle.log_records.specs.checksum.Bytes.{AreBytes}
use Rattle.log_records.proofs.Bytes.{bytes_back, bytes_dropped, bytes_front, bytes_joined, bytes_taken}
use Rattle.log_records.specs.declared.First.{First}
use Rattle.log_records.specs.declared.First.TheVariants.{Nothing, Whole, Torn, Wrong}
use Rattle.log_records.specs.Finding.{behind, body_len, body_of, first_record}
use Rattle.log_records.specs.Records.{sum_after}
use Rattle.log_records.proofs.Found.{found_record}
use Rattle.log_text.proofs.TakenLog.{few_clients}
use Rattle.kept_log.specs.declared.Body.TheVariants as bodies
use Rattle.kept_log.specs.declared.Entry.{Entry}
use Rattle.kept_log.specs.declared.Found.{Found}
use Rattle.kept_log.specs.declared.KeptFault.{KeptFault}
use Rattle.kept_log.specs.declared.KeptFault.TheVariants.{Head, HeadSum, WrongRecord, BadBody, TooMany, WrongCount, BehindEnd, NoMemory}
use Rattle.kept_log.specs.declared.Loaded.{Loaded}
use Rattle.kept_log.specs.declared.Next.{Next}
use Rattle.kept_log.specs.declared.Next.TheVariants.{Goes, Ends}
use Rattle.kept_log.specs.declared.PartsFault.{PartsFault}
use Rattle.kept_log.specs.declared.PartsFault.TheVariants.{Kept, Read}
use Rattle.kept_log.specs.declared.Why.{Why}
use Rattle.kept_log.specs.Form.{AreKeepable, end_text, front_sum, front_text, head_sum, head_text}
use Rattle.kept_log.specs.LoadAt.{load_at}
use Rattle.kept_log.specs.Loading.{IsLoaded, IsNext, IsRefusedBy, StandsIn, next_at, of_first}
use Rattle.kept_log.specs.Parts.{GivesUp, HasTaken, IsFound, IsRefused, Reads, step_behind, step_with}
use Rattle.kept_log.specs.Reading.{body_at}
use Rattle.kept_log.specs.Shown.{Shown}
use Rattle.kept_log.proofs.Exact.{refused_exact}
use Rattle.kept_log.proofs.Further.{next_more}
use Rattle.kept_log.proofs.Meaning.{body_ends, ends_are, loaded_kept}
use Rattle.kept_log.proofs.Placed.{asked_in, log_asked, log_of, step_end, step_no_end, step_so_far}
use Rattle.kept_log.proofs.ReadOn.{ends_load, faults_load}
use Rattle.kept_log.proofs.Short.{entry_small}
use Rattle.kept_log.proofs.TakenBodies.{body_taken}
use Rattle.kept_log.proofs.TakenNext.{comes_there, loaded_there, next_goes, one_more, refused_there}

-- WHAT IS READ

abbrev pub shown_of : List ℕ → Bool → Shown
shown_of bytes has_ended = record { bytes = bytes; has_ended = has_ended }

no_bytes : AreBytes []
no_bytes at = omega arith

pub reads_none : (left : Option (List ℕ)) (shown : Shown) → (IsTrue shown.has_ended → IsAtEnd left) → Reads left left shown.bytes shown
reads_none left shown ended =
    record { more = []; are = no_bytes; consumed = Consumes-nil left; window_is = sym (append-nil shown.bytes); ended = ended }

pub reads_on : (first old new : Option (List ℕ)) (window : List ℕ) (before after : Shown) → Reads first old window before → Reads old new before.bytes after
    → Reads first new window after
reads_on first old new window before after one other = record {
  more = one.more ++ other.more;
  are = bytes_joined one.more other.more one.are other.are;
  consumed = Consumes-trans first old new one.more other.more one.consumed other.consumed;
  window_is = other.window_is ∙ ap (λ (bytes : List ℕ). bytes ++ other.more) one.window_is ∙ append_assoc window one.more other.more;
  ended = other.ended;
}

-- what holds of a text that goes on so, holds of it from its front
pub from_front : (holds : List ℕ → Type 0) (front more whole : List ℕ) (old new : Option (List ℕ)) → Consumes old new more → whole ≡ front ++ more
    → IfSome new (λ (left : List ℕ). holds (whole ++ left)) → IfSome old (λ (left : List ℕ). holds (front ++ left))
from_front holds front more whole None new consumed is held = tt
from_front holds front more whole (Some old) None consumed is held = absurd consumed
from_front holds front more whole (Some old) (Some new) consumed is held =
    subst holds (ap (λ (bytes : List ℕ). bytes ++ new) is ∙ append_assoc front more new ∙ ap (λ (bytes : List ℕ). front ++ bytes) (sym consumed)) held

-- and what holds of all that was read, where nothing is left
pub at_end : (holds : List ℕ → Type 0) (front more whole : List ℕ) (old new : Option (List ℕ)) → Consumes old new more → IsAtEnd new → whole ≡ front ++ more
    → holds whole → IfSome old (λ (left : List ℕ). holds (front ++ left))
at_end holds front more whole None new consumed end is held = tt
at_end holds front more whole (Some old) None consumed end is held = absurd consumed
at_end holds front more whole (Some old) (Some new) consumed end is held =
    subst holds (is ∙ ap (λ (bytes : List ℕ). front ++ bytes) (sym (consumed ∙ ap (λ (bytes : List ℕ). more ++ bytes) end ∙ append-nil more))) held

-- how much may still be read: more than any window has, where the source hasn't ended
abbrev pub left_over : Shown → ℕ
left_over shown = cond shown.has_ended 0 (2 ^ 65) + (2 ^ 64 - length shown.bytes)

some_ended : (has_ended : Bool) (old new : ℕ) → (has_ended ≡ false → old < new) → new < 2 ^ 64
    → cond has_ended 0 (2 ^ 65) + (2 ^ 64 - new) < 2 ^ 65 + (2 ^ 64 - old)
some_ended true old new grows few = omega arith
some_ended false old new grows few = omega (arith, grows refl, few)

pub less_left : (before after : Shown) → before.has_ended ≡ false → (after.has_ended ≡ false → length before.bytes < length after.bytes)
    → length after.bytes < 2 ^ 64 → left_over after < left_over before
less_left before after open_yet grows few =
    subst (λ (is : Bool). left_over after < cond is 0 (2 ^ 65) + (2 ^ 64 - length before.bytes)) (sym open_yet)
    (some_ended after.has_ended (length before.bytes) (length after.bytes) grows few)

least : (has_ended : Bool) → cond has_ended 0 (2 ^ 65) ≤ 2 ^ 65
least true = omega arith
least false = omega arith

pub left_most : (shown : Shown) → left_over shown ≤ 2 ^ 65 + 2 ^ 64
left_most shown = omega (arith, least shown.has_ended)

-- THE HEAD

pub head_taken_there : (first new : Option (List ℕ)) (window : List ℕ) (shown : Shown) (tags : ℕ) (units : List FirstUnit) (sum len : ℕ) (rest : List ℕ)
    → AreBytes window → Reads first new window shown → len ≡ length shown.bytes - length rest
    → StandsIn shown.bytes tags units [] (length shown.bytes - length rest) rest → sum ≡ front_sum tags units []
    → HasTaken window first new tags units [] len sum (shown_of (drop len shown.bytes) shown.has_ended)
head_taken_there first new window shown tags units sum len rest are read at stand right =
    let front : List ℕ = front_text tags units [] in
    let size : length front ≡ len = omega (arith, at, ap length stand.parts, length-append front rest) in
    let behind : drop len shown.bytes ≡ rest = ap (drop len) stand.parts ∙ drop_at front rest len size in
    record {
      more = read.more;
      are = bytes_joined window read.more are read.are;
      consumed = read.consumed;
      stand = record {
        parts = sym read.window_is ∙ stand.parts ∙ ap (λ (back : List ℕ). front ++ back) (sym behind);
        place = omega (arith, at, stand.place, ap length read.window_is, ap length behind);
        keepable = stand.keepable;
      };
      sum_is = right;
      ended = read.ended;
    }

-- a head that is refused at the end of a text
pub head_refused : (first new : Option (List ℕ)) (window : List ℕ) (shown : Shown) (fault : KeptFault) → AreBytes window → Reads first new window shown
    → IsTrue shown.has_ended → IsRefusedBy shown.bytes fault → IfSome first (λ (left : List ℕ). IsRefused (window ++ left) fault)
head_refused first new window shown fault are read has_ended because =
    let all : AreBytes shown.bytes = subst AreBytes (sym read.window_is) (bytes_joined window read.more are read.are) in
    at_end (λ (text : List ℕ). IsRefused text fault) window read.more shown.bytes first new read.consumed (read.ended has_ended) read.window_is
    (record { exact = refused_exact shown.bytes fault all because; because = because })

pub no_memory : (front : List ℕ) (left : Option (List ℕ)) → IfSome left (λ (bytes : List ℕ). IsRefused (front ++ bytes) NoMemory)
no_memory front None = tt
no_memory front (Some bytes) = record { exact = inr refl; because = tt }

-- A RECORD MORE

pub window_bytes : (seen : List ℕ) (old new : Option (List ℕ)) (tags : ℕ) (units : List FirstUnit) (entries : List Entry) (at sum : ℕ) (shown : Shown)
    → HasTaken seen old new tags units entries at sum shown → AreBytes shown.bytes
window_bytes seen old new tags units entries at sum shown it =
    bytes_back (front_text tags units entries) shown.bytes (subst AreBytes it.stand.parts it.are)

pub one_taken : (seen : List ℕ) (old new : Option (List ℕ)) (tags : ℕ) (units : List FirstUnit) (entries : List Entry) (at sum len after : ℕ) (shown : Shown) (entry : Entry)
    → HasTaken seen old new tags units entries at sum shown → 8 + len ≤ length shown.bytes
    → next_at (length units) (length entries) at sum shown.bytes ≡ Ok (Goes entry len after)
    → HasTaken seen old new tags units (entries ++ entry ∷ []) (at + (8 + len)) after (shown_of (drop (8 + len) shown.bytes) shown.has_ended)
one_taken seen old new tags units entries at sum len after shown entry it within comes =
    let text : List ℕ = seen ++ it.more in
    let more = one_more text tags units entries at shown.bytes sum len after entry (window_bytes seen old new tags units entries at sum shown it) it.stand it.sum_is comes in
    record {
      more = it.more;
      are = it.are;
      consumed = it.consumed;
      stand = record {
        parts = more.stand.parts;
        place = omega (arith, it.stand.place, within, length-drop (8 + len) shown.bytes);
        keepable = more.stand.keepable;
      };
      sum_is = more.sum;
      ended = it.ended;
    }

-- a record of a step is short
pub goes_small : (text : List ℕ) (tags : ℕ) (units : List FirstUnit) (entries : List Entry) (at sum len after : ℕ) (rest : List ℕ) (entry : Entry) → AreBytes rest
    → StandsIn text tags units entries at rest → next_at (length units) (length entries) at sum rest ≡ Ok (Goes entry len after) → len ≤ 131300
goes_small text tags units entries at sum len after rest entry are stand comes =
    let goes = next_goes (length units) (length entries) at len after sum rest entry comes in
    let at_front = found_record sum rest len after are goes.found in
    let body = body_taken (length units) (body_of rest) (bodies.Step entry) stand.keepable.some (omega (arith, stand.keepable.most, few_clients tags))
    (bytes_taken (body_len rest) (drop 4 rest) (bytes_dropped 4 rest are)) goes.body in
    omega (arith, at_front.len_is, ap length body.text_is, entry_small (length units) entry body.fits)

stand_more : (text more : List ℕ) (tags : ℕ) (units : List FirstUnit) (entries : List Entry) (at : ℕ) (rest : List ℕ) → StandsIn text tags units entries at rest
    → StandsIn (text ++ more) tags units entries at (rest ++ more)
stand_more text more tags units entries at rest it = record {
  parts = ap (λ (front : List ℕ). front ++ more) it.parts ∙ append_assoc (front_text tags units entries) rest more;
  place = omega (arith, it.place, length-append text more, length-append rest more);
  keepable = it.keepable;
}

pub more_seen : (seen : List ℕ) (first old new : Option (List ℕ)) (tags : ℕ) (units : List FirstUnit) (entries : List Entry) (at sum : ℕ) (before after : Shown)
    → HasTaken seen first old tags units entries at sum before → Reads old new before.bytes after
    → HasTaken seen first new tags units entries at sum after
more_seen seen first old new tags units entries at sum before after it read =
    let regrouped : (seen ++ it.more) ++ read.more ≡ seen ++ (it.more ++ read.more) = append_assoc seen it.more read.more in
    record {
      more = it.more ++ read.more;
      are = subst AreBytes regrouped (bytes_joined (seen ++ it.more) read.more it.are read.are);
      consumed = Consumes-trans first old new it.more read.more it.consumed read.consumed;
      stand = subst (λ (text : List ℕ). StandsIn text tags units entries at after.bytes) regrouped
          (subst (λ (rest : List ℕ). StandsIn ((seen ++ it.more) ++ read.more) tags units entries at rest) (sym read.window_is)
          (stand_more (seen ++ it.more) read.more tags units entries at before.bytes it.stand));
      sum_is = it.sum_is;
      ended = read.ended;
    }

-- THE END

abbrev pub loaded_of : ℕ → List FirstUnit → List Entry → Option Why → Option ℕ → Loaded
loaded_of tags units entries ending torn = record { log = log_of tags units entries ending; torn = torn }

step_ends : (text : List ℕ) (tags : ℕ) (units : List FirstUnit) (entries : List Entry) (at sum : ℕ) (rest : List ℕ) (ending : Option Why) (torn wanted : Option ℕ) (first : First)
    → AreBytes rest → StandsIn text tags units entries at rest → sum ≡ front_sum tags units entries → first_record sum rest ≡ first
    → of_first (length units) (length entries) at rest first ≡ Ok (Ends ending torn)
    → step_behind (step_so_far wanted tags units entries) wanted (length entries) first ≡ log_asked wanted (log_of tags units entries ending)
step_ends text tags units entries at sum rest ending torn wanted Nothing are stand right is e =
    step_no_end wanted tags units entries ∙ ap (λ (other : Option Why). log_asked wanted (log_of tags units entries other)) (ends_are None ending None torn e).0
step_ends text tags units entries at sum rest ending torn wanted Torn are stand right is e =
    step_no_end wanted tags units entries ∙ ap (λ (other : Option Why). log_asked wanted (log_of tags units entries other)) (ends_are None ending (Some at) torn e).0
step_ends text tags units entries at sum rest ending torn wanted Wrong are stand right is e = absurd cc
step_ends text tags units entries at sum rest ending torn wanted (Whole len after) are stand right is e =
    let it = body_ends (length entries) at len after (behind rest) ending torn (body_at (length units) (body_of rest)) e in
    let at_front = found_record sum rest len after are is in
    let body = body_taken (length units) (body_of rest) (bodies.End (length entries) it.reason) stand.keepable.some (omega (arith, stand.keepable.most, few_clients tags))
    (bytes_taken (body_len rest) (drop 4 rest) (bytes_dropped 4 rest are)) it.read_is in
    let last : after ≡ sum_after (front_sum tags units entries) (end_text (length entries) it.reason) =
    at_front.sum_is ∙ ap (sum_after sum) body.text_is ∙ ap (λ n. sum_after n (end_text (length entries) it.reason)) right in
    ap (λ n. step_with (step_so_far wanted tags units entries) wanted n (length entries)) last
    ∙ step_end wanted tags units entries it.reason
    ∙ ap (λ (other : Option Why). log_asked wanted (log_of tags units entries other)) it.ending_is

found_there : (text : List ℕ) (tags : ℕ) (units : List FirstUnit) (entries : List Entry) (at sum : ℕ) (rest : List ℕ) (ending : Option Why) (torn wanted : Option ℕ)
    → AreBytes text → StandsIn text tags units entries at rest → sum ≡ front_sum tags units entries
    → next_at (length units) (length entries) at sum rest ≡ Ok (Ends ending torn)
    → IsFound wanted text (record {
      loaded = loaded_of tags units entries ending torn;
      step = step_behind (step_so_far wanted tags units entries) wanted (length entries) (first_record sum rest);
    })
unfolding next_at
found_there text tags units entries at sum rest ending torn wanted are stand right comes =
    let loaded : Loaded = loaded_of tags units entries ending torn in
    let is : IsLoaded text loaded = loaded_there text at sum rest loaded stand right comes in
    let exact : load_at text ≡ Ok loaded = ends_load text tags units entries ending torn are is.whole in
    let back : AreBytes rest = bytes_back (front_text tags units entries) rest (subst AreBytes stand.parts are) in
    record {
      exact = exact;
      loaded = is;
      kept = loaded_kept text loaded are is;
      step = step_ends text tags units entries at sum rest ending torn wanted (first_record sum rest) back stand right refl comes
          ∙ sym (asked_in wanted text loaded exact);
    }

-- the end of a text
pub text_ends : (seen : List ℕ) (old new : Option (List ℕ)) (tags : ℕ) (units : List FirstUnit) (entries : List Entry) (at sum : ℕ) (shown : Shown) (ending : Option Why)
    (torn wanted : Option ℕ) → HasTaken seen old new tags units entries at sum shown → IsTrue shown.has_ended
    → next_at (length units) (length entries) at sum shown.bytes ≡ Ok (Ends ending torn)
    → IfSome old (λ (left : List ℕ). IsFound wanted (seen ++ left) (record {
      loaded = loaded_of tags units entries ending torn;
      step = step_behind (step_so_far wanted tags units entries) wanted (length entries) (first_record sum shown.bytes);
    }))
text_ends seen old new tags units entries at sum shown ending torn wanted it has_ended comes =
    let found : Found = record {
      loaded = loaded_of tags units entries ending torn;
      step = step_behind (step_so_far wanted tags units entries) wanted (length entries) (first_record sum shown.bytes);
    } in
    at_end (λ (text : List ℕ). IsFound wanted text found) seen it.more (seen ++ it.more) old new it.consumed (it.ended has_ended) refl
    (found_there (seen ++ it.more) tags units entries at sum shown.bytes ending torn wanted it.are it.stand it.sum_is comes)

-- FAULTS

fault_is : (fault : KeptFault) (comes : Result Next KeptFault) → IsNext (Err fault) comes → (comes ≡ Err fault) ⊎ (fault ≡ NoMemory)
fault_is (Head fault) comes e = inl e
fault_is HeadSum comes e = inl e
fault_is (WrongRecord at) comes e = inl e
fault_is (BadBody at) comes e = inl e
fault_is (TooMany at) comes e = inl e
fault_is (WrongCount at) comes e = inl e
fault_is (BehindEnd at) comes e = inl e
fault_is NoMemory comes e = inr refl

is_fault : (fault : KeptFault) (comes : Result Next KeptFault) → comes ≡ Err fault → IsNext (Err fault) comes
is_fault (Head fault) comes e = e
is_fault HeadSum comes e = e
is_fault (WrongRecord at) comes e = e
is_fault (BadBody at) comes e = e
is_fault (TooMany at) comes e = e
is_fault (WrongCount at) comes e = e
is_fault (BehindEnd at) comes e = e
is_fault NoMemory comes e = tt

fault_there : (seen more : List ℕ) (tags : ℕ) (units : List FirstUnit) (entries : List Entry) (at sum : ℕ) (rest : List ℕ) (fault : KeptFault) → AreBytes seen
    → StandsIn seen tags units entries at rest → sum ≡ front_sum tags units entries → next_at (length units) (length entries) at sum rest ≡ Err fault
    → IsRefused (seen ++ more) fault
fault_there seen more tags units entries at sum rest fault are stand right e =
    let parts : AreBytes (front_text tags units entries ++ rest) = subst AreBytes stand.parts are in
    let all = stand_more seen more tags units entries at rest stand in
    let comes : next_at (length units) (length entries) at sum (rest ++ more) ≡ Err fault =
    next_more (length units) (length entries) at sum rest more (Err fault) (bytes_back (front_text tags units entries) rest parts) tt e in
    record {
      exact = inl (faults_load (seen ++ more) tags units entries fault (bytes_front (front_text tags units entries) rest parts)
          (comes_there (seen ++ more) tags units entries at sum (rest ++ more) (Err fault) all right comes));
      because = refused_there (seen ++ more) tags units entries at sum (rest ++ more) fault all right
          (is_fault fault (next_at (length units) (length entries) at sum (rest ++ more)) comes);
    }

known : (holds : List ℕ → Type 0) (left : Option (List ℕ)) → ((bytes : List ℕ) → holds bytes) → IfSome left holds
known holds None held = tt
known holds (Some bytes) held = held bytes

-- a fault that comes is one of the whole text
pub text_fails : (seen : List ℕ) (old new : Option (List ℕ)) (tags : ℕ) (units : List FirstUnit) (entries : List Entry) (at sum : ℕ) (shown : Shown) (fault : KeptFault)
    → HasTaken seen old new tags units entries at sum shown → IsNext (Err fault) (next_at (length units) (length entries) at sum shown.bytes)
    → IfSome old (λ (left : List ℕ). IsRefused (seen ++ left) fault)
text_fails seen old new tags units entries at sum shown fault it comes =
    elim (fault_is fault (next_at (length units) (length entries) at sum shown.bytes) comes) [
      | inl e ↦
          from_front (λ (text : List ℕ). IsRefused text fault) seen it.more (seen ++ it.more) old new it.consumed refl
          (known (λ (left : List ℕ). IsRefused ((seen ++ it.more) ++ left) fault) new (λ (left : List ℕ). fault_there (seen ++ it.more) left tags units entries at sum shown.bytes fault it.are it.stand it.sum_is e))
      | inr none ↦
          subst (λ (other : KeptFault). IfSome old (λ (left : List ℕ). IsRefused (seen ++ left) other)) (sym none) (no_memory seen old)
    ]

-- what gives up behind what was read gives up from the front
pub gives_up : (front : List ℕ) (old new : Option (List ℕ)) (shown : Shown) (is_there can_fail : Bool) (fault : PartsFault) → Reads old new front shown
    → GivesUp shown.bytes new is_there can_fail fault → GivesUp front old is_there can_fail fault
gives_up front old new shown is_there can_fail (Kept fault) read it =
    (it.0, from_front (λ (text : List ℕ). IsRefused text fault) front read.more shown.bytes old new read.consumed read.window_is it.1)
gives_up front old new shown is_there can_fail (Read File) read it = it
gives_up front old new shown is_there can_fail (Read streams.NoMemory) read it = tt

-- FROM THE FRONT

whole_head : (seen : List ℕ) (old new : Option (List ℕ)) (tags : ℕ) (units : List FirstUnit) (at sum : ℕ) (shown : Shown) (it : HasTaken seen old new tags units [] at sum shown)
    → head_text tags units ++ shown.bytes ≡ seen ++ it.more
whole_head seen old new tags units at sum shown it =
    sym (it.stand.parts ∙ ap (λ (front : List ℕ). front ++ shown.bytes) (append-nil (head_text tags units)))

pub head_bytes : (seen : List ℕ) (old new : Option (List ℕ)) (tags : ℕ) (units : List FirstUnit) (at sum : ℕ) (shown : Shown) → HasTaken seen old new tags units [] at sum shown
    → AreBytes (head_text tags units ++ shown.bytes)
head_bytes seen old new tags units at sum shown it = subst AreBytes (sym (whole_head seen old new tags units at sum shown it)) it.are

pub head_starts : (left : Option (List ℕ)) (tags : ℕ) (units : List FirstUnit) (len sum : ℕ) (shown : Shown) → AreKeepable tags units [] → len ≡ length (head_text tags units)
    → sum ≡ head_sum tags units → AreBytes (head_text tags units ++ shown.bytes) → (IsTrue shown.has_ended → IsAtEnd left)
    → HasTaken (head_text tags units ++ shown.bytes) left left tags units [] len sum shown
head_starts left tags units len sum shown keepable size right are ended =
    let seen : List ℕ = head_text tags units ++ shown.bytes in
    record {
      more = [];
      are = subst AreBytes (sym (append-nil seen)) are;
      consumed = Consumes-nil left;
      stand = record {
        parts = append-nil seen ∙ ap (λ (front : List ℕ). front ++ shown.bytes) (sym (append-nil (head_text tags units)));
        place = omega (arith, size, ap length (append-nil seen), length-append (head_text tags units) shown.bytes);
        keepable = keepable;
      };
      sum_is = right;
      ended = ended;
    }

-- what is found behind the head is found from the front
pub found_from_front : (wanted : Option ℕ) (result : Result Found PartsFault) (front : List ℕ) (old mid new : Option (List ℕ)) (read_then : Shown)
    (tags : ℕ) (units : List FirstUnit) (at sum : ℕ) (shown : Shown) → Reads old mid front read_then → HasTaken read_then.bytes mid new tags units [] at sum shown
    → IfOk result (λ (found : Found). IfSome new (λ (left : List ℕ). IsFound wanted ((head_text tags units ++ shown.bytes) ++ left) found))
    → IfOk result (λ (found : Found). IfSome old (λ (left : List ℕ). IsFound wanted (front ++ left) found))
found_from_front wanted (Err fault) front old mid new read_then tags units at sum shown read taken it = tt
found_from_front wanted (Ok found) front old mid new read_then tags units at sum shown read taken it =
    from_front (λ (text : List ℕ). IsFound wanted text found) front read.more read_then.bytes old mid read.consumed read.window_is
    (from_front (λ (text : List ℕ). IsFound wanted text found) read_then.bytes taken.more (head_text tags units ++ shown.bytes) mid new taken.consumed
    (whole_head read_then.bytes mid new tags units at sum shown taken) it)

same_source : (front : List ℕ) (left : Option (List ℕ)) (is_there was_there can_fail could_fail : Bool) (fault : PartsFault) → is_there ≡ was_there
    → can_fail ≡ could_fail → GivesUp front left is_there can_fail fault → GivesUp front left was_there could_fail fault
same_source front left is_there was_there can_fail could_fail fault there fails it =
    subst (λ (is : Bool). GivesUp front left is could_fail fault) there (subst (λ (can : Bool). GivesUp front left is_there can fault) fails it)

-- and so is what gives up at the head
pub head_from_front : (front : List ℕ) (old new : Option (List ℕ)) (shown : Shown) (is_there was_there can_fail could_fail : Bool) (fault : PartsFault)
    → is_there ≡ was_there → can_fail ≡ could_fail → Reads old new front shown → GivesUp shown.bytes new is_there can_fail fault
    → GivesUp front old was_there could_fail fault
head_from_front front old new shown is_there was_there can_fail could_fail fault there fails read it =
    gives_up front old new shown was_there could_fail fault read (same_source shown.bytes new is_there was_there can_fail could_fail fault there fails it)

-- or behind it
pub fails_from_front : (result : Result Found PartsFault) (front : List ℕ) (old mid new : Option (List ℕ)) (read_then : Shown) (tags : ℕ) (units : List FirstUnit) (at sum : ℕ)
    (shown : Shown) (is_there was_there can_fail could_fail : Bool) → is_there ≡ was_there → can_fail ≡ could_fail → Reads old mid front read_then
    → HasTaken read_then.bytes mid new tags units [] at sum shown → IfErr result (GivesUp (head_text tags units ++ shown.bytes) new is_there can_fail)
    → IfErr result (GivesUp front old was_there could_fail)
fails_from_front (Ok found) front old mid new read_then tags units at sum shown is_there was_there can_fail could_fail there fails read taken it = tt
fails_from_front (Err fault) front old mid new read_then tags units at sum shown is_there was_there can_fail could_fail there fails read taken it =
    let behind : Reads mid new read_then.bytes (shown_of (head_text tags units ++ shown.bytes) shown.has_ended) =
    record {
      more = taken.more;
      are = bytes_back read_then.bytes taken.more taken.are;
      consumed = taken.consumed;
      window_is = whole_head read_then.bytes mid new tags units at sum shown taken;
      ended = taken.ended;
    } in
    gives_up front old mid read_then was_there could_fail fault read
    (gives_up read_then.bytes mid new (shown_of (head_text tags units ++ shown.bytes) shown.has_ended) was_there could_fail fault behind
    (same_source (head_text tags units ++ shown.bytes) new is_there was_there can_fail could_fail fault there fails it))

-- ONE CALL

-- what comes at the front of the window comes behind these units and entries
pub same_next : (tags : ℕ) (units : List FirstUnit) (entries : List Entry) (clients count at sum : ℕ) (bytes window : List ℕ) → clients ≡ length units
    → count ≡ length entries → bytes ≡ window
    → next_at clients count at sum bytes ≡ next_at (length units) (length entries) at sum window
same_next tags units entries clients count at sum bytes window some steps same =
    ap (λ n. next_at n count at sum bytes) some ∙ ap (λ n. next_at (length units) n at sum bytes) steps
    ∙ ap (λ (front : List ℕ). next_at (length units) (length entries) at sum front) same
