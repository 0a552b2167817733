-- What a step makes of the TDs of one entry, told of each pipe: cited by MatchedEntries and MatchedFlows.
use Rattle.std.proofs.Common.{◌≡◌, ℕ, ◌+◌, Bool, true, false, ◌&&◌, Option, Some, None, refl, arith, ap, sym, subst, ◌∙◌}
use Rattle.std.specs.Prelude.{◌==◌, nat_lt}
use Rattle.std.proofs.lemmas.Bool.{lt-ltb, ltb-true, false≢true, and_from, and_parts}
use Rattle.uas_profile.specs.declared.Pipe.{Pipe}
use Rattle.uas_profile.specs.declared.Pipe.TheVariants.{Command, Status, DataIn, DataOut}
use Rattle.uas_profile.specs.declared.Direction.{Direction}
use Rattle.uas_profile.specs.declared.Direction.TheVariants.{Nothing, ToHost, ToDevice}
use Rattle.scsi_cmd.specs.declared.Request.{Request}
use Rattle.shared_machine.specs.Tests.{is_left_over}
use Rattle.uas_profile.specs.declared.TdState.{TdState}
use Rattle.uas_profile.specs.declared.TdState.TheVariants.{Pending, Seen, LeftOver, Retired}
use Rattle.shared_machine.specs.declared.Td.{Td}
use Rattle.shared_machine.specs.Td.{Entry, is_in_ring, is_td_left_over, is_left_over_on, has_data_trb, has_trb_on, data_trbs, data_in_td, data_out_td}
use Rattle.shared_machine.specs.Td.{request_direction, with_trb_taken, with_event_seen, left_over_td}
use Rattle.machine_invariant.specs.Matched.{IsShortTd, is_whole, is_whole_on}

-- A TD that is left over stays so, and whole if it is; no TRB joins those that the controller may take; and a TD that is left over now has one, if it
-- had one where it was left over before.
pub record GoesOn (left_before trb_before whole_before left_after trb_after whole_after : Bool) : Type 0 where
  pub left : left_before ≡ true → left_after ≡ true
  pub trb : trb_after ≡ true → trb_before ≡ true
  pub whole : left_before ≡ true → whole_before ≡ true → whole_after ≡ true
  pub fresh : left_after ≡ true → (left_before ≡ true → trb_before ≡ true) → trb_after ≡ true

pub same-goes : (left trb whole : Bool) → GoesOn left trb whole left trb whole
same-goes left trb whole = record { left = λ is. is; trb = λ is. is; whole = λ was is. is; fresh = λ now was. was now }

-- nothing is left over, before or after
pub none-goes : (left trb whole left_now trb_now whole_now : Bool) → left ≡ false → left_now ≡ false → (trb_now ≡ true → trb ≡ true) →
    GoesOn left trb whole left_now trb_now whole_now
none-goes left trb whole left_now trb_now whole_now none none_now less = record {
  left = λ is. absurd (false≢true (sym none ∙ is));
  trb = less;
  whole = λ was is. absurd (false≢true (sym none ∙ was));
  fresh = λ now was. absurd (false≢true (sym none_now ∙ now));
}

-- ONE TD

abbrev pub TdGoesOn : ℕ → Option Td → Option Td → Type 0
TdGoesOn trbs old new =
    GoesOn (is_td_left_over old) (has_data_trb trbs old) (is_whole trbs old) (is_td_left_over new) (has_data_trb trbs new) (is_whole trbs new)

pub td-same : (trbs : ℕ) (td : Option Td) → TdGoesOn trbs td td
td-same trbs td = same-goes (is_td_left_over td) (has_data_trb trbs td) (is_whole trbs td)

-- a TRB of a pending TD was taken
pub td-taken : (trbs : ℕ) (td : Td) → td.state ≡ Pending → TdGoesOn trbs (Some td) (Some (with_trb_taken td))
td-taken trbs td pends =
    let none : is_left_over td.state ≡ false = ap (λ state. is_left_over state) pends in
    none-goes (is_left_over td.state) (is_in_ring td.state && nat_lt td.consumed trbs) (td.consumed == trbs) (is_left_over td.state)
    (is_in_ring td.state && nat_lt (td.consumed + 1) trbs) (td.consumed + 1 == trbs) none none
    (λ has. let parts = and_parts (is_in_ring td.state) (nat_lt (td.consumed + 1) trbs) has in
    and_from (is_in_ring td.state) (nat_lt td.consumed trbs) parts.0 (lt-ltb td.consumed trbs (omega (arith, ltb-true (td.consumed + 1) trbs parts.1))))

-- the event of a pending TD was seen
pub td-seen : (trbs : ℕ) (td : Td) → td.state ≡ Pending → TdGoesOn trbs (Some td) (Some (with_event_seen td))
td-seen trbs td pends =
    none-goes (is_left_over td.state) (is_in_ring td.state && nat_lt td.consumed trbs) (td.consumed == trbs) false false (td.consumed == trbs)
    (ap (λ state. is_left_over state) pends) refl (λ has. absurd (false≢true has))

-- a short TD was left over, where it was pending
pub td-left : (trbs : ℕ) (td : Td) → IsShortTd trbs (Some td) → TdGoesOn trbs (Some td) (Some (left_over_td td))
td-left trbs td short = by_state td.state td.consumed short
  where
    by_state : (state : TdState) (consumed : ℕ) → IsShortTd trbs (Some (record { state = state; consumed = consumed }))
        → TdGoesOn trbs (Some (record { state = state; consumed = consumed })) (Some (left_over_td (record { state = state; consumed = consumed })))
    by_state Pending consumed is = record {
      left = λ none. absurd (false≢true none);
      trb = λ has. has;
      whole = λ none. absurd (false≢true none);
      fresh = λ now was. lt-ltb consumed trbs (is refl);
    }
    by_state Seen consumed is = same-goes false false (consumed == trbs)
    by_state LeftOver consumed is = same-goes true (nat_lt consumed trbs) (consumed == trbs)
    by_state Retired consumed is = same-goes false false (consumed == trbs)

-- THE TDS OF AN ENTRY

pub record TdsGoOn (old new : Entry) : Type 0 where
  pub request : new.task.request ≡ old.task.request
  pub status : TdGoesOn 1 (Some old.status_td) (Some new.status_td)
  pub data_tds : TdGoesOn (data_trbs old.task.request) old.data_td new.data_td

pub tds-same : (entry : Entry) → TdsGoOn entry entry
tds-same entry = record { request = refl; status = td-same 1 (Some entry.status_td); data_tds = td-same (data_trbs entry.task.request) entry.data_td }

-- what is so of no TD, and of one and what became of it, is so of the data TD on the pipe of a direction
pub in-either : (R : Option Td → Option Td → Type 0) (way : Direction) (old new : Option Td) → R None None → R old new
    → R (data_in_td way old) (data_in_td way new)
in-either R Nothing old new none one = none
in-either R ToHost old new none one = one
in-either R ToDevice old new none one = none

pub out-either : (R : Option Td → Option Td → Type 0) (way : Direction) (old new : Option Td) → R None None → R old new
    → R (data_out_td way old) (data_out_td way new)
out-either R Nothing old new none one = none
out-either R ToHost old new none one = none
out-either R ToDevice old new none one = one

-- the same of the data TD of a request on the pipe of one direction
abbrev RequestGoesOn : (Direction → Option Td → Option Td) → Request → Request → Option Td → Option Td → Type 0
RequestGoesOn td_of was now old new =
    GoesOn (is_td_left_over (td_of (request_direction was) old)) (has_data_trb (data_trbs was) (td_of (request_direction was) old))
    (is_whole (data_trbs was) (td_of (request_direction was) old)) (is_td_left_over (td_of (request_direction now) new))
    (has_data_trb (data_trbs now) (td_of (request_direction now) new)) (is_whole (data_trbs now) (td_of (request_direction now) new))

abbrev pub GoesOnOn : Pipe → Entry → Entry → Type 0
GoesOnOn pipe old new =
    GoesOn (is_left_over_on pipe old) (has_trb_on pipe old) (is_whole_on pipe old) (is_left_over_on pipe new) (has_trb_on pipe new) (is_whole_on pipe new)

-- the data TD on the pipe of one direction goes on, as the request stays
data-on : (td_of : Direction → Option Td → Option Td) (old new : Entry) → TdsGoOn old new
    → TdGoesOn (data_trbs old.task.request) (td_of (request_direction old.task.request) old.data_td) (td_of (request_direction old.task.request) new.data_td)
    → RequestGoesOn td_of old.task.request new.task.request old.data_td new.data_td
data-on td_of old new goes on = subst (λ r. RequestGoesOn td_of old.task.request r old.data_td new.data_td) (sym goes.request) on

pub tds-on : (pipe : Pipe) (old new : Entry) → TdsGoOn old new → GoesOnOn pipe old new
tds-on Command old new goes = same-goes false false false
tds-on Status old new goes = goes.status
tds-on DataIn old new goes =
    let trbs : ℕ = data_trbs old.task.request in
    data-on data_in_td old new goes
    (in-either (TdGoesOn trbs) (request_direction old.task.request) old.data_td new.data_td (td-same trbs None) goes.data_tds)
tds-on DataOut old new goes =
    let trbs : ℕ = data_trbs old.task.request in
    data-on data_out_td old new goes
    (out-either (TdGoesOn trbs) (request_direction old.task.request) old.data_td new.data_td (td-same trbs None) goes.data_tds)
