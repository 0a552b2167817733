-- The tests of what a step carries out say what the facts of xhci_ctl say.
use Rattle.std.proofs.Common.{◌≡◌, ℕ, ◌/◌, ◌%◌, ◌≤◌, ◌↔◌, ◌==◌, ◌&&◌, Bool, true, false, nat_le, List, length, Option, Some, None, Result, Ok, Err, refl}
use Rattle.std.specs.Prelude.{IsOk, is_err}
use Rattle.std.proofs.lemmas.Bool.{and_from, and_parts, eq-eqb, eqb-true, false≢true, le-leb, leb-true}
use Rattle.xhci_trb.specs.declared.Trb.{Trb}
use Rattle.xhci_trb.specs.declared.Trb.TheVariants.{Normal, Link, StopEndpoint, SetDequeue, TransferEvent, CommandEvent}
use Rattle.frame_store.specs.declared.TagBuffers.{TagBuffers}
use Rattle.frame_store.specs.Buffers.{IsNamed, IsWhole, left_at}
use Rattle.frame_store.proofs.FramesLaws.{left_at-named}
use Rattle.uas_iu.specs.declared.Iu.{Iu}
use Rattle.uas_iu.specs.Units.{unit_text}
use Rattle.uas_target.specs.declared.Phase.{Phase}
use Rattle.uas_target.specs.declared.Phase.TheVariants.{Absent, Gives, Takes, Ends}
use Rattle.uas_profile.specs.declared.TheConstants.{COMMAND_BYTES}
use Rattle.xhci_ctl.specs.Own.{IsOwn, IsOwnAnswer, IsOwnCommand, IsOwnData, IsOwnIn, IsOwnOut, length_of}
use Rattle.uas_controller.specs.Own.{is_named, is_own, is_own_answer, is_own_command, is_own_data, is_own_in, is_own_out}

-- a test is passed exactly where this holds
abbrev pub Tells : Bool → Type 0 → Type 0
Tells test fact = (test ≡ true) ↔ fact

nothing : Tells false ⊥
nothing = (λ is. false≢true is, λ no. absurd no)

both : (a b : Bool) (A B : Type 0) → Tells a A → Tells b B → Tells (a && b) (A × B)
both a b A B left right = (
  λ is. let parts = and_parts a b is in (left.0 parts.0, right.0 parts.1),
  λ facts. and_from a b (left.1 facts.0) (right.1 facts.1),
)

same : (m n : ℕ) → Tells (m == n) (m ≡ n)
same m n = (eqb-true m n, eq-eqb m n)

most : (m n : ℕ) → Tells (nat_le m n) (m ≤ n)
most m n = (leb-true m n, le-leb m n)

pub is_named-tells : (frames : List TagBuffers) (address len : ℕ) → IsWhole frames → Tells (is_named frames address len) (IsNamed frames address len)
is_named-tells frames address len whole =
    let named = left_at-named frames address len whole in
    (λ is. named.0 (leb-true len (left_at frames address) is), λ is. le-leb len (left_at frames address) (named.1 is))

pub is_own-tells : (frames : List TagBuffers) (trb : Option Trb) → IsWhole frames → Tells (is_own frames trb) (IsOwn frames trb)
is_own-tells frames (Some (Normal pointer length td_size flags)) whole =
    let named = is_named-tells frames pointer length whole in (
      λ is.
          let outer = and_parts (flags.0 % 2 == 0) (flags.0 / 32 % 2 == 0 && is_named frames pointer length) is in
          let inner = and_parts (flags.0 / 32 % 2 == 0) (is_named frames pointer length) outer.1 in
          (eqb-true (flags.0 % 2) 0 outer.0, eqb-true (flags.0 / 32 % 2) 0 inner.0, named.0 inner.1),
      λ is.
          and_from (flags.0 % 2 == 0) (flags.0 / 32 % 2 == 0 && is_named frames pointer length) (eq-eqb (flags.0 % 2) 0 is.0)
          (and_from (flags.0 / 32 % 2 == 0) (is_named frames pointer length) (eq-eqb (flags.0 / 32 % 2) 0 is.1) (named.1 is.2)),
    )
is_own-tells frames (Some (Link pointer toggle chain ioc)) whole = nothing
is_own-tells frames (Some (StopEndpoint endpoint slot)) whole = nothing
is_own-tells frames (Some (SetDequeue pointer cycle stream endpoint slot)) whole = nothing
is_own-tells frames (Some (TransferEvent pointer residual code endpoint slot)) whole = nothing
is_own-tells frames (Some (CommandEvent pointer code slot)) whole = nothing
is_own-tells frames None whole = nothing

pub is_own_command-tells : (frames : List TagBuffers) (trb : Option Trb) → IsWhole frames → Tells (is_own_command frames trb) (IsOwnCommand frames trb)
is_own_command-tells frames trb whole =
    both (is_own frames trb) (nat_le (length_of trb) COMMAND_BYTES) (IsOwn frames trb) (length_of trb ≤ COMMAND_BYTES)
    (is_own-tells frames trb whole) (most (length_of trb) COMMAND_BYTES)

is_own_data-tells : (frames : List TagBuffers) (size : ℕ) (trb : Option Trb) → IsWhole frames
    → Tells (is_own_data frames size trb) (IsOwnData frames size trb)
is_own_data-tells frames size trb whole =
    both (is_own frames trb) (length_of trb == size) (IsOwn frames trb) (length_of trb ≡ size) (is_own-tells frames trb whole)
    (same (length_of trb) size)

pub is_own_in-tells : (frames : List TagBuffers) (phase : Phase) (trb : Option Trb) → IsWhole frames
    → Tells (is_own_in frames phase trb) (IsOwnIn frames phase trb)
is_own_in-tells frames Absent trb whole = is_own-tells frames trb whole
is_own_in-tells frames (Gives size) trb whole = is_own_data-tells frames size trb whole
is_own_in-tells frames (Takes size) trb whole = is_own-tells frames trb whole
is_own_in-tells frames Ends trb whole = is_own-tells frames trb whole

pub is_own_out-tells : (frames : List TagBuffers) (phase : Phase) (trb : Option Trb) → IsWhole frames
    → Tells (is_own_out frames phase trb) (IsOwnOut frames phase trb)
is_own_out-tells frames Absent trb whole = is_own-tells frames trb whole
is_own_out-tells frames (Gives size) trb whole = is_own-tells frames trb whole
is_own_out-tells frames (Takes size) trb whole = is_own_data-tells frames size trb whole
is_own_out-tells frames Ends trb whole = is_own-tells frames trb whole

pub is_own_answer-tells : (frames : List TagBuffers) (phase : Phase) (answer : Option Iu) (trb : Option Trb) → IsWhole frames
    → Tells (is_own_answer frames phase answer trb) (IsOwnAnswer frames phase answer trb)
is_own_answer-tells frames Absent answer trb whole = is_own-tells frames trb whole
is_own_answer-tells frames (Gives size) answer trb whole = is_own-tells frames trb whole
is_own_answer-tells frames (Takes size) answer trb whole = is_own-tells frames trb whole
is_own_answer-tells frames Ends None trb whole = is_own-tells frames trb whole
is_own_answer-tells frames Ends (Some unit) trb whole =
    both (is_own frames trb) (nat_le (length (unit_text unit)) (length_of trb)) (IsOwn frames trb) (length (unit_text unit) ≤ length_of trb)
    (is_own-tells frames trb whole) (most (length (unit_text unit)) (length_of trb))

-- what the store's own test answers, as this test
pub named-passes : {E : Type 0} (frames : List TagBuffers) (address len : ℕ) (checked : Result (Unit {0}) E) → IsWhole frames
    → (IsOk checked ↔ IsNamed frames address len) → is_err checked ≡ false → is_named frames address len ≡ true
named-passes frames address len (Ok done) whole named passed = (is_named-tells frames address len whole).1 (named.0 refl)
named-passes frames address len (Err fault) whole named passed = absurd (cc)
