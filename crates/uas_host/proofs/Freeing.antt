-- TRBs of the command pipe are freed one after another.
use Rattle.std.proofs.Common.{◌≡◌, ℕ, zero, suc, ◌-◌, ◌<◌, false, List, [], ◌∷◌, take, drop, Some, None, Option, refl, arith, sym, ap, ◌∙◌, inl, inr}
use Rattle.std.specs.Prelude.{slice_get, nat_lt, option_map, option_and_then}
use Rattle.std.proofs.lemmas.Bool.{cases_Bool}
use Rattle.std.proofs.lemmas.Option.{none-some, same_Some}
use Rattle.uas_profile.specs.declared.TheConstants.{COMMAND_RING_PLACES}
use Rattle.xhci_trb.specs.declared.Trb.{Trb}
use Rattle.cycle_ring.specs.Ring.{pointer_of, reclaimed}
use Rattle.cycle_ring.specs.Items.{Item, ItemRing, foreign, known, known_of, known_oldest_of}
use Rattle.uas_profile.specs.declared.Pipe.TheVariants.{Command}
use Rattle.stream_array.specs.Rings.{LinesState, with_ring}
use Rattle.uas_host.specs.State.{HostState}
use Rattle.uas_host.specs.Events.{commands_freed, done_before, is_awaited, with_commands_freed}
use Rattle.uas_host.proofs.Reclaiming.{reclaimed_further}

-- the lines with the first TRB of the command pipe freed
abbrev first_freed : LinesState → LinesState
first_freed lines = with_ring lines Command 0 (reclaimed COMMAND_RING_PLACES 1 lines.command)

freed_further : (lines : LinesState) (more : ℕ) → with_commands_freed (first_freed lines) more ≡ with_commands_freed lines (suc more)
freed_further lines zero = refl
freed_further lines (suc more) = ap (λ ring. record lines { command = ring }) (reclaimed_further COMMAND_RING_PLACES lines.command (suc more))

done_first : (host : HostState) (put : List Item) (got : ℕ) (trb : Trb) → 0 < got → slice_get put 0 ≡ Some (known trb) → is_awaited host trb ≡ false →
    done_before host (take got put) ≡ suc (done_before host (take (got - 1) (drop 1 put)))
done_first host [] got trb some is waits = absurd (none-some (known trb) is)
done_first host (first ∷ rest) zero trb some is waits = absurd (omega arith)
done_first host (first ∷ rest) (suc got) trb some is waits =
    let same : first ≡ known trb = same_Some first (known trb) is in let less : suc got - 1 ≡ got = omega arith in rw (same, waits, less) refl

-- a TRB that the host doesn't wait for is freed
pub commands_freed-step : (host : HostState) (lines : LinesState) (trb : Trb) → 0 < lines.command.got → slice_get lines.command.put 0 ≡ Some (known trb) →
    is_awaited host trb ≡ false →
    commands_freed host (first_freed lines) ≡ commands_freed host lines
commands_freed-step host lines trb some is waits =
    freed_further lines (done_before host (take (lines.command.got - 1) (drop 1 lines.command.put)))
    ∙ ap (with_commands_freed lines) (sym (done_first host lines.command.put lines.command.got trb some is waits))

-- the oldest TRB is the first
first-known : (pointer : ℕ) (item : Option Item) (at : ℕ × Trb) → Some at ≡ option_map (λ trb. (pointer, trb)) (option_and_then known_of item)
    → item ≡ Some (known at.1)
first-known pointer None at is = absurd (none-some at (sym is))
first-known pointer (Some (known trb)) at is =
    let same : at ≡ (pointer, trb) = same_Some at (pointer, trb) is in ap (λ (pair : ℕ × Trb). Some (known pair.1)) (sym same)
first-known pointer (Some (foreign bytes)) at is = absurd (none-some at (sym is))

pub oldest-known : (n : ℕ) (ring : ItemRing) (at : ℕ × Trb) → Some at ≡ known_oldest_of n ring → slice_get ring.put 0 ≡ Some (known at.1)
oldest-known n ring at is =
    elim (cases_Bool (nat_lt 0 ring.got)) as (λ _. slice_get ring.put 0 ≡ Some (known at.1)) [
      | inl some ↦
          let found : Some at ≡ option_map (λ trb. (pointer_of n ring 0, trb)) (option_and_then known_of (slice_get ring.put 0)) = rw some at is in
          first-known (pointer_of n ring 0) (slice_get ring.put 0) at found
      | inr none ↦ let no : Some at ≡ None = rw none at is in absurd (none-some at (sym no))
    ]

pub oldest-first : (ring : ItemRing) (at : ℕ × Trb) → Some at ≡ known_oldest_of COMMAND_RING_PLACES ring → slice_get ring.put 0 ≡ Some (known at.1)
oldest-first ring at is = oldest-known COMMAND_RING_PLACES ring at is
