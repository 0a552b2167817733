-- The form of a pipe is exact.
use Rattle.std.proofs.Common.{◌≡◌, ◌==◌, Bool, true, false, List, [], ◌∷◌, refl, ap, arith}
use Rattle.std.specs.Prelude.{not}
use Rattle.std.proofs.lemmas.Bool.{and_parts, eqb-true, false≢true}
use Rattle.guest_pipes.specs.declared.pipe.saved.PipeHead.{PipeHead}
use Rattle.guest_pipes.specs.declared.progress.Ending.{Ending}
use Rattle.guest_pipes.specs.declared.progress.Ending.TheVariants.{Runs, Told, Owed}
use Rattle.guest_pipes.specs.declared.progress.Progress.{Progress}
use Rattle.guest_pipes.specs.Progress.{fresh, runs}
use Rattle.machine_bytes.specs.Exact.{IsExact}
use Rattle.machine_bytes.specs.Forms.{pair}
use Rattle.machine_bytes.proofs.Exact.{checked-exact, flag-exact, mapped-exact, number-exact, pair-exact}
use Rattle.machine_bytes.proofs.SparseExact.{sparse-exact}
use Rattle.controller_bytes.specs.Pipes.{Ring, doorbells_of, head_form, head_of, is_fresh, is_quiet, pipe_form, pipe_in, progresses_of, quiet_ring, ring_place, rings_form, rings_of}
use Rattle.controller_bytes.proofs.ConsumersExact.{progress-exact, state-exact}

head-exact : IsExact head_form
head-exact =
    mapped-exact _ _ _ (pair-exact _ _ (number-exact 1) (pair-exact _ _ state-exact (pair-exact _ _ (number-exact 8)
    (pair-exact _ _ (checked-exact _ _ (number-exact 2)) flag-exact)))) (λ h has. refl)

pub is_off : (flag : Bool) → not flag ≡ true → flag ≡ false
is_off true e = absurd (false≢true e)
is_off false e = refl

is_running : (ending : Ending) → runs ending ≡ true → ending ≡ Runs
is_running Runs e = refl
is_running (Told code) e = absurd (false≢true e)
is_running Owed e = absurd (false≢true e)

-- a progress with these parts is fresh
fresh_of : (p : Progress) → p.moved ≡ 0 → p.ending ≡ Runs → p.edtla ≡ 0 → p.begun ≡ false → p.fed ≡ false → p ≡ fresh
fresh_of p a b c d e = let q : Progress = record { moved = p.moved; ending = p.ending; edtla = p.edtla; begun = p.begun; fed = p.fed } in
    let same : q ≡ fresh = rw (a, b, c, d, e) refl in same

progress_fresh : (p : Progress) → is_fresh p ≡ true → p ≡ fresh
progress_fresh p e =
    let one = and_parts (p.moved == 0) _ e in
    let two = and_parts (runs p.ending) _ one.1 in
    let three = and_parts (p.edtla == 0) _ two.1 in
    let four = and_parts (not p.begun) (not p.fed) three.1 in
    fresh_of p (eqb-true _ _ one.0) (is_running p.ending two.0) (eqb-true _ _ three.0) (is_off p.begun four.0) (is_off p.fed four.1)

quiet_of : (rung : Bool) (p : Progress) → rung ≡ false → p ≡ fresh → let r : Ring = (rung, p) in r ≡ quiet_ring
quiet_of rung p a b = rw (a, b) refl

ring_quiet : (ring : Ring) → is_quiet ring ≡ true → ring ≡ quiet_ring
ring_quiet ring e =
    let both = and_parts (not ring.0) (is_fresh ring.1) e in
    quiet_of ring.0 ring.1 (is_off ring.0 both.0) (progress_fresh ring.1 both.1)

rings-exact : IsExact rings_form
rings-exact = sparse-exact 256 quiet_ring ring_place (omega arith) (pair-exact _ _ flag-exact progress-exact) refl ring_quiet

rings_back : (rings : List Ring) → rings_of (doorbells_of rings) (progresses_of rings) ≡ rings
rings_back [] = refl
rings_back (ring ∷ rings) = ap (λ (l : List Ring). ring ∷ l) (rings_back rings)

pub pipe-exact : IsExact pipe_form
pipe-exact = mapped-exact pipe_in _ _ (pair-exact _ _ head-exact rings-exact) back
  where
    back : (p : PipeHead × List Ring) → (pair head_form rings_form).Has p → (head_of (pipe_in p), rings_of (doorbells_of p.1) (progresses_of p.1)) ≡ p
    back p has = rw (rings_back p.1) refl
