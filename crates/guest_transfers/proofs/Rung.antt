-- The first ring of a pipe whose doorbell is rung, from one ring to the next; and the end at which a ring was looked.
use Rattle.std.proofs.Common.{◌≡◌, ℕ, suc, ◌+◌, ◌-◌, ◌<◌, ◌≤◌, Bool, true, false, cond, List, Option, Some, None, refl, sym, ap, ◌∙◌, arith}
use Rattle.byteorder.specs.Endian.{little_number}
use Rattle.guest_memory.specs.Bytes.{Memory, ◌>>=◌, bytes_from}
use Rattle.guest_memory.specs.declared.rings.context.Found.{Found}
use Rattle.guest_memory.specs.declared.rings.context.Front.{Front}
use Rattle.guest_memory.specs.declared.rings.context.Home.{Home}
use Rattle.guest_memory.specs.rings.Ends.{found_at, front_of, home_at, home_size, looked}
use Rattle.guest_pipes.specs.Pipe.{PipeState, rung_on}
use Rattle.guest_transfers.specs.Silent.{rung_among, rung_from}

behind : (p : PipeState) (k : ℕ) → k < 256 → rung_from p k ≡ rung_among p (suc (256 - suc k)) k
unfolding rung_from
behind p k below =
    let e : 256 - k ≡ suc (256 - suc k) = omega arith in
    ap (λ (n : ℕ). rung_among p n k) e

pub rung_here : (p : PipeState) (k : ℕ) → k < 256 → rung_on p k ≡ true → rung_from p k ≡ Some k
rung_here p k below rung = behind p k below ∙ ap (λ (b : Bool). cond b (Some k) (rung_among p (256 - suc k) (suc k))) rung

pub rung_behind : (p : PipeState) (k : ℕ) → k < 256 → rung_on p k ≡ false → rung_from p k ≡ rung_from p (k + 1)
unfolding rung_from
rung_behind p k below rung =
    let e : suc k ≡ k + 1 = omega arith in
    behind p k below ∙ ap (λ (b : Bool). cond b (Some k) (rung_among p (256 - suc k) (suc k))) rung ∙ ap (rung_from p) e

pub rung_none : (p : PipeState) (k : ℕ) → 256 ≤ k → rung_from p k ≡ None
unfolding rung_from
rung_none p k past =
    let e : 256 - k ≡ 0 = omega arith in
    ap (λ (n : ℕ). rung_among p n k) e

-- what was found at a ring's end has that end
abbrev home_or : Home → Option Front → Home
home_or home None = home
home_or home (Some front) = front.home

looked_home : (memory : Memory) (home : Home) → home_or home (looked memory home) ≡ home
unfolding looked
looked_home memory home = by_bytes (bytes_from memory (home_at home) (home_size home))
  where
    by_found : (number : ℕ) (found : Option Found) → home_or home (found >>= (λ it. Some (front_of home number it))) ≡ home
    by_found number None = refl
    by_found number (Some it) = refl

    by_bytes : (bytes : Option (List ℕ))
        → home_or home (bytes >>= (λ it. found_at memory home (little_number 8 it) >>= (λ found. Some (front_of home (little_number 8 it) found)))) ≡ home
    by_bytes None = refl
    by_bytes (Some bytes) = by_found (little_number 8 bytes) (found_at memory home (little_number 8 bytes))

pub looked_at : (memory : Memory) (home : Home) (front : Front) → Some front ≡ looked memory home → front.home ≡ home
looked_at memory home front is = ap (home_or home) is ∙ looked_home memory home
