-- The first of a pipe's streams whose TD in front was begun, from one stream to the next.
use Rattle.std.proofs.Common.{◌≡◌, ℕ, suc, ◌+◌, ◌-◌, ◌<◌, ◌≤◌, Bool, true, false, cond, Some, None, ap, ◌∙◌, arith}
use Rattle.guest_pipes.specs.Pipe.{PipeState, progress_on}
use Rattle.xhci_machine.specs.Orders.{begun_among, next_begun}

behind : (p : PipeState) (k : ℕ) → k < 256 → next_begun p k ≡ begun_among p (suc (256 - suc k)) k
unfolding next_begun
behind p k below =
    let e : 256 - k ≡ suc (256 - suc k) = omega arith in
    ap (λ (n : ℕ). begun_among p n k) e

pub next_here : (p : PipeState) (k : ℕ) → k < 256 → (progress_on p k).begun ≡ true → next_begun p k ≡ Some k
next_here p k below begun = behind p k below ∙ ap (λ (b : Bool). cond b (Some k) (begun_among p (256 - suc k) (suc k))) begun

pub next_behind : (p : PipeState) (k : ℕ) → k < 256 → (progress_on p k).begun ≡ false → next_begun p k ≡ next_begun p (k + 1)
unfolding next_begun
next_behind p k below begun =
    let e : suc k ≡ k + 1 = omega arith in
    behind p k below ∙ ap (λ (b : Bool). cond b (Some k) (begun_among p (256 - suc k) (suc k))) begun ∙ ap (next_begun p) e

pub next_none : (p : PipeState) (k : ℕ) → 256 ≤ k → next_begun p k ≡ None
unfolding next_begun
next_none p k past =
    let e : 256 - k ≡ 0 = omega arith in
    ap (λ (n : ℕ). begun_among p n k) e
