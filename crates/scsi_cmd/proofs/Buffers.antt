-- Laws of a list that is written over in part.
use Rattle.std.proofs.Common.{◌≡◌, ℕ, ◌+◌, ◌≤◌, List, [], ◌++◌, length, take, drop, refl, ap, sym, ◌∙◌, arith, append_assoc, length-append}
use Rattle.std.proofs.Common.{length-take, length-drop}
use Rattle.std.proofs.Math.Nat.{add-zero}
use Rattle.std.proofs.Math.ListN.{drop_of_length-le}
use Rattle.std.proofs.lemmas.List.{append-nil, take-append-le, take-append-drop, take_at, drop_at, drop-drop}
use Rattle.scsi_cmd.specs.Buffers.{with_bytes_at, written_at}

-- a list that is cut to its length n, after a write that is filled up from it
pub filled-written_at : (list : List ℕ) (at : ℕ) (bytes : List ℕ) (n : ℕ) → n ≡ length list → at ≤ length list →
    take n
    ((take at list ++ (bytes ++ drop (length bytes) (drop at list)))
    ++ drop (length (take at list ++ (bytes ++ drop (length bytes) (drop at list)))) list)
    ≡ written_at list at bytes
unfolding written_at with_bytes_at
filled-written_at list at bytes n long within =
    rw (long, drop-drop (length bytes) at list)
    (let longer : length list ≤ length (take at list ++ (bytes ++ drop (at + length bytes) list)) =
    omega (arith, length-append {A = ℕ}, length-take {A = ℕ}, length-drop {A = ℕ})
    in take-append-le (length list) _ _ longer)

-- no bytes change nothing
pub with_bytes_at-none : (list : List ℕ) (at : ℕ) → with_bytes_at list at [] ≡ list
unfolding with_bytes_at
with_bytes_at-none list at = rw add-zero (take-append-drop at list)

-- as many bytes as the list has replace it
pub with_bytes_at-whole : (list bytes : List ℕ) → length bytes ≡ length list → with_bytes_at list 0 bytes ≡ bytes
unfolding with_bytes_at
with_bytes_at-whole list bytes long =
    let past : length list ≤ 0 + length bytes = omega arith in
    rw (drop_of_length-le list past, append-nil) refl

-- bytes and then more of them right behind are written as one
pub with_bytes_at-next : (list : List ℕ) (at : ℕ) (front back : List ℕ) → at ≤ length list →
    with_bytes_at (with_bytes_at list at front) (at + length front) back ≡ with_bytes_at list at (front ++ back)
unfolding with_bytes_at
with_bytes_at-next list at front back within =
    let written = take at list ++ front in
    let rest = drop (at + length front) list in
    let long : length written ≡ at + length front = omega (arith, length-append {A = ℕ}, length-take {A = ℕ}) in
    let whole : take at list ++ (front ++ rest) ≡ written ++ rest = sym (append_assoc (take at list) front rest) in
    let kept = take_at written rest (at + length front) long in
    let behind = drop_at written rest (at + length front) long in
    let past : drop (at + length front + length back) (written ++ rest) ≡ drop (at + length front + length back) list =
    sym (drop-drop (length back) (at + length front) (written ++ rest)) ∙ ap (drop (length back)) behind
    ∙ drop-drop (length back) (at + length front) list in
    let ends : at + length front + length back ≡ at + length (front ++ back) = omega (arith, length-append {A = ℕ}) in
    rw (whole, kept, past, ends) (
    append_assoc (take at list) front _ ∙ ap (λ tail. take at list ++ tail) (sym (append_assoc front back _))
    )
