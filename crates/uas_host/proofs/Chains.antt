-- A data TD is a chain of TRBs that have texts.
use Rattle.std.proofs.Common.{◌≡◌, ℕ, zero, suc, ◌+◌, ◌-◌, ◌*◌, ◌^◌, ◌<◌, ◌≤◌, All, List, [], ◌∷◌, ◌++◌, length, take, refl, arith, ap, sym, ◌∙◌, inl}
use Rattle.std.proofs.Common.{append_assoc}
use Rattle.std.specs.Prelude.{slice_set}
use Rattle.std.proofs.lemmas.List.{take_more_set}
use Rattle.std.proofs.lemmas.List.Elements.{All-cons, All-nil}
use Rattle.uas_profile.specs.declared.TheConstants.{STREAMS, CHUNK_BYTES, WINDOW_BYTES}
use Rattle.xhci_trb.specs.declared.Trb.{Trb}
use Rattle.xhci_trb.specs.Text.{HasText}
use Rattle.cycle_ring.specs.Ring.{IsChain, IsTd}
use Rattle.uas_host.specs.Tds.{data_td, data_trb, data_trb_count, data_trbs, window_of}

pub data_trbs-chain : (more pointer left : ℕ) → IsChain (data_trbs (suc more) pointer left)
data_trbs-chain zero pointer left = (tt, refl)
data_trbs-chain (suc more) pointer left = ((tt, refl), data_trbs-chain more (pointer + CHUNK_BYTES) (left - CHUNK_BYTES))

pub data_trbs-length : (count pointer left : ℕ) → length (data_trbs count pointer left) ≡ count
data_trbs-length zero pointer left = refl
data_trbs-length (suc more) pointer left = ap suc (data_trbs-length more (pointer + CHUNK_BYTES) (left - CHUNK_BYTES))

data_trb-text : (pointer left more : ℕ) → pointer < 2 ^ 64 → HasText (data_trb pointer left more)
data_trb-text pointer left zero below = ((below, omega arith, omega arith, omega arith), omega arith)
data_trb-text pointer left (suc more) below = ((below, omega arith, omega arith, omega arith), omega arith)

data_trbs-texts : (count pointer left : ℕ) → pointer + CHUNK_BYTES * count < 2 ^ 64 → All HasText (data_trbs count pointer left)
data_trbs-texts zero pointer left below = All-nil HasText
data_trbs-texts (suc more) pointer left below =
    All-cons HasText _ _ (data_trb-text pointer left more (omega arith)) (data_trbs-texts more (pointer + CHUNK_BYTES) (left - CHUNK_BYTES) (omega arith))

-- what a ring asks of the data TD
pub record IsGoodTd (trbs : List Trb) (count : ℕ) : Type 0 where
  pub td : IsTd trbs
  pub texts : All HasText trbs
  pub size : length trbs ≡ count

good_trbs : (count pointer left : ℕ) → 0 < count → pointer + CHUNK_BYTES * count < 2 ^ 64 → IsGoodTd (data_trbs count pointer left) count
good_trbs zero pointer left some below = absurd (omega arith)
good_trbs (suc more) pointer left some below = record {
  td = inl (data_trbs-chain more pointer left);
  texts = data_trbs-texts (suc more) pointer left below;
  size = data_trbs-length (suc more) pointer left;
}

pub data_td-good : (tag bytes : ℕ) → tag ≤ STREAMS → 0 < bytes → bytes ≤ WINDOW_BYTES → IsGoodTd (data_td tag bytes) (data_trb_count bytes)
data_td-good tag bytes within some most = good_trbs (data_trb_count bytes) (window_of tag) bytes (omega arith) (omega arith)

-- one more TRB is written behind those that were
pub next_trb : (trbs whole : List Trb) (trb : Trb) (k count window bytes : ℕ) → k < length trbs → k < count →
    trb ≡ data_trb (window + CHUNK_BYTES * k) (bytes - CHUNK_BYTES * k) (count - 1 - k) →
    take k trbs ++ data_trbs (count - k) (window + CHUNK_BYTES * k) (bytes - CHUNK_BYTES * k) ≡ whole →
    take (k + 1) (slice_set trbs k trb) ++ data_trbs (count - (k + 1)) (window + CHUNK_BYTES * (k + 1)) (bytes - CHUNK_BYTES * (k + 1)) ≡ whole
next_trb trbs whole trb k count window bytes inside below is so_far =
    let more = count - 1 - k in
    let at = window + CHUNK_BYTES * k in
    let left = bytes - CHUNK_BYTES * k in
    let first : count - k ≡ suc more = omega arith in
    let next : count - (k + 1) ≡ more = omega arith in
    let then : window + CHUNK_BYTES * (k + 1) ≡ at + CHUNK_BYTES = omega arith in
    let rest : bytes - CHUNK_BYTES * (k + 1) ≡ left - CHUNK_BYTES = omega arith in
    let old : take k trbs ++ (data_trb at left more ∷ data_trbs more (at + CHUNK_BYTES) (left - CHUNK_BYTES)) ≡ whole =
    sym (ap (λ n. take k trbs ++ data_trbs n at left) first) ∙ so_far in
    ap (λ list. list ++ data_trbs (count - (k + 1)) (window + CHUNK_BYTES * (k + 1)) (bytes - CHUNK_BYTES * (k + 1))) (take_more_set trbs k trb inside)
    ∙ (rw (next, then, rest, is) (append_assoc (take k trbs) (data_trb at left more ∷ []) (data_trbs more (at + CHUNK_BYTES) (left - CHUNK_BYTES))) ∙ old)
