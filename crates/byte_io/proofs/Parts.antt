-- Bytes that are written part after part.
use Rattle.std.proofs.Common.{◌≡◌, ℕ, ◌+◌, ◌-◌, List, length, take, drop, Option, Result, Ok, Err, subst, sym, arith}
use Rattle.std.specs.Prelude.{OnErr}
use Rattle.std.proofs.Math.Seq.{take-add}
use Rattle.std.proofs.lemmas.List.{length-drop, take-append-drop, take_all}
use Rattle.std.specs.Io.KnownBytes.{Appends, Keeps}
use Rattle.std.proofs.KnownBytes.{Appends-kept, Appends-trans}
use Rattle.byte_io.specs.Streams.{Began}

-- so many of them
pub began_at : (a b c : Option (List ℕ)) (done : ℕ) (bytes : List ℕ) → Appends a b (take done bytes) → Keeps b c → Began a c bytes
began_at a b c done bytes front same = record {
  part = take done bytes;
  rest = drop done bytes;
  front = take-append-drop done bytes;
  wrote = Appends-kept a b c (take done bytes) front same;
}

-- what holds of a call that failed
pub on_err_so : {T E P : Type 0} (r : Result T E) → P → OnErr r P
on_err_so (Ok x) p = tt
on_err_so (Err e) p = p

-- so many bytes, and then some of those behind them
pub appends_more : (a b c : Option (List ℕ)) (done count : ℕ) (bytes : List ℕ) → Appends a b (take done bytes)
    → Appends b c (take count (take (length bytes - done) (drop done bytes))) → Appends a c (take (done + count) bytes)
appends_more a b c done count bytes before after =
    let rest : take (length bytes - done) (drop done bytes) ≡ drop done bytes =
    take_all (length bytes - done) (drop done bytes) (omega (arith, length-drop done bytes)) in
    subst (Appends a c) (sym (take-add done count bytes)) (Appends-trans a b c (take done bytes) (take count (drop done bytes)) before
    (subst (λ (l : List ℕ). Appends b c (take count l)) rest after))
