-- Bytes that are sent, one part after the other, and messages of which a part came.
use Rattle.std.proofs.Common.{◌≡◌, ◌∙◌, ℕ, ◌+◌, ◌≤◌, Bool, List, ◌++◌, length, Option, Result, Ok, Err, ap, subst, sym, append_assoc, arith}
use Rattle.std.specs.Prelude.{IsTrue}
use Rattle.std.proofs.lemmas.List.{length-append}
use Rattle.std.specs.Io.KnownBytes.{Appends, Consumes}
use Rattle.std.proofs.KnownBytes.{Appends-trans, Consumes-trans}
use Rattle.byte_io.specs.Streams.{Began}
use Rattle.serve_run.specs.declared.fault.ServeFault.{ServeFault}
use Rattle.serve_run.specs.Faults.{EndsReading, IsCut, Sends}

-- WRITING

pub began_then : (w x y : Option (List ℕ)) (bytes more : List ℕ) → Appends w x bytes → Began x y more → Began w y (bytes ++ more)
began_then w x y bytes more first second = record {
  part = bytes ++ second.part;
  rest = second.rest;
  front = append_assoc bytes second.part second.rest ∙ ap (λ (l : List ℕ). bytes ++ l) second.front;
  wrote = Appends-trans w x y bytes second.part first second.wrote;
}

began_more : (w x : Option (List ℕ)) (bytes more : List ℕ) → Began w x bytes → Began w x (bytes ++ more)
began_more w x bytes more first = record {
  part = first.part;
  rest = first.rest ++ more;
  front = sym (append_assoc first.part first.rest more) ∙ ap (λ (l : List ℕ). l ++ more) first.front;
  wrote = first.wrote;
}

-- a part was written, and then another is sent
pub sends_then : (r : Result (Unit {0}) ServeFault) (can now : Bool) (w x y : Option (List ℕ)) (bytes more : List ℕ) → now ≡ can
    → Appends w x bytes → Sends r now x y more → Sends r can w y (bytes ++ more)
sends_then (Ok done) can now w x y bytes more same first second = Appends-trans w x y bytes more first second
sends_then (Err reason) can now w x y bytes more same first second =
    (second.0, subst (λ (b : Bool). IsTrue b) same second.1, began_then w x y bytes more first second.2)

-- the first part wasn't written whole
pub sends_short : (reason : ServeFault) (can : Bool) (w x : Option (List ℕ)) (bytes more : List ℕ) → Sends (Err reason) can w x bytes
    → Sends (Err reason) can w x (bytes ++ more)
sends_short reason can w x bytes more first = (first.0, first.1, began_more w x bytes more first.2)

-- READING

-- a part of a message came, and of the rest not all
pub cut_behind : (reason : ServeFault) (can now : Bool) (count rest : ℕ) (l m n : Option (List ℕ)) (bytes : List ℕ) → now ≡ can
    → length bytes + rest ≤ count → Consumes l m bytes → IsCut reason now 0 rest m n → IsCut reason can 0 count l n
cut_behind reason can now count rest l m n bytes same fits first second = record {
  gave = record {
    bytes = bytes ++ second.gave.bytes;
    read = Consumes-trans l m n bytes second.gave.bytes first second.gave.read;
    few = omega (arith, length-append bytes second.gave.bytes, second.gave.few, fits);
  };
  why = subst (λ (b : Bool). EndsReading reason b n) same second.why;
  some = λ ended. omega arith;
}

pub cut_same : (reason : ServeFault) (can now : Bool) (least count : ℕ) (l n : Option (List ℕ)) → now ≡ can → IsCut reason now least count l n
    → IsCut reason can least count l n
cut_same reason can now least count l n same cut = subst (λ (b : Bool). IsCut reason b least count l n) same cut
