-- Bytes that are read part after part into a buffer.
use Rattle.std.proofs.Common.{◌≡◌, ℕ, zero, suc, ◌+◌, ◌-◌, ◌<◌, ◌≤◌, List, [], ◌∷◌, ◌++◌, length, take, Option, subst, sym, ap, arith}
use Rattle.std.specs.Io.KnownBytes.{Consumes, Keeps}
use Rattle.std.proofs.KnownBytes.{Consumes-kept, Consumes-nil, Consumes-trans}
use Rattle.std.proofs.lemmas.List.{length-append, length-take-le, take-append-le}
use Rattle.byte_io.specs.Streams.{Gave, GaveFewer}
use borrow.Rule.Slice.PartMut.{put_mid, post_of}

front : (a c : ℕ) (xs ys rest : List ℕ) → a ≤ length xs → c ≤ length ys → take (a + c) (take a xs ++ (ys ++ rest)) ≡ take a xs ++ take c ys
front zero c xs ys rest inside fits = let e : zero + c ≡ c = omega arith in rw e (take-append-le c ys rest fits)
front (suc a) c [] ys rest inside fits = absurd (omega arith)
front (suc a) c (x ∷ xs) ys rest inside fits =
    let e : suc a + c ≡ suc (a + c) = omega arith in
    rw e (ap (λ (l : List ℕ). x ∷ l) (front a c xs ys rest (omega arith) fits))

-- after so many bytes, those at the front of the rest of the buffer
pub read_more : (old middle new : Option (List ℕ)) (done count k : ℕ) (xs ys : List ℕ) → done ≤ length xs → count ≤ length ys
    → Consumes old middle (take done xs) → Consumes middle new (take count ys) → Consumes old new (take (done + count) (put_mid done k xs ys))
read_more old middle new done count k xs ys inside fits before after =
    subst (Consumes old new) (sym (front done count xs ys (post_of done k xs) inside fits)) (Consumes-trans old middle new _ _ before after)

-- nothing was read
pub gave_none : (old : Option (List ℕ)) (count left : ℕ) → left ≡ count → Gave old old (count - left)
gave_none old count left e = record { bytes = []; read = Consumes-nil old; len = omega arith }

-- so many bytes, and then those at the front of a buffer
pub gave_more : (old middle new : Option (List ℕ)) (count left read : ℕ) (chunk : List ℕ) → left ≤ count → read ≤ left → read ≤ length chunk
    → Gave old middle (count - left) → Consumes middle new (take read chunk) → Gave old new (count - (left - read))
gave_more old middle new count left read chunk bound few fits before after =
    let len : length (take read chunk) ≡ read = length-take-le read chunk fits in
    record {
      bytes = before.bytes ++ take read chunk;
      read = Consumes-trans old middle new before.bytes (take read chunk) before.read after;
      len = omega (arith, length-append before.bytes (take read chunk), before.len, len);
    }

-- after so many bytes of a buffer a read failed
pub fewer_before : (old middle new : Option (List ℕ)) (done : ℕ) (buffer : List ℕ) → done < length buffer → Consumes old middle (take done buffer)
    → Keeps middle new → GaveFewer old new (length buffer)
fewer_before old middle new done buffer inside before after = record {
  bytes = take done buffer;
  read = Consumes-kept old middle new (take done buffer) before after;
  few = omega (arith, length-take-le done buffer (omega arith));
}

-- so many bytes, and then fewer than a part of those that are left
pub fewer_more : (old middle new : Option (List ℕ)) (count left part : ℕ) → left ≤ count → part ≤ left → Gave old middle (count - left)
    → GaveFewer middle new part → GaveFewer old new count
fewer_more old middle new count left part bound few before after = record {
  bytes = before.bytes ++ after.bytes;
  read = Consumes-trans old middle new before.bytes after.bytes before.read after.read;
  few = omega (arith, length-append before.bytes after.bytes, before.len, after.few);
}
