-- What a draw gathered.
use Rattle.std.proofs.Common.{◌≡◌, ℕ, ◌+◌, ◌≤◌, ◌^◌, List, [], ◌∷◌, ◌++◌, length, drop, Option, Some, None, option_map, refl, sym, ap, ◌∙◌, arith, false, length-drop}
use Rattle.std.proofs.lemmas.List.{length-take-le}
use Rattle.std.proofs.lemmas.Option.{none-some, same_Some}
use Rattle.byteorder.specs.Endian.{little_bytes}
use Rattle.guest_memory.specs.Bytes.{Memory, IsWithinAddresses, bytes_from}
use Rattle.guest_memory.specs.Ranges.{lacks, size_of}
use Rattle.guest_tags.specs.declared.buffer.Buffer.{Buffer}
use Rattle.guest_out.specs.Immediate.{bytes_out, immediate_bytes, is_immediate}

pub drop_front : (xs ys : List ℕ) → drop (length xs) (xs ++ ys) ≡ ys
drop_front [] ys = refl
drop_front (x ∷ xs) ys = drop_front xs ys

pub nothing_from : (memory : Memory) (at : ℕ) → bytes_from memory at 0 ≡ Some []
unfolding bytes_from
nothing_from memory at = refl

-- by the equation of what was gathered
pub drawn_bytes : (old new : List ℕ) (read : Option (List ℕ)) → Some new ≡ option_map (λ bytes. old ++ bytes) read → read ≡ Some (drop (length old) new)
drawn_bytes old new None is = absurd (none-some new (sym is))
drawn_bytes old new (Some bytes) is =
    let e : new ≡ old ++ bytes = same_Some new (old ++ bytes) is in
    ap Some (sym (ap (drop (length old)) e ∙ drop_front old bytes))

pub drawn_taken : (old new : List ℕ) (read : Option (List ℕ)) → Some new ≡ option_map (λ bytes. old ++ bytes) read → new ≡ old ++ drop (length old) new
drawn_taken old new None is = absurd (none-some new (sym is))
drawn_taken old new (Some bytes) is =
    let e : new ≡ old ++ bytes = same_Some new (old ++ bytes) is in
    e ∙ ap (λ bs. old ++ bs) (sym (ap (drop (length old)) e ∙ drop_front old bytes))

pub drawn_length : (memory : Memory) (at count : ℕ) (old new : List ℕ) → Some new ≡ option_map (λ bytes. old ++ bytes) (bytes_from memory at count)
    → length (drop (length old) new) ≡ count
drawn_length memory at count old new is =
    size_of memory at count (drop (length old) new) (drawn_bytes old new (bytes_from memory at count) is)

little_eight : (n : ℕ) → length (little_bytes 8 n) ≡ 8
little_eight n = refl

pub immediate_length : (buffer : Buffer) (moved count : ℕ) → moved + count ≤ 8 → length (immediate_bytes buffer moved count) ≡ count
immediate_length buffer moved count within =
    length-take-le count (drop moved (little_bytes 8 buffer.pointer)) (omega (arith, within, length-drop moved (little_bytes 8 buffer.pointer), little_eight buffer.pointer))

drop_all : (xs : List ℕ) → drop (length xs) xs ≡ []
drop_all [] = refl
drop_all (x ∷ xs) = drop_all xs

-- no range begins at 2 ^ 64 or above
pub none_from : (memory : Memory) (at count : ℕ) → IsWithinAddresses memory → 1 ≤ count → 2 ^ 64 ≤ at → bytes_from memory at count ≡ None
none_from memory at count ends some past =
    let here : at + 0 ≡ at = omega arith in
    lacks memory at count 0 some (ap memory here ∙ ends at past)

-- nothing is gathered where nothing is asked for
pub none_drawn : (memory : Memory) (buffer : Buffer) (moved count : ℕ) (old : List ℕ) → count ≡ 0 → is_immediate buffer ≡ false
    → bytes_out memory buffer moved count ≡ Some (drop (length old) old)
unfolding bytes_out
none_drawn memory buffer moved count old nought plain =
    rw (nought, plain) (nothing_from memory (buffer.pointer + moved) ∙ ap Some (sym (drop_all old)))

pub none_taken : (old : List ℕ) → old ≡ old ++ drop (length old) old
none_taken [] = refl
none_taken (x ∷ xs) = ap (λ l. x ∷ l) (none_taken xs)

pub none_length : (old : List ℕ) (count : ℕ) → count ≡ 0 → length (drop (length old) old) ≡ count
none_length old count nought = ap length (drop_all old) ∙ sym nought
