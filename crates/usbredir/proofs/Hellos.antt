-- Hellos and their bytes give each other back.
use Rattle.std.proofs.Common.{◌≡◌, ℕ, ◌+◌, ◌-◌, ◌*◌, ◌/◌, ◌%◌, ◌≤◌, true, List, ◌++◌, length, take, drop, Result, Ok, Err, refl, ap, sym, ◌∙◌, arith}
use Rattle.std.specs.Prelude.{IfOk, flat_map, nat_le}
use Rattle.std.proofs.Math.Nat.{mod-add-div}
use Rattle.std.proofs.lemmas.Bool.{and_from, and_parts, cond-true, cond_both, eq-eqb, eqb-true, le-leb, leb-true}
use Rattle.std.proofs.lemmas.List.{drop_at, length-append, length-drop, take-append-drop}
use Rattle.byteorder.specs.Endian.{little_bytes}
use Rattle.byte_numbers.specs.Bytes.{AreBytes}
use Rattle.byte_numbers.proofs.Bytes.{bytes_dropped}
use Rattle.usbredir.specs.declared.PacketFault.{PacketFault}
use Rattle.usbredir.specs.declared.PacketFault.TheVariants as fault
use Rattle.usbredir.specs.declared.hello.Hello.{Hello}
use Rattle.usbredir.specs.Device.{numbers_in}
use Rattle.usbredir.specs.Hello.{FitsHello, hello_in, hello_text, is_hello_length}
use Rattle.usbredir.proofs.Tables.{length-table, placed, table_in-text, text-numbers_in}

same_hello : (v w : List ℕ) (h : Hello) → v ≡ h.version → w ≡ h.capabilities.items
    → ◌≡◌ {A = Hello} (record { version = v; capabilities = record { items = w } }) h
same_hello v w h a b = rw (a, b) refl

is_length : (count words : ℕ) → count ≡ 64 + 4 * words → 1 ≤ words → words ≤ 16 → is_hello_length count ≡ true
is_length count words e some few =
    and_from _ _ (and_from _ _ (le-leb 68 count (omega arith)) (le-leb count 128 (omega arith)))
    (eq-eqb (count % 4) 0 (omega (arith, mod-add-div count 4)))

pub hello_in-hello_text : (h : Hello) → FitsHello h → hello_in (hello_text h) ≡ Ok h
unfolding hello_in hello_text
hello_in-hello_text h fits =
    let words : List ℕ = h.capabilities.items in
    let table : List ℕ = flat_map (little_bytes 4) words in
    let long : length (h.version ++ table) ≡ 64 + 4 * length words =
    omega (arith, length-append h.version table, length-table 4 words, fits.version) in
    let count : (length (h.version ++ table) - 64) / 4 ≡ length words = omega (arith, long, mod-add-div (length (h.version ++ table) - 64) 4) in
    let good : Hello → Result Hello PacketFault = λ x. Ok x in
    cond-true _ _ (Err fault.BadHello) (is_length (length (h.version ++ table)) (length words) long fits.some fits.few)
    ∙ ap good (same_hello _ _ h (placed 64 h.version table fits.version)
    (ap (numbers_in 4 ((length (h.version ++ table) - 64) / 4)) (drop_at h.version table 64 fits.version)
    ∙ table_in-text 4 ((length (h.version ++ table) - 64) / 4) words (sym count) fits.words))

pub hello_text-hello_in : (bytes : List ℕ) → AreBytes bytes → IfOk (hello_in bytes) (λ h. hello_text h ≡ bytes)
unfolding hello_in hello_text
hello_text-hello_in bytes is =
    cond_both (is_hello_length (length bytes))
    (Ok (record { version = take 64 bytes; capabilities = record { items = numbers_in 4 ((length bytes - 64) / 4) (drop 64 bytes) } }))
    (Err fault.BadHello) (λ (r : Result Hello PacketFault). IfOk r (λ h. hello_text h ≡ bytes))
    (λ yes.
    (let parts = and_parts _ _ yes in
    let low : 68 ≤ length bytes = leb-true 68 (length bytes) (and_parts (nat_le 68 (length bytes)) (nat_le (length bytes) 128) parts.0).0 in
    let fours : length bytes % 4 ≡ 0 = eqb-true (length bytes % 4) 0 parts.1 in
    let whole : length (drop 64 bytes) ≡ 4 * ((length bytes - 64) / 4) =
    omega (arith, length-drop 64 bytes, low, fours, mod-add-div (length bytes) 4, mod-add-div (length bytes - 64) 4) in
    ap (λ (l : List ℕ). take 64 bytes ++ l) (text-numbers_in 4 ((length bytes - 64) / 4) (drop 64 bytes) whole (bytes_dropped 64 bytes is))
    ∙ take-append-drop 64 bytes))
    (λ no. tt)
