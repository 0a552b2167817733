-- Heads and their bytes give each other back.
use Rattle.std.proofs.Common.{◌≡◌, ℕ, ◌^◌, ◌<◌, List, [], ◌++◌, length, refl, arith}
use Rattle.byteorder.specs.Endian.{little_bytes}
use Rattle.byteorder.specs.Numbers.{little_number-reads_back}
use Rattle.byte_numbers.specs.Bytes.{AreBytes}
use Rattle.usbredir.specs.declared.kinds.Head.{Head}
use Rattle.usbredir.specs.Kinds.{FitsHead, head_in, head_text, hello_head_in, hello_head_text}
use Rattle.usbredir.proofs.Numbers.{middle, last}

pub same_head : (k l i : ℕ) (h : Head) → k ≡ h.kind → l ≡ h.length → i ≡ h.id → ◌≡◌ {A = Head} (record { kind = k; length = l; id = i }) h
same_head k l i h a b c = rw (a, b, c) refl

pub head_in-head_text : (h : Head) → FitsHead h → head_in (head_text h) ≡ h
unfolding head_in head_text
head_in-head_text h fits =
    let id_text : List ℕ = little_bytes 8 h.id in
    let length_text : List ℕ = little_bytes 4 h.length ++ id_text in
    same_head _ _ _ h (little_number-reads_back 4 h.kind length_text fits.kind) (little_number-reads_back 4 h.length id_text fits.length)
    (little_number-reads_back 8 h.id [] fits.id)

pub hello_head_in-hello_head_text : (h : Head) → FitsHead h → h.id < 2 ^ 32 → hello_head_in (hello_head_text h) ≡ h
unfolding hello_head_in hello_head_text
hello_head_in-hello_head_text h fits small =
    let id_text : List ℕ = little_bytes 4 h.id in
    let length_text : List ℕ = little_bytes 4 h.length ++ id_text in
    same_head _ _ _ h (little_number-reads_back 4 h.kind length_text fits.kind) (little_number-reads_back 4 h.length id_text fits.length)
    (little_number-reads_back 4 h.id [] small)

pub head_text-head_in : (bytes : List ℕ) → length bytes ≡ 16 → AreBytes bytes → head_text (head_in bytes) ≡ bytes
unfolding head_in head_text
head_text-head_in bytes long is =
    middle 4 0 bytes _ (omega arith) is (middle 4 4 bytes _ (omega arith) is (last 8 8 bytes (omega arith) is))

pub hello_head_text-hello_head_in : (bytes : List ℕ) → length bytes ≡ 12 → AreBytes bytes → hello_head_text (hello_head_in bytes) ≡ bytes
unfolding hello_head_in hello_head_text
hello_head_text-hello_head_in bytes long is =
    middle 4 0 bytes _ (omega arith) is (middle 4 4 bytes _ (omega arith) is (last 4 8 bytes (omega arith) is))
