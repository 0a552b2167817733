-- CSWs and their bytes give each other back.
use Rattle.std.proofs.Common.{◌≡◌, ℕ, ◌==◌, ◌&&◌, List, [], ◌∷◌, ◌++◌, length, take, drop, slice_index}
use Rattle.std.proofs.Common.{Option, Some, None, refl, ap, ap₂, subst, ◌∙◌, arith}
use Rattle.std.specs.Prelude.{IfSome}
use Rattle.std.proofs.lemmas.Bool.{and_parts, cond_both, eqb-true}
use Rattle.byteorder.specs.Endian.{little_bytes, little_number}
use Rattle.byteorder.specs.Numbers.{little_number-reads_back}
use Rattle.byte_numbers.specs.Bytes.{AreBytes}
use Rattle.bulk_only.specs.declared.status.Csw.{Csw}
use Rattle.bulk_only.specs.declared.status.CswStatus.{CswStatus}
use Rattle.bulk_only.specs.declared.status.CswStatus.TheVariants.{Passed, Failed, PhaseError}
use Rattle.bulk_only.specs.Status.{FitsCsw, csw_in, csw_text, csw_with, status_byte, status_in}
use Rattle.bulk_only.proofs.Commands.{small_number, twelve_back}

same_csw : (t r : ℕ) (s : CswStatus) (csw : Csw) → t ≡ csw.tag → r ≡ csw.residue → s ≡ csw.status
    → ◌≡◌ {A = Csw} (record { tag = t; residue = r; status = s }) csw
same_csw t r s csw a b c = rw (a, b, c) refl

status_back : (s : CswStatus) → status_in (status_byte s) ≡ Some s
status_back Passed = refl
status_back Failed = refl
status_back PhaseError = refl

pub csw_read_back : (csw : Csw) → FitsCsw csw → csw_in (csw_text csw) ≡ Some csw
unfolding csw_text
csw_read_back csw fits =
    let tail : List ℕ = status_byte csw.status ∷ [] in
    ap (csw_with (csw_text csw)) (status_back csw.status)
    ∙ ap (λ (c : Csw). Some c) (same_csw _ _ _ csw (little_number-reads_back 4 csw.tag (little_bytes 4 csw.residue ++ tail) fits.0)
    (little_number-reads_back 4 csw.residue tail fits.1) refl)

-- a status that is told, by its byte
byte_back : (byte : ℕ) → IfSome (status_in byte) (λ s. status_byte s ≡ byte)
byte_back byte =
    let P : Option CswStatus → Type 0 = λ r. IfSome r (λ s. status_byte s ≡ byte) in
    cond_both (byte == 0) (Some Passed) _ P (λ e. omega (arith, eqb-true byte 0 e))
    (λ other. cond_both (byte == 1) (Some Failed) _ P (λ e. omega (arith, eqb-true byte 1 e))
    (λ another. cond_both (byte == 2) (Some PhaseError) None P (λ e. omega (arith, eqb-true byte 2 e)) (λ none. tt)))

last_byte : (bytes : List ℕ) → length bytes ≡ 13 → take 12 bytes ++ (slice_index bytes 12 ∷ []) ≡ bytes
last_byte (a ∷ b ∷ c ∷ d ∷ e ∷ f ∷ g ∷ h ∷ i ∷ j ∷ k ∷ l ∷ m ∷ []) size = refl
last_byte _ size = absurd (omega arith)

with_status : (bytes : List ℕ) (s : Option CswStatus) → length bytes ≡ 13 → little_number 4 bytes ≡ 0x53425355 → AreBytes bytes
    → IfSome s (λ s. status_byte s ≡ slice_index bytes 12) → IfSome (csw_with bytes s) (λ csw. FitsCsw csw × (csw_text csw ≡ bytes))
unfolding csw_text
with_status bytes None size signature are told = tt
with_status bytes (Some s) size signature are told =
    let front : little_bytes 4 0x53425355 ++ little_bytes 4 (little_number 4 (drop 4 bytes)) ++ little_bytes 4 (little_number 4 (drop 8 bytes)) ≡ take 12 bytes =
    subst (λ (n : ℕ). little_bytes 4 n ++ little_bytes 4 (little_number 4 (drop 4 bytes)) ++ little_bytes 4 (little_number 4 (drop 8 bytes)) ≡ take 12 bytes)
    signature (twelve_back bytes (omega (arith, size)) are) in
    ((small_number 4 bytes are, small_number 8 bytes are), ap₂ ◌++◌ front (ap₂ ◌∷◌ told refl) ∙ last_byte bytes size)

pub csw_written_back : (bytes : List ℕ) → AreBytes bytes → IfSome (csw_in bytes) (λ csw. FitsCsw csw × (csw_text csw ≡ bytes))
csw_written_back bytes are =
    let P : Option Csw → Type 0 = λ r. IfSome r (λ csw. FitsCsw csw × (csw_text csw ≡ bytes)) in
    cond_both (length bytes == 13 && little_number 4 bytes == 0x53425355) (csw_with bytes (status_in (slice_index bytes 12))) None P
    (λ yes.
    (let parts = and_parts (length bytes == 13) (little_number 4 bytes == 0x53425355) yes in
    with_status bytes (status_in (slice_index bytes 12)) (eqb-true _ _ parts.0) (eqb-true _ _ parts.1) are (byte_back (slice_index bytes 12))))
    (λ no. tt)
