-- Units, taken and read again.
use Rattle.std.proofs.Common.{◌≡◌, ℕ, ◌+◌, ◌-◌, ◌*◌, ◌≤◌, List, [], ◌∷◌, ◌++◌, length, Ok, refl, sym, ap, subst, ◌∙◌, append_assoc, arith}
use Rattle.std.specs.List.{flat_map}
use Rattle.block_unit.specs.BlockMaps.{block_count}
use Rattle.uas_log.specs.declared.FirstUnit.{FirstUnit}
use Rattle.log_text.specs.declared.LogFault.TheVariants.{BadField}
use Rattle.log_text.specs.Text.{AreRising, UnitFits, field, unit_text}
use Rattle.log_text.specs.Reading.{bytes_at, field_at, rising_at, unit_at}
use Rattle.byte_numbers.specs.Bytes.{AreBytes}
use Rattle.log_text.proofs.ReadResults.{bind_ok, ok_is}
use Rattle.log_text.proofs.TakenFields.{Reads, Taken, Takes, Within, bytes_again, bytes_taken_at, number_again, number_taken, then_takes}
use Rattle.log_text.proofs.TakenLists.{rising_again, rising_taken}

unit_taken : (bytes : List ℕ) (x : FirstUnit × List ℕ) → AreBytes bytes → unit_at bytes ≡ Ok x → Taken unit_text UnitFits bytes x
unfolding unit_at
unit_taken bytes x is e =
    let a = bind_ok (field_at 4 1 65536 bytes) _ x e in
    let b = bind_ok (bytes_at (a.0.0 * 512) a.0.1) _ x a.2 in
    let c = bind_ok (field_at 4 0 0xffffffff b.0.1) _ x b.2 in
    let d = bind_ok (rising_at (a.0.0 - 1) c.0.0 0 c.0.1) _ x c.2 in
    let count = number_taken BadField 4 1 65536 bytes a.0 is a.1 in
    let blocks = bytes_taken_at (a.0.0 * 512) a.0.1 b.0 count.takes.rest_bytes b.1 in
    let bad_count = number_taken BadField 4 0 0xffffffff b.0.1 c.0 blocks.takes.rest_bytes c.1 in
    let bad = rising_taken (a.0.0 - 1) c.0.0 0 c.0.1 d.0 bad_count.takes.rest_bytes d.1 in
    let made : FirstUnit = record { blocks = b.0.0; bad = d.0.0 } in
    let is-count : block_count b.0.0 ≡ a.0.0 = omega (arith, blocks.fits.len) in
    let is-above : a.0.0 - 1 + 1 ≡ block_count b.0.0 = omega (arith, is-count, count.fits.least) in
    let counted : Takes bytes (field 4 (block_count b.0.0)) a.0.1 =
    subst (λ (n : ℕ). Takes bytes (field 4 n) a.0.1) (sym is-count) count.takes in
    let bad_counted : Takes b.0.1 (field 4 (length d.0.0)) c.0.1 =
    subst (λ (n : ℕ). Takes b.0.1 (field 4 n) c.0.1) (sym bad.fits.len) bad_count.takes in
    let read : FirstUnit × List ℕ = (made, d.0.1) in
    subst (λ (y : FirstUnit × List ℕ). Taken unit_text UnitFits bytes y) (ok_is read x d.2) (record {
      takes = then_takes (then_takes counted blocks.takes) (then_takes bad_counted bad.takes);
      fits = record {
        some = omega (arith, is-count, count.fits.least);
        most = omega (arith, is-count, count.fits.most);
        whole = omega (arith, is-count, blocks.fits.len);
        rising = subst (λ (n : ℕ). AreRising 0 n d.0.0) is-above bad.fits.rising;
      };
    })

-- there are no more rising numbers than there is room below their limit
pub few_rising : (least limit : ℕ) (numbers : List ℕ) → least ≤ limit → AreRising least limit numbers → length numbers + least ≤ limit
few_rising least limit [] low it = omega (arith, low)
few_rising least limit (number ∷ rest) low it =
    let others = few_rising (number + 1) limit rest (omega (arith, it.1)) it.2 in
    omega (arith, it.0, it.1, others)

unit_again : (unit : FirstUnit) (rest : List ℕ) → UnitFits unit → unit_at (unit_text unit ++ rest) ≡ Ok (unit, rest)
unfolding unit_at
unit_again unit rest fits =
    let count : ℕ = block_count unit.blocks in
    let r3 : List ℕ = flat_map (field 4) unit.bad ++ rest in
    let r2 : List ℕ = field 4 (length unit.bad) ++ r3 in
    let r1 : List ℕ = unit.blocks ++ r2 in
    let few = few_rising 0 count unit.bad (omega arith) fits.rising in
    let w1 : Within 4 1 65536 count = record { least = fits.some; most = fits.most; wide = omega (arith, fits.most) } in
    let w3 : Within 4 0 0xffffffff (length unit.bad) =
    record { least = omega arith; most = omega (arith, few, fits.most); wide = omega (arith, few, fits.most) } in
    let above : count - 1 + 1 ≡ count = omega (arith, fits.some) in
    let rising : AreRising 0 (count - 1 + 1) unit.bad = subst (λ (n : ℕ). AreRising 0 n unit.bad) (sym above) fits.rising in
    let regrouped : unit_text unit ++ rest ≡ field 4 count ++ r1 = simp append_assoc refl in
    ap unit_at regrouped
    ∙ rw (
      number_again BadField 4 1 65536 count r1 w1,
      bytes_again (count * 512) unit.blocks r2 (record { len = fits.whole }),
      number_again BadField 4 0 0xffffffff (length unit.bad) r3 w3,
      rising_again (count - 1) 0 unit.bad rest (omega (arith, fits.most)) rising,
    ) refl

pub reads_unit : Reads unit_at unit_text UnitFits
reads_unit = record { taken = unit_taken; again = unit_again }
