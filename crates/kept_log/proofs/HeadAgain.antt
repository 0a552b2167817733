-- A head is read again, and the beginning of one isn't.
use Rattle.std.proofs.Common.{◌≡◌, ℕ, List, ◌++◌, length, Ok, refl, sym, ap, ◌∙◌, append_assoc, arith}
use Rattle.std.specs.List.{flat_map}
use Rattle.uas_profile.specs.declared.TheConstants.{LEAST_TAGS, MOST_TAGS}
use Rattle.uas_profile.specs.Tags.{AreTags}
use Rattle.uas_log.specs.declared.FirstUnit.{FirstUnit}
use Rattle.log_records.specs.checksum.Bytes.{AreBytes}
use Rattle.log_records.proofs.Bytes.{bytes_front}
use Rattle.log_records.proofs.Fits.{checksum_fits}
use Rattle.log_text.specs.declared.LogFault.TheVariants.{BadField, BadHeader}
use Rattle.log_text.specs.Text.{field, unit_text}
use Rattle.uas_profile.specs.Tags.{most_clients}
use Rattle.log_text.specs.Reading.{name_number}
use Rattle.log_text.proofs.TakenFields.{Within, number_again}
use Rattle.log_text.proofs.TakenLog.{AreUnits, few_clients, units_again}
use Rattle.kept_log.specs.Form.{AreKeepable, head_front, head_sum, head_text}
use Rattle.kept_log.specs.declared.Entry.{Entry}
use Rattle.kept_log.specs.Reading.{ReadHead, head_at}
use Rattle.kept_log.proofs.TakenHead.{PartsFit, name_text, parts_text}

name_within : Within 6 name_number name_number name_number
name_within = record { least = omega arith; most = omega arith; wide = omega arith }

pub are_units : (tags : ℕ) (units : List FirstUnit) (entries : List Entry) → AreKeepable tags units entries → AreUnits (most_clients tags) units
are_units tags units entries keepable = record { some = keepable.some; most = keepable.most; each = record { len = refl; each = keepable.units_fit } }

-- a head whose checksum is any number of 32 bits
pub head_read : (head : ReadHead) (rest : List ℕ) → PartsFit head → head_at (parts_text head ++ rest) ≡ Ok (head, rest)
unfolding head_at
head_read head rest fits =
    let f0 : List ℕ = field 6 name_number in
    let f1 : List ℕ = field 2 3 in
    let f2 : List ℕ = field 1 head.tags in
    let f3 : List ℕ = field 1 (length head.units) ++ flat_map unit_text head.units in
    let f4 : List ℕ = field 4 head.sum in
    let r4 : List ℕ = f4 ++ rest in
    let r3 : List ℕ = f3 ++ r4 in
    let r2 : List ℕ = f2 ++ r3 in
    let r1 : List ℕ = f1 ++ r2 in
    let regrouped : parts_text head ++ rest ≡ f0 ++ r1 =
    ap (λ (text : List ℕ). ((((text ++ f1) ++ f2) ++ f3) ++ f4) ++ rest) (sym name_text)
    ∙ append_assoc (((f0 ++ f1) ++ f2) ++ f3) f4 rest ∙ append_assoc ((f0 ++ f1) ++ f2) f3 r4 ∙ append_assoc (f0 ++ f1) f2 r3 ∙ append_assoc f0 f1 r2 in
    ap head_at regrouped
    ∙ rw (
      number_again BadHeader 6 name_number name_number name_number r1 name_within,
      number_again BadHeader 2 3 3 3 r2 (record { least = omega arith; most = omega arith; wide = omega arith }),
      number_again BadHeader 1 LEAST_TAGS MOST_TAGS head.tags r3 (record { least = fits.tags.least; most = fits.tags.most; wide = omega (arith, fits.tags.most) }),
      units_again (most_clients head.tags) head.units r4 (few_clients head.tags) fits.units,
      number_again BadField 4 0 0xffffffff head.sum rest (record { least = omega arith; most = omega (arith, fits.sum); wide = omega (arith, fits.sum) }),
    ) refl

pub head_again : (tags : ℕ) (units : List FirstUnit) (rest : List ℕ) → AreTags tags → AreUnits (most_clients tags) units → AreBytes (head_text tags units)
    → head_at (head_text tags units ++ rest) ≡ Ok (record { tags = tags; units = units; sum = head_sum tags units }, rest)
head_again tags units rest are fits bytes =
    let front : AreBytes (head_front tags units) = bytes_front (head_front tags units) (field 4 (head_sum tags units)) bytes in
    head_read (record { tags = tags; units = units; sum = head_sum tags units }) rest
    (record { tags = are; units = fits; sum = checksum_fits (head_front tags units) front })
