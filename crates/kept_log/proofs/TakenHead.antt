-- A head, taken and read again.
use Rattle.std.proofs.Common.{◌≡◌, ℕ, ◌+◌, ◌-◌, ◌<◌, ◌^◌, List, [], ◌++◌, length, take, Ok, refl, sym, ap, subst, ◌∙◌, append_assoc, arith}
use Rattle.std.specs.Prelude.{codes}
use Rattle.std.proofs.lemmas.List.{append-nil, length-append, take_at}
use Rattle.uas_profile.specs.declared.TheConstants.{LEAST_TAGS, MOST_TAGS}
use Rattle.uas_profile.specs.Tags.{AreTags}
use Rattle.byteorder.specs.Numbers.{length-bytes_high_first}
use Rattle.log_records.specs.checksum.Division.{crc32c_of}
use Rattle.log_text.specs.declared.LogFault.TheVariants.{BadField, BadHeader}
use Rattle.log_text.specs.Text.{field}
use Rattle.uas_profile.specs.Tags.{most_clients}
use Rattle.log_text.specs.Reading.{field_at, name_number, number_at, units_at}
use Rattle.log_text.proofs.Numbers.{IsBytes}
use Rattle.log_text.proofs.ReadResults.{bind_ok, ok_is}
use Rattle.log_text.proofs.TakenFields.{Taken, Takes, number_taken, then_takes}
use Rattle.log_text.proofs.TakenLog.{AreUnits, units_taken}
use Rattle.kept_log.specs.Form.{head_front, head_sum, head_text}
use Rattle.kept_log.specs.Loading.{HasOtherSum, StandsIn}
use Rattle.kept_log.specs.Reading.{ReadHead, head_at}

pub name_text : field 6 name_number ≡ codes "UASLOG"
unfolding field
name_text = refl

pub field_len : (len number : ℕ) → length (field len number) ≡ len
unfolding field
field_len len number = length-bytes_high_first len number

-- WHAT IS TAKEN

abbrev pub parts_text : ReadHead → List ℕ
parts_text read = head_front read.tags read.units ++ field 4 read.sum

pub record PartsFit (read : ReadHead) : Type 0 where
  pub tags : AreTags read.tags
  pub units : AreUnits (most_clients read.tags) read.units
  pub sum : read.sum < 2 ^ 32

pub head_taken : (text : List ℕ) (x : ReadHead × List ℕ) → IsBytes text → head_at text ≡ Ok x → Taken parts_text PartsFit text x
unfolding head_at
head_taken text x is e =
    let a = bind_ok (number_at BadHeader 6 name_number name_number text) _ x e in
    let b = bind_ok (number_at BadHeader 2 3 3 a.0.1) _ x a.2 in
    let c = bind_ok (number_at BadHeader 1 LEAST_TAGS MOST_TAGS b.0.1) _ x b.2 in
    let d = bind_ok (units_at (most_clients c.0.0) c.0.1) _ x c.2 in
    let f = bind_ok (field_at 4 0 0xffffffff d.0.1) _ x d.2 in
    let name = number_taken BadHeader 6 name_number name_number text a.0 is a.1 in
    let version = number_taken BadHeader 2 3 3 a.0.1 b.0 name.takes.rest_bytes b.1 in
    let tags = number_taken BadHeader 1 LEAST_TAGS MOST_TAGS b.0.1 c.0 version.takes.rest_bytes c.1 in
    let units = units_taken (most_clients c.0.0) c.0.1 d.0 tags.takes.rest_bytes d.1 in
    let sum = number_taken BadField 4 0 0xffffffff d.0.1 f.0 units.takes.rest_bytes f.1 in
    let is-name : a.0.0 ≡ name_number = omega (arith, name.fits.least, name.fits.most) in
    let is-version : b.0.0 ≡ 3 = omega (arith, version.fits.least, version.fits.most) in
    let name-text : Takes text (codes "UASLOG") a.0.1 =
    subst (λ (front : List ℕ). Takes text front a.0.1) (ap (field 6) is-name ∙ name_text) name.takes in
    let version-text : Takes a.0.1 (field 2 3) b.0.1 = subst (λ (n : ℕ). Takes a.0.1 (field 2 n) b.0.1) is-version version.takes in
    let made : ReadHead × List ℕ = (record { tags = c.0.0; units = d.0.0; sum = f.0.0 }, f.0.1) in
    subst (λ (y : ReadHead × List ℕ). Taken parts_text PartsFit text y) (ok_is made x f.2) (record {
      takes = then_takes (then_takes (then_takes (then_takes name-text version-text) tags.takes) units.takes) sum.takes;
      fits = record { tags = record { least = tags.fits.least; most = tags.fits.most }; units = units.fits; sum = omega (arith, sum.fits.most) };
    })

pub head_size : (text : List ℕ) (x : ReadHead × List ℕ) → Taken parts_text PartsFit text x
    → length text ≡ length (head_front x.0.tags x.0.units) + 4 + length x.1
head_size text x it =
    ap length it.takes.parts
    ∙ omega (arith, length-append (parts_text x.0) x.1, length-append (head_front x.0.tags x.0.units) (field 4 x.0.sum), field_len 4 x.0.sum)

-- the bytes before the checksum are those of which it is
pub head_summed : (text : List ℕ) (x : ReadHead × List ℕ) → Taken parts_text PartsFit text x
    → take (length text - length x.1 - 4) text ≡ head_front x.0.tags x.0.units
head_summed text x it =
    let at : length text - length x.1 - 4 ≡ length (head_front x.0.tags x.0.units) = omega (arith, head_size text x it) in
    let parts : text ≡ head_front x.0.tags x.0.units ++ (field 4 x.0.sum ++ x.1) = it.takes.parts ∙ append_assoc (head_front x.0.tags x.0.units) (field 4 x.0.sum) x.1 in
    rw at (ap (take (length (head_front x.0.tags x.0.units))) parts ∙ take_at (head_front x.0.tags x.0.units) (field 4 x.0.sum ++ x.1) (length (head_front x.0.tags x.0.units)) refl)

pub record HeadStands (text : List ℕ) (x : ReadHead × List ℕ) : Type 0 where
  pub stand : StandsIn text x.0.tags x.0.units [] (length text - length x.1) x.1
  pub sum : x.0.sum ≡ head_sum x.0.tags x.0.units

pub head_right : (text : List ℕ) (x : ReadHead × List ℕ) → Taken parts_text PartsFit text x
    → crc32c_of (take (length text - length x.1 - 4) text) ≡ x.0.sum → HeadStands text x
head_right text x it right =
    let sum : x.0.sum ≡ head_sum x.0.tags x.0.units = sym right ∙ ap crc32c_of (head_summed text x it) in
    record {
      stand = record {
        parts = it.takes.parts ∙ ap (λ n. (head_front x.0.tags x.0.units ++ field 4 n) ++ x.1) sum ∙ ap (λ (front : List ℕ). front ++ x.1) (sym (append-nil (head_text x.0.tags x.0.units)));
        place = omega (arith, head_size text x it);
        keepable = record {
          are_tags = it.fits.tags;
          some = it.fits.units.some;
          most = it.fits.units.most;
          units_fit = it.fits.units.each.each;
          entries_fit = tt;
          few = omega arith;
        };
      };
      sum = sum;
    }

pub head_wrong : (text : List ℕ) (x : ReadHead × List ℕ) → head_at text ≡ Ok x → Taken parts_text PartsFit text x
    → (crc32c_of (take (length text - length x.1 - 4) text) ≡ x.0.sum → ⊥) → HasOtherSum text
head_wrong text x e it wrong = record {
  read = x;
  head = e;
  other = λ same. wrong (ap crc32c_of (head_summed text x it) ∙ sym same);
}
