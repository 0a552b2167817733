-- A log, taken and read again.
use Rattle.std.proofs.Common.{◌≡◌, ℕ, zero, suc, ◌≤◌, ◌==◌, Bool, cond, List, [], ◌∷◌, ◌++◌, length, Ok, Err, refl, sym, ap, subst, ◌∙◌, append_assoc, arith}
use Rattle.std.specs.Prelude.{codes}
use Rattle.std.specs.List.{flat_map}
use Rattle.std.proofs.Math.Dec.{eqb-suc-zero}
use Rattle.std.proofs.lemmas.Bool.{eqb-true}
use Rattle.std.proofs.lemmas.List.{append-nil, nil_from_length}
use Rattle.uas_log.specs.declared.FirstUnit.{FirstUnit}
use Rattle.log_text.specs.declared.LogFault.TheVariants.{BadField, BadHeader, TrailingBytes}
use Rattle.log_text.specs.declared.Version.{Version}
use Rattle.log_text.specs.declared.Version.TheVariants.{First, Second}
use Rattle.log_text.specs.Text.{IsWithin, ReplyFits, Saved, StepFits, UnitFits, field, header_text, listed, log_text, reply_text, step_text, unit_text, version_clients, version_number, version_tags}
use Rattle.uas_profile.specs.Tags.{most_clients}
use Rattle.log_text.specs.Reading.{field_at, header_at, listed_at, log_at, name_number, number_at, reply_at, step_at, unit_at, units_at, version_of, whole_log}
use Rattle.byte_numbers.specs.Bytes.{AreBytes}
use Rattle.log_text.proofs.ReadResults.{bind_ok, ok_is, test_ok}
use Rattle.log_text.proofs.TakenFields.{Taken, Takes, Within, number_again, number_taken, then_takes}
use Rattle.log_text.proofs.TakenLists.{AreItems, items_again, items_taken, reads_listed}
use Rattle.log_text.proofs.TakenUnits.{reads_unit}
use Rattle.log_text.proofs.TakenSteps.{reads_step}
use Rattle.log_text.proofs.TakenReplies.{reads_reply}

-- THE HEADER

name_text : field 6 name_number ≡ codes "UASLOG"
unfolding field
name_text = refl

version_back : (number : ℕ) → 1 ≤ number → number ≤ 2 → version_number (version_of number) ≡ number
version_back zero low high = absurd (omega arith)
version_back (suc zero) low high = refl
version_back (suc (suc zero)) low high = refl
version_back (suc (suc (suc number))) low high = absurd (omega arith)

pub record Any (version : Version) : Type 0 where
  pub few : version_clients version ≤ 31

any : (version : Version) → Any version
any First = record { few = omega arith }
any Second = record { few = omega arith }

header_taken : (bytes : List ℕ) (x : Version × List ℕ) → AreBytes bytes → header_at bytes ≡ Ok x → Taken header_text Any bytes x
unfolding header_at
header_taken bytes x is e =
    let a = bind_ok (number_at BadHeader 6 name_number name_number bytes) _ x e in
    let b = bind_ok (number_at BadHeader 2 1 2 a.0.1) _ x a.2 in
    let version : Version = version_of b.0.0 in
    let c = bind_ok (number_at BadHeader 1 (version_tags version) (version_tags version) b.0.1) _ x b.2 in
    let name = number_taken BadHeader 6 name_number name_number bytes a.0 is a.1 in
    let number = number_taken BadHeader 2 1 2 a.0.1 b.0 name.takes.rest_bytes b.1 in
    let tags = number_taken BadHeader 1 (version_tags version) (version_tags version) b.0.1 c.0 number.takes.rest_bytes c.1 in
    let is-name : a.0.0 ≡ name_number = omega (arith, name.fits.least, name.fits.most) in
    let is-tags : c.0.0 ≡ version_tags version = omega (arith, tags.fits.least, tags.fits.most) in
    let name-text : Takes bytes (codes "UASLOG") a.0.1 =
    subst (λ (text : List ℕ). Takes bytes text a.0.1) (ap (field 6) is-name ∙ name_text) name.takes in
    let number-text : Takes a.0.1 (field 2 (version_number version)) b.0.1 =
    subst (λ (n : ℕ). Takes a.0.1 (field 2 n) b.0.1) (sym (version_back b.0.0 number.fits.least number.fits.most)) number.takes in
    let tags-text : Takes b.0.1 (field 1 (version_tags version)) c.0.1 = subst (λ (n : ℕ). Takes b.0.1 (field 1 n) c.0.1) is-tags tags.takes in
    let made : Version × List ℕ = (version, c.0.1) in
    subst (λ (y : Version × List ℕ). Taken header_text Any bytes y) (ok_is made x c.2) (record {
      takes = then_takes (then_takes name-text number-text) tags-text;
      fits = any version;
    })

name_within : Within 6 name_number name_number name_number
name_within = record { least = omega arith; most = omega arith; wide = omega arith }

number_within : (version : Version) → Within 2 1 2 (version_number version)
number_within First = record { least = omega arith; most = omega arith; wide = omega arith }
number_within Second = record { least = omega arith; most = omega arith; wide = omega arith }

tags_within : (version : Version) → Within 1 (version_tags version) (version_tags version) (version_tags version)
tags_within First = record { least = omega arith; most = omega arith; wide = omega arith }
tags_within Second = record { least = omega arith; most = omega arith; wide = omega arith }

version_again : (version : Version) → version_of (version_number version) ≡ version
version_again First = refl
version_again Second = refl

header_again : (version : Version) (rest : List ℕ) → header_at (header_text version ++ rest) ≡ Ok (version, rest)
unfolding header_at
header_again version rest =
    let f1 : List ℕ = field 2 (version_number version) in
    let f2 : List ℕ = field 1 (version_tags version) in
    let r2 : List ℕ = f2 ++ rest in
    let r1 : List ℕ = f1 ++ r2 in
    let named : header_text version ++ rest ≡ ((field 6 name_number ++ f1) ++ f2) ++ rest =
    ap (λ (text : List ℕ). ((text ++ f1) ++ f2) ++ rest) (sym name_text) in
    let regrouped : header_text version ++ rest ≡ field 6 name_number ++ r1 =
    named ∙ append_assoc (field 6 name_number ++ f1) f2 rest ∙ append_assoc (field 6 name_number) f1 r2 in
    ap header_at regrouped
    ∙ rw (
      number_again BadHeader 6 name_number name_number name_number r1 name_within,
      number_again BadHeader 2 1 2 (version_number version) r2 (number_within version),
      version_again version,
      number_again BadHeader 1 (version_tags version) (version_tags version) (version_tags version) rest (tags_within version),
    ) refl

-- THE UNITS

-- however many tags each client has, the clients are at most 31
pub few_clients : (tags : ℕ) → most_clients tags ≤ 31
few_clients tags = omega arith

pub record AreUnits (limit : ℕ) (units : List FirstUnit) : Type 0 where
  pub some : 1 ≤ length units
  pub most : length units ≤ limit
  pub each : AreItems UnitFits (length units) units

pub units_taken : (most : ℕ) (bytes : List ℕ) (x : List FirstUnit × List ℕ) → AreBytes bytes → units_at most bytes ≡ Ok x
    → Taken (λ units. field 1 (length units) ++ flat_map unit_text units) (AreUnits most) bytes x
unfolding units_at
units_taken most bytes x is e =
    let a = bind_ok (field_at 1 1 most bytes) _ x e in
    let count = number_taken BadField 1 1 most bytes a.0 is a.1 in
    let items = items_taken unit_at unit_text UnitFits reads_unit a.0.0 a.0.1 x count.takes.rest_bytes a.2 in
    record {
      takes = subst (λ (n : ℕ). Takes bytes (field 1 n ++ flat_map unit_text x.0) x.1) (sym items.fits.len) (then_takes count.takes items.takes);
      fits = record {
        some = omega (arith, items.fits.len, count.fits.least);
        most = omega (arith, items.fits.len, count.fits.most);
        each = record { len = refl; each = items.fits.each };
      };
    }

pub units_again : (most : ℕ) (units : List FirstUnit) (rest : List ℕ) → most ≤ 31 → AreUnits most units
    → units_at most ((field 1 (length units) ++ flat_map unit_text units) ++ rest) ≡ Ok (units, rest)
unfolding units_at
units_again most units rest few fits =
    let within : Within 1 1 most (length units) = record { least = fits.some; most = fits.most; wide = omega (arith, fits.most, few) } in
    ap (units_at most) (append_assoc (field 1 (length units)) (flat_map unit_text units) rest)
    ∙ rw (number_again BadField 1 1 most (length units) (flat_map unit_text units ++ rest) within)
    (items_again unit_at unit_text UnitFits reads_unit units rest fits.each.each)

-- THE WHOLE

log_taken : (bytes : List ℕ) (x : Saved × List ℕ) → AreBytes bytes → log_at bytes ≡ Ok x → Taken log_text IsWithin bytes x
unfolding log_at
log_taken bytes x is e =
    let a = bind_ok (header_at bytes) _ x e in
    let b = bind_ok (units_at (version_clients a.0.0) a.0.1) _ x a.2 in
    let clients : ℕ = length b.0.0 in
    let c = bind_ok (listed_at (step_at a.0.0 clients) b.0.1) _ x b.2 in
    let d = bind_ok (listed_at (reply_at clients) c.0.1) _ x c.2 in
    let header = header_taken bytes a.0 is a.1 in
    let units = units_taken (version_clients a.0.0) a.0.1 b.0 header.takes.rest_bytes b.1 in
    let few : clients ≤ 31 = omega (arith, units.fits.most, header.fits.few) in
    let steps = (reads_listed (step_at a.0.0 clients) step_text (StepFits a.0.0 clients) (reads_step a.0.0 clients units.fits.some few)).taken b.0.1 c.0
    units.takes.rest_bytes c.1 in
    let replies = (reads_listed (reply_at clients) reply_text (ReplyFits clients) (reads_reply clients units.fits.some few)).taken c.0.1 d.0 steps.takes.rest_bytes d.1 in
    let made : Saved × List ℕ = (record { version = a.0.0; units = b.0.0; steps = c.0.0; replies = d.0.0 }, d.0.1) in
    subst (λ (y : Saved × List ℕ). Taken log_text IsWithin bytes y) (ok_is made x d.2) (record {
      takes = then_takes (then_takes (then_takes header.takes units.takes) steps.takes) replies.takes;
      fits = record {
        some = units.fits.some;
        most = units.fits.most;
        units = units.fits.each.each;
        steps = steps.fits.each;
        few_steps = steps.fits.few;
        replies = replies.fits.each;
        few_replies = replies.fits.few;
      };
    })

log_again : (log : Saved) (rest : List ℕ) → IsWithin log → log_at (log_text log ++ rest) ≡ Ok (log, rest)
unfolding log_at
log_again log rest fits =
    let clients : ℕ = length log.units in
    let few : clients ≤ 31 = omega (arith, fits.most, (any log.version).few) in
    let head : List ℕ = header_text log.version in
    let units : List ℕ = field 1 (length log.units) ++ flat_map unit_text log.units in
    let steps : List ℕ = listed step_text log.steps in
    let replies : List ℕ = listed reply_text log.replies in
    let r3 : List ℕ = replies ++ rest in
    let r2 : List ℕ = steps ++ r3 in
    let r1 : List ℕ = units ++ r2 in
    let regrouped : log_text log ++ rest ≡ head ++ r1 =
    append_assoc ((head ++ units) ++ steps) replies rest ∙ append_assoc (head ++ units) steps r3 ∙ append_assoc head units r2 in
    let are-units : AreUnits (version_clients log.version) log.units = record { some = fits.some; most = fits.most; each = record { len = refl; each = fits.units } } in
    ap log_at regrouped
    ∙ rw (
      header_again log.version r1,
      units_again (version_clients log.version) log.units r2 (any log.version).few are-units,
      (reads_listed (step_at log.version clients) step_text (StepFits log.version clients) (reads_step log.version clients fits.some few)).again log.steps r3
          (record { few = fits.few_steps; each = fits.steps }),
      (reads_listed (reply_at clients) reply_text (ReplyFits clients) (reads_reply clients fits.some few)).again log.replies rest (record { few = fits.few_replies; each = fits.replies }),
    ) refl

-- what was found is a log within its limits, and the whole text is the log's
pub whole_taken : (bytes : List ℕ) (log : Saved) → AreBytes bytes → whole_log bytes ≡ Ok log → (bytes ≡ log_text log) × IsWithin log
unfolding whole_log
whole_taken bytes log is e =
    let a = bind_ok (log_at bytes) _ log e in
    let ended = test_ok (length a.0.1 == 0) TrailingBytes (Ok a.0.0) log a.2 in
    let taken = log_taken bytes a.0 is a.1 in
    let nothing : a.0.1 ≡ [] = nil_from_length a.0.1 (eqb-true _ _ ended.0) in
    let whole : bytes ≡ log_text a.0.0 = taken.takes.parts ∙ ap (λ (rest : List ℕ). log_text a.0.0 ++ rest) nothing ∙ append-nil (log_text a.0.0) in
    subst (λ (found : Saved). (bytes ≡ log_text found) × IsWithin found) (ok_is a.0.0 log ended.1) (whole, taken.fits)

-- the text of a log within its limits tells that log
pub whole_again : (log : Saved) → IsWithin log → whole_log (log_text log) ≡ Ok log
unfolding whole_log
whole_again log fits =
    let read : log_at (log_text log) ≡ Ok (log, []) = ap log_at (sym (append-nil (log_text log))) ∙ log_again log [] fits in
    rw read refl

-- bytes behind such a text are told
pub whole_trailing : (log : Saved) (byte : ℕ) (more : List ℕ) → IsWithin log → whole_log (log_text log ++ byte ∷ more) ≡ Err TrailingBytes
unfolding whole_log
whole_trailing log byte more fits =
    rw (log_again log (byte ∷ more) fits) (ap (λ (ended : Bool). cond ended (Ok log) (Err TrailingBytes)) (eqb-suc-zero (length more)))
