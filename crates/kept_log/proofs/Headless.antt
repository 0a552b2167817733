-- A head that was cut off isn't one.
use Rattle.std.proofs.Common.{◌≡◌, ℕ, ◌<◌, ◌≤◌, List, ◌++◌, length, take, drop, map, Result, Ok, Err, refl, sym, ap, subst, ◌∙◌, append_assoc, arith}
use Rattle.std.proofs.lemmas.List.{length-append, length-take-le, take-append-drop}
use Rattle.uas_log.specs.declared.FirstUnit.{FirstUnit}
use Rattle.log_records.specs.checksum.Bytes.{AreBytes}
use Rattle.log_records.proofs.Bytes.{bytes_front, bytes_taken}
use Rattle.log_records.specs.Records.{records_text}
use Rattle.log_text.specs.declared.LogFault.{LogFault}
use Rattle.log_text.proofs.ReadResults.{ok_is}
use Rattle.kept_log.specs.Cuts.{IsHeadless}
use Rattle.kept_log.specs.Form.{AreKeepable, Kept, end_bodies, entry_text, front_sum, head_sum, head_text, kept_text}
use Rattle.kept_log.specs.LoadAt.{behind_head, load_at}
use Rattle.kept_log.specs.Reading.{ReadHead, head_at}
use Rattle.kept_log.proofs.HeadAgain.{are_units, head_again, head_read}
use Rattle.kept_log.proofs.TakenHead.{head_taken, parts_text}

abbrev Read : Type 0
Read = ReadHead × List ℕ

-- a head is as long as the one that is read of all of the text
as_long : (text : List ℕ) (tags : ℕ) (units : List FirstUnit) (back : List ℕ) (size : ℕ) (x : Read) → AreBytes text → text ≡ head_text tags units ++ back
    → head_at text ≡ Ok (record { tags = tags; units = units; sum = head_sum tags units }, back) → head_at (take size text) ≡ Ok x → length (head_text tags units) ≤ length (take size text)
as_long text tags units back size x are parts whole e =
    let it = head_taken (take size text) x (bytes_taken size text are) e in
    let more : List ℕ = x.1 ++ drop size text in
    let again : text ≡ parts_text x.0 ++ more =
    sym (take-append-drop size text) ∙ ap (λ (front : List ℕ). front ++ drop size text) it.takes.parts ∙ append_assoc (parts_text x.0) x.1 (drop size text) in
    let read : head_at text ≡ Ok (x.0, more) = ap head_at again ∙ head_read x.0 more it.fits in
    let one : Read = (record { tags = tags; units = units; sum = head_sum tags units }, back) in
    let other : Read = (x.0, more) in
    let same : one ≡ other = ok_is one other (sym whole ∙ read) in
    omega (arith, ap (λ (y : Read). length (parts_text y.0)) same, ap length it.takes.parts, length-append (parts_text x.0) x.1)

refused_there : (text : List ℕ) (tags : ℕ) (units : List FirstUnit) (back : List ℕ) (size : ℕ) (read : Result Read LogFault) → AreBytes text → text ≡ head_text tags units ++ back
    → head_at text ≡ Ok (record { tags = tags; units = units; sum = head_sum tags units }, back) → size < length (head_text tags units) → head_at (take size text) ≡ read → IsHeadless (take size text)
unfolding load_at
refused_there text tags units back size (Err fault) are parts whole cut e = record { fault = fault; refused = ap (behind_head (take size text)) e }
refused_there text tags units back size (Ok x) are parts whole cut e =
    let taken : length (take size text) ≡ size = length-take-le size text (omega (arith, cut, ap length parts, length-append (head_text tags units) back)) in
    absurd (omega (arith, cut, taken, as_long text tags units back size x are parts whole e))

pub head_cut : (kept : Kept) (size : ℕ) → AreKeepable kept.tags kept.units kept.entries → AreBytes (kept_text kept) → size < length (head_text kept.tags kept.units)
    → IsHeadless (take size (kept_text kept))
head_cut kept size keepable are cut =
    let head : List ℕ = head_text kept.tags kept.units in
    let records : List ℕ = records_text (head_sum kept.tags kept.units) (map entry_text kept.entries) in
    let ends : List ℕ = records_text (front_sum kept.tags kept.units kept.entries) (end_bodies (length kept.entries) kept.ending) in
    let parts : kept_text kept ≡ head ++ (records ++ ends) = append_assoc head records ends in
    refused_there (kept_text kept) kept.tags kept.units (records ++ ends) size (head_at (take size (kept_text kept))) are parts
    (ap head_at parts ∙ head_again kept.tags kept.units (records ++ ends) keepable.are_tags (are_units kept.tags kept.units kept.entries keepable) (bytes_front head (records ++ ends) (subst AreBytes parts are))) cut refl
