-- A text that was written loads as its log.
use Rattle.std.proofs.Common.{◌≡◌, ℕ, List, [], ◌++◌, length, Ok, Option, Some, None, refl, arith}
use Rattle.std.proofs.lemmas.List.{length-append}
use Rattle.uas_log.specs.declared.FirstUnit.{FirstUnit}
use Rattle.log_records.specs.checksum.Bytes.{AreBytes}
use Rattle.log_records.specs.Records.{record_text}
use Rattle.kept_log.specs.declared.Entry.{Entry}
use Rattle.kept_log.specs.declared.Why.{Why}
use Rattle.kept_log.specs.Form.{AreKeepable, Kept, end_text, front_sum, front_text, kept_text}
use Rattle.kept_log.specs.LoadAt.{load_at}
use Rattle.kept_log.proofs.NextAgain.{end_comes, nothing_comes}
use Rattle.kept_log.proofs.ReadOn.{ends_load}

abbrev log_of : ℕ → List FirstUnit → List Entry → Option Why → Kept
log_of tags units entries ending = record { tags = tags; units = units; entries = entries; ending = ending }

written_loads : (tags : ℕ) (units : List FirstUnit) (entries : List Entry) (ending : Option Why) → AreKeepable tags units entries
    → AreBytes (kept_text (log_of tags units entries ending))
    → load_at (kept_text (log_of tags units entries ending)) ≡ Ok (record { log = log_of tags units entries ending; torn = None })
written_loads tags units entries None keepable are =
    let text : List ℕ = kept_text (log_of tags units entries None) in
    ends_load text tags units entries None None are (record {
      at = length text;
      rest = [];
      stand = record { parts = refl; place = omega arith; keepable = keepable };
      comes = nothing_comes (length units) (length entries) (length text) (front_sum tags units entries);
    })
written_loads tags units entries (Some reason) keepable are =
    let front : List ℕ = front_text tags units entries in
    let rest : List ℕ = record_text (front_sum tags units entries) (end_text (length entries) reason) ++ [] in
    ends_load (kept_text (log_of tags units entries (Some reason))) tags units entries (Some reason) None are (record {
      at = length front;
      rest = rest;
      stand = record { parts = refl; place = omega (arith, length-append front rest); keepable = keepable };
      comes = end_comes (length units) (length entries) (length front) (front_sum tags units entries) reason (omega (arith, keepable.few));
    })

pub kept_loads : (kept : Kept) → AreKeepable kept.tags kept.units kept.entries → AreBytes (kept_text kept)
    → load_at (kept_text kept) ≡ Ok (record { log = kept; torn = None })
kept_loads kept keepable are = written_loads kept.tags kept.units kept.entries kept.ending keepable are
