use Rattle.std.proofs.Common.{◌≡◌, ◌++◌, rules}
use Rattle.log_records.specs.Records.{record_text}
use Rattle.kept_log.specs.declared.Why.TheVariants.{Complete}
use Rattle.kept_log.specs.Form.{end_text}
use Rattle.log_file.proofs.GivenRecords.{gave_text}
use Rattle.log_file.proofs.records.write_records.Goals as goal

pub returns-clause-text : goal.returns-clause-text
returns-clause-text g c =
    let given = c.give_records.new in
    let ended : c.write_end.new.out.items ≡ given.waiting.items ++ record_text given.place.sum (end_text given.place.steps Complete) = search rules in
    gave_text g.O.Sink.written c.args.log.now c.in_ok-place.place given.place.steps given.place.sum c.args.out.now given.out c.write_waiting.new.out
    c.new-waiting.result.items c.begin.new.text.items given.waiting.items c.write_end.new.out.items c.new-waiting.ensures.items c.in_ok-place.ensures.text
    c.in_ok-place.ensures.place c.in_ok-give_records.ensures.text c.in_ok-give_records.ensures.steps c.in_ok-give_records.ensures.sum ended
    c.in_ok-write_waiting.ensures.text
