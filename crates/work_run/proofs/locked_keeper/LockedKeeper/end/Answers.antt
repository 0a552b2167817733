use Rattle.std.proofs.Common.{◌≡◌, ◌++◌, true, rules, sym}
use Rattle.std.specs.Io.KnownBytes.{Appends}
use Rattle.kept_log.specs.Form.{end_text}
use Rattle.log_records.specs.Records.{record_text}
use Rattle.work_run.specs.KeptTexts.{reason_of}
use Rattle.work_run.proofs.KeptText.{ended_left, ended_on_ok, full_at_limits, left_by}
use Rattle.work_run.proofs.locked_keeper.LockedKeeper.end.Goals as goal

-- the end couldn't be written
pub returns-in-Err-clause-left : goal.returns-in-Err-clause-left
returns-in-Err-clause-left g c = λ told.
    let self = c.args.self in
    let intact : self.is_intact ≡ true = search rules in
    rw c.file_of-in-Err.ensures (left_by _ _ _ _ _ _ _ _ (self.text intact) c.in-Err.ensures.lost told (self.synced told))

-- it was written
pub returns-clause-whole : goal.returns-clause-whole
returns-clause-whole g c =
    let self = c.args.self in
    let keeper = self.keeper in
    let intact : self.is_intact ≡ true = search rules in
    let more : Appends (g.F.KeptFile.written keeper.writer.file) (g.F.KeptFile.synced c.end.new.self.writer.file)
    (keeper.waiting.items ++ record_text keeper.place.sum (end_text keeper.place.steps (reason_of self.stop c.args.why))) =
    rw c.in_default.ensures.synced (rw (sym c.reason_of.ensures) c.in_default.ensures.bytes) in
    rw c.file_of-2.ensures (ended_on_ok c.whole_unless-2.result self.stop _ _ _ _ _ _ _ _ c.whole_unless-2.ensures.whole (self.text intact) more)

pub returns-clause-full : goal.returns-clause-full
returns-clause-full g c =
    let self = c.args.self in
    let keeper = self.keeper in
    let intact : self.is_intact ≡ true = search rules in
    let more : Appends (g.F.KeptFile.written keeper.writer.file) (g.F.KeptFile.synced c.end.new.self.writer.file)
    (keeper.waiting.items ++ record_text keeper.place.sum (end_text keeper.place.steps (reason_of self.stop c.args.why))) =
    rw c.in_default.ensures.synced (rw (sym c.reason_of.ensures) c.in_default.ensures.bytes) in
    rw c.file_of-2.ensures (full_at_limits c.whole_unless-2.result self.stop _ _ _ _ _ _ _ _ c.whole_unless-2.ensures.stopped (self.text intact) more)

pub returns-clause-left : goal.returns-clause-left
returns-clause-left g c = λ told.
    let self = c.args.self in
    let keeper = self.keeper in
    let intact : self.is_intact ≡ true = search rules in
    let more : Appends (g.F.KeptFile.written keeper.writer.file) (g.F.KeptFile.synced c.end.new.self.writer.file)
    (keeper.waiting.items ++ record_text keeper.place.sum (end_text keeper.place.steps (reason_of self.stop c.args.why))) =
    rw c.in_default.ensures.synced (rw (sym c.reason_of.ensures) c.in_default.ensures.bytes) in
    rw c.file_of-2.ensures (ended_left _ _ _ _ _ _ _ _ (self.text intact) more told)
