use Rattle.std.proofs.Common.{rules}
use Rattle.work_run.proofs.telling.tell.Goals as goal

-- the lines are those of the log's audits, and of the replies that were audited
pub returns-clause-told : goal.returns-clause-told
returns-clause-told g c = record {
  replay = search rules;
  tags_are = c.requires.tags;
  units = c.requires.units;
  replies = c.in-Some.replies.now;
  of_each = search rules;
  audits = c.in-Ok.audits.items;
  audited = search rules;
  lines = search rules;
  follows = search rules;
}
