use Rattle.std.proofs.Common.{◌≡◌, None, rules}
use Rattle.audit_run.proofs.Files.{other_log}
use Rattle.audit_run.proofs.texts.kept_in.Goals as goal

pub returns-in_default-head_at-clause-fault : goal.returns-in_default-head_at-clause-fault
returns-in_default-head_at-clause-fault g c =
    let none : c.head_at.result ≡ None = search rules in (
      other_log c.args.head c.args.front.items (g.S.Source.left c.args.source.now) c.in-Ok.found c.requires.third (c.head_at.ensures.other none)
          c.in-Ok.ensures.found,
      c.in-Ok.ensures.there,
    )
