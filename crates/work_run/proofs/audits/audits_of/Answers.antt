use Rattle.std.proofs.Common.{◌≡◌, ◌++◌, ◌∷◌, [], List, get_or, length, subst, rules, arith, length-append, ap}
use Rattle.std.proofs.lemmas.List.Elements.{at_read}
use Rattle.scsi_cmd.specs.declared.Reply.{Reply}
use Rattle.work_run.specs.Audits.{IsToldOf}
use Rattle.work_run.proofs.Accounts.{told_more}
use Rattle.work_run.proofs.audits.audits_of.Goals as goal

pub loop-client-preserved : goal.loop-client-preserved
loop-client-preserved c =
    let l = c.loop-client in
    let log = c.args.log.now in
    let replies = c.args.replies.now in
    let told = c.in_ok-told.told in
    let more : c.push.new.self.items ≡ l.audits.items ++ told ∷ [] = search rules in
    let here = at_read replies (λ (held : List Reply). IsToldOf log c.args.depth c.args.rounds l.client held told) l.client c.index-replies-client.result
    c.loop-client-test.true c.index-replies-client.is
    (subst (λ (held : List Reply). IsToldOf log c.args.depth c.args.rounds l.client held told) c.as_slice.ensures c.in_ok-told.ensures) in
    record {
      many = omega (arith, ap length more, length-append l.audits.items (told ∷ []), l.invariant.many);
      each = told_more (λ k told'. IsToldOf log c.args.depth c.args.rounds k (get_or replies k []) told') l.client l.audits.items c.push.new.self.items told
          l.invariant.many more l.invariant.each (here []);
    }
