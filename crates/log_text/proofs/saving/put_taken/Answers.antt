use Rattle.std.proofs.Common.{List, subst, arith, ℕ}
use Rattle.std.specs.Prelude.{OnOk}
use Rattle.log_text.specs.Kept.{with_client}
use Rattle.log_text.specs.Text.{ReplyFits, reply_text}
use Rattle.log_text.specs.Writing.{Wrote}
use Rattle.log_text.proofs.Keeping.{all-map, length-map, listed-map}
use Rattle.log_text.proofs.saving.put_taken.Goals as goal

pub put_each-requires-clause-few : goal.put_each-requires-clause-few
put_each-requires-clause-few g c = omega (arith, c.requires.few, length-map (with_client c.args.tags) c.args.replies.now)

pub put_each-requires-clause-fit : goal.put_each-requires-clause-fit
put_each-requires-clause-fit g c = all-map (ReplyFits 31) (with_client c.args.tags) c.args.replies.now c.requires.fit

pub returns : goal.returns
returns g c =
    subst (λ (text : List ℕ). OnOk c.put_each.result (Wrote g.W.Write.contents c.args.out.now c.put_each.new.out text))
    (listed-map reply_text (with_client c.args.tags) c.args.replies.now) c.put_each.ensures
