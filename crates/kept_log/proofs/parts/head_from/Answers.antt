use Rattle.std.proofs.Common.{◌≡◌, ℕ, ◌-◌, [], List, IsTrue, length, rules, ap, sym, subst, ◌∙◌}
use Rattle.uas_log.specs.declared.FirstUnit.{FirstUnit}
use Rattle.kept_log.specs.Form.{head_sum}
use Rattle.kept_log.specs.Loading.{IsRefusedBy, StandsIn}
use Rattle.kept_log.specs.Parts.{HasTaken}
use Rattle.kept_log.specs.Shown.{Shown}
use Rattle.kept_log.proofs.Seen.{head_refused, head_taken_there, reads_on}
use Rattle.kept_log.proofs.parts.head_from.Goals as goal

pub returns-in-Ok-clause-head : goal.returns-in-Ok-clause-head
returns-in-Ok-clause-head g c =
    let l = c.loop-tags in
    let left = g.S.Source.left in
    let tags : ℕ = c.in-Ok.tags in
    let units : List FirstUnit = c.in-Ok.units.items in
    let rest : List ℕ = c.in-Ok.rest.now in
    let len : ℕ = length c.bytes-in-Ok.result.now - length rest in
    let found : StandsIn c.bytes.result.now tags units [] (length c.bytes.result.now - length rest) rest = search rules in
    let stand : StandsIn l.window.bytes tags units [] (length l.window.bytes - length rest) rest =
    subst (λ (text : List ℕ). StandsIn text tags units [] (length text - length rest) rest) c.bytes.ensures found in
    let right : c.in-Ok.sum ≡ head_sum tags units = search rules in
    let at : len ≡ length l.window.bytes - length rest = ap (λ (text : List ℕ). length text - length rest) c.bytes-in-Ok.ensures in
    subst (λ (shown : Shown). HasTaken c.args.window.now.bytes (left c.args.source.now) (left l.source) tags units [] len c.in-Ok.sum shown) (sym c.take.ensures)
    (head_taken_there (left c.args.source.now) (left l.source) c.args.window.now.bytes l.window tags units c.in-Ok.sum len rest c.requires.are l.invariant.read
    at stand right)

pub returns-in-Err-clause-fault : goal.returns-in-Err-clause-fault
returns-in-Err-clause-fault g c =
    let l = c.loop-tags in
    let left = g.S.Source.left in
    let ended : IsTrue l.window.has_ended = sym c.has_ended.ensures ∙ c.if-has_ended.true in
    let because : IsRefusedBy l.window.bytes c.in-Err.fault = subst (λ (text : List ℕ). IsRefusedBy text c.in-Err.fault) c.bytes.ensures c.in-Err.ensures.fault in (
      c.requires.there,
      head_refused (left c.args.source.now) (left l.source) c.args.window.now.bytes l.window c.in-Err.fault c.requires.are l.invariant.read ended because,
    )

pub loop-tags-preserved : goal.loop-tags-preserved
loop-tags-preserved g c =
    let l = c.loop-tags in
    let left = g.S.Source.left in
    record {
      read = reads_on (left c.args.source.now) (left l.source) (left c.read_more.new.source) c.args.window.now.bytes l.window c.read_more.new.self
          l.invariant.read c.in_ok-read_more-in-Err-2.ensures.read;
      same = c.read_more.ensures.same ∙ l.invariant.same;
      stays = c.read_more.ensures.stays ∙ l.invariant.stays;
    }
