use Rattle.std.proofs.Common.{◌≡◌, ℕ, List, [], ◌∷◌, ◌++◌, map, refl, sym, ap, ◌∙◌}
use Rattle.std.proofs.lemmas.Iterator.Adapters.{YieldsList-from_vec}
use Rattle.std.proofs.lemmas.Iterator.Consumers.{YieldsList-end}
use Rattle.shared_machine.specs.declared.Step.{Step}
use Rattle.log_text.specs.declared.SavedReply.{SavedReply}
use Rattle.log_text.specs.Plain.{Plain}
use Rattle.uas_log.specs.declared.FirstUnit.{FirstUnit}
use Rattle.kept_log.specs.declared.Entry.{Entry}
use Rattle.kept_log.specs.Form.{Kept}
use Rattle.kept_log.specs.Saved.{acted_steps, given_replies, plain_of}
use Rattle.kept_log.proofs.SavedOf.{plain_fits, replies_more, steps_more}
use Rattle.kept_log.proofs.KeptLog.into_plain.Goals as goal

as_they_are : (entries : List Entry) → map (λ entry. entry) entries ≡ entries
as_they_are [] = refl
as_they_are (entry ∷ rest) = ap (λ (more : List Entry). entry ∷ more) (as_they_are rest)

pub loop-entry-preserved : goal.loop-entry-preserved
loop-entry-preserved c =
    let l = c.loop-entry in
    let more : List Entry = c.in-Some.entry ∷ [] in
    record {
      steps = c.in_ok-put_entry.ensures.steps ∙ ap (λ (steps : List Step). steps ++ acted_steps more) l.invariant.steps ∙ sym (steps_more l.yielded more);
      replies = c.in_ok-put_entry.ensures.replies ∙ ap (λ (replies : List SavedReply). replies ++ given_replies more) l.invariant.replies
          ∙ sym (replies_more l.yielded more);
    }

abbrev parts : ℕ → List FirstUnit → List Step → List SavedReply → Plain
parts tags units steps replies = record { tags = tags; units = units; steps = steps; replies = replies }

pub from_parts-requires : goal.from_parts-requires
from_parts-requires c =
    let given = c.into_iter-entry-iterator.ensures.into_iter_gives in
    let v = c.into_vec-entry-items.result in
    let t = YieldsList-end (YieldsList-from_vec {s = c.into_iter-entry-iterator.result} v.items given.0 (given.1 ∙ v.ok.0)) c.loop-entry.yielded c.loop-entry.entry-iterator c.loop-entry.yielded_by c.next.result c.next.new.self c.in-None.is c.next.ensures.steps in
    let inside : Kept = record { tags = c.self.inside.tags; units = c.self.inside.units; entries = c.self.inside.entries; ending = c.self.inside.ending } in
    let whole : c.loop-entry.yielded ≡ inside.entries = sym (as_they_are c.loop-entry.yielded) ∙ t.0 ∙ c.into_vec-entry-items.ensures in
    let steps : c.from_vec.result ≡ acted_steps inside.entries = c.from_vec.ensures ∙ c.loop-entry.invariant.steps ∙ ap acted_steps whole in
    let replies : c.from_vec-2.result ≡ given_replies inside.entries = c.from_vec-2.ensures ∙ c.loop-entry.invariant.replies ∙ ap given_replies whole in
    rw (steps, replies) (plain_fits inside c.self.invariant)

pub returns : goal.returns
returns c =
    let given = c.into_iter-entry-iterator.ensures.into_iter_gives in
    let v = c.into_vec-entry-items.result in
    let t = YieldsList-end (YieldsList-from_vec {s = c.into_iter-entry-iterator.result} v.items given.0 (given.1 ∙ v.ok.0)) c.loop-entry.yielded c.loop-entry.entry-iterator c.loop-entry.yielded_by c.next.result c.next.new.self c.in-None.is c.next.ensures.steps in
    let inside : Kept = record { tags = c.self.inside.tags; units = c.self.inside.units; entries = c.self.inside.entries; ending = c.self.inside.ending } in
    let whole : c.loop-entry.yielded ≡ inside.entries = sym (as_they_are c.loop-entry.yielded) ∙ t.0 ∙ c.into_vec-entry-items.ensures in
    let steps : c.from_vec.result ≡ acted_steps inside.entries = c.from_vec.ensures ∙ c.loop-entry.invariant.steps ∙ ap acted_steps whole in
    let replies : c.from_vec-2.result ≡ given_replies inside.entries = c.from_vec-2.ensures ∙ c.loop-entry.invariant.replies ∙ ap given_replies whole in
    c.from_parts.ensures ∙ ap (λ (list : List Step). parts inside.tags inside.units list c.from_vec-2.result) steps
    ∙ ap (λ (list : List SavedReply). parts inside.tags inside.units (acted_steps inside.entries) list) replies
    ∙ ap plain_of c.self.view_is
