use Rattle.std.proofs.Common.{◌≡◌, ◌∙◌, ◌<◌, List, Option, None, replicate, sym, ap, subst, arith, rules}
use Rattle.std.specs.Prelude.{slice_index_or}
use Rattle.std.proofs.lemmas.List.{same_lists, length-replicate, get_or-replicate}
use Rattle.uas_profile.specs.declared.TheConstants.{MOST_TAGS}
use Rattle.solo_model.specs.Solo.{SoloState}
use Rattle.solo_model.specs.Soundness.{IsSoundSolo}
use Rattle.solo_model.specs.TaggedTask.{TaggedTask}
use Rattle.solo_model.proofs.Beginning.{no_tasks-sound}
use Rattle.solo_model.proofs.Solo.with_tags.Goals as goal

no_tasks : (c : goal.After-from_fn) → c.from_fn.result ≡ replicate MOST_TAGS None
no_tasks c =
    let made = c.from_fn.ensures.items in
    let long = length-replicate {A = Option TaggedTask} MOST_TAGS None in
    same_lists c.from_fn.result (replicate MOST_TAGS None) (made.long ∙ sym long) (λ i d less.
    let within : i < MOST_TAGS = omega (arith, less, made.long) in
    let met = (made.at i d within).2.met in
    let none : slice_index_or c.from_fn.result i d ≡ None = search rules in
    none ∙ sym (get_or-replicate MOST_TAGS i None d within))

pub invariant_of-result : goal.invariant_of-result
invariant_of-result c = subst (IsSoundSolo c.args.tags c.args.unit.count) (sym (no_tasks c)) (no_tasks-sound c.args.tags c.args.unit.count c.requires)

pub returns : goal.returns
returns c =
    let state : List (Option TaggedTask) → SoloState = λ tasks. record { tags = c.args.tags; unit = c.args.unit; tasks = tasks; least_ticket = 0 } in
    ap state (no_tasks c)
