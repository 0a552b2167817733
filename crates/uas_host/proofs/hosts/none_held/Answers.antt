use Rattle.std.proofs.Common.{◌≡◌, ◌∙◌, ◌<◌, Option, None, replicate, sym, arith, rules}
use Rattle.std.specs.Prelude.{slice_index_or}
use Rattle.std.proofs.lemmas.List.{same_lists, length-replicate, get_or-replicate}
use Rattle.uas_profile.specs.declared.TheConstants.{MOST_TAGS}
use Rattle.uas_host.specs.declared.HostEntry.{HostEntry}
use Rattle.uas_host.proofs.hosts.none_held.Goals as goal

pub returns : goal.returns
returns c =
    let made = c.from_fn.ensures.items in
    let long = length-replicate {A = Option HostEntry} MOST_TAGS None in
    same_lists c.from_fn.result (replicate MOST_TAGS None) (made.long ∙ sym long) (λ i d less.
    let within : i < MOST_TAGS = omega (arith, less, made.long) in
    let met = (made.at i d within).2.met in
    let none : slice_index_or c.from_fn.result i d ≡ None = search rules in
    none ∙ sym (get_or-replicate MOST_TAGS i None d within))
