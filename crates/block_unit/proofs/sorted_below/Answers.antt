use Rattle.std.proofs.Common.{rules, ◌∙◌, ap}
use Rattle.std.proofs.Math.Dec.{eqb, ltb}
use Rattle.std.proofs.lemmas.Fn.{filter_same}
use Rattle.std.proofs.lemmas.List.Filters.{dedup_is}
use Rattle.std.specs.List.{filter}
use Rattle.std.proofs.lemmas.List.Kept.{IsStrictlyIncreasing-filter}
use Rattle.std.proofs.lemmas.Map.Keys.{IsStrictlyIncreasing-dedup}
use Rattle.block_unit.proofs.Rising.{bad_below_is, All-filter_below}
use Rattle.block_unit.proofs.sorted_below.Goals as goal

-- sorting and dropping doubles leaves a rising list with the same numbers, of which those below the count are kept
pub returns : goal.returns
returns c =
    let kept =
    filter_same _ (λ x. ltb x c.args.count) _ (λ x b f' k. search rules) _ _ c.retain.ensures.filtered
    ∙ ap (filter (λ x. ltb x c.args.count)) (dedup_is eqb _ _ c.dedup.ensures.filtered) in
    record {
      numbers = kept ∙ bad_below_is c.args.count _ _ c.sort_unstable.ensures.permutation c.sort_unstable.ensures.sorted;
      rising = rw kept (IsStrictlyIncreasing-filter (λ x. ltb x c.args.count) _ (IsStrictlyIncreasing-dedup _ c.sort_unstable.ensures.sorted));
      below = rw kept (All-filter_below c.args.count _);
    }
