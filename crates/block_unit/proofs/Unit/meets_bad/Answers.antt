use Rattle.std.proofs.Common.{◌≡◌, ◌+◌, ◌<◌, length, get_or, rules, arith, sym, ap, ◌∙◌}
use Rattle.std.proofs.lemmas.Bool.{le-ltb}
use Rattle.std.proofs.lemmas.List.{get_or_read}
use Rattle.std.specs.List.{list_any}
use Rattle.std.proofs.Math.Dec.{ltb}
use Rattle.std.proofs.lemmas.List.Sorted.{IsPartitionPoint-from_clause}
use Rattle.block_unit.proofs.Search.{rising_numbers, list_any-covers_at, list_any-covers_past}
use Rattle.block_unit.specs.BlockMaps.{covers, meets_bad}
use Rattle.block_unit.proofs.Unit.meets_bad.Goals as goal

pub returns-then-next-len : goal.returns-then-next-len
unfolding meets_bad
returns-then-next-len c =
    let numbers = c.deref.result.now in
    let rising = rising_numbers numbers _ c.args.lba c.deref.ensures.value c.self.invariant.4 in
    let point = IsPartitionPoint-from_clause (λ block. ltb block c.args.lba) _ _ c.partition_point-next.ensures.partitioned rising.1
    (λ a r q k. search rules) in
    let within : c.partition_point-next.result < length numbers = omega arith in
    let found : c.index.result.now ≡ get_or numbers c.partition_point-next.result c.index.result.now = rw c.deref.ensures.value c.index.ensures in
    ap (λ n. ltb n (c.args.lba + c.args.count)) (get_or_read numbers _ _ within found 0)
    ∙ sym (list_any-covers_at numbers c.args.lba c.args.count _ point rising.0 within)
    ∙ ap (list_any (covers c.args.lba c.args.count)) c.deref.ensures.value
    ∙ ap (λ maps. meets_bad maps c.args.lba c.args.count) c.self.view_is

pub returns-else-next-len : goal.returns-else-next-len
unfolding meets_bad
returns-else-next-len c =
    let rising = rising_numbers c.deref.result.now _ c.args.lba c.deref.ensures.value c.self.invariant.4 in
    let point = IsPartitionPoint-from_clause (λ block. ltb block c.args.lba) _ _ c.partition_point-next.ensures.partitioned rising.1
    (λ a r q k. search rules) in
    le-ltb _ _ c.if-next-len.false
    ∙ sym (list_any-covers_past c.deref.result.now c.args.lba c.args.count _ point (omega arith))
    ∙ ap (list_any (covers c.args.lba c.args.count)) c.deref.ensures.value
    ∙ ap (λ maps. meets_bad maps c.args.lba c.args.count) c.self.view_is
