use Rattle.std.proofs.Common.{ℕ, List, ◌-◌, ◌++◌, drop, length, take, ap, arith, ◌∙◌}
use Rattle.std.specs.Prelude.{replicate}
use Rattle.std.proofs.lemmas.List.{drop-replicate, length-drop, take_all}
use Rattle.bulk_only.specs.Command.{cdb_in}
use Rattle.bulk_only.proofs.command.cdb_in.Goals as goal

pub returns : goal.returns
unfolding cdb_in
returns g =
    let bytes = g.args.bytes.now in
    ap (λ (front : List ℕ). front ++ drop g.args.count (replicate 16 0)) g.copy_from_slice.ensures.after
    ∙ ap (λ (front : List ℕ). take g.args.count front ++ drop g.args.count (replicate 16 0))
    (take_all (length bytes - 15) (drop 15 bytes) (omega (arith, length-drop 15 bytes)))
    ∙ ap (λ (back : List ℕ). take g.args.count (drop 15 bytes) ++ back) (drop-replicate g.args.count 16 0)
