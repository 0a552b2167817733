-- Each copy is of sixteen bytes that are known, so that both sides compute to the same thirty-two.
use Rattle.std.proofs.Common.{◌∙◌, ◌++◌, ap, ℕ, List}
use Rattle.std.specs.Prelude.{replicate}
use borrow.Rule.Slice.PartMut.{put_mid}
use Rattle.host_trbs.specs.Words.{bytes_of}
use Rattle.disk_ready.proofs.stores.pair_bytes.Goals as goal

pub returns : goal.returns
unfolding bytes_of
returns c =
    ap (λ (front : List ℕ). put_mid 16 16 (front ++ replicate 16 0) c.copy_from_slice-2.new.self) (c.copy_from_slice.ensures.after ∙ c.bytes.ensures)
    ∙ ap (λ (back : List ℕ). put_mid 16 16 (bytes_of c.args.first ++ replicate 16 0) back) (c.copy_from_slice-2.ensures.after ∙ c.bytes-2.ensures)
