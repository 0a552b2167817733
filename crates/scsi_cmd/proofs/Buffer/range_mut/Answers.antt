-- The vector keeps its length whatever is left behind the reference, so the buffer is then `written_at`.
use Rattle.std.proofs.Common.{◌≡◌, ℕ, ◌+◌, ◌-◌, ◌≤◌, List, length, take, drop, subst, sym, ap, refl, ◌∙◌, arith, length-take, length-drop}
use Rattle.scsi_cmd.specs.Buffers.{written_at}
use Rattle.scsi_cmd.proofs.Buffers.{filled-written_at}
use Rattle.scsi_cmd.proofs.Buffer.range_mut.Goals as goal

pub returns : goal.returns
returns c =
    let at = c.args.at in
    let bytes = c.self.inside.bytes in
    let fits : at + c.args.len ≤ length bytes.items =
    subst (λ (list : List ℕ). at + c.args.len ≤ length list) (sym c.self.view_is) c.requires in
    let within : at ≤ length bytes.items = omega arith in
    let shorter : at + c.args.len - at ≡ c.args.len = omega arith in
    let value = c.slice_mut.ensures.value ∙ ap (λ n. take n (drop at bytes.items)) shorter in (
      (refl, λ w. filled-written_at bytes.items at w bytes.len bytes.ok.0 within ∙ ap (λ list. written_at list at w) c.self.view_is),
      record {
        writes_back = tt;
        value = value ∙ ap (λ list. take c.args.len (drop at list)) c.self.view_is;
        len = ap length value ∙ omega (arith, length-take c.args.len (drop at bytes.items), length-drop at bytes.items);
      },
    )
