-- All rings are new, each at its address.
use Rattle.stream_array.proofs.Fresh.{lines-opening}
use Rattle.stream_array.proofs.lines.Lines.new.Goals as goal

pub invariant_of-result : goal.invariant_of-result
invariant_of-result c =
    let status = c.in_ok-new-2.ensures in
    let data_in = c.in_ok-new-3.ensures in
    let data_out = c.in_ok-new-4.ensures in
    (lines-opening _ _ _ _ _ _ c.in_ok-new.ensures (status.rings, status.ring) (data_in.rings, data_in.ring) (data_out.rings, data_out.ring)
    c.in_ok-new-5.ensures c.in_ok-new-6.ensures).0

pub returns : goal.returns
returns c =
    let status = c.in_ok-new-2.ensures in
    let data_in = c.in_ok-new-3.ensures in
    let data_out = c.in_ok-new-4.ensures in
    (lines-opening _ _ _ _ _ _ c.in_ok-new.ensures (status.rings, status.ring) (data_in.rings, data_in.ring) (data_out.rings, data_out.ring)
    c.in_ok-new-5.ensures c.in_ok-new-6.ensures).1
