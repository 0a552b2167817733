-- A Link of this ring leads to its first place, and toggles.
use Rattle.std.proofs.Common.{true, false}
use Rattle.xhci_trb.specs.declared.Trb.TheVariants.{Link}
use Rattle.ring_ends.specs.HeldLaws.{same_trb}
use Rattle.cycle_ring.proofs.places.behind_link.Goals as goal

pub returns-in-Ok : goal.returns-in-Ok
returns-in-Ok c chain cycle is_link =
    let decoded = c.decode.ensures.every_text (Link c.args.base true chain false) cycle ((c.ranges.base.fits, c.requires.aligned), tt) is_link in
    c.behind.ensures chain (same_trb c.decode.result _ _ _ _ c.in-Ok.is decoded)

pub returns-in-Err : goal.returns-in-Err
returns-in-Err c chain cycle is_link =
    let decoded = c.decode.ensures.every_text (Link c.args.base true chain false) cycle ((c.ranges.base.fits, c.requires.aligned), tt) is_link in
    absurd (cc (decoded, c.in-Err.is))
