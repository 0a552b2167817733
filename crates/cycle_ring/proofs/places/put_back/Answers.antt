-- The TRBs so far are behind the items.
use Rattle.std.proofs.Common.{◌≡◌, ◌+◌, ℕ, ◌++◌, [], ◌∷◌, take, map, length, length-append, ap, ◌∙◌, arith}
use Rattle.std.proofs.lemmas.List.{append-nil, append_assoc, length-map, map-append, take_more, take_all, length-take-le}
use Rattle.xhci_trb.specs.declared.Trb.{Trb}
use Rattle.xhci_trb.specs.declared.Trb.TheVariants.{Normal}
use Rattle.cycle_ring.specs.Items.{known}
use Rattle.cycle_ring.proofs.Read.{IsText-trb}
use Rattle.cycle_ring.proofs.places.put_back.Goals as goal

pub loop-trb-init : goal.loop-trb-init
loop-trb-init g c = record {
  within = c.requires.within;
  size = c.requires.size;
  holds = λ at put holds room is.
      let none : at + length put + 0 ≡ at + length put = omega arith in
      (rw (append-nil put) holds, rw none is);
}

pub loop-trb-preserved : goal.loop-trb-preserved
loop-trb-preserved g c = record {
  within = c.put-end.ensures.within;
  size = c.put-end.ensures.size;
  holds = λ at put holds room is.
      let so_far = c.loop-trb.invariant.holds at put holds (omega arith) is in
      let index = c.loop-trb.trb-index in
      let xs = c.args.trbs.now in
      let before = put ++ map known (take index xs) in
      let size : length before ≡ length put + index =
      length-append put (map known (take index xs))
      ∙ ap (λ (n : ℕ). length put + n) (length-map (take index xs) known ∙ length-take-le index xs (omega arith)) in
      let sum : at + length put + index ≡ at + length before = omega arith in
      let end = rw sum at so_far.1 in
      let text = IsText-trb _ c.encode-text.result c.loop-trb.end.cycle (c.requires.texts index _ (omega arith)) c.encode-text.ensures.text in
      let written = c.put-end.ensures.holds at before _ so_far.0 (omega arith) end text c.has_chain.ensures in
      let next = c.put-end.ensures.end at before end in
      let whole : at + length before + 1 ≡ at + length put + (index + 1) = omega arith in (
        rw (take_more xs index (Normal 0 0 0 (record { 0 = 0 })) (omega arith), map-append known (take index xs), ← append_assoc) written,
        rw whole at next,
      );
}

pub returns-clause-holds : goal.returns-clause-holds
returns-clause-holds g c at put holds room is =
    let count : c.loop-trb.trb-index ≡ length c.args.trbs.now = omega arith in
    let all : take c.loop-trb.trb-index c.args.trbs.now ≡ c.args.trbs.now = take_all c.loop-trb.trb-index c.args.trbs.now (omega arith) in
    let so_far = c.loop-trb.invariant.holds at put holds (omega arith) is in
    rw all at so_far.0

pub returns-clause-end : goal.returns-clause-end
returns-clause-end g c at put holds room is =
    let count : c.loop-trb.trb-index ≡ length c.args.trbs.now = omega arith in
    let so_far = c.loop-trb.invariant.holds at put holds (omega arith) is in
    rw count at so_far.1
