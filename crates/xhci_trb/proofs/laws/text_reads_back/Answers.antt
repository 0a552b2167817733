use Rattle.std.proofs.Common.{ap, ◌∙◌}
use Rattle.xhci_trb.specs.Text.{words_of}
use Rattle.xhci_trb.specs.Reader.{trb_in, cycle_in}
use Rattle.xhci_trb.proofs.Bytes.{words_in-bytes_of}
use Rattle.xhci_trb.proofs.Fields.{words_of-fits, trb_in-words_of, cycle_in-words_of}
use Rattle.xhci_trb.proofs.laws.text_reads_back.Goals as goal

pub returns-clause-trb : goal.returns-clause-trb
returns-clause-trb c =
    let trb = c.args.trb.now in
    ap trb_in (words_in-bytes_of (words_of trb c.args.cycle) (words_of-fits trb c.args.cycle c.requires))
    ∙ trb_in-words_of trb c.args.cycle c.requires

pub returns-clause-cycle : goal.returns-clause-cycle
returns-clause-cycle c =
    let trb = c.args.trb.now in
    ap cycle_in (words_in-bytes_of (words_of trb c.args.cycle) (words_of-fits trb c.args.cycle c.requires))
    ∙ cycle_in-words_of trb c.args.cycle c.requires
