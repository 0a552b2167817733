-- what is written is the text, whose number is the sum of the fields
use Rattle.std.proofs.Common.{ap, ◌∙◌}
use Rattle.byteorder.specs.Endian.{little_number}
use Rattle.xhci_trb.specs.Text.{words_of}
use Rattle.xhci_trb.specs.Words.{bytes_of}
use Rattle.xhci_trb.proofs.Bytes.{number_of_text}
use Rattle.xhci_trb.proofs.Fields.{words_of-fits}
use Rattle.xhci_trb.proofs.encode.Goals as goal

pub returns-clause-number : goal.returns-clause-number
returns-clause-number c =
    let written = c.write_words.ensures ∙ ap bytes_of c.words_of_trb.ensures in
    ap (little_number 16) written ∙ number_of_text (words_of c.args.trb.now c.args.cycle) (words_of-fits c.args.trb.now c.args.cycle c.requires)
