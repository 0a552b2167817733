use Rattle.host_trbs.proofs.Bytes.{words_in-bytes_of}
use Rattle.host_trbs.specs.Words.{words_of}
use Rattle.host_trbs.proofs.laws.words_read_back.Goals as goal

pub returns : goal.returns
returns c =
    words_in-bytes_of (words_of c.args.parameter c.args.status c.args.control)
    c.ranges.parameter.fits c.ranges.status.fits c.ranges.control.fits
