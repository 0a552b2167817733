use Rattle.usbredir.proofs.Hellos.{hello_in-hello_text}
use Rattle.usbredir.proofs.hello.hello_reads_back.Goals as goal

pub returns : goal.returns
returns c = hello_in-hello_text c.args.hello.now c.requires
