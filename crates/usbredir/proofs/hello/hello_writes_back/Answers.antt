use Rattle.std.proofs.Common.{rules}
use Rattle.usbredir.proofs.Hellos.{hello_text-hello_in}
use Rattle.usbredir.proofs.hello.hello_writes_back.Goals as goal

pub returns : goal.returns
returns c = hello_text-hello_in c.args.bytes.now (search rules)
