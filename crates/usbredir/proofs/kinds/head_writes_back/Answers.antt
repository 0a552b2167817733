use Rattle.std.proofs.Common.{rules}
use Rattle.usbredir.proofs.Heads.{head_text-head_in, hello_head_text-hello_head_in}
use Rattle.usbredir.proofs.kinds.head_writes_back.Goals as goal

pub returns-clause-whole : goal.returns-clause-whole
returns-clause-whole c = head_text-head_in c.args.bytes.now (search rules) (search rules)

pub returns-clause-hello : goal.returns-clause-hello
returns-clause-hello c = hello_head_text-hello_head_in c.args.hello.now (search rules) (search rules)
