use Rattle.usbredir.proofs.Heads.{head_in-head_text, hello_head_in-hello_head_text}
use Rattle.usbredir.proofs.kinds.head_reads_back.Goals as goal

pub returns-clause-whole : goal.returns-clause-whole
returns-clause-whole c = head_in-head_text c.args.head.now c.requires

pub returns-clause-hello : goal.returns-clause-hello
returns-clause-hello c = hello_head_in-hello_head_text c.args.head.now c.requires
