use Rattle.std.proofs.Common.{ℕ, List, sym, ◌∙◌, arith}
use Rattle.uas_log.specs.declared.FirstUnit.{FirstUnit}
use Rattle.kept_log.specs.Reading.{ReadHead}
use Rattle.kept_log.proofs.TakenHead.{head_right, head_size, head_taken, head_wrong}
use Rattle.kept_log.proofs.head.head.Goals as goal

abbrev read_head : ℕ → List FirstUnit → ℕ → ReadHead
read_head tags units sum = record { tags = tags; units = units; sum = sum }

pub overflow_sub-front : goal.overflow_sub-front
overflow_sub-front c =
    let x : ReadHead × List ℕ = (read_head c.in-Ok.read.0 c.in-Ok.read.1.items c.in-Ok.read.2, c.in-Ok.read.3.now) in
    omega (arith, head_size c.args.text.now x (head_taken c.args.text.now x (λ i. omega (arith, c.type_inv.text i)) c.in-Ok.ensures))

pub overflow_sub-front-2 : goal.overflow_sub-front-2
overflow_sub-front-2 c =
    let x : ReadHead × List ℕ = (read_head c.in-Ok.read.0 c.in-Ok.read.1.items c.in-Ok.read.2, c.in-Ok.read.3.now) in
    omega (arith, head_size c.args.text.now x (head_taken c.args.text.now x (λ i. omega (arith, c.type_inv.text i)) c.in-Ok.ensures))

pub returns-then-crc32c-sum-clause-fault : goal.returns-then-crc32c-sum-clause-fault
returns-then-crc32c-sum-clause-fault c =
    let x : ReadHead × List ℕ = (read_head c.in-Ok.read.0 c.in-Ok.read.1.items c.in-Ok.read.2, c.in-Ok.read.3.now) in
    head_wrong c.args.text.now x c.in-Ok.ensures (head_taken c.args.text.now x (λ i. omega (arith, c.type_inv.text i)) c.in-Ok.ensures)
    (λ same. c.if-crc32c-sum.true (c.crc32c.ensures ∙ same))

pub returns-clause-stand : goal.returns-clause-stand
returns-clause-stand c =
    let x : ReadHead × List ℕ = (read_head c.in-Ok.read.0 c.in-Ok.read.1.items c.in-Ok.read.2, c.in-Ok.read.3.now) in
    (head_right c.args.text.now x (head_taken c.args.text.now x (λ i. omega (arith, c.type_inv.text i)) c.in-Ok.ensures)
    (sym c.crc32c.ensures ∙ c.if-crc32c-sum.false)).stand

pub returns-clause-sum : goal.returns-clause-sum
returns-clause-sum c =
    let x : ReadHead × List ℕ = (read_head c.in-Ok.read.0 c.in-Ok.read.1.items c.in-Ok.read.2, c.in-Ok.read.3.now) in
    (head_right c.args.text.now x (head_taken c.args.text.now x (λ i. omega (arith, c.type_inv.text i)) c.in-Ok.ensures)
    (sym c.crc32c.ensures ∙ c.if-crc32c-sum.false)).sum
