use Rattle.std.proofs.Common.{arith, rules}
use Rattle.std.proofs.lemmas.List.{take_all}
use Rattle.std.proofs.lemmas.List.Sums.{suffix_len-take_yes, suffix_len-take_no}
use Rattle.usb_disk.proofs.strings.trimmed_len.Goals as goal

pub loop-len-init : goal.loop-len-init
loop-len-init c = search (rules, take_all)

pub loop-len-preserved : goal.loop-len-preserved
loop-len-preserved c = grind (arith, suffix_len-take_yes)

pub returns-else-text-len-eq32 : goal.returns-else-text-len-eq32
returns-else-text-len-eq32 c = grind (arith, suffix_len-take_no)
