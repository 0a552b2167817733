use Rattle.std.proofs.Common.{◌^◌, ◌≤◌, arith}
use Rattle.std.proofs.Math.Pow.{pow_mono}
use Rattle.usb_descriptors.proofs.stream_tags.with_numbers.Goals as goal

pub returns-else-exponent-lt8-clause-value : goal.returns-else-exponent-lt8-clause-value
returns-else-exponent-lt8-clause-value c = let most : 2 ^ 8 ≤ 2 ^ c.args.exponent = pow_mono {i = 8} {j = c.args.exponent} (omega arith) in omega (arith, most)
