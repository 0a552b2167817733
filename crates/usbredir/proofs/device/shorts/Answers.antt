use Rattle.std.proofs.Common.{◌≡◌, ℕ, ◌+◌, ◌-◌, length, take, drop, ap, ◌∙◌, arith, rules}
use Rattle.usbredir.specs.Device.{numbers_in}
use Rattle.usbredir.proofs.Tables.{numbers_read}
use Rattle.usbredir.proofs.device.shorts.Goals as goal

pub returns : goal.returns
returns c =
    let size : c.args.at + 64 - c.args.at ≡ 64 = omega arith in
    let count : length c.read_u16_into.new.dst ≡ 32 = search rules in
    numbers_read 2 _ c.read_u16_into.new.dst c.read_u16_into.ensures
    ∙ ap (λ (n : ℕ). numbers_in 2 n (take (c.args.at + 64 - c.args.at) (drop c.args.at c.args.bytes.now))) count
    ∙ ap (λ (n : ℕ). numbers_in 2 32 (take n (drop c.args.at c.args.bytes.now))) size
