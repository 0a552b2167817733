use Rattle.std.proofs.Common.{◌≡◌, ℕ, length, ap, ◌∙◌, rules}
use Rattle.usbredir.specs.Device.{numbers_in}
use Rattle.usbredir.proofs.Tables.{numbers_read}
use Rattle.usbredir.proofs.hello.read_words.Goals as goal

pub returns-clause-words : goal.returns-clause-words
returns-clause-words c =
    let count : length c.read_u32_into.new.dst ≡ length c.args.into.now = search rules in
    numbers_read 4 _ c.read_u32_into.new.dst c.read_u32_into.ensures
    ∙ ap (λ (n : ℕ). numbers_in 4 n c.args.bytes.now) count
