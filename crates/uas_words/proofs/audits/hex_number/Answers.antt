use Rattle.std.proofs.Common.{rules, true, ◌≡◌, ◌∙◌}
use Rattle.uas_words.specs.CommandLine.{is_hex}
use Rattle.uas_words.proofs.HexWords.{hex_read}
use Rattle.uas_words.proofs.audits.hex_number.Goals as goal

pub returns-then-is_hex : goal.returns-then-is_hex
returns-then-is_hex c =
    let is : is_hex c.args.word.now ≡ true = search rules in
    c.ok.ensures.value ∙ hex_read c.args.word.now c.from_str_radix.result is c.from_str_radix.ensures.value
