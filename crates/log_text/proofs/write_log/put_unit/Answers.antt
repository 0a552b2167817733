use Rattle.std.proofs.Common.{◌≡◌, arith, ap, length}
use Rattle.block_unit.specs.BlockMaps.{block_count}
use Rattle.log_text.proofs.TakenUnits.{few_rising}
use Rattle.log_text.proofs.write_log.put_unit.Goals as goal

-- a unit has no more bad blocks than blocks
pub put_bad-requires : goal.put_bad-requires
put_bad-requires g c =
    let unit = c.args.unit.now in
    let few = few_rising 0 (block_count unit.blocks) unit.bad (omega arith) c.requires.rising in
    let long : length c.as_slice-2.result.now ≡ length unit.bad = ap length c.as_slice-2.ensures in
    omega (arith, few, c.requires.most, long)
