use Rattle.block_unit.specs.Laws.{block_at-blocks_read, block_at-written, block_at-written_medium, block_at-synced}
use Rattle.block_unit.proofs.block_by_block.Goals as goal

pub returns : goal.returns
returns c = record {
  read = block_at-blocks_read;
  written = block_at-written;
  written_through = block_at-written_medium;
  synced = block_at-synced;
}
