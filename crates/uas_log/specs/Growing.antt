-- A log that grows by an entry.
use Rattle.std.specs.Prelude.{◌≡◌, ◌<◌, vec_len, vec_capacity}
use Rattle.uas_log.specs.declared.Growth.{Growth}
use Rattle.uas_log.specs.declared.Log.{Log}

-- it has the lists of this log
pub record HasLists (growth : Growth) (log : Log) : Type 0 where
  pub steps : growth.steps.items ≡ log.steps
  pub refusals : growth.refusals.items ≡ log.refusals
  pub replies : growth.replies.items ≡ log.replies

-- each list has room for one more
pub record HasRoom (growth : Growth) : Type 0 where
  pub steps : vec_len growth.steps < vec_capacity growth.steps
  pub refusals : vec_len growth.refusals < vec_capacity growth.refusals
  pub replies : vec_len growth.replies < vec_capacity growth.replies
