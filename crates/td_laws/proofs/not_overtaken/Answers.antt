use Rattle.td_laws.proofs.Held.{new_ring_is_freed, next_is_freed, posts_keep_unfreed}
use Rattle.td_laws.proofs.Overtaken.{unfreed_stand}
use Rattle.td_laws.proofs.not_overtaken.Goals as goal

pub returns : goal.returns
returns g c = record {
  opens = new_ring_is_freed;
  next = next_is_freed;
  posts = posts_keep_unfreed;
  stand = λ kind. unfreed_stand kind;
}
