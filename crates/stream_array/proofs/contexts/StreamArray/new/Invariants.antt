use Rattle.std.proofs.Common.{◌≡◌, ℕ, ◌<◌, [], get_or, vec_len}
use Rattle.stream_array.specs.Contexts.{opening_entry, context_text}
use Rattle.stream_array.proofs.contexts.StreamArray.new.Given as goal

abbrev pub invariant-loop-stream : goal.invariant-loop-stream
invariant-loop-stream g l =
    (vec_len l.contexts ≡ l.stream)
    × ((k : ℕ) → k < l.stream → get_or l.contexts.items k [] ≡ context_text (opening_entry l.pipe k))
