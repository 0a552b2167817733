use Rattle.guest_memory.proofs.NotesLaws.{unnoted_stay}
use Rattle.guest_memory.proofs.notes.laws.unnoted_bytes_stay.Goals as goal

pub returns : goal.returns
returns c = unnoted_stay
