-- First the ring of tag 1, by which the store then computes.
use Rattle.std.proofs.Common.{◌≡◌, ◌∙◌, ap, refl, ℕ, Option, Some}
use Rattle.host_trbs.specs.Words.{bytes_of}
use Rattle.uas_profile.specs.declared.Pipe.TheVariants.{Status, DataIn, DataOut}
use Rattle.disk_up.specs.PipeRows.{ring_of, stream_at}
use Rattle.disk_up.proofs.laws.streams_are_stored.Goals as goal

pub returns-clause-status : goal.returns-clause-status
unfolding bytes_of
returns-clause-status c = λ layout device pipes streams base tags pieces.
    let ring : ring_of layout Status 1 ≡ Some 0x10010040 = rw (tags, base) refl in
    ap (λ (r : Option ℕ). stream_at r layout Status 1) ring ∙ rw base refl

pub returns-clause-data_in : goal.returns-clause-data_in
unfolding bytes_of
returns-clause-data_in c = λ layout device pipes streams base tags pieces.
    let ring : ring_of layout DataIn 1 ≡ Some 0x10012000 = rw (tags, pieces, base) refl in
    ap (λ (r : Option ℕ). stream_at r layout DataIn 1) ring ∙ rw base refl

pub returns-clause-data_out : goal.returns-clause-data_out
unfolding bytes_of
returns-clause-data_out c = λ layout device pipes streams base tags pieces.
    let ring : ring_of layout DataOut 1 ≡ Some 0x10012600 = rw (tags, pieces, base) refl in
    ap (λ (r : Option ℕ). stream_at r layout DataOut 1) ring ∙ rw base refl
