-- Bytes of the store that are written back as they were.
use Rattle.std.proofs.Common.{◌≡◌, ℕ, zero, suc, List, [], ◌∷◌, ◌++◌, take, drop, length, Option, Some, None, unwrap_or, refl, sym, ap, ◌∙◌}
use Rattle.std.proofs.Math.Seq.{take-append_seam}
use Rattle.std.specs.List.{refill}
use Rattle.std.specs.Option.{option_map_or}
use Rattle.std.proofs.lemmas.List.{take-append-drop}
use Rattle.frame_store.specs.declared.Place.{Place}
use Rattle.frame_store.specs.declared.TagBuffers.{TagBuffers}
use Rattle.frame_store.specs.Splice.{spliced}
use Rattle.frame_store.specs.Buffers.{bytes_of, with_bytes, with_bytes_in, held_for, with_held}
use Rattle.frame_store.proofs.FramesLaws.{spliced-none, with_bytes-none}

taken-back : (count : ℕ) (bytes : List ℕ) → take count bytes ++ drop (length (take count bytes)) bytes ≡ bytes
taken-back zero bytes = refl
taken-back (suc count) [] = refl
taken-back (suc count) (byte ∷ bytes) = ap (λ (rest : List ℕ). byte ∷ rest) (taken-back count bytes)

spliced-same : (old : List ℕ) (from count : ℕ) → spliced old from (take count (drop from old)) ≡ old
spliced-same old from count =
    let whole : take from old ++ (take count (drop from old) ++ drop (length (take count (drop from old))) (drop from old)) ≡ old =
    ap (λ (rest : List ℕ). take from old ++ rest) (taken-back count (drop from old)) ∙ take-append-drop from old in
    ap (λ (bytes : List ℕ). refill (length old) old bytes) whole ∙ take-append_seam old (drop (length old) old)

-- what stands at a place, written there, changes nothing
written-same : (frames : List TagBuffers) (place : Place) (count : ℕ) → with_bytes frames place (take count (drop place.offset (bytes_of frames place))) ≡ frames
written-same frames place count =
    let old = bytes_of frames place in
    ap (λ (bytes : List ℕ). with_held frames place.tag (with_bytes_in (held_for frames place.tag) place.buffer bytes))
    (spliced-same old place.offset count ∙ sym (spliced-none old place.offset))
    ∙ with_bytes-none frames place

-- bytes that may have been given, written there
pub written_back : (frames : List TagBuffers) (place : Place) (count : ℕ) (bytes : Option (List ℕ))
    → with_bytes frames place (unwrap_or bytes (take count (drop place.offset (bytes_of frames place))))
    ≡ option_map_or (λ given. with_bytes frames place given) bytes frames
written_back frames place count None = written-same frames place count
written_back frames place count (Some given) = refl
