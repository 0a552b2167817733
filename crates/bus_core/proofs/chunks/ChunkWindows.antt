-- The piece of a lent vector that a data TRB names.
use Rattle.std.proofs.Common.{◌≡◌, ℕ, ◌+◌, ◌*◌, ◌<◌, ◌≤◌, List, [], ◌++◌, length, length-append, length-drop, length-take, take, drop, Option, Some, arith, ap}
use Rattle.std.proofs.Common.{◌∙◌}
use Rattle.std.specs.Prelude.{unwrap_or, option_map}
use Rattle.std.proofs.lemmas.List.{drop-drop, take-append-le}
use Rattle.uas_profile.specs.declared.TheConstants.{STREAMS, CHUNK_BYTES}
use Rattle.scsi_cmd.specs.Buffers.{with_bytes_at, written_at}
use Rattle.scsi_cmd.specs.Laws.{written_at-fits}
use Rattle.block_unit.specs.BlockMaps.{bytes_from}
use Rattle.frame_store.specs.declared.Buffer.TheVariants.{Window}
use Rattle.frame_store.specs.declared.Place.{Place}
use Rattle.frame_store.specs.declared.TagBuffers.{TagBuffers}
use Rattle.frame_store.specs.Buffers.{written, IsWhole, held_for, with_held, with_lent, with_bytes, Names, bytes_in, bytes_of, bytes_at}
use Rattle.frame_store.specs.Splice.{spliced}
use Rattle.frame_store.proofs.FramesLaws.{start_of-named}
use Rattle.uas_host.specs.Tds.{window_of}

-- the first byte of chunk k in the window of a tag
abbrev pub chunk_place : ℕ → ℕ → Place
chunk_place tag chunk = record { tag = tag; buffer = Window; offset = CHUNK_BYTES * chunk }

lent-bytes : (held : TagBuffers) (buffer : List ℕ) → held.lent ≡ Some buffer → bytes_in held Window ≡ buffer
lent-bytes held buffer lent = ap (λ (o : Option (List ℕ)). unwrap_or o []) lent

pub names-chunk : (frames : List TagBuffers) (tag chunk size : ℕ) (buffer : List ℕ) → 0 < tag → tag ≤ STREAMS
    → (held_for frames tag).lent ≡ Some buffer → CHUNK_BYTES * chunk + size ≤ length buffer
    → Names frames (window_of tag + CHUNK_BYTES * chunk) size (chunk_place tag chunk)
names-chunk frames tag chunk size buffer some within lent fits = record {
  first_tag = omega (arith, some);
  last_tag = within;
  begins = omega arith;
  within = omega (arith, fits, ap length (lent-bytes (held_for frames tag) buffer lent));
}

spliced-written_at : (old : List ℕ) (from : ℕ) (new : List ℕ) → from ≤ length old → spliced old from new ≡ written_at old from new
unfolding written_at with_bytes_at
spliced-written_at old from new within =
    rw (drop-drop (length new) from old)
    (let longer : length old ≤ length (take from old ++ (new ++ drop (from + length new) old)) =
    omega (arith, length-append {A = ℕ}, length-take {A = ℕ}, length-drop {A = ℕ})
    in take-append-le (length old) _ _ longer)

-- bytes that fit are written whole
spliced-fits : (old : List ℕ) (from : ℕ) (new : List ℕ) → from + length new ≤ length old → spliced old from new ≡ with_bytes_at old from new
spliced-fits old from new fits = spliced-written_at old from new (omega (arith, fits)) ∙ written_at-fits old from new fits

-- at most so many bytes are written from chunk k on
pub chunk-written : (frames : List TagBuffers) (tag chunk size : ℕ) (buffer bytes : List ℕ) → IsWhole frames → 0 < tag → tag ≤ STREAMS
    → (held_for frames tag).lent ≡ Some buffer → 0 < size → CHUNK_BYTES * chunk + size ≤ length buffer → length bytes ≤ size
    → written frames (window_of tag + CHUNK_BYTES * chunk) size bytes ≡ with_lent frames tag (Some (with_bytes_at buffer (CHUNK_BYTES * chunk) bytes))
chunk-written frames tag chunk size buffer bytes whole some within lent more fits short =
    ap (λ p. with_bytes frames p bytes)
    (start_of-named frames (window_of tag + CHUNK_BYTES * chunk) size (chunk_place tag chunk) whole
    (names-chunk frames tag chunk size buffer some within lent fits) more)
    ∙ ap (λ (o : Option (List ℕ)). with_held frames tag
    (record (held_for frames tag) { lent = option_map (λ _. spliced (unwrap_or o []) (CHUNK_BYTES * chunk) bytes) o })) lent
    ∙ ap (λ (b : List ℕ). with_lent frames tag (Some b)) (spliced-fits buffer (CHUNK_BYTES * chunk) bytes (omega (arith, fits, short)))

-- so many bytes are read from chunk k on
pub chunk-read : (frames : List TagBuffers) (tag chunk size : ℕ) (buffer : List ℕ) → IsWhole frames → 0 < tag → tag ≤ STREAMS
    → (held_for frames tag).lent ≡ Some buffer → 0 < size → CHUNK_BYTES * chunk + size ≤ length buffer
    → bytes_at frames (window_of tag + CHUNK_BYTES * chunk) size ≡ bytes_from buffer (CHUNK_BYTES * chunk) size
unfolding bytes_from
chunk-read frames tag chunk size buffer whole some within lent more fits =
    ap (λ p. take size (drop p.offset (bytes_of frames p)))
    (start_of-named frames (window_of tag + CHUNK_BYTES * chunk) size (chunk_place tag chunk) whole
    (names-chunk frames tag chunk size buffer some within lent fits) more)
    ∙ ap (λ b. take size (drop (CHUNK_BYTES * chunk) b)) (lent-bytes (held_for frames tag) buffer lent)
