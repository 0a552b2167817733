-- Laws of the store.
use Rattle.std.proofs.Common.{◌≡◌, ℕ, ◌-◌, ◌<◌, ◌≤◌, ◌↔◌, Option, Some, None, List, [], ◌∷◌, ◌++◌, take, drop, length, replicate}
use Rattle.std.proofs.Common.{unwrap_or, option_map, refl, sym, ap, ◌∙◌, inl, inr, arith}
use Rattle.std.proofs.Math.ListN.{set}
use Rattle.std.proofs.Math.Seq.{take-append_seam}
use Rattle.std.specs.List.{length_refill}
use Rattle.std.specs.Option.{option_map_or}
use Rattle.std.proofs.lemmas.List.{length-set, get_or-set_same, get_or-set_other, get_or-replicate, length-replicate, take-append-drop, set-get_or}
use Rattle.std.proofs.lemmas.Bool.{cases_eq, ne_eqb}
use Rattle.frame_store.specs.declared.Buffer.{Buffer}
use Rattle.frame_store.specs.declared.Buffer.TheVariants.{Command, Status, Window}
use Rattle.frame_store.specs.declared.Place.{Place}
use Rattle.frame_store.specs.declared.TagBuffers.{TagBuffers}
use Rattle.frame_store.specs.Places.{room_of, place_at}
use Rattle.frame_store.specs.Splice.{spliced}
use Rattle.frame_store.specs.Buffers.{bytes_in, with_bytes_in, with_part, opening_buffers, no_buffers, held_for, with_held, bytes_of}
use Rattle.frame_store.specs.Buffers.{with_bytes, Names, IsNamed, HasSizes, IsWhole, start_of, written, left_at}
use Rattle.frame_store.proofs.PlacesLaws.{place_at-address_of, address_of-place_at}
use Rattle.uas_profile.specs.declared.TheConstants.{COMMAND_BYTES, STATUS_BYTES, STREAMS, WINDOW_BYTES}

-- writing over a part keeps the length
pub length-spliced : (old : List ℕ) (from : ℕ) (new : List ℕ) → length (spliced old from new) ≡ length old
length-spliced old from new = sym (length_refill (length old) old (take from old ++ (new ++ drop (length new) (drop from old))) refl)

lent-le : (lent : Option (List ℕ)) (from : ℕ) (new : List ℕ) → length (unwrap_or lent []) ≤ WINDOW_BYTES
    → length (unwrap_or (option_map (λ _. spliced (unwrap_or lent []) from new) lent) []) ≤ WINDOW_BYTES
lent-le None from new h = h
lent-le (Some old) from new h = rw (length-spliced old from new) h

pub with_part-sizes : (held : TagBuffers) (b : Buffer) (from : ℕ) (new : List ℕ) → HasSizes held → HasSizes (with_part held b from new)
with_part-sizes held Command from new h = record { command = length-spliced held.command from new ∙ h.command; status = h.status; lent = h.lent }
with_part-sizes held Status from new h = record { command = h.command; status = length-spliced held.status from new ∙ h.status; lent = h.lent }
with_part-sizes held Window from new h = record { command = h.command; status = h.status; lent = lent-le held.lent from new h.lent }

pub with_held-whole : (frames : List TagBuffers) (tag : ℕ) (held : TagBuffers) → IsWhole frames → 1 ≤ tag → HasSizes held
    → IsWhole (with_held frames tag held)
with_held-whole frames tag held h first sizes = record {
  tags = length-set frames (tag - 1) held ∙ h.tags;
  sizes = λ other low high.
      let within : other - 1 < length frames = omega (arith, h.tags) in
      elim (cases_eq (other - 1) (tag - 1)) as (λ _. HasSizes (held_for (set frames (tag - 1) held) other)) [
        | inl same ↦ rw (same, get_or-set_same frames (tag - 1) held no_buffers (omega (arith, same))) sizes
        | inr differs ↦ rw (get_or-set_other frames (tag - 1) (other - 1) held no_buffers differs) (h.sizes other low high)
      ];
}

opening_buffers-sizes : HasSizes opening_buffers
unfolding opening_buffers
opening_buffers-sizes = record { command = length-replicate {A = ℕ} COMMAND_BYTES 0; status = length-replicate {A = ℕ} STATUS_BYTES 0; lent = omega arith }

pub replicate_whole : IsWhole (replicate STREAMS opening_buffers)
replicate_whole = record {
  tags = length-replicate STREAMS opening_buffers;
  sizes = λ tag low high.
      let within : tag - 1 < STREAMS = omega arith in
      rw (get_or-replicate STREAMS (tag - 1) opening_buffers no_buffers within) opening_buffers-sizes;
}

bytes_in-room : (held : TagBuffers) (b : Buffer) → HasSizes held → length (bytes_in held b) ≤ room_of b
bytes_in-room held Command h = omega (arith, h.command)
bytes_in-room held Status h = omega (arith, h.status)
bytes_in-room held Window h = h.lent

-- a buffer that is there is no longer than its room
pub bytes_of-room : (frames : List TagBuffers) (place : Place) → IsWhole frames → 1 ≤ place.tag → place.tag ≤ STREAMS
    → length (bytes_of frames place) ≤ room_of place.buffer
bytes_of-room frames place h first last = bytes_in-room (held_for frames place.tag) place.buffer (h.sizes place.tag first last)

-- at least one byte that an address names begins at the place of the address
pub place_at-named : (frames : List TagBuffers) (address len : ℕ) (place : Place) → IsWhole frames → Names frames address len place
    → 0 < len → place_at address ≡ Some place
place_at-named frames address len place h named some =
    let inside : place.offset < room_of place.buffer = omega (arith, named.within, bytes_of-room frames place h named.first_tag named.last_tag) in
    rw (← named.begins) (place_at-address_of place (record { first_tag = named.first_tag; last_tag = named.last_tag; inside = inside }))

-- bytes can be given exactly where the buffer of their address has as many left
left-names : (frames : List TagBuffers) (address len : ℕ) (found : Option Place) → place_at address ≡ found
    → len ≤ option_map_or (λ place. length (bytes_of frames place) - place.offset) found 0 → IsNamed frames address len
left-names frames address len None e h = inl (omega arith)
left-names frames address len (Some place) e h =
    let is = address_of-place_at address place e in
    elim (cases_eq len 0) as (λ _. IsNamed frames address len) [
      | inl none ↦ inl none
      | inr some ↦ inr (place, record { first_tag = is.1.first_tag; last_tag = is.1.last_tag; begins = is.0; within = omega arith })
    ]

names-left : (frames : List TagBuffers) (address len : ℕ) → IsWhole frames → IsNamed frames address len → len ≤ left_at frames address
names-left frames address len h (inl none) = omega arith
names-left frames address len h (inr (place, named)) =
    elim (cases_eq len 0) as (λ _. len ≤ left_at frames address) [
      | inl none ↦ omega arith
      | inr some ↦ rw (place_at-named frames address len place h named (omega arith)) (omega (arith, named.within))
    ]

pub left_at-named : (frames : List TagBuffers) (address len : ℕ) → IsWhole frames → (len ≤ left_at frames address) ↔ IsNamed frames address len
left_at-named frames address len h = (left-names frames address len (place_at address) refl, names-left frames address len h)

-- at least one byte that an address names begins at its place
pub start_of-named : (frames : List TagBuffers) (address len : ℕ) (place : Place) → IsWhole frames → Names frames address len place
    → 0 < len → start_of address len ≡ place
start_of-named frames address len place h named some =
    rw (ne_eqb len 0 (λ e. omega arith), place_at-named frames address len place h named some) refl

-- nothing written changes nothing
pub spliced-none : (old : List ℕ) (from : ℕ) → spliced old from [] ≡ old
spliced-none old from = rw take-append-drop (take-append_seam old (drop (length old) old))

with_lent-same : (lent : Option (List ℕ)) → option_map (λ _. unwrap_or lent []) lent ≡ lent
with_lent-same None = refl
with_lent-same (Some old) = refl

-- what stands in a buffer, put there, changes nothing
pub with_bytes_in-same : (held : TagBuffers) (b : Buffer) → with_bytes_in held b (bytes_in held b) ≡ held
with_bytes_in-same held Command = refl
with_bytes_in-same held Status = refl
with_bytes_in-same held Window = ap (λ (lent : Option (List ℕ)). record held { lent = lent }) (with_lent-same held.lent)

pub with_bytes-none : (frames : List TagBuffers) (place : Place) → with_bytes frames place [] ≡ frames
with_bytes-none frames place =
    ap (λ (bytes : List ℕ). with_held frames place.tag (with_bytes_in (held_for frames place.tag) place.buffer bytes))
    (spliced-none (bytes_of frames place) place.offset)
    ∙ ap (λ (held : TagBuffers). with_held frames place.tag held) (with_bytes_in-same (held_for frames place.tag) place.buffer)
    ∙ set-get_or frames (place.tag - 1) no_buffers

-- bytes that are written where an address names them change those from its place on
pub written-named : (frames : List TagBuffers) (address len : ℕ) (new : List ℕ) (place : Place) → IsWhole frames
    → Names frames address len place → length new ≡ len → written frames address len new ≡ with_bytes frames place new
written-named frames address len [] place h named size =
    with_bytes-none frames (start_of address len) ∙ sym (with_bytes-none frames place)
written-named frames address len (x ∷ new) place h named size =
    ap (λ (p : Place). with_bytes frames p (x ∷ new)) (start_of-named frames address len place h named (omega (arith, size)))

-- bytes that are written where as many or more start
start_of-some : (address len more : ℕ) → 0 < len → len ≤ more → start_of address more ≡ start_of address len
start_of-some address len more some fits = rw (ne_eqb len 0 (λ e. omega arith), ne_eqb more 0 (λ e. omega arith)) refl

pub written_at : (frames : List TagBuffers) (place : Place) (bytes : List ℕ) (address len : ℕ) → place ≡ start_of address len → length bytes ≤ len
    → with_bytes frames place bytes ≡ written frames address (length bytes) bytes
written_at frames place [] address len is fits = with_bytes-none frames place ∙ sym (with_bytes-none frames (start_of address 0))
written_at frames place (x ∷ more) address len is fits =
    ap (λ (p : Place). with_bytes frames p (x ∷ more)) (is ∙ start_of-some address (length (x ∷ more)) len (omega arith) fits)

-- what a place that an address names tells
pub ruleset names = (written-named)
