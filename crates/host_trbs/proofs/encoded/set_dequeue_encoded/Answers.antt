use Rattle.std.proofs.Common.{◌≡◌, ◌≢◌, ◌==◌, if◌then◌else◌, ◌∙◌, ℕ, arith}
use Rattle.std.proofs.lemmas.Bool.Decides.{nat_tests}
use Rattle.host_trbs.specs.Words.{bits}
use Rattle.host_trbs.proofs.Bytes.{same_bytes}
use Rattle.host_trbs.proofs.encoded.set_dequeue_encoded.Goals as goal

-- Stream Context Type of a stream
stream_type : (stream : ℕ) → stream ≢ 0 → bits 3 1 (if stream == 0 then 0 else 1) ≡ 2
stream_type stream some = grind (arith, nat_tests, some)

pub returns : goal.returns
returns c =
    c.encode.ensures.text
    ∙ same_bytes _ _ (omega (arith, c.requires.pointer, stream_type c.args.stream c.requires.stream)) (omega (arith, c.ranges.stream.fits))
    (omega (arith, c.requires.endpoint, c.ranges.slot.fits))
