-- Three words and their 16 bytes give each other back: they are those of `xhci_trb`, of which this is known.
use Rattle.std.proofs.Common.{◌≡◌, ℕ, ◌^◌, ◌<◌, List, length, refl, ap}
use Rattle.xhci_trb.specs.declared.words.Words.{Words as ProfileWords}
use Rattle.xhci_trb.specs.Words.{bytes_of as profile_bytes_of, words_in as profile_words_in}
use Rattle.xhci_trb.proofs.Bytes.{AreBytes, bytes_of-words_in as profile_bytes_of-words_in, words_in-bytes_of as profile_words_in-bytes_of}
use Rattle.host_trbs.specs.declared.words.Words.{Words}
use Rattle.host_trbs.specs.Words.{bytes_of, words_in}

-- the same three words
abbrev pub same : ProfileWords → Words
same w = record { parameter = w.parameter; status = w.status; control = w.control }

abbrev pub same_of : Words → ProfileWords
same_of w = record { parameter = w.parameter; status = w.status; control = w.control }

pub bytes_of-words_in : (bytes : List ℕ) → length bytes ≡ 16 → AreBytes bytes → bytes_of (words_in bytes) ≡ bytes
unfolding words_in bytes_of profile_words_in profile_bytes_of
bytes_of-words_in bytes size fits = profile_bytes_of-words_in bytes size fits

pub words_in-bytes_of : (w : Words) → w.parameter < 2 ^ 64 → w.status < 2 ^ 32 → w.control < 2 ^ 32 → words_in (bytes_of w) ≡ w
unfolding words_in bytes_of profile_words_in profile_bytes_of
words_in-bytes_of w parameter status control =
    ap same (profile_words_in-bytes_of (same_of w) (record { parameter = parameter; status = status; control = control }))

-- equal words have equal bytes there and here
pub same_bytes : (w : ProfileWords) (v : Words) → w.parameter ≡ v.parameter → w.status ≡ v.status → w.control ≡ v.control → profile_bytes_of w ≡ bytes_of v
unfolding bytes_of profile_bytes_of
same_bytes w v parameter status control = rw (parameter, status, control) refl
