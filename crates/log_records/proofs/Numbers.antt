-- A number's bytes are bytes: the lemma of byte_numbers.
pub use Rattle.byte_numbers.proofs.Numbers.{number_is_bytes}
