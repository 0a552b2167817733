-- Parts of lists of bytes: the lemmas of byte_numbers.
pub use Rattle.byte_numbers.proofs.Bytes.{bytes_back, bytes_behind, bytes_dropped, bytes_front, bytes_joined, bytes_taken}
