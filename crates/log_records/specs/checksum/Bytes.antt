-- Lists of bytes: those of byte_numbers.
pub use Rattle.byte_numbers.specs.Bytes.{AreBytes}
