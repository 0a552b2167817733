mod ByteByByte
mod Marks
mod SaidMarks
mod Words
mod Printable
