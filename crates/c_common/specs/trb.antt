-- A TRB as C's record, and the faults of records as numbers.
pub mod RecordFault
pub mod TrbRecord
