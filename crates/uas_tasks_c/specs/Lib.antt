-- What C sees of a device without blocks: records in place of values, and numbers in place of faults.
pub mod Cdb
pub mod TasksCall
