-- What C sees of the driver and the bus: records in place of values, and numbers in place of faults.
pub mod ClientCall
pub mod BusCall
pub mod DriverCall
