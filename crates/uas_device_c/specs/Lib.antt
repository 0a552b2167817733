-- What C sees of information units, commands, the device and the controller: records in place of values, and numbers in place of faults.
pub mod UnitRecord
pub mod Scsi
pub mod DeviceCall
pub mod ControllerCall
