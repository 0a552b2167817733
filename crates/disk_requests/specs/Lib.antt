-- What a host asks of a SCSI disk behind USB Attached SCSI, and what the disk's answers say.
pub mod Commands
pub mod Units
pub mod Statuses
pub mod Inquiry
pub mod Capacities
pub mod Pages
pub mod Senses
pub mod Refusals
pub mod Rows
