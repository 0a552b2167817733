pub mod Bridges
pub mod Requests
pub mod Controls
pub mod PipeRows
pub mod Findings
pub mod Endings
pub mod Disks
pub mod Rows
