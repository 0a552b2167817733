pub mod Placed
pub mod Exact
pub mod Marks
pub mod SparseExact
