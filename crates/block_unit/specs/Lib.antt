pub mod BlockMaps
pub mod Laws
