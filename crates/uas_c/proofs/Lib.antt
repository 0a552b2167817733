pub mod LeftOver
