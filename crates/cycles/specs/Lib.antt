pub mod Repeated
pub mod Cycles
pub mod Shape
pub mod Sums
