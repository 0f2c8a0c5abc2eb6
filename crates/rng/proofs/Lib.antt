mod Samples
mod Nth
pub mod Floyd
pub mod Shares
