pub mod Estimates
pub mod TwoPolls
pub mod Removal
pub mod Cases
