pub mod Words
pub mod Pairs
pub mod Floyd
pub mod Shares
pub mod Fnv
pub mod Sources
