mod Cycles
pub mod Below
