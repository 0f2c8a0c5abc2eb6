pub mod Paces
pub mod Patterns
pub mod Turns
