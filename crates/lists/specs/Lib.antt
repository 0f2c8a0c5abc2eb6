pub mod Outcome
pub mod Options
pub mod Lists
pub mod Sums
pub mod Tests
