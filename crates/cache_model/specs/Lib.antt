pub mod Answers
pub mod Entries
pub mod Lists
pub mod Cache
pub mod Laws
