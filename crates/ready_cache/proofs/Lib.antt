pub mod Views
pub mod Steps
pub mod Passes
pub mod Polls
pub mod Lists
mod Calls
