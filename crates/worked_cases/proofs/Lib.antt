pub mod Polls
pub mod Computed
pub mod Steps
