pub mod Feeds
pub mod ListFeeds
