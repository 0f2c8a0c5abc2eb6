mod ListFeeds
