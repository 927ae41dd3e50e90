pub mod LineFeeds
pub mod NoticeLines
mod NoticeRows
