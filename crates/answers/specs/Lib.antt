pub mod Wrote
pub mod Decimals
pub mod Writes
pub mod Replies
pub mod Page
