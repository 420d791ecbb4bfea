pub mod Lowest
pub mod Four
pub mod Blocks
pub mod Read
