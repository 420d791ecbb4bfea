pub mod Answered
pub mod Begun
pub mod Lines
pub mod Blocks
pub mod Fed
pub mod Ended
