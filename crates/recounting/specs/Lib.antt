pub mod Merged
pub mod Standing
pub mod Taken
pub mod Summing
pub mod Inner
pub mod Within
pub mod Turning
