pub mod Ground
pub mod Search
pub mod Sums
pub mod Runs
pub mod Stays
pub mod Classes
pub mod Moves
