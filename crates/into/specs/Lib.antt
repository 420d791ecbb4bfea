pub mod Named
pub mod Into
pub mod Moves
pub mod Bases
pub mod Stores
pub mod Forgotten
