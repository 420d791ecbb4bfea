pub mod Put
pub mod Queue
pub mod Looked
pub mod Walked
