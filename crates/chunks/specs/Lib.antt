pub mod Chunks
pub mod Short
pub mod Says
