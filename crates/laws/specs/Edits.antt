-- What each accepted command but look does to the pieces keeps them well.
pub mod New
pub mod Set
pub mod Hold
pub mod Freeze
pub mod Bin
