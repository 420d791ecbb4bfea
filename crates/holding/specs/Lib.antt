pub mod Acquired
