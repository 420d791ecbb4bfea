pub mod Gave
