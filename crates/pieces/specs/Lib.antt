pub mod Packed
pub mod Numbers
pub mod Looks
pub mod Parts
pub mod Told
pub mod Histories
