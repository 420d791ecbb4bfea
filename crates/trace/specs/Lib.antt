pub mod Served
pub mod Came
pub mod Turned
pub mod Started
