pub mod Entered
pub mod Judged
pub mod Calls
pub mod Started
