pub mod Standing
pub mod Obeyed
pub mod Freed
pub mod From
pub mod Arms
pub mod Tested
pub mod Held
