pub mod Poured
pub mod Filled
pub mod Lent
pub mod Begun
