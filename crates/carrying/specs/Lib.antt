pub mod Carried
pub mod Sofar
