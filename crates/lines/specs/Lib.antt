pub mod Cursor
pub mod Numbers
pub mod Says
pub mod Ending
pub mod Left
pub mod Fronts
