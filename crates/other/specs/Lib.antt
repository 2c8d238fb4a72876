pub mod Rules
pub mod Elements
pub mod Plain
pub mod Field18
pub mod Stated
pub mod Cells
