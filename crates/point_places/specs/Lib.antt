pub mod Rows
pub mod Points
