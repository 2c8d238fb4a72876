pub mod Updating
pub mod Steps
pub mod Examples
