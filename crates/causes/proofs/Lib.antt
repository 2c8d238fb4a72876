pub mod Steps
pub mod Agreed
