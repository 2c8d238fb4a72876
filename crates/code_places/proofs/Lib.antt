pub mod Codes
pub mod Index
