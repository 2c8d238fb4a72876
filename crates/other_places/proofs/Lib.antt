pub mod Dates
pub mod Rules
pub mod Places
pub mod Index
pub mod Refuted
